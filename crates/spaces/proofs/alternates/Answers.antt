-- `alternates` tests pair by pair, by the laws of `Alternates`; a bit of a Gram row is a form.
use mathlib.Core.Path.{◌≡◌, sym, ap, ap₂, subst, ◌∙◌}
use mathlib.Core.Bool.{Bool, true, false, beq}
use Prim.Native.Nat.{ℕ, ◌+◌, ◌<◌}
use native.Mathlib.Omega.{arith}
use lib.ListN.{get_or, take}
use lib.Seq.{take_all}
use borrow.Author.Tests.{not-true, not-false}
use Rattle.binar.specs.Bits.{bit}
use Rattle.blocks.specs.Words.{rows_in_lem}
use Rattle.linear.proofs.Maps.{same_of_beq}
use Rattle.triangular.specs.Spaces.{is_alternating_lem, symmetric_with}
use Rattle.triangular.proofs.Alternates.{beq_differ, symmetric_start, symmetric_next, fails_diagonal, fails_pair}
use Rattle.spaces.specs.Levels.{below, form_in}
use Rattle.spaces.proofs.Behind.{below_length, below_at}
use borrow.Author.Rules.{rules}
use Rattle.spaces.proofs.alternates.Goals as goal

-- members named by their places
module _ (E : ℕ → ℕ → Bool) (i j : ℕ) where
  form_at : (d : ℕ) → i < d → j < d → E (get_or (below d) i 0) (get_or (below d) j 0) ≡ E i j
  form_at d h k = ap₂ E (below_at d i h) (below_at d j k)

  pair_next : j < i → symmetric_with E i (take j (below i)) ≡ true → E i j ≡ E j i → symmetric_with E i (take (j + 1) (below i)) ≡ true
  pair_next h s e =
      let at = below_at i j h in
      symmetric_next E i (below i) j s (subst (λ n. j < n) (sym (below_length i)) h) (ap (E i) at ∙ e ∙ sym (ap (λ m. E m i) at))

pair_fails : (E : ℕ → ℕ → Bool) (i j d : ℕ) → j < i → i < d → (E i j ≡ E j i → ⊥) → is_alternating_lem E (below d) ≡ false
pair_fails E i j d h k n =
    let size = below_length d in
    let l : j < d = omega arith in
    fails_pair E (below d) i j (omega (arith, size)) (omega (arith, size)) (λ q. n (sym (form_at E i j d k l) ∙ q ∙ form_at E j i d l k))

pub loop-j-init : goal.loop-j-init
loop-j-init c = symmetric_start (form_in (rows_in_lem c.args.gram.now)) c.args.i (below c.args.i)

pub returns-then-bit-clause-fails : goal.returns-then-bit-clause-fails
returns-then-bit-clause-fails c e d k =
    let i = c.args.i in
    let j = c.loop-j.j in
    let a = c.bit in
    let b = c.bit-in-loop-j in
    let one = a.ensures ∙ ap (bit j) c.row-row.ensures in
    let other = b.ensures ∙ ap (bit i) c.row.ensures in
    pair_fails (form_in (rows_in_lem c.args.gram.now)) i j d (search rules) k
    (λ q. beq_differ a.result b.result (not-true (beq a.result b.result) c.if-bit.true) (one ∙ q ∙ sym other))

pub loop-j-preserved : goal.loop-j-preserved
loop-j-preserved c =
    let i = c.args.i in
    let j = c.loop-j.j in
    let a = c.bit in
    let b = c.bit-in-loop-j in
    let one = a.ensures ∙ ap (bit j) c.row-row.ensures in
    let other = b.ensures ∙ ap (bit i) c.row.ensures in
    pair_next (form_in (rows_in_lem c.args.gram.now)) i j (search rules) c.loop-j.invariant
    (sym one ∙ same_of_beq a.result b.result (not-false (beq a.result b.result) c.if-bit.false) ∙ other)

pub returns-clause-passes : goal.returns-clause-passes
returns-clause-passes c e =
    let i = c.args.i in
    let E = form_in (rows_in_lem c.args.gram.now) in
    let a = c.bit-2 in (
      sym (ap (symmetric_with E i) (take_all c.loop-j.j (below i) (omega (arith, below_length i)))) ∙ c.loop-j.invariant,
      sym (a.ensures ∙ ap (bit i) c.row-row.ensures) ∙ not-true a.result e,
    )

pub returns-clause-fails : goal.returns-clause-fails
returns-clause-fails c e d k =
    let i = c.args.i in
    let E = form_in (rows_in_lem c.args.gram.now) in
    let a = c.bit-2 in
    fails_diagonal E (below d) i (omega (arith, below_length d)) (form_at E i i d k k ∙ sym (a.ensures ∙ ap (bit i) c.row-row.ensures) ∙ not-false a.result e)
