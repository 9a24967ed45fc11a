-- `follow_gate` makes the turns of the line one by one, by `turns_next`.
use mathlib.Core.Path.{◌≡◌, refl, sym, ap, ap₂, ◌∙◌, subst}
use mathlib.Core.List.{List, map}
use Prim.Native.Nat.{ℕ, ◌+◌, ◌-◌, ◌<◌}
use native.Mathlib.Omega.{arith}
use lib.ListN.{get_or, take, drop}
use Rattle.numbers.specs.Numbers.{part}
use Rattle.numbers.proofs.Numbers.{part_length, part_cut}
use Rattle.blocks.specs.Words.{rows_in_lem}
use Rattle.blocks.proofs.All.{All-at}
use Rattle.symplectic.specs.Turns.{followed, followed_by}
use Rattle.symplectic.proofs.Sizes.{capped_is}
use Rattle.sheets.specs.inner.Seconds.{Second}
use Rattle.gates.specs.Sequences.{turn_vector_lem}
use Rattle.gates.proofs.Turned.{turns_next, turns_end}
use borrow.Author.Rules.{rules}
use Rattle.gates.proofs.follow_gate.Goals as goal

pub loop-code-init : goal.loop-code-init
loop-code-init c = (refl, refl)

-- turn j, as the code reads it
turn : (sheet : List ℕ) (o k j : ℕ) → get_or (part sheet o k) j 0 ≡ get_or (take (o + k - o) (drop o sheet)) j 0
turn sheet o k j = sym (ap (λ (l : List ℕ). get_or l j 0) (part_cut sheet o k))

pub turn_vector-requires : goal.turn_vector-requires
turn_vector-requires c =
    let s = c.args in
    let j = c.loop-code.code-index in
    let turns = part s.sheet.now s.l.offset s.l.count in
    let there = All-at (Second (s.b < s.n)) turns c.requires.3 j 0 (omega (arith, part_length s.sheet.now s.l.offset s.l.count c.requires.2)) in
    let code = subst (Second (s.b < s.n)) (turn s.sheet.now s.l.offset s.l.count j) there in
    (c.requires.0, c.requires.1, code.0, code.1)

pub loop-code-preserved : goal.loop-code-preserved
loop-code-preserved c =
    let s = c.args in
    let at = c.loop-code in
    let j = at.code-index in
    let f = turn_vector_lem s.n s.a s.b in
    let turns = part s.sheet.now s.l.offset s.l.count in
    let v = c.turn_vector.ensures ∙ ap f (sym (turn s.sheet.now s.l.offset s.l.count j)) in
    let made = c.follow.ensures ∙ ap₂ (λ (k v : ℕ). followed k (rows_in_lem at.w) v) (capped_is s.n c.requires.0) v in (
      search rules,
      ap (λ (F : List ℕ). followed_by s.n F (map f (drop (j + 1) turns))) made
          ∙ sym (turns_next s.n f turns (rows_in_lem at.w) j (omega (arith, part_length s.sheet.now s.l.offset s.l.count c.requires.2))) ∙ at.invariant.1,
    )

pub returns : goal.returns
returns c =
    let s = c.args in
    let at = c.loop-code in
    sym (turns_end s.n (turn_vector_lem s.n s.a s.b) (part s.sheet.now s.l.offset s.l.count) (rows_in_lem at.w) at.code-index (omega (arith, part_length s.sheet.now s.l.offset s.l.count c.requires.2))) ∙ at.invariant.1
