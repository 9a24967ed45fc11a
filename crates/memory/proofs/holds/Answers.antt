-- `holds` looks at the entries one by one: those that are left hold the space just where all do.
use mathlib.Core.Path.{◌≡◌, sym, ap, ap₂, ◌∙◌}
use mathlib.Core.Bool.{Bool, true, false, ◌&&◌, ◌||◌, and-false}
use mathlib.Core.List.{List, [], ◌∷◌, ◌++◌}
use Prim.Native.Nat.{ℕ, suc, ◌-◌, ◌/◌, ◌<◌}
use lib.Dec.{eqb}
use lib.ListN.{length, get_or, take, drop, length-append, length-drop}
use lib.Seq.{take_all, take_at, drop_at}
use borrow.Author.Tests.{eq-eqb, ne_eqb}
use Rattle.blocks.specs.Words.{rows_in_lem}
use Rattle.symplectic.specs.Matches.{same_rows}
use Rattle.memory.specs.Entries.{entry_size, room_in, held_in}
use Rattle.memory.proofs.Kept.{room_none}
use native.Mathlib.Omega.{arith}
use Rattle.memory.proofs.holds.Goals as goal
use Rattle.memory.proofs.holds.Goals.{else-entry-d-via-then-entry-d+else-begins, else-entry-d-via-else-entry-d}

-- ---- the first entry that is left, and those behind

module _ (basis x t ws : List ℕ) (size : length x ≡ entry_size) (is : ws ≡ x ++ t) where
  abbrev rs : List ℕ
  rs = rows_in_lem basis

  abbrev here : Bool
  here = eqb (get_or x 0 0) (length rs) && same_rows (take (length rs) (rows_in_lem (drop 1 x))) rs

  behind : take (length x - 1) (drop 1 x) ≡ drop 1 x
  behind = take_all (length x - 1) (drop 1 x) (omega (arith, length-drop 1 x))

  begins : same_rows (take (length rs) (rows_in_lem (take (length x - 1) (drop 1 x)))) rs ≡ same_rows (take (length rs) (rows_in_lem (drop 1 x))) rs
  begins = ap (λ l. same_rows (take (length rs) (rows_in_lem l)) rs) behind

  first : (y : List ℕ) → length y ≡ entry_size → held_in (room_in (y ++ t)) rs (y ++ t) ≡ (eqb (get_or y 0 0) (length rs) && same_rows (take (length rs) (rows_in_lem (drop 1 y))) rs) || held_in (room_in t) rs t
  unfolding held_in room_in
  first [] e = absurd (omega arith)
  first (y ∷ ys) e =
      let n : length ys ≡ 64 = omega arith in
      let k : (length ((y ∷ ys) ++ t) / 65) ≡ suc (length t / 65) = omega (arith, e, length-append (y ∷ ys) t) in
      ap (λ k. held_in k rs (y ∷ (ys ++ t))) k
      ∙ ap₂ (λ l m. (eqb y (length rs) && same_rows (take (length rs) (rows_in_lem l)) rs) || held_in (room_in t) rs m) (take_at ys t 64 n) (drop_at ys t 64 n)

  opened : held_in (room_in ws) rs ws ≡ here || held_in (room_in t) rs t
  opened = ap (λ l. held_in (room_in l) rs l) is ∙ first x size

  found : get_or x 0 0 ≡ length rs → same_rows (take (length rs) (rows_in_lem (take (length x - 1) (drop 1 x)))) rs ≡ true → true ≡ held_in (room_in ws) rs ws
  found e b = sym (opened ∙ ap₂ (λ a c. (a && c) || held_in (room_in t) rs t) (eq-eqb (get_or x 0 0) (length rs) e) (sym begins ∙ b))

  other : (get_or x 0 0 ≡ length rs → ⊥) → held_in (room_in t) rs t ≡ held_in (room_in ws) rs ws
  other n = sym (opened ∙ ap (λ a. (a && same_rows (take (length rs) (rows_in_lem (drop 1 x))) rs) || held_in (room_in t) rs t) (ne_eqb (get_or x 0 0) (length rs) n))

  differs : same_rows (take (length rs) (rows_in_lem (take (length x - 1) (drop 1 x)))) rs ≡ false → held_in (room_in t) rs t ≡ held_in (room_in ws) rs ws
  differs b =
      sym (opened ∙ ap (λ a. a || held_in (room_in t) rs t)
      (ap (λ c. eqb (get_or x 0 0) (length rs) && c) (sym begins ∙ b) ∙ and-false (eqb (get_or x 0 0) (length rs))))

ended : (rs ws : List ℕ) (n : ℕ) → length ws < n → n ≡ entry_size → held_in (room_in ws) rs ws ≡ false
unfolding held_in
ended rs ws n h e = ap (λ k. held_in k rs ws) (room_none ws (omega arith))

pub returns-then-begins : goal.returns-then-begins
returns-then-begins c =
    let s = c.in-Some.ensures.steps.1 in
    let at = c.loop-entry.invariant in
    found c.args.basis.now c.in-Some.entry.now _ _ (s.1 ∙ at.0) s.0 (c.if-entry-d.true ∙ c.rows_in-d.ensures) (sym c.begins.ensures ∙ c.if-begins.true) ∙ at.1

pub loop-entry-preserved : goal.loop-entry-preserved
loop-entry-preserved c =
    let s = c.in-Some.ensures.steps in
    let at = c.loop-entry.invariant in
    let x = c.in-Some.entry.now in
    let size : length x ≡ entry_size = s.1.1 ∙ at.0 in (
      s.0 ∙ at.0,
      elim c.else-entry-d.branch [
        | else-entry-d-via-then-entry-d+else-begins w ↦ differs c.args.basis.now x _ _ size s.1.0 (sym w.begins.ensures ∙ w.if-begins.false)
        | else-entry-d-via-else-entry-d w ↦ other c.args.basis.now x _ _ size s.1.0 (λ e. w.if-entry-d.false (e ∙ sym c.rows_in-d.ensures))
      ] ∙ at.1,
    )

pub returns : goal.returns
returns c =
    let at = c.loop-entry.invariant in
    sym (ended (rows_in_lem c.args.basis.now) _ _ c.in-None.ensures.steps.1.0 at.0) ∙ at.1
