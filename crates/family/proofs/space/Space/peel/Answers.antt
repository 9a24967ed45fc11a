-- `peel` puts a vector into the list while a member is dropped for it, by `turn_peeled`, and ends in the simplex of the rest, by `family_rest`.
use mathlib.Core.Path.{◌≡◌, sym, ap, ◌∙◌}
use mathlib.Core.List.{List}
use mathlib.Core.Option.{some}
use Prim.Native.Nat.{ℕ, suc, ◌+◌, ◌<◌, zero-le}
use lib.ListN.{length, take, length-set}
use lib.Seq.{length-take-le, get_or-take}
use Rattle.binar.specs.Bits.{◌⊕◌, dot}
use Rattle.binar.specs.Rows.{val}
use Rattle.blocks.specs.Matrices.{times}
use Rattle.blocks.specs.Words.{rows_in_lem}
use Rattle.blocks.proofs.Values.{set_next}
use Rattle.residue.specs.Residue.{form}
use Rattle.symplectic.specs.Picks.{map_some, pick}
use Rattle.triangular.specs.Spaces.{complement}
use Rattle.family.specs.Family.{symplectic_simplex_lem}
use Rattle.family.specs.inner.Parts.{members, Fits, if_made, behind}
use Rattle.family.proofs.Drops.{drop_length}
use Rattle.family.proofs.Members.{picked_vector, picked_nothing}
use Rattle.family.proofs.Peeling.{family_rest, turn_stuck, turn_peeled}
use native.Mathlib.Omega.{arith}
use Rattle.family.proofs.space.Space.peel.Goals as goal
use Rattle.family.proofs.space.Space.peel.Goals.{At-loop-p, In-Some}
use Rattle.family.proofs.space.Space.peel.Invariants.{family_of}

size : (c : goal.At-loop-p) → length (members c.loop-p.self) ≡ c.loop-p.self.d
size c = length-take-le c.loop-p.self.d (rows_in_lem c.loop-p.self.basis) c.loop-p.self.within

pub returns : goal.returns
returns c =
    let s = c.args in
    let at = c.loop-p in
    let B = members at.self in
    let vs = take at.peeled (rows_in_lem at.list) in
    let made = c.symplectic_simplex in
    let rows = rows_in_lem made.new.list in
    let whole : at.peeled + at.self.d + 1 ≡ s.self.now.d + 1 = omega (arith, at.invariant.0) in
    λ E fit.
    let inv = at.invariant.2 E fit in
    ap (λ (n : ℕ). if_made made.result (take n rows)) (sym whole) ∙ made.ensures E inv.0
    ∙ ap (λ (n : ℕ). map_some (behind vs) (symplectic_simplex_lem (form E) n B)) (sym (size (goal.at.returns c).At-loop-p))
    ∙ family_rest (form E) (family_of E s.self.now) vs B inv.1 (picked_nothing E (pick ◌⊕◌ (form E) B) (c.in_default.ensures E inv.0))

-- the vector that is picked, and its form row
chosen : (c : goal.In-Some) (E : List ℕ) → Fits E c.loop-p.self
    → (pick ◌⊕◌ (form E) (members c.loop-p.self) ≡ some (val c.in-Some.p.member)) × (val c.in-Some.p.row ≡ times (val c.in-Some.p.member) E)
chosen c E fit = picked_vector E c.in-Some.p (pick ◌⊕◌ (form E) (members c.loop-p.self)) (c.in-Some.ensures E fit)

pub returns-in_err-j : goal.returns-in_err-j
returns-in_err-j c =
    let s = c.args in
    let at = c.loop-p in
    let a = at.self in
    let p = c.in-Some.p in
    let long = size (goal.at.returns-in_err-j c).At-loop-p in
    λ E fit.
    let inv = at.invariant.2 E fit in
    let v = chosen (goal.at.returns-in_err-j c).In-Some E inv.0 in
    ap (λ o. if_made o (take (s.self.now.d + 1) (rows_in_lem at.list))) c.from_residual.ensures
    ∙ turn_stuck E (family_of E s.self.now) (take at.peeled (rows_in_lem at.list)) (members a) inv.1 (val p.member) (val p.row) v.0 v.1
    (λ i l. ap (dot (val p.row)) (get_or-take a.d (rows_in_lem a.basis) i 0 (omega arith)) ∙ c.in_err-j.ensures i zero-le (omega arith))

pub loop-p-preserved : goal.loop-p-preserved
loop-p-preserved c =
    let s = c.args in
    let at = c.loop-p in
    let a = at.self in
    let b = rows_in_lem a.basis in
    let l = rows_in_lem at.list in
    let p = c.in-Some.p in
    let found = c.in_ok-j.ensures in
    let long = size (goal.at.loop-p-preserved c).At-loop-p in
    let C = complement (dot (val p.row)) (members a) in
    let less : suc (length C) ≡ a.d = drop_length (val p.row) a.d c.in_ok-j.j b a.within found.1 (λ i l. found.3 i zero-le l) found.2 in
    let inside : at.peeled < length l = omega (arith, at.invariant.0, at.invariant.1, c.requires) in
    let done = c.drop_member.ensures in
    let put = c.put.ensures in (
      omega (arith, at.invariant.0, done.0),
      ap length put ∙ length-set l at.peeled (val p.member) ∙ at.invariant.1,
      λ E fit.
          let inv = at.invariant.2 E fit in
          let v = chosen (goal.at.loop-p-preserved c).In-Some E inv.0 in (
            done.2 E inv.0,
            turn_peeled E (family_of E s.self.now) (take at.peeled l) (members a) inv.1 (val p.member) (val p.row) v.0 v.1 (omega arith) _ _
                (ap (take (at.peeled + 1)) put ∙ set_next l at.peeled (val p.member) inside) done.1,
          ),
    )
