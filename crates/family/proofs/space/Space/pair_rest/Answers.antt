-- `pair_rest` puts the others one by one over the members, and their form rows with them, by `rest_member` and `rest_row`.
use mathlib.Core.Path.{◌≡◌, refl, sym, ap, ◌∙◌}
use mathlib.Core.List.{List}
use Prim.Native.Nat.{ℕ, ◌-◌, ◌<◌}
use lib.ListN.{length, get_or, take}
use lib.Seq.{length-take-le}
use Rattle.binar.specs.Bits.{select, ◌⊕◌, dot}
use Rattle.binar.specs.Rows.{val}
use Rattle.blocks.specs.Matrices.{times, matmul}
use Rattle.blocks.specs.Words.{rows_in_lem}
use Rattle.blocks.proofs.Overs.{over_next}
use Rattle.blocks.proofs.Products.{matmul_length}
use Rattle.residue.specs.Residue.{form}
use Rattle.family.specs.inner.Parts.{others_of, pair_rest_lem}
use Rattle.family.proofs.Behind.{put_all}
use Rattle.blocks.proofs.Overs.{over_left}
use Rattle.family.proofs.Members.{member_is, row_is, member_form, fit_length}
use Rattle.family.proofs.Others.{others_length, rest_length, rest_member, rest_row}
use native.Mathlib.Omega.{arith}
use Rattle.family.proofs.space.Space.pair_rest.Goals as goal
use Rattle.family.proofs.space.Space.pair_rest.Goals.{Start}

size : (c : goal.Start) → length (take c.args.self.now.d (rows_in_lem c.args.self.now.basis)) ≡ c.args.self.now.d
size c = length-take-le c.args.self.now.d (rows_in_lem c.args.self.now.basis) c.args.self.now.within

pub loop-n-preserved : goal.loop-n-preserved
loop-n-preserved c =
    let s = c.args in
    let low = c.requires.0 in
    let high = c.requires.1 in
    let at = c.loop-n in
    let n = at.n in
    let b = rows_in_lem s.self.now.basis in
    let g = rows_in_lem s.self.now.forms in
    let B = take s.self.now.d b in
    let f = c.at-f in
    let p = c.at-p in
    let place = c.index_past_pair-i in
    let i = place.result in
    let y = get_or (rows_in_lem at.self.basis) i 0 in
    let v = y ⊕ select 0 (dot (val p.result.row) y) (val f.result.member) ⊕ select 0 (dot (val f.result.row) y) (val p.result.member) in
    let test = c.loop-n-test.true in
    let long = size (goal.at.loop-n-preserved c).Start in
    let past = place.ensures.0 in
    let hi : i < s.self.now.d = omega (arith, place.ensures.1) in
    let h0 : 0 < s.self.now.d = omega arith in
    let hj : s.j < length B = omega arith in
    let inside : n < length (others_of s.j B) = omega (arith, others_length s.j B low hj) in
    let done = c.put_cleared.ensures in (
      done.2 ∙ at.invariant.0,
      λ E fit.
          let M = pair_rest_lem (form E) s.j B in
          let count = rest_length (form E) s.j B low hj in
          let more = matmul_length M E in
          let y-is : y ≡ get_or b i 0 = over_left 0 M b (rows_in_lem at.self.basis) n i (at.invariant.1 E fit).0 (omega arith) (omega arith) in
          let z-is = over_left 0 (matmul M E) g (rows_in_lem at.self.forms) n i (at.invariant.1 E fit).1 (omega arith) (omega arith) in
          let y-in = member_is s.self.now.d b i hi y y-is in
          let f-in = member_is s.self.now.d b 0 h0 (val f.result.member) f.ensures.0 in
          let p-in = member_is s.self.now.d b s.j high (val p.result.member) p.ensures.0 in
          let member =
          rest_member E s.j B y (val f.result.member) (val p.result.member) (dot (val p.result.row) y) (dot (val f.result.row) y) v refl n i inside (place.ensures.2 B low hj) y-in f-in p-in
          (member_form s.self.now.d b g E fit s.j i high hi (val p.result.row) y p.ensures.1 y-is (dot (val p.result.row) y) refl)
          (member_form s.self.now.d b g E fit 0 i h0 hi (val f.result.row) y f.ensures.1 y-is (dot (val f.result.row) y) refl) in (
            done.0 ∙ over_next M b (rows_in_lem at.self.basis) n v (omega arith) (omega (arith, c.args.self.now.within)) (at.invariant.1 E fit).0 member,
            done.1
                ∙ over_next (matmul M E) g (rows_in_lem at.self.forms) n _ (omega arith) (omega (arith, fit_length s.self.now.d b g E fit c.args.self.now.within)) (at.invariant.1 E fit).1
                (rest_row E s.j B y (val f.result.member) (val p.result.member) (dot (val p.result.row) y) (dot (val f.result.row) y) v refl n (get_or (rows_in_lem at.self.forms) i 0) (val f.result.row) (val p.result.row) _
                (row_is s.self.now.d b g E fit i hi (get_or (rows_in_lem at.self.forms) i 0) z-is ∙ ap (λ (x : ℕ). times x E) (sym y-in))
                (row_is s.self.now.d b g E fit 0 h0 (val f.result.row) f.ensures.1 ∙ ap (λ (x : ℕ). times x E) (sym f-in))
                (row_is s.self.now.d b g E fit s.j high (val p.result.row) p.ensures.1 ∙ ap (λ (x : ℕ). times x E) (sym p-in)) refl member),
          ),
    )

pub returns : goal.returns
returns c =
    let s = c.args in
    let low = c.requires.0 in
    let high = c.requires.1 in
    let at = c.loop-n in
    let b = rows_in_lem s.self.now.basis in
    let g = rows_in_lem s.self.now.forms in
    let B = take s.self.now.d b in
    let long = size (goal.at.returns c).Start in
    let hj : s.j < length B = omega arith in (
      refl,
      λ E fit.
          let M = pair_rest_lem (form E) s.j B in
          let count = rest_length (form E) s.j B low hj in
          let n : at.n ≡ s.self.now.d - 2 = omega arith in
          let is = put_all M b (rows_in_lem at.self.basis) at.n (s.self.now.d - 2) n (omega arith) (at.invariant.1 E fit).0 in (
            is,
            ap (λ (l : List ℕ). matmul l E) is ∙ sym (put_all (matmul M E) g (rows_in_lem at.self.forms) at.n (s.self.now.d - 2) n (omega (arith, matmul_length M E)) (at.invariant.1 E fit).1),
          ),
    )
