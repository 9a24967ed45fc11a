-- `begin` puts the unit rows and the core, as far as these have columns, one by one.
use mathlib.Core.Path.{◌≡◌, refl, sym, ap, ap₂, ◌∙◌}
use mathlib.Core.List.{List}
use Prim.Native.Nat.{ℕ, ◌%◌, ◌^◌, ◌<◌, min}
use native.Mathlib.Omega.{arith}
use lib.ListN.{length, get_or, take}
use lib.Seq.{get_or-take}
use Rattle.binar.specs.Rows.{val, width}
use Rattle.blocks.specs.Matrices.{units}
use Rattle.blocks.specs.Words.{rows_in_lem, over}
use Rattle.blocks.proofs.Overs.{over_next, over_front, over_end}
use Rattle.blocks.proofs.Units.{units_length}
use Rattle.triangular.specs.Readings.{core_in}
use Rattle.spaces.specs.Levels.{gram_of}
use Rattle.triangular.proofs.Cores.{core_in_lem}
use Rattle.spaces.proofs.Grams.{gram_length, gram_units}
use Rattle.search.proofs.LentLevels.{levels_least}
use borrow.Author.Rules.{rules}
use Rattle.search.proofs.levels.begin.Goals as goal

gram_size : (E : List ℕ) (k : ℕ) → length (gram_of E (units k)) ≡ k
gram_size E k = gram_length E (units k) (gram_of E (units k)) refl ∙ units_length k

pub loop-i-preserved : goal.loop-i-preserved
loop-i-preserved c =
    let s = c.args in
    let pre = c.requires in
    let at = c.loop-i in
    let E = core_in s.core.now in
    let l : at.i < s.k = search rules in
    let row : val c.row.result ≡ get_or E at.i 0 =
    c.row.ensures ∙ sym (get_or-take width (rows_in_lem s.core.now) at.i 0 (omega (arith, pre.0))) ∙ ap (λ M. get_or M at.i 0) (sym (core_in_lem s.core.now)) in
    c.put.ensures
    ∙ over_next (gram_of E (units s.k)) (rows_in_lem s.gram.now) (rows_in_lem at.gram) at.i (val c.low.result) (omega (arith, gram_size E s.k)) (omega (arith, pre.3, levels_least s.k)) at.invariant
    (c.low.ensures ∙ ap (λ x. x % 2 ^ s.k) row ∙ sym (gram_units s.k E at.i l))

pub returns : goal.returns
returns c =
    let s = c.args in
    let pre = c.requires in
    let at = c.loop-i in
    let U = units s.k in
    let G = gram_of (core_in s.core.now) U in
    let B = rows_in_lem s.basis.now in
    let e : at.i ≡ s.k = omega arith in
    let m : min s.k width ≡ s.k = omega (arith, pre.0) in
    let u = units_length s.k in
    let g = gram_size (core_in s.core.now) s.k in
    let least = levels_least s.k in (
      ap₂ take (sym u) (c.put_units.ensures ∙ ap (λ k. over (units k) B) m) ∙ over_front U B (omega (arith, pre.2)),
      sym (ap₂ take (sym g) (at.invariant ∙ over_end G (rows_in_lem s.gram.now) at.i (omega (arith, pre.3))) ∙ over_front G (rows_in_lem s.gram.now) (omega (arith, pre.3))),
    )
