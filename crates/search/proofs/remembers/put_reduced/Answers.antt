-- `put_reduced` puts the members behind themselves, and reduces them there.
use mathlib.Core.Path.{refl, sym, ap, subst, ◌∙◌}
use Prim.Native.Nat.{ℕ, ◌+◌, ◌-◌, ◌≤◌}
use native.Mathlib.Nat.{le_refl}
use native.Mathlib.Omega.{arith}
use lib.ListN.{length, take, drop, replicate, length-drop, length-replicate}
use lib.Seq.{length-take-le}
use Rattle.binar.specs.Rows.{width}
use Rattle.blocks.specs.Words.{rows_in_lem}
use Rattle.blocks.proofs.Lent.{lent_same, lent_rest, lent_back}
use Rattle.triangular.specs.Memory.{entry_basis}
use Rattle.search.proofs.LentLevels.{back_front, back_rest}
use Rattle.search.proofs.Reduces.{reduced_front}
use Rattle.search.proofs.remembers.put_reduced.Goals as goal

pub returns : goal.returns
returns c =
    let d = c.args.d in
    let o = c.row_reduce_with_transform in
    let again = c.put_again in
    let words = again.new.basis in
    let gram = c.args.gram.now in
    let from-b = c.start-b in
    let from-g = c.start-s in
    let A = rows_in_lem words in
    let G = rows_in_lem gram in
    let whole_b : d + d ≤ length A = omega (arith, lent_same words c.args.basis.now again.auto.basis, c.requires.1) in
    let in_b : d ≤ length A = omega (arith, whole_b) in
    let in_g : d ≤ length G = omega (arith, c.requires.2) in
    let rest_b = lent_rest d from-b.result words from-b.ensures (length words - from-b.result) refl in
    let rest_g = lent_rest d from-g.result gram from-g.ensures (length gram - from-g.result) refl in
    let back_b = lent_back d from-b.result words from-b.ensures (length words - from-b.result) refl o.new.a in
    let back_g = lent_back d from-g.result gram from-g.ensures (length gram - from-g.result) refl o.new.t in (
      ap (take d) back_b ∙ back_front d A (rows_in_lem o.new.a) in_b d (le_refl d) ∙ again.ensures.0,
      ap (take d) back_g ∙ back_front d G (rows_in_lem o.new.t) in_g d (le_refl d),
      ap (λ l. take d (drop d l)) back_b ∙ ap (take d) (back_rest d A (rows_in_lem o.new.a) in_b)
          ∙ reduced_front d _ _ (take d (replicate width 0)) _ c.requires.0 (length-take-le d (replicate width 0) (omega (arith, length-replicate {A = ℕ} width 0, c.requires.0)))
          (subst (λ l. d ≤ length l) (sym rest_b) (omega (arith, length-drop d A, whole_b)))
          (subst (λ l. d ≤ length l) (sym rest_g) (omega (arith, length-drop d G, c.requires.2))) o.ensures.reduced
          ∙ ap (entry_basis width) (ap (take d) rest_b ∙ again.ensures.1),
    )
