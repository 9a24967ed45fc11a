-- The pivots of a reduction: each row above has its first one at its pivot, no other row has a one there, and the pivots ascend. Rows that are
-- reduced are the only ones of their span.
-- Assumes nothing.
use mathlib.Core.Path.{◌≡◌, refl, sym, ap, ◌∙◌, subst}
use mathlib.Core.Bool.{false}
use mathlib.Core.List.{List, [], ◌∷◌, ◌++◌, map, append-nil}
use Prim.Native.Nat.{ℕ, suc, ◌+◌, ◌-◌, ◌<◌}
use native.Mathlib.Decide.{dec_lt}
use native.Mathlib.Omega.{arith}
use borrow.Author.Tests.{eq-eqb, ne_eqb}
use lib.ListN.{length, get_or, get_or-append}
use lib.Seq.{get_or-append-add}
use Rattle.binar.specs.Bits.{bit}
use Rattle.binar.proofs.Sums.{bit_of_zero, bit_sum}
use Rattle.blocks.specs.Matrices.{All}
use Rattle.blocks.proofs.All.{All-at, All-get_or, All-by_index}
use Rattle.linear.specs.Span.{InSpan}
use Rattle.linear.proofs.Instances.{𝕎}
use Rattle.reduction.specs.Columns.{rows, row_reduce_with_transform_lem, rank}
use Rattle.reduction.specs.Pivots.{FirstOnes, NoOtherOnes, Ascending, ReducedRows}
use Rattle.reduction.specs.inner.Plain.{reduced}
use Rattle.reduction.proofs.Echelon.{Rref, rref_length, rref_ascends, rref_first, rref_at}
use Rattle.reduction.proofs.Unique.{unique}
use Rattle.reduction.proofs.Reduced.{reduced_rref, reduced_below, pivots_lt, pivots_length}
use Rattle.reduction.proofs.Transform.{all_reduced, pivots_reduced, rank_plain}

-- ---- of an echelon list, with rows behind it that have none of its pivots

module _ (ps us ds : List ℕ) (r : Rref bit ps us) (none : (i : ℕ) → i < length us → All (λ y. bit (get_or ps i 0) y ≡ false) ds) where
  -- a row of the list, among all rows
  above_at : (i : ℕ) → i < length us → get_or (us ++ ds) i 0 ≡ get_or us i 0
  above_at i h = get_or-append us ds 0 i h

  first_ones : FirstOnes (length us) ps (us ++ ds)
  first_ones i h = (
    ap (bit (get_or ps i 0)) (above_at i h) ∙ rref_at bit ps us r 0 i i h h ∙ eq-eqb i i refl,
    λ k l. ap (bit k) (above_at i h) ∙ rref_first bit ps us r 0 i h k l,
  )

  no_other_ones : NoOtherOnes (length us) ps (us ++ ds)
  no_other_ones i j h other = go (dec_lt j (length us))
    where
      go : Dec (j < length us) → bit (get_or ps i 0) (get_or (us ++ ds) j 0) ≡ false
      go (yes l) = ap (bit (get_or ps i 0)) (above_at j l) ∙ rref_at bit ps us r 0 i j h l ∙ ne_eqb i j (λ e. other (sym e))
      go (no l) =
          let e : j ≡ length us + (j - length us) = omega (arith, l) in
          ap (λ k. bit (get_or ps i 0) (get_or (us ++ ds) k 0)) e ∙ ap (bit (get_or ps i 0)) (get_or-append-add us ds (j - length us) 0)
          ∙ All-get_or (λ v. bit (get_or ps i 0) v ≡ false) ds (none i h) 0 (bit_of_zero (get_or ps i 0)) (j - length us)

  ascending : Ascending (length us) ps
  ascending i j h l = rref_ascends bit ps us r i j h (subst (λ k. j < k) (sym (rref_length bit ps us r)) l)

-- ---- of an answer

-- its rank, pivots and rows, of a matrix reduced by m columns
abbrev pub Pivoted : ℕ → ℕ → List ℕ → List ℕ → Type 0
Pivoted m r ps R = FirstOnes r ps R × NoOtherOnes r ps R × Ascending r ps × All (λ p. p < m) ps

pub pivoted : (m : ℕ) (M : List ℕ) (r : ℕ) (ps R : List ℕ)
    → r ≡ rank m M → ps ≡ (row_reduce_with_transform_lem m M).pivots → R ≡ map (λ a. a.0) (rows (row_reduce_with_transform_lem m M)) → Pivoted m r ps R
pivoted m M r ps R er ep eR =
    subst (λ k. Pivoted m k ps R) (sym (er ∙ rank_plain m M))
    (subst (λ l. Pivoted m (length us) l R) (sym (ep ∙ pivots_reduced m M))
    (subst (λ l. Pivoted m (length us) qs l) (sym (eR ∙ all_reduced m M))
    (first_ones qs us ds e none, no_other_ones qs us ds e none, ascending qs us ds e none, pivots_lt m M)))
  where
    us : List ℕ
    us = (reduced m M).up

    ds : List ℕ
    ds = (reduced m M).down

    qs : List ℕ
    qs = (reduced m M).pivots

    e : Rref bit qs us
    e = reduced_rref m M

    none : (i : ℕ) → i < length us → All (λ y. bit (get_or qs i 0) y ≡ false) ds
    none i h = reduced_below m M (get_or qs i 0) (All-at (λ p. p < m) qs (pivots_lt m M) i 0 (subst (λ k. i < k) (sym (pivots_length m M)) h))

-- ---- of reduced rows

-- an echelon list is reduced rows, and reduced rows are an echelon list
pub rref_rows : (ps us : List ℕ) → Rref bit ps us → ReducedRows us
rref_rows ps us r =
    let none : (i : ℕ) → i < length us → All (λ y. bit (get_or ps i 0) y ≡ false) [] = λ i h. tt in (
      ps,
      rref_length bit ps us r,
      subst (FirstOnes (length us) ps) (append-nil us) (first_ones ps us [] r none),
      subst (NoOtherOnes (length us) ps) (append-nil us) (no_other_ones ps us [] r none),
      ascending ps us [] r none,
    )

pub rows_rref : (ps us : List ℕ) → length ps ≡ length us → FirstOnes (length us) ps us → NoOtherOnes (length us) ps us → Ascending (length us) ps → Rref bit ps us
rows_rref [] [] e f n a = tt
rows_rref [] (u ∷ us) e f n a = absurd (omega arith)
rows_rref (p ∷ ps) [] e f n a = absurd (omega arith)
rows_rref (p ∷ ps) (u ∷ us) e f n a = (
  (f 0 (omega arith)).0,
  (f 0 (omega arith)).1,
  All-by_index (λ q. (p < q) × (bit q u ≡ false)) ps 0 (λ i h. (a 0 (suc i) (omega arith) (omega arith), n (suc i) 0 (omega arith) (λ z. omega arith))),
  rows_rref ps us (omega arith) (λ i h. f (suc i) (omega arith)) (λ i j h other. n (suc i) (suc j) (omega arith) (λ z. other (omega arith))) (λ i j h l. a (suc i) (suc j) (omega arith) (omega arith)),
)

-- the reduced basis of a space is the only one
pub reduced_only : (us vs : List ℕ) → ReducedRows us → ReducedRows vs → All (InSpan 𝕎 vs) us → All (InSpan 𝕎 us) vs → us ≡ vs
reduced_only us vs (ps, e, f, n, a) (qs, e', f', n', a') h k =
    (unique 𝕎 bit bit_sum ps qs us vs (rows_rref ps us e f n a) (rows_rref qs vs e' f' n' a') h k).1
