-- Columns that no row has change nothing: rows of m columns are reduced by their first m columns.
-- Assumes nothing.
use mathlib.Core.Path.{◌≡◌, refl, sym, ap, ◌∙◌}
use mathlib.Core.Bool.{Bool, false}
use mathlib.Core.List.{List, [], ◌∷◌, map}
use Prim.Native.Nat.{ℕ, zero, suc, ◌+◌, ◌-◌, ◌^◌, ◌≤◌, ◌<◌}
use native.Mathlib.Nat.{zero-add, add-zero, suc-add, add-suc}
use native.Mathlib.Omega.{arith}
use Rattle.binar.specs.Bits.{bit, ◌⊕◌}
use Rattle.binar.proofs.Sums.{bit_of_zero}
use Rattle.blocks.specs.Matrices.{All}
use Rattle.blocks.proofs.All.{All-map}
use Rattle.reduction.specs.Columns.{unpulled, behind, put_if, put, pull_if, pull, Echelon, unreduced, rows, column, column_by, columns, row_reduce_with_transform_lem}
use Rattle.reduction.specs.inner.Plain.{reduced}
use Rattle.reduction.proofs.Reduced.{reduced_zero}
use Rattle.reduction.proofs.Transform.{all_reduced}

module _ {A : Type 0} (has : A → Bool) where
  put_none : (t : A) (us : List A) → All (λ y. has y ≡ false) us → put has t us ≡ unpulled
  put_none t [] h = refl
  put_none t (u ∷ us) h = ap (λ b. put_if b t u us (put has t us)) h.0 ∙ ap (behind u) (put_none t us h.1)

  pull_none : (l : List A) → All (λ y. has y ≡ false) l → pull has l ≡ unpulled
  pull_none [] h = refl
  pull_none (t ∷ ts) h = ap (λ b. pull_if b t ts (put has t ts)) h.0 ∙ put_none t ts h.1

module _ {A : Type 0} (o : A) (add : A → A → A) (has : ℕ → A → Bool) where
  columns_add : (m j c : ℕ) (h : Echelon A) → columns o add has (m + j) c h ≡ columns o add has j (c + m) (columns o add has m c h)
  unfolding columns
  columns_add zero j c h = ap (λ n. columns o add has n c h) (zero-add j) ∙ ap (λ n. columns o add has j n h) (sym (add-zero c))
  columns_add (suc m) j c h =
      ap (λ n. columns o add has n c h) (suc-add m j) ∙ columns_add m j (suc c) (column o add c (has c) h)
      ∙ ap (λ n. columns o add has j n (columns o add has m (suc c) (column o add c (has c) h))) (suc-add c m ∙ sym (add-suc c m))

  columns_idle : (k c : ℕ) (h : Echelon A) → ((i : ℕ) → All (λ y. has i y ≡ false) h.down) → columns o add has k c h ≡ h
  unfolding columns
  columns_idle zero c h none = refl
  columns_idle (suc k) c h none =
      ap (λ p. columns o add has k (suc c) (column_by o add c (has c) h p)) (pull_none (has c) h.down (none c)) ∙ columns_idle k (suc c) h none

pub narrow_rows : (m k : ℕ) (M : List ℕ) → m ≤ k → All (λ v. v < 2 ^ m) M
    → map (λ a. a.0) (rows (row_reduce_with_transform_lem k M)) ≡ map (λ a. a.0) (rows (row_reduce_with_transform_lem m M))
unfolding reduced
narrow_rows m k M h small = all_reduced k M ∙ ap rows same ∙ sym (all_reduced m M)
  where
    more : m + (k - m) ≡ k
    more = omega arith

    same : reduced k M ≡ reduced m M
    same =
        ap (λ n. columns 0 ◌⊕◌ bit n 0 (unreduced M)) (sym more) ∙ columns_add 0 ◌⊕◌ bit m (k - m) 0 (unreduced M)
        ∙ columns_idle 0 ◌⊕◌ bit (k - m) (0 + m) (reduced m M) (λ i. All-map (λ v e. ap (bit i) e ∙ bit_of_zero i) (reduced m M).down (reduced_zero m M small))
