-- Entries of the book counted one by one.
-- Assumes nothing.
use mathlib.Core.Path.{◌≡◌, refl, sym, ap, ◌∙◌, subst}
use mathlib.Core.Bool.{Bool, true, false}
use mathlib.Core.List.{List, [], ◌∷◌}
use Prim.Native.Nat.{ℕ, zero, suc, ◌+◌, ◌≤◌, ◌<◌}
use native.Mathlib.Nat.{le_of_suc-le-suc, not-suc-le-zero, add_assoc}
use native.Mathlib.Numerals.{add-one}
use native.Mathlib.Omega.{arith}
use lib.Dec.{eqb}
use lib.ListN.{length, get_or, take}
use lib.Seq.{take_all}
use Rattle.binar.specs.Bits.{digit}
use Rattle.symplectic.specs.Turns.{identity_plus}
use Rattle.reduction.specs.Columns.{rank}
use Rattle.two_qubits.specs.declared.Entry.{Entry}
use Rattle.two_qubits.specs.Codes.{rows_of_code}
use Rattle.two_qubits.specs.Book.{◌takes◌, book}
use Rattle.two_qubits.specs.Lookups.{count_of, how_many_lem, needs_one_more_lem, one_more_lem}
use Rattle.two_qubits.proofs.Computed.{book_length}

module _ (f : Entry → Bool) where
  count_suc : (l : List Entry) (i : ℕ) → i < length l → count_of f (take (suc i) l) ≡ count_of f (take i l) + digit (f (get_or l i (0 takes 0)))
  unfolding count_of
  count_suc [] i h = absurd (not-suc-le-zero h)
  count_suc (x ∷ l) zero h = omega arith
  count_suc (x ∷ l) (suc i) h =
      ap (λ t. digit (f x) + t) (count_suc l i (le_of_suc-le-suc h)) ∙ sym (add_assoc (digit (f x)) (count_of f (take i l)) (digit (f (get_or l i (0 takes 0)))))

  digit_le : (b : Bool) → digit b ≤ 1
  digit_le true = omega arith
  digit_le false = omega arith

  -- the first i entries of the book are counted
  abbrev pub Counted : ℕ → ℕ → Type 0
  Counted i count = (i ≤ 720) × (count ≤ i) × (count ≡ count_of f (take i book))

  pub count_none : Counted 0 0
  unfolding count_of
  count_none = (omega arith, omega arith, refl)

  -- one entry more
  pub count_next : (i count : ℕ) (e : Entry) (d : ℕ) → i < 720 → Counted i count → e ≡ get_or book i (0 takes 0) → d ≡ digit (f e) → Counted (i + 1) (count + d)
  count_next i count e d h c is t =
      let few : d ≤ 1 = subst (λ k. k ≤ 1) (sym t) (digit_le (f e)) in
      let k = c.1 in (
        omega arith,
        omega arith,
        ap (λ x. x + d) c.2 ∙ ap (λ x. count_of f (take i book) + x) (t ∙ ap (λ x. digit (f x)) is)
            ∙ sym (ap (λ x. count_of f (take x book)) (add-one i) ∙ count_suc book i (omega (arith, book_length))),
      )

  -- all of them
  pub count_end : (i count : ℕ) → 720 ≤ i → Counted i count → count ≡ count_of f book
  count_end i count h c = c.2 ∙ ap (count_of f) (take_all i book (omega (arith, book_length)))

-- the counts by their tests
pub many_is : (k : ℕ) → how_many_lem k ≡ count_of (λ e. eqb e.length k) book
unfolding how_many_lem
many_is k = refl

pub more_is : one_more_lem ≡ count_of needs_one_more_lem book
unfolding one_more_lem
more_is = refl

pub needs_is : (e : Entry) → needs_one_more_lem e ≡ eqb (rank 4 (identity_plus 2 (rows_of_code e.code)) + 1) e.length
unfolding needs_one_more_lem
needs_is e = refl
