-- The searches of the code, row by row: a row passed over, the row that is found, and the end. Then the vector taken from them.
-- Assumes nothing.
use mathlib.Core.Path.{◌≡◌, refl, sym, ap, ap₂, ◌∙◌}
use mathlib.Core.Bool.{Bool, true, false, not}
use mathlib.Core.List.{List}
use mathlib.Core.Option.{Option, none, some}
use Prim.Native.Nat.{ℕ, ◌+◌, ◌≤◌, ◌<◌}
use native.Mathlib.Omega.{arith}
use lib.Dec.{eqb}
use lib.ListN.{length, get_or, drop}
use Rattle.binar.specs.Bits.{◌⊕◌}
use Rattle.symplectic.specs.Turns.{identity_plus}
use Rattle.symplectic.specs.Picks.{or_if, or_else, map_some, first_one_lem, uneven_with_lem, first_uneven_lem, pick, add_both}
use Rattle.symplectic.proofs.FirstPicks.{first_one_skip, first_one_here, first_one_end, uneven_with_skip, uneven_with_here, uneven_with_end, first_uneven_open, first_uneven_end, pick_of_one, pick_of_uneven}
use Rattle.transvection.specs.Greedy.{beside_basis, row_pairing, first_nonzero, next_transvection_lem}
use Rattle.transvection.specs.inner.Searches.{row_at, one_from, with_from, pair_from}
use Rattle.transvection.proofs.Finds.{Search, or_else_if}
use Rattle.transvection.proofs.Choices.{meets, differs, in_pairs, own, both, beside_basis_length, beside_basis_at, identity_plus_length, identity_plus_at, first_nonzero_open, first_nonzero_end}

module _ (n : ℕ) (F : List ℕ) (size : length F ≡ n + n) where
  abbrev pairs : List (ℕ × ℕ)
  pairs = beside_basis n F

  past : (i : ℕ) → n + n ≤ i → length (beside_basis n F) ≤ i
  past i h = omega (arith, beside_basis_length n F size)

  -- ---- a row and its own basis vector

  pub one : Search (one_from n F) (λ i. or_if (meets n F i i) (row_at F i) none) (n + n)
  unfolding one_from
  one = record { opens = λ i h. go i h (meets n F i i) refl ∙ sym (or_else_if (meets n F i i) (row_at F i) (one_from n F (i + 1))); ends = λ i h. ap (map_some (λ a. a.1)) (first_one_end add_both (row_pairing n) pairs (0, 0) i (past i h)) }
    where
      go : (i : ℕ) → i < n + n → (b : Bool) → meets n F i i ≡ b → one_from n F i ≡ or_if (meets n F i i) (row_at F i) (one_from n F (i + 1))
      go i h true e =
          ap (map_some (λ a. a.1)) (first_one_here add_both (row_pairing n) pairs (0, 0) i (in_pairs n F size i h) (own n F size i true h e))
          ∙ ap (λ a. some a.1) (beside_basis_at n F size i (0, 0) h) ∙ ap (λ (b : Bool). or_if b (row_at F i) (one_from n F (i + 1))) (sym e)
      go i h false e =
          ap (map_some (λ a. a.1)) (first_one_skip add_both (row_pairing n) pairs (0, 0) i (in_pairs n F size i h) (own n F size i false h e))
          ∙ ap (λ (b : Bool). or_if b (row_at F i) (one_from n F (i + 1))) (sym e)

  -- ---- row i with the rows from j on

  pub with_row : (i : ℕ) → i < n + n → Search (with_from n F i) (λ j. or_if (differs n F i j) (row_at F i ⊕ row_at F j) none) (n + n)
  unfolding with_from
  with_row i h = record { opens = λ j k. go j k (differs n F i j) refl ∙ sym (or_else_if (differs n F i j) (row_at F i ⊕ row_at F j) (with_from n F i (j + 1))); ends = λ j k. ap (map_some (λ a. a.1)) (uneven_with_end add_both (row_pairing n) pairs (0, 0) (get_or pairs i (0, 0)) j (past j k)) }
    where
      go : (j : ℕ) → j < n + n → (b : Bool) → differs n F i j ≡ b → with_from n F i j ≡ or_if (differs n F i j) (row_at F i ⊕ row_at F j) (with_from n F i (j + 1))
      go j k true e =
          ap (map_some (λ a. a.1)) (uneven_with_here add_both (row_pairing n) pairs (0, 0) (get_or pairs i (0, 0)) j (in_pairs n F size j k) (both n F size i j true h k e))
          ∙ ap₂ (λ p q. some (p.1 ⊕ q.1)) (beside_basis_at n F size i (0, 0) h) (beside_basis_at n F size j (0, 0) k)
          ∙ ap (λ (b : Bool). or_if b (row_at F i ⊕ row_at F j) (with_from n F i (j + 1))) (sym e)
      go j k false e =
          ap (map_some (λ a. a.1)) (uneven_with_skip add_both (row_pairing n) pairs (0, 0) (get_or pairs i (0, 0)) j (in_pairs n F size j k) (both n F size i j false h k e))
          ∙ ap (λ (b : Bool). or_if b (row_at F i ⊕ row_at F j) (with_from n F i (j + 1))) (sym e)

  -- ---- two rows

  pub pair : Search (pair_from n F) (λ i. with_from n F i (i + 1)) (n + n)
  unfolding pair_from with_from
  pair = record {
    opens = λ i h.
        ap (map_some (λ a. a.1)) (first_uneven_open add_both (row_pairing n) pairs (0, 0) i (in_pairs n F size i h))
        ∙ map_else (uneven_with_lem add_both (row_pairing n) (get_or pairs i (0, 0)) (drop (i + 1) pairs)) (first_uneven_lem add_both (row_pairing n) (drop (i + 1) pairs));
    ends = λ i h. ap (map_some (λ a. a.1)) (first_uneven_end add_both (row_pairing n) pairs (0, 0) i (past i h));
  }
    where
      map_else : (p q : Option (ℕ × ℕ)) → map_some (λ a. a.1) (or_else p q) ≡ or_else (map_some (λ a. a.1) p) (map_some (λ a. a.1) q)
      map_else none q = refl
      map_else (some a) q = refl

  -- ---- a nonzero row

  in_rows : (i : ℕ) → i < n + n → i < length (identity_plus n F)
  in_rows i h = omega (arith, identity_plus_length n F size)

  pub nonzero : Search (λ i. first_nonzero (drop i (identity_plus n F))) (λ i. or_if (not (eqb (row_at F i) 0)) (row_at F i) none) (n + n)
  nonzero = record { opens = λ i h. first_nonzero_open (identity_plus n F) i (row_at F i) (in_rows i h) (identity_plus_at n F size i 0 h) ∙ sym (or_else_if (not (eqb (row_at F i) 0)) (row_at F i) (first_nonzero (drop (i + 1) (identity_plus n F)))); ends = λ i h. first_nonzero_end (identity_plus n F) i (omega (arith, identity_plus_length n F size)) }

-- ---- the vector taken

pub next_searches : (n : ℕ) (F : List ℕ) → next_transvection_lem n F ≡ or_else (or_else (one_from n F 0) (pair_from n F 0)) (first_nonzero (identity_plus n F))
unfolding next_transvection_lem one_from pair_from
next_searches n F = go (first_one_lem add_both (row_pairing n) (beside_basis n F)) refl
  where
    vector : Option (ℕ × ℕ) → Option ℕ
    vector p = map_some (λ a. a.1) p

    first : Option ℕ → Option ℕ
    first p = or_else p (first_nonzero (identity_plus n F))

    one_of : Option (ℕ × ℕ)
    one_of = first_one_lem add_both (row_pairing n) (beside_basis n F)

    two : Option (ℕ × ℕ)
    two = first_uneven_lem add_both (row_pairing n) (beside_basis n F)

    go : (found : Option (ℕ × ℕ)) → first_one_lem add_both (row_pairing n) (beside_basis n F) ≡ found
        → first (vector (pick add_both (row_pairing n) (beside_basis n F))) ≡ first (or_else (vector one_of) (vector two))
    go none e = ap (λ p. first (vector p)) (pick_of_uneven add_both (row_pairing n) (beside_basis n F) e) ∙ ap (λ p. first (or_else (vector p) (vector two))) (sym e)
    go (some a) e = ap (λ p. first (vector p)) (pick_of_one add_both (row_pairing n) (beside_basis n F) a e) ∙ ap (λ p. first (or_else (vector p) (vector two))) (sym e)
