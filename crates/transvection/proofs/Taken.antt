-- What the greedy list takes next: a vector that the action adds; none just where the action is the identity.
-- Assumes nothing.
use mathlib.Core.Path.{◌≡◌, refl, sym, ap, ◌∙◌, subst}
use mathlib.Core.Bool.{Bool, true, false, not, true≢false}
use mathlib.Core.List.{List, [], ◌∷◌, map, map-id, zip}
use mathlib.Core.Option.{Option, none, some}
use mathlib.Core.Logic.{◌⊎◌, inl, inr, ⊎_elim}
use Prim.Native.Nat.{ℕ, ◌+◌, ◌*◌, ◌/◌, ◌%◌, ◌^◌, ◌<◌}
use native.Mathlib.Nat.{mod-lt}
use lib.Dec.{eqb}
use lib.Pow.{pow_pos}
use lib.ListN.{length}
use borrow.Author.Tests.{eqb-true, eqb-false}
use Rattle.binar.specs.Bits.{◌⊕◌}
use Rattle.binar.proofs.Sums.{sum_self, zero_sum, by_parts}
use Rattle.blocks.specs.Matrices.{times, units, All}
use Rattle.blocks.proofs.All.{All-of_map}
use Rattle.linear.proofs.Exchange.{span_head, span_skip}
use Rattle.blocks.proofs.Units.{units_length}
use Rattle.linear.specs.Span.{InSpan}
use Rattle.linear.specs.Maps.{Additive, Form}
use Rattle.linear.proofs.Sums.{eq_of_sum}
use Rattle.linear.proofs.Instances.{𝕎, Prod}
use Rattle.linear.proofs.Maps.{span_kernel, span_map, span_unmap, pairing_left}
use Rattle.linear.proofs.Rows.{units_span}
use Rattle.symplectic.specs.Turns.{pairing, identity_plus}
use Rattle.symplectic.specs.Picks.{or_if, or_else, map_some, pick, add_both}
use Rattle.symplectic.proofs.Lists.{zip_beside}
use Rattle.symplectic.proofs.Pairings.{𝕡, pairing_low, pairing_sum, pairing_comm, pairing_zero}
use Rattle.symplectic.proofs.Products.{times_of_units}
use Rattle.symplectic.proofs.Layers.{added, added_is, added_sum, added_lt, added_over, identity_plus_is, rows_are}
use Rattle.transvection.specs.Greedy.{beside_basis, row_pairing, first_nonzero, next_transvection_lem}
use Rattle.symplectic.proofs.Picked.{Picked, Even, picked}
use Rattle.transvection.proofs.Ranks.{Full, Flat}

-- the form of two rows of I + F beside their basis vectors
abbrev pub meeting : ℕ → Form (Prod 𝕎 𝕎)
meeting n = record {
  at = row_pairing n;
  left = λ b x y. pairing_left 𝕎 (𝕡 n) b.0 x.1 y.1;
  right = λ a x y. pairing_sum n a.1 x.0 y.0;
}

-- the lowest nonzero row
abbrev pub Lowest : List ℕ → Option ℕ → Type 0
Lowest vs none = All (λ v. v ≡ 0) vs
Lowest vs (some v) = InSpan 𝕎 vs v × (v ≡ 0 → ⊥)

module _ (n : ℕ) (F : List ℕ) where
  abbrev pub beside : ℕ → ℕ × ℕ
  beside u = (u, added n F u)

  pub beside_sum : Additive 𝕎 (Prod 𝕎 𝕎) beside
  beside_sum x y = λ i. (x ⊕ y, added_sum n F x y i)

  -- what is taken is added to some x; either x pairs with it, or no vector pairs with what is added to it
  abbrev pub Taken : Option ℕ → Type 0
  Taken none = (z : ℕ) → added n F z ≡ 0
  Taken (some v) = (x : ℕ) × (v ≡ added n F x) × ((pairing n (added n F x) x ≡ true) ⊎ (Flat 𝕎 (𝕡 n) (added n F) × (added n F x ≡ 0 → ⊥)))

nonzero_right : (vs : List ℕ) → Lowest vs (first_nonzero vs)
unfolding first_nonzero
nonzero_right [] = tt
nonzero_right (v ∷ vs) = go (eqb v 0) refl (nonzero_right vs)
  where
    over : (out : Option ℕ) → v ≡ 0 → Lowest vs out → Lowest (v ∷ vs) out
    over none z h = (z, h)
    over (some w) z h = (span_skip 𝕎 v vs w h.0, h.1)

    go : (b : Bool) → eqb v 0 ≡ b → Lowest vs (first_nonzero vs) → Lowest (v ∷ vs) (or_if (not b) v (first_nonzero vs))
    go true e h = over (first_nonzero vs) (eqb-true v 0 e) h
    go false e h = (span_head 𝕎 v vs, eqb-false v 0 e)

module _ (n : ℕ) (F : List ℕ) (size : length F ≡ n + n) where
  -- columns from 2n on do not matter
  pub added_low : (z : ℕ) → added n F (z % 2 ^ (n + n)) ≡ added n F z
  added_low z =
      sym (ap (added n F) (by_parts (n + n) z) ∙ added_sum n F (z / 2 ^ (n + n) * 2 ^ (n + n)) (z % 2 ^ (n + n))
      ∙ ap (λ t. t ⊕ added n F (z % 2 ^ (n + n))) (added_over n F size (z / 2 ^ (n + n))) ∙ zero_sum (added n F (z % 2 ^ (n + n))))

  low_span : (z : ℕ) → InSpan 𝕎 (units (n + n)) (z % 2 ^ (n + n))
  low_span z = units_span (n + n) (z % 2 ^ (n + n)) (mod-lt z (pow_pos (n + n)))

  -- what is added to the basis vectors spans all that is added
  pub full_units : Full 𝕎 (added n F) (units (n + n))
  full_units z = subst (InSpan 𝕎 (map (added n F) (units (n + n)))) (added_low z) (span_map 𝕎 𝕎 (added n F) (added_sum n F) (units (n + n)) (z % 2 ^ (n + n)) (low_span z))

  pub beside_basis_is : beside_basis n F ≡ map (beside n F) (units (n + n))
  unfolding beside_basis
  beside_basis_is = ap (zip (units (n + n))) (identity_plus_is n F size) ∙ zip_beside (added n F) (units (n + n))

  -- nothing added: the identity
  pub units_of_none : ((z : ℕ) → added n F z ≡ 0) → F ≡ units (n + n)
  units_of_none a =
      sym (sym (map-id (units (n + n))) ∙ rows_are n F size (λ u. u) (λ u h. eq_of_sum 𝕎 u (times u F) (sym (added_is n F u h) ∙ a u)))

  pub taken : Taken n F (next_transvection_lem n F)
  unfolding next_transvection_lem
  taken =
      subst (λ rows. Taken n F (or_else (map_some (λ a. a.1) (pick add_both (row_pairing n) rows)) (first_nonzero (identity_plus n F)))) (sym beside_basis_is)
      (go (pick add_both (row_pairing n) rows) (picked (Prod 𝕎 𝕎) (meeting n) rows))
    where
      rows : List (ℕ × ℕ)
      rows = map (beside n F) (units (n + n))

      flat : Even (Prod 𝕎 𝕎) (meeting n) rows → Flat 𝕎 (𝕡 n) (added n F)
      flat e z =
          sym (pairing_low n (added n F z) z) ∙ ap (λ t. pairing n t (z % 2 ^ (n + n))) (sym (added_low z))
          ∙ e (beside n F (z % 2 ^ (n + n))) (span_map 𝕎 (Prod 𝕎 𝕎) (beside n F) (beside_sum n F) (units (n + n)) (z % 2 ^ (n + n)) (low_span z))

      lowest : Flat 𝕎 (𝕡 n) (added n F) → (out : Option ℕ) → Lowest (map (added n F) (units (n + n))) out → Taken n F out
      lowest f none h = λ z. sym (added_low z) ∙ span_kernel 𝕎 𝕎 (added n F) (added_sum n F) (units (n + n)) (All-of_map (added n F) (λ v. v ≡ 0) (units (n + n)) h) (z % 2 ^ (n + n)) (low_span z)
      lowest f (some v) h =
          let x = span_unmap 𝕎 𝕎 (added n F) (added_sum n F) (units (n + n)) v h.0 in
          (x.0, sym x.2, inr (f, λ z. h.1 (sym x.2 ∙ z)))

      go : (out : Option (ℕ × ℕ)) → Picked (Prod 𝕎 𝕎) (meeting n) rows (Even (Prod 𝕎 𝕎) (meeting n) rows) out
          → Taken n F (or_else (map_some (λ a. a.1) out) (first_nonzero (identity_plus n F)))
      go none h = lowest (flat h) (first_nonzero (identity_plus n F)) (subst (λ l. Lowest l (first_nonzero (identity_plus n F))) (identity_plus_is n F size) (nonzero_right (identity_plus n F)))
      go (some p) h =
          let x = span_unmap 𝕎 (Prod 𝕎 𝕎) (beside n F) (beside_sum n F) (units (n + n)) p h.1 in
          (x.0, sym (ap (λ a. a.1) x.2), inl (ap (λ a. pairing n a.1 a.0) x.2 ∙ h.0))

  -- what is taken has 2n columns
  pub taken_lt : All (λ f. f < 2 ^ (n + n)) F → (v : ℕ) → next_transvection_lem n F ≡ some v → v < 2 ^ (n + n)
  taken_lt b v e = let t : Taken n F (some v) = subst (Taken n F) e taken in subst (λ x. x < 2 ^ (n + n)) (sym t.1) (added_lt n F b t.0)

-- nothing is taken of the identity
pub units_taken : (n : ℕ) → next_transvection_lem n (units (n + n)) ≡ none
units_taken n = go (next_transvection_lem n (units (n + n))) (taken n (units (n + n)) (units_length (n + n)))
  where
    identity_adds_none : (z : ℕ) → added n (units (n + n)) z ≡ 0
    identity_adds_none z =
        sym (added_low n (units (n + n)) (units_length (n + n)) z) ∙ added_is n (units (n + n)) (z % 2 ^ (n + n)) (mod-lt z (pow_pos (n + n)))
        ∙ ap (λ t. (z % 2 ^ (n + n)) ⊕ t) (times_of_units (n + n) (z % 2 ^ (n + n)) (mod-lt z (pow_pos (n + n)))) ∙ sum_self (z % 2 ^ (n + n))

    go : (out : Option ℕ) → Taken n (units (n + n)) out → out ≡ none
    go none t = refl
    go (some v) t =
        absurd (⊎_elim
        (λ p. true≢false (sym p ∙ ap (λ u. pairing n u t.0) (identity_adds_none t.0) ∙ pairing_comm n 0 t.0 ∙ pairing_zero n t.0))
        (λ w. w.1 (identity_adds_none t.0)) t.2)
