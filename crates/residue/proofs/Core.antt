-- The residue of an action, its basis and transform, and the core: the basis spans what the action adds, and the core is the form of its residue.
-- Assumes nothing.
use mathlib.Core.Path.{◌≡◌, refl, sym, ap, ap₂, ◌∙◌, subst}
use mathlib.Core.List.{List, [], ◌∷◌, ◌++◌, map, map-map, map-append}
use Prim.Native.Nat.{ℕ, ◌+◌, ◌*◌, ◌^◌, ◌≤◌, ◌<◌}
use native.Mathlib.Nat.{suc-ne-zero}
use native.Mathlib.Omega.{arith}
use lib.ListN.{length, length-map, take, drop}
use lib.Seq.{take_at, drop_at}
use Rattle.binar.specs.Bits.{bit, dot}
use Rattle.blocks.specs.Matrices.{times, units, All}
use Rattle.blocks.proofs.All.{All-map, All-any, All-to_map, All-left}
use Rattle.blocks.proofs.Products.{times_sum, times_lt}
use Rattle.blocks.proofs.Units.{units_length, units_lt, units_split}
use Rattle.linear.specs.Span.{InSpan, Indep}
use Rattle.linear.specs.Maps.{Additive}
use Rattle.linear.proofs.Exchange.{span_trans}
use Rattle.linear.proofs.Instances.{𝕎}
use Rattle.linear.proofs.Maps.{map_o}
use Rattle.linear.proofs.Rows.{times_in, map_times}
use Rattle.symplectic.specs.Turns.{pairing, identity_plus}
use Rattle.symplectic.specs.inner.Vectors.{swap_halves_lem}
use Rattle.symplectic.proofs.Lists.{map_eq}
use Rattle.symplectic.proofs.Pairings.{swap_sum, swap_swap, swap_over, swap_low, swap_high, pairing_swap}
use Rattle.symplectic.proofs.Layers.{times_images, added, added_sum, added_lt, added_low, identity_plus_is, plus_times}
use Rattle.reduction.specs.Columns.{rank}
use Rattle.reduction.specs.inner.Plain.{reduced}
use Rattle.reduction.proofs.Echelon.{Rref}
use Rattle.reduction.proofs.Reduced.{reduced_indep, reduced_lt, reduced_out, reduced_unique}
use Rattle.reduction.proofs.Transform.{basis_row_is, basis_transform_lt, basis_reduced, above_rref, rank_plain, rank_length}
use Rattle.residue.specs.Residue.{residue, reduction, basis, transform, core, form}
use Rattle.residue.proofs.Forms.{form_transposed, transposed_length}

-- ---- of any action

-- what the action adds to an exchanged vector
pub added_swap_sum : (n : ℕ) (F : List ℕ) → Additive 𝕎 𝕎 (λ u. added n F (swap_halves_lem n u))
added_swap_sum n F x y = ap (added n F) (swap_sum n x y) ∙ added_sum n F (swap_halves_lem n x) (swap_halves_lem n y)

pub lift_sum : (n : ℕ) (F : List ℕ) → Additive 𝕎 𝕎 (λ p. swap_halves_lem n (times p (transform n F)))
lift_sum n F x y = ap (swap_halves_lem n) (times_sum (transform n F) x y) ∙ swap_sum n (times x (transform n F)) (times y (transform n F))

-- the basis is that of the plain reduction
pub basis_plain : (n : ℕ) (F : List ℕ) → basis n F ≡ (reduced (n + n) (residue n F)).up
unfolding basis reduction
basis_plain n F = basis_reduced (n + n) (residue n F)

pub basis_rank : (n : ℕ) (F : List ℕ) → length (basis n F) ≡ rank (n + n) (residue n F)
basis_rank n F = ap length (basis_plain n F) ∙ sym (rank_plain (n + n) (residue n F))

pub basis_indep : (n : ℕ) (F : List ℕ) → Indep 𝕎 (basis n F)
basis_indep n F = subst (Indep 𝕎) (sym (basis_plain n F)) (reduced_indep (n + n) (residue n F))

pub basis_rref : (n : ℕ) (F : List ℕ) → Rref bit (reduction n F).pivots (basis n F)
unfolding basis reduction
basis_rref n F = above_rref (n + n) (residue n F)

-- pEq is the dot of what p takes of the basis and q of the transform
pub core_form : (n : ℕ) (F : List ℕ) (p q : ℕ) → form (core n F) p q ≡ dot (times p (basis n F)) (times q (transform n F))
unfolding core
core_form n F p q = form_transposed (basis n F) (transform n F) p q

pub core_length : (n : ℕ) (F : List ℕ) → length (core n F) ≡ length (basis n F)
unfolding core
core_length n F = transposed_length (basis n F) (transform n F)

-- zero rank gives a core of no rows
pub core_zero : (n : ℕ) (F : List ℕ) → length (basis n F) ≡ 0 → core n F ≡ []
core_zero n F e = empty (core n F) (core_length n F ∙ e)
  where
    empty : (l : List ℕ) → length l ≡ 0 → l ≡ []
    empty [] z = refl
    empty (x ∷ xs) z = absurd (suc-ne-zero (length xs) z)

-- ---- of an action of 2n rows

module _ (n : ℕ) (F : List ℕ) (size : length F ≡ n + n) where
  -- the rows of the residue are what the action adds to the exchanged basis vectors
  pub residue_is : residue n F ≡ map (λ u. added n F (swap_halves_lem n u)) (units (n + n))
  unfolding residue
  residue_is =
      ap (λ l. drop n l ++ take n l) (identity_plus_is n F size ∙ ap (map A) (units_split n n) ∙ map-append A us vs)
      ∙ ap₂ ◌++◌ (drop_at (map A us) (map A vs) n len) (take_at (map A us) (map A vs) n len)
      ∙ sym (ap (map (λ u. A (swap_halves_lem n u))) (units_split n n) ∙ map-append (λ u. A (swap_halves_lem n u)) us vs ∙ ap₂ ◌++◌ ups downs)
    where
      A : ℕ → ℕ
      A = added n F

      us : List ℕ
      us = units n

      vs : List ℕ
      vs = map (λ u. u * 2 ^ n) (units n)

      len : length (map A us) ≡ n
      len = length-map us A ∙ units_length n

      ups : map (λ u. A (swap_halves_lem n u)) us ≡ map A vs
      ups =
          map_eq (λ u. A (swap_halves_lem n u)) (λ u. A (u * 2 ^ n)) us (All-map (λ u h. ap A (swap_low n u h)) us (units_lt n))
          ∙ sym (map-map A (λ u. u * 2 ^ n) us)

      downs : map (λ u. A (swap_halves_lem n u)) vs ≡ map A us
      downs =
          map-map (λ u. A (swap_halves_lem n u)) (λ u. u * 2 ^ n) us
          ∙ map_eq (λ u. A (swap_halves_lem n (u * 2 ^ n))) A us (All-map (λ u h. ap A (swap_high n u h)) us (units_lt n))

  pub residue_length : length (residue n F) ≡ n + n
  residue_length = ap length residue_is ∙ length-map (units (n + n)) (λ u. added n F (swap_halves_lem n u)) ∙ units_length (n + n)

  -- no more rows than the action has
  pub basis_within : length (basis n F) ≤ n + n
  basis_within = omega (arith, basis_rank n F, rank_length (n + n) (residue n F), residue_length)

  pub core_within : length (core n F) ≤ n + n
  core_within = omega (arith, core_length n F, basis_within)

  pub residue_times : (u : ℕ) → times u (residue n F) ≡ added n F (swap_halves_lem n u)
  residue_times u =
      ap (times u) residue_is
      ∙ times_images (λ z. added n F (swap_halves_lem n z)) (added_swap_sum n F) (n + n) (λ h. ap (added n F) (swap_over n h) ∙ map_o 𝕎 𝕎 (added n F) (added_sum n F)) u

  pub transform_lt : All (λ v. v < 2 ^ (n + n)) (transform n F)
  unfolding transform reduction
  transform_lt =
      All-to_map (λ a. a.1) (λ v. v < 2 ^ (n + n)) (reduction n F).up
      (subst (λ r. All (λ a. a.1 < 2 ^ r) (reduction n F).up) residue_length (basis_transform_lt (n + n) (residue n F)))

  -- the basis is what the action adds to the exchanged transform
  pub basis_is : (p : ℕ) → added n F (swap_halves_lem n (times p (transform n F))) ≡ times p (basis n F)
  unfolding basis transform reduction
  basis_is p =
      map_times (λ u. added n F (swap_halves_lem n u)) (added_swap_sum n F) (transform n F) p
      ∙ ap (times p) (map-map (λ u. added n F (swap_halves_lem n u)) (λ a. a.1) (reduction n F).up
      ∙ map_eq (λ a. added n F (swap_halves_lem n a.1)) (λ a. a.0) (reduction n F).up
      (All-map (λ a e. sym (e ∙ residue_times a.1)) (reduction n F).up (basis_row_is (n + n) (residue n F))))

  -- the core is the form of the residue
  pub core_is : (p q : ℕ) → pairing n (times p (basis n F)) (swap_halves_lem n (times q (transform n F))) ≡ form (core n F) p q
  core_is p q =
      pairing_swap n (times p (basis n F)) (times q (transform n F)) (times_lt (n + n) (transform n F) transform_lt q) ∙ sym (core_form n F p q)

  module _ (bounded : All (λ f. f < 2 ^ (n + n)) F) where
    pub residue_lt : All (λ v. v < 2 ^ (n + n)) (residue n F)
    residue_lt =
        subst (All (λ v. v < 2 ^ (n + n))) (sym residue_is)
        (All-to_map (λ u. added n F (swap_halves_lem n u)) (λ v. v < 2 ^ (n + n)) (units (n + n)) (All-any (λ u. added_lt n F bounded (swap_halves_lem n u)) (units (n + n))))

    pub basis_lt : All (λ v. v < 2 ^ (n + n)) (basis n F)
    basis_lt =
        let h = reduced (n + n) (residue n F) in
        subst (All (λ v. v < 2 ^ (n + n))) (sym (basis_plain n F)) (All-left (λ v. v < 2 ^ (n + n)) h.up h.down (reduced_lt (n + n) (residue n F) residue_lt))

    -- what the action adds to any vector
    residue_full : (z : ℕ) → InSpan 𝕎 (residue n F) (added n F z)
    residue_full z =
        subst (InSpan 𝕎 (residue n F)) (residue_times (swap_halves_lem n z) ∙ ap (added n F) (swap_swap n z) ∙ added_low n F size z) (times_in (swap_halves_lem n z) (residue n F))

    pub full : (z : ℕ) → InSpan 𝕎 (basis n F) (added n F z)
    full z =
        span_trans 𝕎 (residue n F) (basis n F) (added n F z)
        (subst (λ B. All (InSpan 𝕎 B) (residue n F)) (sym (basis_plain n F)) (reduced_out (n + n) (residue n F) residue_lt)) (residue_full z)

    pub plus_lt : All (λ v. v < 2 ^ (n + n)) (identity_plus n F)
    plus_lt =
        subst (All (λ v. v < 2 ^ (n + n))) (sym (identity_plus_is n F size))
        (All-to_map (added n F) (λ v. v < 2 ^ (n + n)) (units (n + n)) (All-any (λ u. added_lt n F bounded u) (units (n + n))))

    -- I + F has the rank of the residue
    pub rank_plus : rank (n + n) (identity_plus n F) ≡ rank (n + n) (residue n F)
    rank_plus =
        rank_plain (n + n) (identity_plus n F) ∙ ap length (reduced_unique (n + n) (identity_plus n F) (residue n F) plus_lt residue_lt ins outs) ∙ sym (rank_plain (n + n) (residue n F))
      where
        ins : All (InSpan 𝕎 (residue n F)) (identity_plus n F)
        ins =
            subst (All (InSpan 𝕎 (residue n F))) (sym (identity_plus_is n F size))
            (All-to_map (added n F) (InSpan 𝕎 (residue n F)) (units (n + n)) (All-any (λ u. residue_full u) (units (n + n))))

        outs : All (InSpan 𝕎 (identity_plus n F)) (residue n F)
        outs =
            subst (All (InSpan 𝕎 (identity_plus n F))) (sym residue_is)
            (All-to_map (λ u. added n F (swap_halves_lem n u)) (InSpan 𝕎 (identity_plus n F)) (units (n + n))
            (All-any (λ u. subst (InSpan 𝕎 (identity_plus n F)) (plus_times n F size (swap_halves_lem n u)) (times_in (swap_halves_lem n u) (identity_plus n F))) (units (n + n))))
