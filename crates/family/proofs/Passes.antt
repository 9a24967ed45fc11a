-- The bordered candidate of a symplectic action: it is always made, and its r + 1 vectors have the product of the action. Where the core
-- has no triangular basis it passes both checks.
-- Assumes nothing.
use mathlib.Core.Path.{◌≡◌, refl, sym, ap, ap₂, ◌∙◌, subst}
use mathlib.Core.Bool.{Bool, true, false, ◌&&◌, not}
use mathlib.Core.List.{List, [], ◌∷◌, map-map}
use mathlib.Core.Option.{Option, none, some}
use Prim.Native.Nat.{ℕ, suc, ◌+◌, ◌^◌, ◌<◌}
use native.Mathlib.Omega.{arith}
use lib.Dec.{eqb}
use lib.ListN.{length, length-map}
use borrow.Author.Tests.{eq-eqb, ne_eqb}
use Rattle.blocks.specs.Matrices.{times, units, All}
use Rattle.blocks.proofs.All.{All-map, All-map₂, All-any, All-to_map}
use Rattle.blocks.proofs.Products.{times_lt}
use Rattle.blocks.proofs.Units.{units_length, units_lt}
use Rattle.linear.specs.Span.{InSpan}
use Rattle.linear.specs.Triangular.{Tri}
use Rattle.linear.proofs.Exchange.{span_members}
use Rattle.linear.proofs.Instances.{𝔹, 𝕎, Prod}
use Rattle.linear.proofs.Maps.{span_map, span_unmap, zero_back}
use Rattle.linear.proofs.Rows.{units_indep, span_lt}
use Rattle.symplectic.specs.Turns.{product, symplectic}
use Rattle.symplectic.proofs.Lists.{true_all}
use Rattle.symplectic.proofs.Matches.{all_fit, known_matches}
use Rattle.symplectic.proofs.Pairings.{𝕡, nondegenerate}
use Rattle.symplectic.proofs.Layers.{added, residue_map}
use Rattle.symplectic.proofs.Wall.{Residue, φ_add, same_form}
use Rattle.reduction.specs.Columns.{rank}
use Rattle.reduction.proofs.Reduced.{indep_length, reduced_unique}
use Rattle.reduction.proofs.Transform.{rank_plain}
use Rattle.residue.specs.Residue.{basis, core, form}
use Rattle.residue.proofs.Core.{lift_sum, basis_lt, core_length}
use Rattle.residue.proofs.Coordinates.{lift, image, image_is, core_wall, images_indep, images_full, product_of_images}
use Rattle.residue.proofs.Forms.{form_of, form_right}
use Rattle.triangular.specs.Bases.{TriangularBasis}
use Rattle.triangular.proofs.Bases.{of_good}
use Rattle.triangular.proofs.Complete.{Is}
use Rattle.family.specs.Family.{bordered_family_lem, core_family, vectors, vectors_of, times_basis, bordered_list}
use Rattle.family.specs.Checks.{relation_sum, bordered_form, unit_lower, validate, verifies_bordered, both_checks, candidate_passes}
use Rattle.family.proofs.Sizes.{OneMore, family_size}
use Rattle.family.proofs.Whole.{Whole}
use Rattle.family.proofs.FamilyMade.{Basis, Bordered, family_made}
use Rattle.family.proofs.Relations.{Balanced, family_balanced}
use Rattle.family.proofs.Borders.{border_spans, border_product}

-- ---- the tests, from what they ask

lower_true : (E : ℕ → ℕ → Bool) (l : List (ℕ × Bool)) → Tri (bordered_form E) l → unit_lower E l ≡ true
unfolding unit_lower
lower_true E [] t = refl
lower_true E (a ∷ l) t =
    ap₂ ◌&&◌ t.0 (ap₂ ◌&&◌ (true_all (λ b. not (bordered_form E a b)) l (All-map (λ b e. ap not e) l t.1)) (lower_true E l t.2))

-- the rank of vectors that span all of r columns
full_rank : (r : ℕ) (vs : List ℕ) → All (λ v. v < 2 ^ r) vs → ((x : ℕ) → InSpan 𝕎 (units r) x → InSpan 𝕎 vs x) → All (InSpan 𝕎 (units r)) vs → rank r vs ≡ r
full_rank r vs low to back =
    rank_plain r vs ∙ ap length (reduced_unique r vs (units r) low (units_lt r) back (All-map to (units r) (span_members 𝕎 (units r))))
    ∙ indep_length r (units r) (units_lt r) (units_indep r) ∙ units_length r

-- ---- the bordered list

pub bordered_is : (n : ℕ) (F : List ℕ) → bordered_list n F ≡ times_basis n F (vectors_of (core_family (core n F)))
unfolding bordered_list
bordered_is n F = refl

-- what is multiplied by V has 2n columns
pub times_fits : (n : ℕ) (F : List ℕ) → length F ≡ n + n → All (λ f. f < 2 ^ (n + n)) F → (vs : List ℕ) → All (λ v. v < 2 ^ (n + n)) (times_basis n F vs)
times_fits n F size bounded vs =
    All-to_map (λ p. times p (basis n F)) (λ v. v < 2 ^ (n + n)) vs (All-any (times_lt (n + n) (basis n F) (basis_lt n F size bounded)) vs)

-- a list of r + 1 vectors of the action
pub record Bordering (n : ℕ) (F vs : List ℕ) : Type 0 where
  pub replays : product n vs ≡ F
  pub size : length vs ≡ suc (length (basis n F))
  pub fits : All (λ v. v < 2 ^ (n + n)) vs

module _ (n : ℕ) (F : List ℕ) (size : length F ≡ n + n) (bounded : All (λ f. f < 2 ^ (n + n)) F) (symp : symplectic n F ≡ true) where
  abbrev r : ℕ
  r = length (basis n F)

  abbrev us : List ℕ
  us = units (length (basis n F))

  abbrev E : ℕ → ℕ → Bool
  E = form (core n F)

  abbrev N : Residue 𝕎 (𝕡 n)
  N = residue_map n F size symp

  -- a vector of the space whose image is zero is zero
  image_zero : (x : ℕ) → InSpan 𝕎 us x → image n F size symp x ≡ 0 → x ≡ 0
  image_zero = zero_back 𝕎 𝕎 (image n F size symp) (φ_add 𝕎 (𝕡 n) N 𝕎 (lift n F) (lift_sum n F)) us (images_indep n F size symp)

  -- only zero has form zero with all: its image pairs to zero with all
  core_whole : Whole (form_of (core n F)) us
  core_whole x h k = image_zero x h (nondegenerate n (image n F size symp x) low (λ z _. pairs z))
    where
      low : image n F size symp x < 2 ^ (n + n)
      low = subst (λ t. t < 2 ^ (n + n)) (sym (image_is n F size symp x)) (times_lt (n + n) (basis n F) (basis_lt n F size bounded) x)

      pairs : (z : ℕ) → (𝕡 n).at (image n F size symp x) z ≡ false
      pairs z =
          let q = span_unmap 𝕎 𝕎 (image n F size symp) (φ_add 𝕎 (𝕡 n) N 𝕎 (lift n F) (lift_sum n F)) us (added n F z) (images_full n F size symp bounded z) in
          same_form 𝕎 (𝕡 n) N 𝕎 (lift n F) (lift_sum n F) (lift n F x) z (lift n F q.0) (sym q.2)
          ∙ ap (λ K. K x q.0) (core_wall n F size symp) ∙ k q.0 q.1

  -- ---- what is known of the family of the core

  by_rank : (P : Option (List (ℕ × Bool)) → Type 0) → P (bordered_family_lem E r us) → P (core_family (core n F))
  by_rank P = subst (λ d. P (bordered_family_lem E d (units d))) (sym (core_length n F))

  made : Bordered (form_of (core n F)) us (core_family (core n F))
  made = by_rank (Bordered (form_of (core n F)) us) (family_made (form_of (core n F)) r us (omega (arith, units_length r)) (units_indep r) core_whole)

  sized : OneMore r (core_family (core n F))
  sized = by_rank (OneMore r) (subst (λ d. OneMore d (bordered_family_lem E r us)) (units_length r) (family_size E r us))

  balanced : Balanced (core_family (core n F))
  balanced = by_rank Balanced (family_balanced E r us)

  -- ---- its list

  module _ (l : List (ℕ × Bool)) (b : Bordered (form_of (core n F)) us (some l)) (count : length l ≡ suc r) where
    one_more : length l ≡ suc (length us)
    one_more = count ∙ ap suc (sym (units_length r))

    list_replays : product n (times_basis n F (vectors l)) ≡ F
    list_replays =
        ap (product n) (map-map (λ p. times p (basis n F)) (λ a. a.0) l)
        ∙ product_of_images n F size symp (λ a. a.0) l
        (border_product 𝕎 (𝕡 n) N (lift n F) (lift_sum n F) us (images_full n F size symp bounded) l
        (subst (λ K. Tri (bordered_form K) l) (sym (core_wall n F size symp)) b.0) b.1 one_more)

    is_list : Bordering n F (times_basis n F (vectors l))
    is_list = record {
      replays = list_replays;
      size = length-map (vectors l) (λ p. times p (basis n F)) ∙ length-map l (λ a. a.0) ∙ count;
      fits = times_fits n F size bounded (vectors l);
    }

    -- ---- the two checks

    valid : Balanced (some l) → validate r E l ≡ true
    unfolding validate
    valid h =
        ap₂ ◌&&◌ (all_fit r (vectors l) low)
        (ap₂ ◌&&◌ (eq-eqb (length l) (suc r) count) (ap₂ ◌&&◌ h.0 (ap₂ ◌&&◌ (lower_true E l b.0)
        (ap₂ ◌&&◌ (eq-eqb (relation_sum l) 0 h.1) (eq-eqb (rank r (vectors l)) r (full_rank r (vectors l) low spans within))))))
      where
        within : All (InSpan 𝕎 us) (vectors l)
        within = All-to_map (λ a. a.0) (InSpan 𝕎 us) l b.1

        low : All (λ v. v < 2 ^ r) (vectors l)
        low = All-map (λ v k. span_lt r us (units_lt r) v k) (vectors l) within

        spans : (x : ℕ) → InSpan 𝕎 us x → InSpan 𝕎 (vectors l) x
        spans x k = span_map (Prod 𝕎 𝔹) 𝕎 (λ a. a.0) (λ y z. refl) l (x, false) (border_spans E (form_right (core n F)) us l b.0 b.1 one_more x false k)

    -- a zero among them would give a triangular basis
    verified : (TriangularBasis n F → ⊥) → verifies_bordered n F r (times_basis n F (vectors l)) ≡ true
    unfolding verifies_bordered
    verified fails =
        let vs = times_basis n F (vectors l) in
        ap₂ ◌&&◌ (eq-eqb (length vs) (suc r) is_list.size)
        (ap₂ ◌&&◌ (true_all (λ v. not (eqb v 0)) vs (All-map (λ v k. ap not (ne_eqb v 0 k)) vs nonzero)) (known_matches n F vs is_list.fits list_replays))
      where
        none_zero : (x : ℕ) → InSpan 𝕎 us x → (x ≡ 0 → Basis (form_of (core n F)) us) → times x (basis n F) ≡ 0 → ⊥
        none_zero x h g z =
            let k = g (image_zero x h (image_is n F size symp x ∙ z)) in
            fails (of_good n F k.0 (subst (λ d. Is (form_of (core n F)) d us k.0) (units_length r) k.1))

        nonzero : All (λ v. v ≡ 0 → ⊥) (times_basis n F (vectors l))
        nonzero =
            All-to_map (λ p. times p (basis n F)) (λ v. v ≡ 0 → ⊥) (vectors l)
            (All-to_map (λ a. a.0) (λ p. times p (basis n F) ≡ 0 → ⊥) l (All-map₂ (λ a h g. none_zero a.0 h g) l b.1 b.2))

  -- ---- for every symplectic action

  pub bordered_list_lem : Bordering n F (bordered_list n F)
  unfolding bordered_list vectors_of
  bordered_list_lem = go (core_family (core n F)) made sized
    where
      go : (out : Option (List (ℕ × Bool))) → Bordered (form_of (core n F)) us out → OneMore r out → Bordering n F (times_basis n F (vectors_of out))
      go none b e = absurd b
      go (some l) b e = is_list l b e

  pub vectors_size : length (vectors_of (core_family (core n F))) ≡ suc (length (basis n F))
  vectors_size =
      let vs = vectors_of (core_family (core n F)) in
      sym (length-map vs (λ p. times p (basis n F))) ∙ ap length (sym (bordered_is n F)) ∙ bordered_list_lem.size

  -- the construction never runs out of partners, nor of members to drop
  pub always_made : (core_family (core n F) ≡ none) → ⊥
  always_made e = subst (Bordered (form_of (core n F)) us) e made

  -- where the core has no triangular basis both checks are passed
  pub always_passes : (TriangularBasis n F → ⊥) → candidate_passes n F ≡ true
  unfolding candidate_passes
  always_passes fails = go (core_family (core n F)) made sized balanced
    where
      go : (out : Option (List (ℕ × Bool))) → Bordered (form_of (core n F)) us out → OneMore r out → Balanced out → both_checks n F out ≡ true
      go none b e h = absurd b
      go (some l) b e h = ap₂ ◌&&◌ (valid l b e h) (verified l b e fails)
