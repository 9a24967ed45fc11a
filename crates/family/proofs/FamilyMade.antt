-- The family of a space on which no vector but zero has form zero with all: it is made, of vectors of the space, and triangular for the
-- form with the bits of the relation. Where one of its vectors is zero there is a triangular basis.
-- Assumes nothing.
use mathlib.Core.Path.{◌≡◌, sym, ap, ◌∙◌, subst}
use mathlib.Core.Bool.{Bool, true, false, true≢false}
use mathlib.Core.List.{List, [], ◌∷◌, map}
use mathlib.Core.Option.{Option, none, some}
use Prim.Native.Nat.{ℕ, zero, suc, ◌≤◌}
use native.Mathlib.Nat.{le_refl}
use native.Mathlib.Omega.{arith}
use lib.ListN.{length}
use Rattle.binar.specs.Bits.{◌⊻◌, ◌⊕◌}
use Rattle.blocks.specs.Matrices.{All}
use Rattle.blocks.proofs.All.{All-map, All-to_map}
use Rattle.linear.specs.Span.{InSpan, Indep}
use Rattle.linear.specs.Maps.{Form}
use Rattle.linear.specs.Triangular.{Tri}
use Rattle.linear.proofs.Instances.{𝔹, 𝕎}
use Rattle.linear.proofs.Maps.{map_o}
use Rattle.symplectic.specs.Picks.{map_some, pick}
use Rattle.symplectic.proofs.Picked.{Even, Picked, picked}
use Rattle.triangular.specs.Spaces.{complement}
use Rattle.triangular.proofs.Complete.{Is, cons_is}
use Rattle.family.specs.Family.{symplectic_simplex_lem, related, any_of, passed_on, peeled, bordered_family_lem}
use Rattle.family.proofs.Sizes.{OneMore, simplex_size}
use Rattle.family.specs.Checks.{bordered_form}
use Rattle.family.proofs.Whole.{Whole, drops, one_less, in_space, zero_with, rest_indep, rest_whole}
use Rattle.family.proofs.SimplexMade.{Ones, Simplex, simplex_made}

module _ (F : Form 𝕎) where
  -- a triangular basis of the space
  abbrev pub Basis : List ℕ → Type 0
  Basis bs = (ps : List ℕ) × Is F (length bs) bs ps

  abbrev pub Bordered : List ℕ → Option (List (ℕ × Bool)) → Type 0
  Bordered bs none = ⊥
  Bordered bs (some l) = Tri (bordered_form F.at) l × All (λ x. InSpan 𝕎 bs x.0) l × All (λ x. x.0 ≡ 0 → Basis bs) l

  -- what has form one with something is not zero
  not_left : (x y : ℕ) → F.at x y ≡ true → x ≡ 0 → ⊥
  not_left x y e z = true≢false (sym e ∙ ap (λ t. F.at t y) z ∙ map_o 𝕎 𝔹 (λ t. F.at t y) (F.left y))

  not_right : (x y : ℕ) → F.at x y ≡ true → y ≡ 0 → ⊥
  not_right x y e z = true≢false (sym e ∙ ap (F.at x) z ∙ map_o 𝕎 𝔹 (F.at x) (F.right x))

  -- ---- the simplex, in the relation

  tri_of_ones : (bs vs : List ℕ) → Even 𝕎 F bs → All (InSpan 𝕎 bs) vs → Ones F vs → Tri (bordered_form F.at) (map (λ v. (v, true)) vs)
  tri_of_ones bs [] a h o = tt
  tri_of_ones bs (v ∷ vs) a h o = (
    ap (λ t. t ⊻ true) (a v h.0),
    All-to_map (λ v. (v, true)) (λ x. bordered_form F.at (v, true) x ≡ false) vs (All-map (λ x e. ap (λ t. t ⊻ true) e) vs o.0),
    tri_of_ones bs vs a h.1 o.1,
  )

  -- only the empty space's has a zero
  ones_zero : (k : ℕ) (vs : List ℕ) → Ones F vs → length vs ≡ suc k → All (λ v. v ≡ 0 → k ≡ 0) vs
  ones_zero k [] h e = tt
  ones_zero k (v ∷ []) h e = (λ _. omega arith, tt)
  ones_zero k (v ∷ w ∷ ws) h e = (λ z. absurd (not_left v w h.0.0 z), All-map (λ x d z. absurd (not_right v x d z)) (w ∷ ws) h.0)

  empty_basis : (bs : List ℕ) → length bs ≡ 0 → Basis bs
  empty_basis bs e = ([], (tt, tt, sym e))

  simplex_bordered : (bs : List ℕ) → Even 𝕎 F bs → (out : Option (List ℕ)) → Simplex F bs out → OneMore (length bs) out → Bordered bs (related F.at out)
  simplex_bordered bs a none h e = h
  simplex_bordered bs a (some vs) h e = (
    tri_of_ones bs vs a h.0 h.1,
    All-to_map (λ v. (v, true)) (λ x. InSpan 𝕎 bs x.0) vs h.0,
    All-to_map (λ v. (v, true)) (λ x. x.0 ≡ 0 → Basis bs) vs (All-map (λ v k z. empty_basis bs (k z)) vs (ones_zero (length bs) vs h.1 e)),
  )

  on_alternating : (bs : List ℕ) → Even 𝕎 F bs → Indep 𝕎 bs → Whole F bs → Bordered bs (related F.at (symplectic_simplex_lem F.at (length bs) bs))
  on_alternating bs a i w =
      simplex_bordered bs a (symplectic_simplex_lem F.at (length bs) bs) (simplex_made F (length bs) bs (le_refl (length bs)) a i w) (simplex_size F.at (length bs) bs)

  -- ---- a peeled vector before the family of the rest

  module _ (bs : List ℕ) (p : ℕ) (e : F.at p p ≡ true) (h : InSpan 𝕎 bs p) where
    abbrev cs : List ℕ
    cs = complement (F.at p) bs

    basis_before : Basis cs → Basis bs
    basis_before g = (p ∷ g.0, subst (λ d. Is F d bs (p ∷ g.0)) (sym (one_less F bs p e h)) (cons_is F (length cs) bs p g.0 e h g.1))

    peel_before : (out : Option (List (ℕ × Bool))) → Bordered cs out → Bordered bs (map_some (λ l. (p, false) ∷ l) out)
    peel_before none b = b
    peel_before (some l) b = (
      (ap (λ t. t ⊻ false) e, All-map (λ x k. ap (λ t. t ⊻ false) (zero_with F bs p e h x.0 k)) l b.1, b.0),
      (h, All-map (λ x k. in_space F bs p e h x.0 k) l b.1),
      (λ z. absurd (not_left p p e z), All-map (λ x k z. basis_before (k z)) l b.2),
    )

    peel_passed : (go : List ℕ → Option (List (ℕ × Bool))) → Bordered cs (go cs)
        → Bordered bs (map_some (λ l. (p, false) ∷ l) (passed_on F.at (any_of (F.at p) bs) go cs))
    peel_passed go b =
        subst (λ c. Bordered bs (map_some (λ l. (p, false) ∷ l) (passed_on F.at c go cs))) (sym (drops F bs p e h)) (peel_before (go cs) b)

  -- ---- the family

  pub family_made : (k : ℕ) (bs : List ℕ) → length bs ≤ k → Indep 𝕎 bs → Whole F bs → Bordered bs (bordered_family_lem F.at k bs)
  unfolding bordered_family_lem peeled
  family_made zero bs l i w = on_alternating bs (even_nil bs l) i w
    where
      even_nil : (bs : List ℕ) → length bs ≤ 0 → Even 𝕎 F bs
      even_nil [] l x h = ap (F.at x) h ∙ map_o 𝕎 𝔹 (F.at x) (F.right x)
      even_nil (b ∷ bs) l x h = absurd (omega arith)
  family_made (suc k) bs l i w = by (pick ◌⊕◌ F.at bs) (picked 𝕎 F bs) (family_made k)
    where
      by : (out : Option ℕ) → Picked 𝕎 F bs (Even 𝕎 F bs) out → ((cs : List ℕ) → length cs ≤ k → Indep 𝕎 cs → Whole F cs → Bordered cs (bordered_family_lem F.at k cs))
          → Bordered bs (peeled F.at bs (bordered_family_lem F.at k) out)
      by none a ih = on_alternating bs a i w
      by (some p) h ih =
          let cs = complement (F.at p) bs in
          peel_passed bs p h.0 h.1 (bordered_family_lem F.at k)
          (ih cs (omega (arith, one_less F bs p h.0 h.1)) (rest_indep F bs p h.0 h.1 i) (rest_whole F bs p h.0 h.1 w))
