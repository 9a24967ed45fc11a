-- What r + 1 vectors of a space of dimension r, triangular for the form with their bits of the relation, are worth: with their bits they
-- span the space with one dimension more, so they span the space; and the turns of their images have the product of the action.
-- Assumes nothing.
use mathlib.Core.Path.{◌≡◌, refl, sym, ap, ap₂, ◌∙◌, subst}
use mathlib.Core.Bool.{Bool, true, false, ◌&&◌, and-false}
use mathlib.Core.List.{List, ◌∷◌, map}
use Prim.Native.Nat.{ℕ, suc}
use lib.ListN.{length, length-map}
use Rattle.binar.specs.Bits.{◌⊻◌}
use Rattle.blocks.specs.Matrices.{All}
use Rattle.blocks.proofs.All.{All-map, All-any}
use Rattle.linear.specs.VectorSpace.{VectorSpace, scale}
use Rattle.linear.specs.Span.{InSpan}
use Rattle.linear.specs.Maps.{Additive, Pairing}
use Rattle.linear.specs.Triangular.{Tri}
use Rattle.linear.proofs.Sums.{add-zero, swap4}
use Rattle.linear.proofs.Exchange.{steinitz_span}
use Rattle.linear.proofs.Instances.{𝔹, 𝕎, Prod}
use Rattle.linear.proofs.Maps.{span_map, span_unmap, tri_indep}
use Rattle.symplectic.proofs.Wall.{Residue, φ, φ_add, core, core_right, core_sum, same_form, Adds, act_of_tri}
use Rattle.family.specs.Checks.{bordered_form}

-- ---- the span

and_sum : (a b c : Bool) → a && (b ⊻ c) ≡ (a && b) ⊻ (a && c)
and_sum true b c = refl
and_sum false b c = refl

border_right : (E : ℕ → ℕ → Bool) → ((p : ℕ) → Additive 𝕎 𝔹 (E p)) → (x : ℕ × Bool) → Additive (Prod 𝕎 𝔹) 𝔹 (bordered_form E x)
border_right E right x y z =
    ap₂ ◌⊻◌ (right x.0 y.0 z.0) (and_sum x.1 y.1 z.1)
    ∙ swap4 𝔹 (E x.0 y.0) (E x.0 z.0) (x.1 && y.1) (x.1 && z.1)

-- a space with one dimension more, for the bit
wider : List ℕ → List (ℕ × Bool)
wider bs = (0, true) ∷ map (λ b. (b, false)) bs

in_wider : (bs : List ℕ) (p : ℕ) (a : Bool) → InSpan 𝕎 bs p → InSpan (Prod 𝕎 𝔹) (wider bs) (p, a)
unfolding wider
in_wider bs p a h = (a, subst (InSpan (Prod 𝕎 𝔹) (map (λ b. (b, false)) bs)) (split a) (span_map 𝕎 (Prod 𝕎 𝔹) (λ b. (b, false)) (λ x y. refl) bs p h))
  where
    split : (a : Bool) → (p, false) ≡ (Prod 𝕎 𝔹).add (p, a) (scale (Prod 𝕎 𝔹) a (0, true))
    split true = λ i. (sym (add-zero 𝕎 p) i, false)
    split false = λ i. (sym (add-zero 𝕎 p) i, false)

pub border_spans : (E : ℕ → ℕ → Bool) → ((p : ℕ) → Additive 𝕎 𝔹 (E p)) → (bs : List ℕ) (l : List (ℕ × Bool)) → Tri (bordered_form E) l
    → All (λ x. InSpan 𝕎 bs x.0) l → length l ≡ suc (length bs) → (p : ℕ) (a : Bool) → InSpan 𝕎 bs p → InSpan (Prod 𝕎 𝔹) l (p, a)
unfolding wider
border_spans E right bs l t w e p a h =
    steinitz_span (Prod 𝕎 𝔹) (wider bs) l (tri_indep (Prod 𝕎 𝔹) (bordered_form E) (border_right E right) l t)
    (All-map (λ x k. in_wider bs x.0 x.1 k) l w) (e ∙ ap suc (sym (length-map bs (λ b. (b, false))))) (p, a) (in_wider bs p a h)

-- ---- the product

module _ (S : VectorSpace) (ω : Pairing S) (N : Residue S ω) (ψ : ℕ → S.Car) (ψ-add : Additive 𝕎 S ψ) where
  abbrev E : ℕ → ℕ → Bool
  E = core S ω N 𝕎 ψ ψ-add

  abbrev image : ℕ × Bool → S.Car
  image x = φ S ω N 𝕎 ψ ψ-add x.0

  image_add : Additive (Prod 𝕎 𝔹) S image
  image_add x y = φ_add S ω N 𝕎 ψ ψ-add x.0 y.0

  right : (x : ℕ × Bool) → Additive (Prod 𝕎 𝔹) 𝔹 (bordered_form E x)
  right = border_right E (core_right S ω N 𝕎 ψ ψ-add)

  -- the bits add the same to both
  both : (x y : ℕ × Bool) → ω.at (image x) (image y) ≡ bordered_form E x y ⊻ bordered_form E y x
  both x y = core_sum S ω N 𝕎 ψ ψ-add x.0 y.0 ∙ bits (E x.0 y.0) (E y.0 x.0) x.1 y.1
    where
      bits : (e f a b : Bool) → e ⊻ f ≡ (e ⊻ (a && b)) ⊻ (f ⊻ (b && a))
      bits e f true true = sym (swap4 𝔹 e true f true ∙ add-zero 𝔹 (e ⊻ f))
      bits e f true false = sym (ap₂ ◌⊻◌ (add-zero 𝔹 e) (add-zero 𝔹 f))
      bits e f false true = sym (ap₂ ◌⊻◌ (add-zero 𝔹 e) (add-zero 𝔹 f))
      bits e f false false = sym (ap₂ ◌⊻◌ (add-zero 𝔹 e) (add-zero 𝔹 f))

  pub border_product : (bs : List ℕ) → ((z : S.Car) → InSpan S (map (φ S ω N 𝕎 ψ ψ-add) bs) (N.of z)) → (l : List (ℕ × Bool))
      → Tri (bordered_form (core S ω N 𝕎 ψ ψ-add)) l → All (λ x. InSpan 𝕎 bs x.0) l → length l ≡ suc (length bs)
      → Adds S ω N 𝕎 ψ ψ-add (map (λ x. φ S ω N 𝕎 ψ ψ-add x.0) l)
  border_product bs full l t w e z =
      let q = span_unmap 𝕎 S (φ S ω N 𝕎 ψ ψ-add) (φ_add S ω N 𝕎 ψ ψ-add) bs (N.of z) (full z) in
      act_of_tri S ω (Prod 𝕎 𝔹) image image_add (bordered_form E) right both l t (q.0, false)
      (border_spans E (core_right S ω N 𝕎 ψ ψ-add) bs l t w e q.0 false q.1) z (All-any (λ x. at x q.0 q.2) l)
      ∙ ap (λ t. S.add z t) q.2
    where
      at : (x : ℕ × Bool) (q : ℕ) → φ S ω N 𝕎 ψ ψ-add q ≡ N.of z → ω.at (image x) z ≡ bordered_form E x (q, false)
      at x q e = same_form S ω N 𝕎 ψ ψ-add (ψ x.0) z (ψ q) (sym e) ∙ sym (ap (λ t. E x.0 q ⊻ t) (and-false x.1) ∙ add-zero 𝔹 (E x.0 q))
