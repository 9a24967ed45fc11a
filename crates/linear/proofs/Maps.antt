-- What additive maps do to zero, to spans and to independent lists, and a pairing's other argument.
-- Assumes nothing.
use mathlib.Core.Path.{◌≡◌, refl, sym, ap, ap₂, ◌∙◌, subst}
use mathlib.Core.Bool.{Bool, true, false, true≢false, false≢true, beq}
use mathlib.Core.List.{List, [], ◌∷◌, map}
use Rattle.binar.specs.Bits.{◌⊻◌}
use Rattle.blocks.specs.Matrices.{All}
use Rattle.linear.specs.VectorSpace.{VectorSpace, scale}
use Rattle.linear.specs.Span.{InSpan, Indep}
use Rattle.linear.specs.Maps.{Additive, Pairing}
use Rattle.linear.specs.Triangular.{Tri}
use Rattle.linear.proofs.Sums.{add-zero, scale_o, cancel_right}
use Rattle.linear.proofs.Instances.{𝔹}

pub same_of_beq : (a b : Bool) → beq a b ≡ true → a ≡ b
same_of_beq true true e = refl
same_of_beq true false e = absurd (false≢true e)
same_of_beq false true e = absurd (false≢true e)
same_of_beq false false e = refl

module _ (S T : VectorSpace) (f : S.Car → T.Car) (f-add : Additive S T f) where
  pub map_o : f S.o ≡ T.o
  map_o =
      sym (cancel_right T (f S.o) (f S.o)) ∙ ap (λ t. T.add t (f S.o)) (sym (f-add S.o S.o) ∙ ap f (S.zero-add S.o))
      ∙ T.add_self (f S.o)

  pub map_scale : (c : Bool) (v : S.Car) → f (scale S c v) ≡ scale T c (f v)
  map_scale true v = refl
  map_scale false v = map_o

  pub map_at : (x : S.Car) (c : Bool) (v : S.Car) → f (S.add x (scale S c v)) ≡ T.add (f x) (scale T c (f v))
  map_at x c v = f-add x (scale S c v) ∙ ap (T.add (f x)) (map_scale c v)

  -- the map takes a span to the span of the images, and back
  pub span_map : (vs : List S.Car) (x : S.Car) → InSpan S vs x → InSpan T (map f vs) (f x)
  span_map [] x h = rw h map_o
  span_map (v ∷ vs) x (c, h) = (c, rw map_at at (span_map vs (S.add x (scale S c v)) h))

  pub span_unmap : (vs : List S.Car) (y : T.Car) → InSpan T (map f vs) y → (x : S.Car) × InSpan S vs x × (f x ≡ y)
  span_unmap [] y h = (S.o, refl, map_o ∙ sym h)
  span_unmap (v ∷ vs) y (c, h) =
      let r = span_unmap vs (T.add y (scale T c (f v))) h in (
        S.add r.0 (scale S c v),
        (c, rw (cancel_right S) r.1),
        map_at r.0 c v ∙ ap (λ t. T.add t (scale T c (f v))) r.2 ∙ cancel_right T y (scale T c (f v)),
      )

  -- what is zero on each member is zero on the span
  pub span_kernel : (vs : List S.Car) → All (λ v. f v ≡ T.o) vs → (x : S.Car) → InSpan S vs x → f x ≡ T.o
  span_kernel [] a x h = rw h map_o
  span_kernel (v ∷ vs) a x (c, h) =
      let e : T.add (f x) (scale T c (f v)) ≡ T.o = sym (map_at x c v) ∙ span_kernel vs a.1 (S.add x (scale S c v)) h in
      rw (a.0, scale_o T, add-zero T) at e

  -- a map that takes no two members to one keeps independence
  pub indep_map : ((x y : S.Car) → f x ≡ f y → x ≡ y) → (vs : List S.Car) → Indep S vs → Indep T (map f vs)
  indep_map inj [] i = tt
  indep_map inj (v ∷ vs) i = (
    λ h. let r = span_unmap vs (f v) h in i.0 (subst (InSpan S vs) (inj r.0 v r.2) r.1),
    indep_map inj vs i.1,
  )

  -- in the span of a list whose images are independent only zero goes to zero
  pub zero_back : (vs : List S.Car) → Indep T (map f vs) → (x : S.Car) → InSpan S vs x → f x ≡ T.o → x ≡ S.o
  zero_back [] i x h e = h
  zero_back (v ∷ vs) i x (true, h) e =
      absurd (i.0 (subst (InSpan T (map f vs)) (f-add x v ∙ ap (λ t. T.add t (f v)) e ∙ T.zero-add (f v)) (span_map vs (S.add x v) h)))
  zero_back (v ∷ vs) i x (false, h) e = zero_back vs i.1 x (rw (add-zero S) at h) e

pub pairing_left : (S : VectorSpace) (ω : Pairing S) (y : S.Car) → Additive S 𝔹 (λ x. ω.at x y)
pairing_left S ω y a b = ω.comm (S.add a b) y ∙ ω.right y a b ∙ ap₂ ◌⊻◌ (ω.comm y a) (ω.comm y b)

-- a triangular list is independent
pub tri_indep : (S : VectorSpace) (K : S.Car → S.Car → Bool) → ((p : S.Car) → Additive S 𝔹 (K p)) → (ps : List S.Car) → Tri K ps → Indep S ps
tri_indep S K K-right [] t = tt
tri_indep S K K-right (p ∷ ps) t = (λ h. true≢false (sym t.0 ∙ span_kernel S 𝔹 (K p) (K-right p) ps t.1 p h), tri_indep S K K-right ps t.2)
