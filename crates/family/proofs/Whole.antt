-- A space on which no vector but zero has form zero with all, and what a vector with form one with itself leaves of it: one member less,
-- independent, and again such a space.
-- Assumes nothing.
use mathlib.Core.Path.{◌≡◌, refl, sym, ap, ap₂, ◌∙◌}
use mathlib.Core.Bool.{Bool, true, false}
use mathlib.Core.List.{List, ◌∷◌}
use Prim.Native.Nat.{ℕ, suc}
use native.Mathlib.Omega.{arith}
use lib.ListN.{length}
use Rattle.binar.specs.Bits.{◌⊻◌, select, ◌⊕◌}
use Rattle.binar.proofs.Sums.{bxor_self}
use Rattle.blocks.proofs.All.{All-map}
use Rattle.linear.specs.VectorSpace.{scale}
use Rattle.linear.specs.Span.{InSpan, Indep}
use Rattle.linear.specs.Maps.{Form}
use Rattle.linear.proofs.Sums.{eq_of_sum, scale_o}
use Rattle.linear.proofs.Exchange.{span_add, span_scale, span_members, span_trans, steinitz_indep}
use Rattle.linear.proofs.Instances.{𝔹, 𝕎, scale_true}
use Rattle.linear.proofs.Maps.{map_at, map_scale, span_kernel}
use Rattle.triangular.specs.Spaces.{complement}
use Rattle.triangular.proofs.Complements.{complement_in, complement_out, complement_length}
use Rattle.family.specs.Family.{any_of}
use Rattle.family.proofs.Peeling.{any_keeps}

module _ (F : Form 𝕎) where
  -- no member of the span but zero has form zero with all the span
  abbrev pub Whole : List ℕ → Type 0
  Whole bs = (x : ℕ) → InSpan 𝕎 bs x → ((y : ℕ) → InSpan 𝕎 bs y → F.at x y ≡ false) → x ≡ 0

  -- ---- a vector that is peeled

  module _ (bs : List ℕ) (p : ℕ) (e : F.at p p ≡ true) (h : InSpan 𝕎 bs p) where
    abbrev cs : List ℕ
    cs = complement (F.at p) bs

    pub one_less : length bs ≡ suc (length (complement (F.at p) bs))
    one_less = complement_length (F.at p) (F.right p) bs p e h

    -- a member is dropped
    pub drops : any_of (F.at p) bs ≡ true
    drops = go (any_of (F.at p) bs) refl
      where
        go : (b : Bool) → any_of (F.at p) bs ≡ b → b ≡ true
        go true k = refl
        go false k = absurd (omega (arith, one_less, ap length (any_keeps (F.at p) bs k)))

    pub in_space : (x : ℕ) → InSpan 𝕎 (complement (F.at p) bs) x → InSpan 𝕎 bs x
    in_space x k = span_trans 𝕎 cs bs x (All-map (λ z m. m.0) cs (complement_in (F.at p) (F.right p) bs)) k

    pub zero_with : (x : ℕ) → InSpan 𝕎 (complement (F.at p) bs) x → F.at p x ≡ false
    zero_with x k = span_kernel 𝕎 𝔹 (F.at p) (F.right p) cs (All-map (λ z m. m.1) cs (complement_in (F.at p) (F.right p) bs)) x k

    -- adding p where the form is one makes it zero
    clears : (c : Bool) → c ⊻ scale 𝔹 c (F.at p p) ≡ false
    clears c = ap (λ t. c ⊻ t) (ap (scale 𝔹 c) e ∙ scale_true c) ∙ bxor_self c

    -- each vector is one of the rest, and p or not
    parts : (y : ℕ) → InSpan 𝕎 bs y → InSpan 𝕎 (p ∷ cs) y
    parts y k = (
      F.at p y,
      complement_out (F.at p) (F.right p) bs (y ⊕ select 0 (F.at p y) p)
          (map_at 𝕎 𝔹 (F.at p) (F.right p) y (F.at p y) p ∙ clears (F.at p y))
          (span_add 𝕎 bs y (select 0 (F.at p y) p) k (span_scale 𝕎 bs (F.at p y) p h)),
    )

    pub rest_indep : Indep 𝕎 bs → Indep 𝕎 (complement (F.at p) bs)
    rest_indep i = (steinitz_indep 𝕎 (p ∷ cs) bs i (All-map parts bs (span_members 𝕎 bs)) one_less).1

    pub rest_whole : Whole bs → Whole (complement (F.at p) bs)
    rest_whole w x k z = eq_of_sum 𝕎 x (select 0 (F.at x p) p) none ∙ ap (λ t. select 0 t p) zero
      where
        x' : ℕ
        x' = x ⊕ select 0 (F.at x p) p

        at_left : (y : ℕ) → F.at x' y ≡ F.at x y ⊻ scale 𝔹 (F.at x p) (F.at p y)
        at_left y = map_at 𝕎 𝔹 (λ t. F.at t y) (F.left y) x (F.at x p) p

        none : x' ≡ 0
        none =
            w x' (span_add 𝕎 bs x (select 0 (F.at x p) p) (in_space x k) (span_scale 𝕎 bs (F.at x p) p h))
            (λ y m. span_kernel 𝕎 𝔹 (F.at x') (F.right x') (p ∷ cs) (
              at_left p ∙ clears (F.at x p),
              All-map (λ y l. at_left y ∙ ap₂ (λ s t. s ⊻ scale 𝔹 (F.at x p) t) (z y l) (zero_with y l) ∙ scale_o 𝔹 (F.at x p)) cs (span_members 𝕎 cs),
            )
            y (parts y m))

        zero : F.at x p ≡ false
        zero =
            sym (scale_true (F.at x p)) ∙ ap (scale 𝔹 (F.at x p)) (sym e) ∙ sym (map_scale 𝕎 𝔹 (F.at p) (F.right p) (F.at x p) p)
            ∙ ap (F.at p) (sym (eq_of_sum 𝕎 x (select 0 (F.at x p) p) none)) ∙ zero_with x k
