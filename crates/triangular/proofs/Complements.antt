-- What a draw passes on: the part of a span on which an additive test is zero, one shorter; and all members where none passes the test.
-- Assumes nothing.
use mathlib.Core.Path.{◌≡◌, refl, sym, ap, ap₂, ◌∙◌, subst}
use mathlib.Core.Bool.{Bool, true, false, true≢false}
use mathlib.Core.List.{List, [], ◌∷◌, ◌++◌, map}
use Prim.Native.Nat.{ℕ, zero, suc, ◌<◌, suc-le-suc, zero-le}
use native.Mathlib.Nat.{zero-lt-suc, not-suc-le-zero}
use lib.ListN.{length, length-map, get_or, take, drop}
use Rattle.binar.specs.Bits.{◌⊻◌, select, ◌⊕◌}
use Rattle.binar.proofs.Sums.{bxor_self}
use Rattle.blocks.specs.Matrices.{All}
use Rattle.blocks.proofs.Firsts.{First, first_later}
use Rattle.blocks.proofs.All.{All-map, All-to_map}
use Rattle.linear.specs.VectorSpace.{scale}
use Rattle.linear.specs.Span.{InSpan}
use Rattle.linear.specs.Maps.{Additive}
use Rattle.linear.proofs.Sums.{add-zero, cancel_right, swap4, scale_xor, scale_o}
use Rattle.linear.proofs.Exchange.{span_skip, span_head, span_members}
use Rattle.linear.proofs.Instances.{𝔹, 𝕎, scale_true}
use Rattle.linear.proofs.Maps.{map_o, map_at, span_map}
use Rattle.triangular.specs.Spaces.{drop_or_keep, complement}

-- ---- by an additive test

module _ (f : ℕ → Bool) (f-add : Additive 𝕎 𝔹 f) where
  -- y with m added where the test passes
  abbrev past : ℕ → ℕ → ℕ
  past m y = y ⊕ select 0 (f y) m

  at_plus_one : (x : ℕ) (c : Bool) (m : ℕ) → f m ≡ true → f (x ⊕ select 0 c m) ≡ f x ⊻ c
  at_plus_one x c m e = map_at 𝕎 𝔹 f f-add x c m ∙ ap (λ t. f x ⊻ t) (ap (scale 𝔹 c) e ∙ scale_true c)

  at_plus_none : (x : ℕ) (c : Bool) (m : ℕ) → f m ≡ false → f (x ⊕ select 0 c m) ≡ f x
  at_plus_none x c m e = map_at 𝕎 𝔹 f f-add x c m ∙ ap (λ t. f x ⊻ t) (ap (scale 𝔹 c) e ∙ scale_o 𝔹 c) ∙ add-zero 𝔹 (f x)

  past_add : (m : ℕ) → Additive 𝕎 𝕎 (past m)
  past_add m x y =
      ap (λ t. (x ⊕ y) ⊕ t) (ap (λ t. select 0 t m) (f-add x y) ∙ scale_xor 𝕎 (f x) (f y) m)
      ∙ swap4 𝕎 x y (select 0 (f x) m) (select 0 (f y) m)

  pub complement_in : (bs : List ℕ) → All (λ y. InSpan 𝕎 bs y × (f y ≡ false)) (complement f bs)
  unfolding complement
  complement_in [] = tt
  complement_in (m ∷ bs) = go (f m) refl (complement_in bs)
    where
      go : (b : Bool) → f m ≡ b → All (λ y. InSpan 𝕎 bs y × (f y ≡ false)) (complement f bs)
          → All (λ y. InSpan 𝕎 (m ∷ bs) y × (f y ≡ false)) (drop_or_keep b m (map (past m) bs) (complement f bs))
      go true e ih =
          All-to_map (past m) (λ y. InSpan 𝕎 (m ∷ bs) y × (f y ≡ false)) bs
          (All-map (λ y h. ((f y, rw (cancel_right 𝕎) h), at_plus_one y (f y) m e ∙ bxor_self (f y))) bs (span_members 𝕎 bs))
      go false e ih = ((span_head 𝕎 m bs, e), All-map (λ y h. (span_skip 𝕎 m bs y h.0, h.1)) (complement f bs) ih)

  pub complement_out : (bs : List ℕ) (x : ℕ) → f x ≡ false → InSpan 𝕎 bs x → InSpan 𝕎 (complement f bs) x
  unfolding complement
  complement_out [] x e h = h
  complement_out (m ∷ bs) x e (c, h) = go (f m) refl (λ g. complement_out bs (x ⊕ select 0 c m) g h)
    where
      go : (b : Bool) → f m ≡ b → (f (x ⊕ select 0 c m) ≡ false → InSpan 𝕎 (complement f bs) (x ⊕ select 0 c m))
          → InSpan 𝕎 (drop_or_keep b m (map (past m) bs) (complement f bs)) x
      go true g ih =
          subst (InSpan 𝕎 (map (past m) bs))
          (ap (λ t. (x ⊕ select 0 c m) ⊕ select 0 t m) (at_plus_one x c m g ∙ ap (λ t. t ⊻ c) e) ∙ cancel_right 𝕎 x (select 0 c m))
          (span_map 𝕎 𝕎 (past m) (past_add m) bs (x ⊕ select 0 c m) h)
      go false g ih = (c, ih (at_plus_none x c m g ∙ e))

  pub complement_length : (bs : List ℕ) (x : ℕ) → f x ≡ true → InSpan 𝕎 bs x → length bs ≡ suc (length (complement f bs))
  unfolding complement
  complement_length [] x e h = absurd (true≢false (sym e ∙ ap f h ∙ map_o 𝕎 𝔹 f f-add))
  complement_length (m ∷ bs) x e (c, h) = go (f m) refl (λ g. complement_length bs (x ⊕ select 0 c m) g h)
    where
      go : (b : Bool) → f m ≡ b → (f (x ⊕ select 0 c m) ≡ true → length bs ≡ suc (length (complement f bs)))
          → suc (length bs) ≡ suc (length (drop_or_keep b m (map (past m) bs) (complement f bs)))
      go true g ih = ap suc (sym (length-map bs (past m)))
      go false g ih = ap suc (ih (at_plus_none x c m g ∙ e))

-- ---- by its parts, and where no member passes the test

module _ (f : ℕ → Bool) where
  pub complement_nil : complement f [] ≡ []
  unfolding complement
  complement_nil = refl

  pub complement_cons : (m : ℕ) (bs : List ℕ) → complement f (m ∷ bs) ≡ drop_or_keep (f m) m (map (λ y. y ⊕ select 0 (f y) m) bs) (complement f bs)
  unfolding complement
  complement_cons m bs = refl

  pub complement_none : (bs : List ℕ) → ((i : ℕ) → i < length bs → f (get_or bs i 0) ≡ false) → complement f bs ≡ bs
  unfolding complement
  complement_none [] h = refl
  complement_none (m ∷ bs) h =
      ap₂ (λ b l. drop_or_keep b m (map (λ y. y ⊕ select 0 (f y) m) bs) l) (h zero (zero-lt-suc (length bs)))
      (complement_none bs (λ i l. h (suc i) (suc-le-suc l)))

  -- by the index j of the first member that passes
  pub complement_at : (bs : List ℕ) (j : ℕ) → First f 0 bs 0 j → complement f bs ≡ take j bs ++ map (λ y. y ⊕ select 0 (f y) (get_or bs j 0)) (drop (suc j) bs)
  unfolding complement
  complement_at [] j h = absurd (not-suc-le-zero h.inside)
  complement_at (m ∷ bs) zero h = ap (λ b. drop_or_keep b m (map (λ y. y ⊕ select 0 (f y) m) bs) (complement f bs)) h.at
  complement_at (m ∷ bs) (suc j) h =
      ap₂ (λ b l. drop_or_keep b m (map (λ y. y ⊕ select 0 (f y) m) bs) l) (h.before zero zero-le (zero-lt-suc j)) (complement_at bs j (first_later f 0 m bs j h))
