-- Transvections of any space with a pairing, and the action of a list of them: what it adds to a vector lies in the span of the list.
-- Assumes nothing.
use mathlib.Core.Path.{◌≡◌, refl, sym, ap, ap₂, ◌∙◌}
use mathlib.Core.Bool.{Bool, true, false}
use mathlib.Core.List.{List, [], ◌∷◌, ◌++◌, reverse, reverse-cons}
use Rattle.linear.specs.VectorSpace.{VectorSpace, scale}
use Rattle.binar.specs.Bits.{◌⊻◌}
use Rattle.linear.proofs.Sums.{add-zero, cancel_right, swap4, scale_xor, scale_o}
use Rattle.linear.specs.Span.{InSpan}
use Rattle.linear.proofs.Instances.{𝔹}
use Rattle.linear.specs.Maps.{Additive, Pairing}
use Rattle.linear.proofs.Maps.{pairing_left, map_at}

twice : (t a b : Bool) → (t ⊻ scale 𝔹 a b) ⊻ scale 𝔹 b a ≡ t
twice true true true = refl
twice true true false = refl
twice true false true = refl
twice true false false = refl
twice false true true = refl
twice false true false = refl
twice false false true = refl
twice false false false = refl

module _ (S : VectorSpace) (ω : Pairing S) where
  open S use {Car, add as ◌⊕◌, o, add_assoc, add_comm, add_self, zero-add}

  infixl 60 ◌⊕◌
  unfoldable pub transvection : Car → Car → Car
  transvection v u = u ⊕ scale S (ω.at u v) v

  pub turn_is : (v u : Car) → transvection v u ≡ u ⊕ scale S (ω.at u v) v
  unfolding transvection
  turn_is v u = refl

  -- the turns of a list, in order
  abbrev pub act : List Car → Car → Car
  act [] z = z
  act (v ∷ vs) z = act vs (transvection v z)

  pub turn_add : (v : Car) → Additive S S (transvection v)
  unfolding transvection
  turn_add v x y = rw (transvection, pairing_left S ω v x y, scale_xor S) (swap4 S x y (scale S (ω.at x v) v) (scale S (ω.at y v) v))

  pub act_add : (vs : List Car) → Additive S S (act vs)
  act_add [] x y = refl
  act_add (v ∷ vs) x y = rw (turn_add, act_add vs)

  pub at_turn : (u v y : Car) → ω.at (transvection v u) y ≡ ω.at u y ⊻ scale 𝔹 (ω.at u v) (ω.at v y)
  unfolding transvection
  at_turn u v y = map_at S 𝔹 (λ x. ω.at x y) (pairing_left S ω y) u (ω.at u v) v

  pub at_turn_self : (u v : Car) → ω.at (transvection v u) v ≡ ω.at u v
  at_turn_self u v = at_turn u v v ∙ rw (ω.self, scale_o 𝔹, add-zero 𝔹)

  pub turn_twice : (v u : Car) → transvection v (transvection v u) ≡ u
  unfolding transvection
  turn_twice v u = ap (λ c. transvection v u ⊕ scale S c v) (at_turn_self u v) ∙ cancel_right S u (scale S (ω.at u v) v)

  pub turn_pairs : (v x y : Car) → ω.at (transvection v x) (transvection v y) ≡ ω.at x y
  unfolding transvection
  turn_pairs v x y =
      map_at S 𝔹 (ω.at (transvection v x)) (ω.right (transvection v x)) y (ω.at y v) v
      ∙ ap₂ (λ a b. a ⊻ scale 𝔹 (ω.at y v) b) (at_turn x v y ∙ ap (λ b. ω.at x y ⊻ scale 𝔹 (ω.at x v) b) (ω.comm v y)) (at_turn_self x v)
      ∙ twice (ω.at x y) (ω.at x v) (ω.at y v)

  pub act_pairs : (vs : List Car) (x y : Car) → ω.at (act vs x) (act vs y) ≡ ω.at x y
  act_pairs [] x y = refl
  act_pairs (v ∷ vs) x y = act_pairs vs (transvection v x) (transvection v y) ∙ turn_pairs v x y

  -- what the product adds: the first vector as often as the pairing says, and the rest by those behind it
  pub act_head : (v : Car) (vs : List Car) (z : Car) → transvection v z ⊕ act vs (transvection v z) ≡ (z ⊕ act (v ∷ vs) z) ⊕ scale S (ω.at z v) v
  unfolding transvection
  act_head v vs z =
      add_assoc z (scale S (ω.at z v) v) (act vs (transvection v z)) ∙ ap (λ t. z ⊕ t) (add_comm (scale S (ω.at z v) v) (act vs (transvection v z)))
      ∙ sym (add_assoc z (act vs (transvection v z)) (scale S (ω.at z v) v))

  pub act_span : (vs : List Car) (z : Car) → InSpan S vs (z ⊕ act vs z)
  act_span [] z = add_self z
  act_span (v ∷ vs) z = (ω.at z v, rw act_head at (act_span vs (transvection v z)))

  pub act_tail : (v : Car) (vs : List Car) (z : Car) → InSpan S vs ((z ⊕ act (v ∷ vs) z) ⊕ scale S (ω.at z v) v)
  act_tail v vs z = rw act_head at (act_span vs (transvection v z))

  pub turn_none : (v z : Car) → ω.at z v ≡ false → transvection v z ≡ z
  unfolding transvection
  turn_none v z e = rw (transvection, e) (add-zero S z)

  -- a list in two parts
  pub act_append : (vs ws : List Car) (z : Car) → act (vs ++ ws) z ≡ act ws (act vs z)
  act_append [] ws z = refl
  act_append (v ∷ vs) ws z = act_append vs ws (transvection v z)

  -- a list and then its reverse
  pub act_reverse : (vs : List Car) (z : Car) → act (reverse vs) (act vs z) ≡ z
  act_reverse [] z = refl
  act_reverse (v ∷ vs) z =
      ap (λ l. act l (act vs (transvection v z))) (reverse-cons v vs) ∙ act_append (reverse vs) (v ∷ []) (act vs (transvection v z))
      ∙ ap (transvection v) (act_reverse vs (transvection v z)) ∙ turn_twice v z
