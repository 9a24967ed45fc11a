-- Laws of the sum in a space, and of a member taken or left out by a bit.
-- Assumes nothing.
use mathlib.Core.Path.{◌≡◌, refl, sym, ap, ◌∙◌}
use mathlib.Core.Bool.{Bool, true, false}
use Rattle.binar.specs.Bits.{◌⊻◌}
use Rattle.linear.specs.VectorSpace.{VectorSpace, scale}

module _ (S : VectorSpace) where
  open S use {Car, add as ◌⊕◌, o, add_assoc, add_comm, add_self, zero-add}

  infixl 60 ◌⊕◌
  pub add-zero : (x : Car) → x ⊕ o ≡ x
  add-zero x = add_comm x o ∙ zero-add x

  pub left_comm : (x y z : Car) → x ⊕ (y ⊕ z) ≡ y ⊕ (x ⊕ z)
  left_comm x y z = sym (add_assoc x y z) ∙ ap (λ t. t ⊕ z) (add_comm x y) ∙ add_assoc y x z

  pub self_left : (x y : Car) → x ⊕ (x ⊕ y) ≡ y
  self_left x y = sym (add_assoc x x y) ∙ ap (λ t. t ⊕ y) (add_self x) ∙ zero-add y

  -- what is added twice is gone
  pub cancel_right : (x y : Car) → (x ⊕ y) ⊕ y ≡ x
  cancel_right x y = add_assoc x y y ∙ ap (λ t. x ⊕ t) (add_self y) ∙ add-zero x

  pub swap4 : (a b c d : Car) → (a ⊕ b) ⊕ (c ⊕ d) ≡ (a ⊕ c) ⊕ (b ⊕ d)
  swap4 a b c d = simp (add_assoc, left_comm)

  pub eq_of_sum : (x y : Car) → x ⊕ y ≡ o → x ≡ y
  eq_of_sum x y e = sym (cancel_right x y) ∙ ap (λ t. t ⊕ y) e ∙ zero-add y

  pub scale_xor : (a b : Bool) (v : Car) → scale S (a ⊻ b) v ≡ scale S a v ⊕ scale S b v
  scale_xor true true v = sym (add_self v)
  scale_xor true false v = sym (add-zero v)
  scale_xor false b v = sym (zero-add (scale S b v))

  pub scale_o : (c : Bool) → scale S c o ≡ o
  scale_o true = refl
  scale_o false = refl

  pub solve4 : (a b c d : Car) → (a ⊕ b) ⊕ (c ⊕ d) ≡ a → d ≡ c ⊕ b
  solve4 a b c d e = sym whole ∙ ap (λ t. t ⊕ (a ⊕ (b ⊕ c))) e ∙ self_left a (b ⊕ c) ∙ add_comm b c
    where
      whole : ((a ⊕ b) ⊕ (c ⊕ d)) ⊕ (a ⊕ (b ⊕ c)) ≡ d
      whole = simp (add_assoc, add_comm, left_comm, self_left)
