-- An action followed by the turn of a vector that it adds: what it adds then, and how many vectors have the images that span it.
-- Assumes nothing.
use mathlib.Core.Path.{◌≡◌, refl, sym, ap, ap₂, ◌∙◌, subst}
use mathlib.Core.Bool.{Bool, true, false, true≢false}
use mathlib.Core.List.{List, [], ◌∷◌, map}
use Prim.Native.Nat.{suc}
use lib.ListN.{length}
use Rattle.binar.specs.Bits.{◌⊻◌}
use Rattle.linear.specs.VectorSpace.{VectorSpace, scale}
use Rattle.linear.specs.Span.{InSpan}
use Rattle.linear.specs.Maps.{Additive, Pairing}
use Rattle.linear.proofs.Sums.{add-zero, left_comm, self_left, scale_o}
use Rattle.linear.proofs.Instances.{𝔹}
use Rattle.linear.proofs.Exchange.{span_add, span_skip}
use Rattle.linear.proofs.Maps.{map_at, map_o, span_map, span_unmap, pairing_left}
use Rattle.symplectic.proofs.Wall.{Residue, same_form}

-- the images of the members span all the images
abbrev pub Full : (S : VectorSpace) → (S.Car → S.Car) → List S.Car → Type 0
Full S f zs = (z : S.Car) → InSpan S (map f zs) (f z)

module _ (S : VectorSpace) where
  open S use {Car, add as ◌⊕◌, o, add_assoc, add_comm, add_self}

  infixl 60 ◌⊕◌
  -- ---- x in the place of a member

  record Swapped (f : Car → Car) (zs : List Car) (x : Car) : Type 0 where
    rest : List Car
    less : length zs ≡ suc (length rest)
    holds : (y : Car) → InSpan S (map f zs) y → InSpan S (f x ∷ map f rest) y

  put_in : (ws : List Car) (w v y : Car) (c : Bool) → InSpan S ws (v ⊕ w) → InSpan S ws (y ⊕ scale S c w) → InSpan S (v ∷ ws) y
  put_in ws w v y false h k = span_skip S v ws y (rw (add-zero S) at k)
  put_in ws w v y true h k = (true, rw both at (span_add S ws (y ⊕ w) (v ⊕ w) k h))
    where
      both : (y ⊕ w) ⊕ (v ⊕ w) ≡ y ⊕ v
      both = simp (add_assoc, add_comm, left_comm S, self_left S)

  swap_in : (f : Car → Car) (zs : List Car) (x : Car) → InSpan S (map f zs) (f x) → (f x ≡ o → ⊥) → Swapped f zs x
  swap_in f [] x h n = absurd (n h)
  swap_in f (z ∷ zs) x (true, h) n = record { rest = zs; less = refl; holds = λ y k. put_in (map f zs) (f z) (f x) y k.0 h k.1 }
  swap_in f (z ∷ zs) x (false, h) n =
      let r = swap_in f zs x (rw (add-zero S) at h) n in
      record {
        rest = z ∷ r.rest;
        less = ap suc r.less;
        holds = λ y k. let j = r.holds (y ⊕ scale S k.0 (f z)) k.1 in (j.0, (k.0, rw (turn_round y (scale S j.0 (f x)) (scale S k.0 (f z))) j.1));
      }
    where
      turn_round : (a b c : Car) → (a ⊕ b) ⊕ c ≡ (a ⊕ c) ⊕ b
      turn_round a b c = add_assoc a b c ∙ ap (λ t. a ⊕ t) (add_comm b c) ∙ sym (add_assoc a c b)

  -- a list one shorter with the same power
  pub record Shorter (f : Car → Car) (zs : List Car) : Type 0 where
    pub rest : List Car
    pub less : length zs ≡ suc (length rest)
    pub full : Full S f rest

  -- ---- N, and M: N followed by the turn of what N adds to x

  -- no vector pairs with what is added to it
  abbrev pub Flat : Pairing S → (Car → Car) → Type 0
  Flat ω f = (z : Car) → ω.at (f z) z ≡ false

  module _ (ω : Pairing S) (N : Residue S ω) (x : Car) (M : Car → Car) (M-add : Additive S S M)
      (M-is : (z : Car) → M z ≡ N.of z ⊕ scale S (ω.at (z ⊕ N.of z) (N.of x)) (N.of x)) where
    -- what M adds depends on what N adds
    depends : (z y : Car) → N.of z ≡ N.of y → M z ≡ M y
    depends z y e =
        M-is z
        ∙ ap₂ (λ s t. s ⊕ scale S t (N.of x)) e
        (pairing_left S ω (N.of x) z (N.of z) ∙ ap₂ (λ s t. s ⊻ ω.at t (N.of x)) by_residue e ∙ sym (pairing_left S ω (N.of x) y (N.of y)))
        ∙ sym (M-is y)
      where
        by_residue : ω.at z (N.of x) ≡ ω.at y (N.of x)
        by_residue = ω.comm z (N.of x) ∙ same_form S ω N S (λ t. t) (λ a b. refl) x z y e ∙ ω.comm (N.of x) y

    -- where x pairs with what is added to it, M leaves x alone
    dropped : ω.at (N.of x) x ≡ true → M x ≡ o
    dropped e =
        M-is x
        ∙ ap (λ t. N.of x ⊕ scale S t (N.of x)) (pairing_left S ω (N.of x) x (N.of x) ∙ ap₂ ◌⊻◌ (ω.comm x (N.of x) ∙ e) (ω.self (N.of x)))
        ∙ add_self (N.of x)

    pub full_keeps : (zs : List Car) → Full S N.of zs → Full S M zs
    full_keeps zs r z =
        let y = span_unmap S S N.of N.of_add zs (N.of z) (r z) in
        rw (depends z y.0 (sym y.2)) (span_map S S M M-add zs y.0 y.1)

    pub full_drops : (zs : List Car) → ω.at (N.of x) x ≡ true → Full S N.of zs → Shorter M zs
    full_drops zs e r =
        let s = swap_in N.of zs x (r x) (λ z. true≢false (sym e ∙ ap (λ t. ω.at t x) z ∙ map_o S 𝔹 (λ t. ω.at t x) (pairing_left S ω x))) in
        record {
          rest = s.rest;
          less = s.less;
          full = λ z.
              let y = span_unmap S S N.of N.of_add (x ∷ s.rest) (N.of z) (s.holds (N.of z) (r z)) in
              let m = span_map S S M M-add (x ∷ s.rest) y.0 y.1 in
              rw (depends z y.0 (sym y.2))
              (subst (InSpan S (map M s.rest)) (ap (λ t. M y.0 ⊕ t) (ap (scale S m.0) (dropped e) ∙ scale_o S m.0) ∙ add-zero S (M y.0)) m.1);
        }

    -- where both are flat, every vector pairs to 0 with what N adds to x
    pub flat_twice : Flat ω N.of → Flat ω M → (z : Car) → ω.at (N.of x) z ≡ false
    flat_twice f g z = ω.comm (N.of x) z ∙ sym now_pairs ∙ g z
      where
        -- what a flat action adds pairs to 0
        flat_pairs : ω.at (N.of z) (N.of x) ≡ false
        flat_pairs =
            N.pairs z x ∙ ap (λ t. ω.at (N.of z) x ⊻ t) (ω.comm z (N.of x) ∙ sym (add-zero 𝔹 (ω.at (N.of x) z)))
            ∙ sym (ap (λ t. ω.at t (z ⊕ x)) (N.of_add z x) ∙ pairing_left S ω (z ⊕ x) (N.of z) (N.of x)
            ∙ ap₂ ◌⊻◌ (ω.right (N.of z) z x ∙ ap (λ t. t ⊻ ω.at (N.of z) x) (f z)) (ω.right (N.of x) z x ∙ ap (λ t. ω.at (N.of x) z ⊻ t) (f x)))
            ∙ f (z ⊕ x)

        twice : (b : Bool) → scale 𝔹 b b ≡ b
        twice true = refl
        twice false = refl

        -- the vectors that pair with what N adds to x now pair with what M adds to them
        now_pairs : ω.at (M z) z ≡ ω.at z (N.of x)
        now_pairs =
            ap (λ t. ω.at t z) (M-is z) ∙ map_at S 𝔹 (λ t. ω.at t z) (pairing_left S ω z) (N.of z) (ω.at (z ⊕ N.of z) (N.of x)) (N.of x)
            ∙ ap₂ (λ s t. s ⊻ scale 𝔹 t (ω.at (N.of x) z)) (f z)
            (pairing_left S ω (N.of x) z (N.of z) ∙ ap (λ t. ω.at z (N.of x) ⊻ t) flat_pairs ∙ add-zero 𝔹 (ω.at z (N.of x)))
            ∙ ap (scale 𝔹 (ω.at z (N.of x))) (ω.comm (N.of x) z) ∙ twice (ω.at z (N.of x))
