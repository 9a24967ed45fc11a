-- A family, where there is one, has one vector more than the space has members.
-- Assumes nothing.
use mathlib.Core.Path.{◌≡◌, refl, sym, ap, ◌∙◌, subst}
use mathlib.Core.Bool.{Bool, true, false}
use mathlib.Core.List.{List, [], ◌∷◌, map}
use mathlib.Core.Option.{Option, none, some}
use Prim.Native.Nat.{ℕ, zero, suc}
use native.Mathlib.Omega.{arith}
use lib.ListN.{length, length-map}
use Rattle.binar.specs.Bits.{◌⊕◌}
use Rattle.symplectic.specs.Picks.{or_if, map_some, pick}
use Rattle.triangular.specs.Spaces.{complement}
use Rattle.family.specs.Family.{any_of, Split, kept_before, split_at, cleared_of_pair, extended, with_partner, from_first, symplectic_simplex_lem, related, passed_on, peeled, bordered_family_lem}
use Rattle.family.proofs.Peeling.{any_drops}

-- one more than k
abbrev pub OneMore : {A : Type 0} → ℕ → Option (List A) → Type 0
OneMore k none = Unit {0}
OneMore k (some l) = length l ≡ suc k

-- one member less
abbrev OneLess : List ℕ → Option Split → Type 0
OneLess bs none = Unit {0}
OneLess bs (some t) = length bs ≡ suc (length t.others)

module _ (E : ℕ → ℕ → Bool) where
  split_size : (f : ℕ) (bs : List ℕ) → OneLess bs (split_at E f bs)
  unfolding split_at
  split_size f [] = tt
  split_size f (y ∷ ys) = go (E f y) (split_at E f ys) (split_size f ys)
    where
      go : (b : Bool) (w : Option Split) → OneLess ys w → OneLess (y ∷ ys) (or_if b (record { partner = y; others = ys }) (map_some (kept_before y) w))
      go true w h = refl
      go false none h = tt
      go false (some t) h = ap suc h

  first_size : (go : List ℕ → Option (List ℕ)) → ((cs : List ℕ) → OneMore (length cs) (go cs)) → (bs : List ℕ) → OneMore (length bs) (from_first E bs go)
  unfolding from_first with_partner
  first_size go ih [] = refl
  first_size go ih (f ∷ bs) = by (split_at E f bs) (split_size f bs)
    where
      pair : (s : ℕ) (os : List ℕ) → length bs ≡ suc (length os) → (w : Option (List ℕ)) → OneMore (length (map (cleared_of_pair E f s) os)) w
          → OneMore (suc (length bs)) (map_some (extended E f s) w)
      pair s os h none e = tt
      pair s os h (some vs) e = omega (arith, h, e, length-map os (cleared_of_pair E f s), length-map vs (λ v. v ⊕ f))

      by : (w : Option Split) → OneLess bs w → OneMore (suc (length bs)) (with_partner E f go w)
      by none h = tt
      by (some t) h =
          let cs = map (cleared_of_pair E f t.partner) t.others in
          pair t.partner t.others h (go cs) (ih cs)

  pub simplex_size : (d : ℕ) (bs : List ℕ) → OneMore (length bs) (symplectic_simplex_lem E d bs)
  unfolding symplectic_simplex_lem
  simplex_size zero bs = first_size (λ _. none) (λ _. tt) bs
  simplex_size (suc d) bs = first_size (symplectic_simplex_lem E d) (simplex_size d) bs

  related_size : (k : ℕ) (w : Option (List ℕ)) → OneMore k w → OneMore k (related E w)
  related_size k none h = tt
  related_size k (some vs) h = length-map vs (λ v. (v, true)) ∙ h

  peeled_size : (bs : List ℕ) (go : List ℕ → Option (List (ℕ × Bool))) → ((cs : List ℕ) → OneMore (length cs) (go cs)) → (w : Option ℕ) → OneMore (length bs) (peeled E bs go w)
  unfolding peeled
  peeled_size bs go ih none = related_size (length bs) (symplectic_simplex_lem E (length bs) bs) (simplex_size (length bs) bs)
  peeled_size bs go ih (some p) = drops (any_of (E p) bs) refl
    where
      one : (k : ℕ) (w : Option (List (ℕ × Bool))) → OneMore k w → OneMore (suc k) (map_some (λ l. (p, false) ∷ l) w)
      one k none h = tt
      one k (some l) h = ap suc h

      drops : (b : Bool) → any_of (E p) bs ≡ b → OneMore (length bs) (map_some (λ l. (p, false) ∷ l) (passed_on E b go (complement (E p) bs)))
      drops true e =
          let cs = complement (E p) bs in
          subst (λ k. OneMore k (map_some (λ l. (p, false) ∷ l) (go cs))) (sym (any_drops (E p) bs e)) (one (length cs) (go cs) (ih cs))
      drops false e = tt

  pub family_size : (d : ℕ) (bs : List ℕ) → OneMore (length bs) (bordered_family_lem E d bs)
  unfolding bordered_family_lem
  family_size zero bs = related_size (length bs) (symplectic_simplex_lem E (length bs) bs) (simplex_size (length bs) bs)
  family_size (suc d) bs = peeled_size bs (bordered_family_lem E d) (family_size d) (pick ◌⊕◌ E bs)
