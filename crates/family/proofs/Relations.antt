-- The relation of a family, where there is one, has an odd number of ones, and its vectors have sum zero; whatever the form.
-- Assumes nothing.
use mathlib.Core.Path.{◌≡◌, refl, sym, ap, ap₂, ◌∙◌}
use mathlib.Core.Bool.{Bool, true, false}
use mathlib.Core.List.{List, [], ◌∷◌, map}
use mathlib.Core.Option.{Option, none, some}
use Prim.Native.Nat.{ℕ, zero, suc}
use lib.ListN.{length}
use Rattle.binar.specs.Bits.{◌⊻◌, select, ◌⊕◌}
use Rattle.binar.proofs.Sums.{sum_self, zero_sum, sum_zero}
use Rattle.linear.proofs.Sums.{swap4, self_left}
use Rattle.linear.proofs.Instances.{𝕎}
use Rattle.symplectic.specs.Picks.{map_some, pick}
use Rattle.triangular.specs.Spaces.{complement}
use Rattle.family.specs.Family.{Split, split_at, cleared_of_pair, extended, with_partner, from_first, symplectic_simplex_lem, related, any_of, passed_on, peeled, bordered_family_lem}
use Rattle.family.specs.Checks.{odd_relation, relation_sum}

abbrev pub Balanced : Option (List (ℕ × Bool)) → Type 0
Balanced none = Unit {0}
Balanced (some l) = (odd_relation l ≡ true) × (relation_sum l ≡ 0)

-- vectors that are all in the relation
abbrev whole : List ℕ → List (ℕ × Bool)
whole vs = map (λ v. (v, true)) vs

-- ---- with f added to each vector

odd_plus : (f : ℕ) (vs : List ℕ) → odd_relation (whole (map (λ v. v ⊕ f) vs)) ≡ odd_relation (whole vs)
odd_plus f [] = refl
odd_plus f (v ∷ vs) = ap (λ b. true ⊻ b) (odd_plus f vs)

sum_plus : (f : ℕ) (vs : List ℕ) → relation_sum (whole (map (λ v. v ⊕ f) vs)) ≡ relation_sum (whole vs) ⊕ select 0 (odd_relation (whole vs)) f
sum_plus f [] = sym (zero_sum 0)
sum_plus f (v ∷ vs) =
    ap (λ t. t ⊕ (v ⊕ f)) (sum_plus f vs) ∙ swap4 𝕎 (relation_sum (whole vs)) (select 0 (odd_relation (whole vs)) f) v f
    ∙ ap (λ t. (relation_sum (whole vs) ⊕ v) ⊕ t) (flip (odd_relation (whole vs)))
  where
    flip : (b : Bool) → select 0 b f ⊕ f ≡ select 0 (true ⊻ b) f
    flip true = sum_self f
    flip false = zero_sum f

module _ (E : ℕ → ℕ → Bool) where
  -- ---- the simplex

  pair_balanced : (f s : ℕ) (out : Option (List ℕ)) → Balanced (related E out) → Balanced (related E (map_some (extended E f s) out))
  pair_balanced f s none h = tt
  pair_balanced f s (some vs) h = (
    ap (λ b. true ⊻ (true ⊻ b)) (odd_plus f vs ∙ h.0),
    ap (λ t. (t ⊕ (f ⊕ s)) ⊕ s) (sum_plus f vs ∙ ap₂ (λ t b. t ⊕ select 0 b f) h.1 h.0) ∙ simp (zero_sum, sum_self, self_left 𝕎),
  )

  first_balanced : (bs : List ℕ) (go : List ℕ → Option (List ℕ)) → ((cs : List ℕ) → Balanced (related E (go cs))) → Balanced (related E (from_first E bs go))
  unfolding from_first with_partner
  first_balanced [] go h = (refl, zero_sum 0)
  first_balanced (f ∷ bs) go h = by (split_at E f bs)
    where
      by : (t : Option Split) → Balanced (related E (with_partner E f go t))
      by none = tt
      by (some t) = let cs = map (cleared_of_pair E f t.partner) t.others in pair_balanced f t.partner (go cs) (h cs)

  simplex_balanced : (d : ℕ) (bs : List ℕ) → Balanced (related E (symplectic_simplex_lem E d bs))
  unfolding symplectic_simplex_lem
  simplex_balanced zero bs = first_balanced bs (λ _. none) (λ _. tt)
  simplex_balanced (suc d) bs = first_balanced bs (symplectic_simplex_lem E d) (simplex_balanced d)

  -- ---- the family

  peel_balanced : (p : ℕ) (out : Option (List (ℕ × Bool))) → Balanced out → Balanced (map_some (λ l. (p, false) ∷ l) out)
  peel_balanced p none h = tt
  peel_balanced p (some l) h = (h.0, sum_zero (relation_sum l) ∙ h.1)

  passed_balanced : (b : Bool) (go : List ℕ → Option (List (ℕ × Bool))) (cs : List ℕ) → Balanced (go cs) → Balanced (passed_on E b go cs)
  passed_balanced true go cs h = h
  passed_balanced false go cs h = tt

  pub family_balanced : (k : ℕ) (bs : List ℕ) → Balanced (bordered_family_lem E k bs)
  unfolding bordered_family_lem peeled
  family_balanced zero bs = simplex_balanced (length bs) bs
  family_balanced (suc k) bs = by (pick ◌⊕◌ E bs) (family_balanced k)
    where
      by : (out : Option ℕ) → ((cs : List ℕ) → Balanced (bordered_family_lem E k cs)) → Balanced (peeled E bs (bordered_family_lem E k) out)
      by none ih = simplex_balanced (length bs) bs
      by (some p) ih =
          let cs = complement (E p) bs in
          peel_balanced p (passed_on E (any_of (E p) bs) (bordered_family_lem E k) cs) (passed_balanced (any_of (E p) bs) (bordered_family_lem E k) cs (ih cs))
