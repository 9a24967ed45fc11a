-- The simplex of a list of members: of none, of a first member with no partner, and of a first member with its first partner; and put pair by pair.
-- Assumes nothing.
use mathlib.Core.Path.{◌≡◌, refl, sym, ap, ap₂, ◌∙◌, subst}
use mathlib.Core.Bool.{Bool, true, false}
use mathlib.Core.List.{List, [], ◌∷◌, ◌++◌, map, append_assoc}
use mathlib.Core.Option.{Option, none, some}
use Prim.Native.Nat.{ℕ, zero, suc, ◌-◌, ◌≤◌, ◌<◌, zero-le, suc-le-suc}
use native.Mathlib.Nat.{le_of_suc-le-suc, not-suc-le-zero, zero-lt-suc}
use native.Mathlib.Omega.{arith}
use lib.ListN.{length, get_or, take}
use Rattle.binar.specs.Bits.{◌⊕◌, dot}
use Rattle.binar.proofs.Sums.{zero_sum, sum_zero, sum_assoc}
use Rattle.blocks.specs.Matrices.{matmul}
use Rattle.blocks.specs.inner.Lists.{without}
use Rattle.blocks.proofs.Values.{without_zero, without_suc}
use Rattle.symplectic.specs.Picks.{or_if, map_some}
use Rattle.residue.specs.Residue.{form}
use Rattle.family.specs.Family.{kept_before, split_at, cleared_of_pair, extended, with_partner, from_first, symplectic_simplex_lem}
use Rattle.family.specs.inner.Parts.{others_of, pair_rest_lem, behind}
use Rattle.family.proofs.Members.{member_form}
use Rattle.family.proofs.Others.{rest_length}

module _ (E : ℕ → ℕ → Bool) where
  -- ---- the first partner, by its place

  split_none : (f : ℕ) (bs : List ℕ) → ((i : ℕ) → i < length bs → E f (get_or bs i 0) ≡ false) → split_at E f bs ≡ none
  unfolding split_at
  split_none f [] h = refl
  split_none f (y ∷ ys) h =
      ap₂ (λ b w. or_if b (record { partner = y; others = ys }) (map_some (kept_before y) w)) (h zero (zero-lt-suc (length ys)))
      (split_none f ys (λ i l. h (suc i) (suc-le-suc l)))

  split_at_lem : (f : ℕ) (bs : List ℕ) (j : ℕ) → j < length bs → ((i : ℕ) → i < j → E f (get_or bs i 0) ≡ false) → E f (get_or bs j 0) ≡ true
      → split_at E f bs ≡ some (record { partner = get_or bs j 0; others = without j bs })
  unfolding split_at
  split_at_lem f [] j h n e = absurd (not-suc-le-zero h)
  split_at_lem f (y ∷ ys) zero h n e =
      ap₂ (λ b o. or_if b (record { partner = y; others = o }) (map_some (kept_before y) (split_at E f ys))) e (sym (without_zero y ys))
  split_at_lem f (y ∷ ys) (suc j) h n e =
      ap₂ (λ b w. or_if b (record { partner = y; others = ys }) (map_some (kept_before y) w)) (n zero (zero-lt-suc j))
      (split_at_lem f ys j (le_of_suc-le-suc h) (λ i l. n (suc i) (suc-le-suc l)) e)
      ∙ ap (λ o. some (record { partner = get_or ys j 0; others = o })) (sym (without_suc j y ys))

  -- ---- the simplex

  -- nothing behind the first has form one behind it, below r
  abbrev pub Alone : List ℕ → ℕ → Type 0
  Alone B r = (i : ℕ) → i < r → 1 ≤ i → E (get_or B 0 0) (get_or B i 0) ≡ false

  simplex_empty : (d : ℕ) (B : List ℕ) → length B ≡ 0 → symplectic_simplex_lem E d B ≡ some (0 ∷ [])
  unfolding symplectic_simplex_lem from_first
  simplex_empty zero [] e = refl
  simplex_empty (suc d) [] e = refl
  simplex_empty d (b ∷ B) e = absurd (omega arith)

  simplex_alone : (d : ℕ) (B : List ℕ) → 0 < length B → Alone B (length B) → symplectic_simplex_lem E d B ≡ none
  unfolding symplectic_simplex_lem from_first with_partner
  simplex_alone d [] h n = absurd (omega arith)
  simplex_alone zero (b ∷ B) h n = ap (with_partner E b (λ _. none)) (split_none b B (λ i l. n (suc i) (suc-le-suc l) (suc-le-suc zero-le)))
  simplex_alone (suc d) (b ∷ B) h n =
      ap (with_partner E b (symplectic_simplex_lem E d)) (split_none b B (λ i l. n (suc i) (suc-le-suc l) (suc-le-suc zero-le)))

  simplex_pair : (d : ℕ) (B : List ℕ) (j : ℕ) → length B ≤ d → 1 ≤ j → j < length B → Alone B j → E (get_or B 0 0) (get_or B j 0) ≡ true
      → symplectic_simplex_lem E d B ≡ map_some (extended E (get_or B 0 0) (get_or B j 0)) (symplectic_simplex_lem E (d - 1) (pair_rest_lem E j B))
  unfolding symplectic_simplex_lem from_first with_partner others_of pair_rest_lem
  simplex_pair d [] j r p h n e = absurd (not-suc-le-zero h)
  simplex_pair d (b ∷ B) zero r p h n e = absurd (not-suc-le-zero p)
  simplex_pair zero (b ∷ B) (suc j) r p h n e = absurd (not-suc-le-zero r)
  simplex_pair (suc d) (b ∷ B) (suc j) r p h n e =
      let one : d ≡ suc d - 1 = omega arith in
      let place : j ≡ suc j - 1 = omega arith in
      ap (with_partner E b (symplectic_simplex_lem E d)) (split_at_lem b B j (le_of_suc-le-suc h) (λ i l. n (suc i) (suc-le-suc l) (suc-le-suc zero-le)) e)
      ∙ ap₂ (λ k i. map_some (extended E b (get_or B j 0)) (symplectic_simplex_lem E k (map (cleared_of_pair E b (get_or B j 0)) (without i B)))) one place

  -- ---- pair by pair

  -- vectors behind others, each with s added
  abbrev shifted : List ℕ → ℕ → List ℕ → List ℕ
  shifted front s vs = front ++ map (λ v. v ⊕ s) vs

  shift_none : (vs : List ℕ) → map (λ v. v ⊕ 0) vs ≡ vs
  shift_none [] = refl
  shift_none (v ∷ vs) = ap₂ ◌∷◌ (sum_zero v) (shift_none vs)

  shift_more : (f s : ℕ) (vs : List ℕ) → map (λ v. v ⊕ s) (map (λ v. v ⊕ f) vs) ≡ map (λ v. v ⊕ (f ⊕ s)) vs
  shift_more f s [] = refl
  shift_more f s (v ∷ vs) = ap₂ ◌∷◌ (sum_assoc v f s) (shift_more f s vs)

  shift_pair : (front : List ℕ) (s f p : ℕ) (w : Option (List ℕ))
      → map_some (shifted front s) (map_some (extended E f p) w) ≡ map_some (shifted (front ++ ((p ⊕ s) ∷ ((f ⊕ p) ⊕ s) ∷ [])) (f ⊕ s)) w
  shift_pair front s f p none = refl
  shift_pair front s f p (some vs) =
      ap some (ap (λ l. front ++ ((p ⊕ s) ∷ ((f ⊕ p) ⊕ s) ∷ l)) (shift_more f s vs)
      ∙ sym (append_assoc front ((p ⊕ s) ∷ ((f ⊕ p) ⊕ s) ∷ []) (map (λ v. v ⊕ (f ⊕ s)) vs)))

  -- what is left to put behind the vectors in front, s added to each, from the members that are left
  pub record Owed (whole : Option (List ℕ)) (front : List ℕ) (s : ℕ) (B : List ℕ) : Type 0 where
    pub depth : ℕ
    pub deep : length B ≤ depth
    pub left : map_some (shifted front s) (symplectic_simplex_lem E depth B) ≡ whole

  pub simplex_begun : (n : ℕ) (front B : List ℕ) (s : ℕ) → length B ≤ n → s ≡ 0 → Owed (map_some (behind front) (symplectic_simplex_lem E n B)) front s B
  simplex_begun n front B s h e = record { depth = n; deep = h; left = ap (λ t. map_some (shifted front t) (symplectic_simplex_lem E n B)) e ∙ same (symplectic_simplex_lem E n B) }
    where
      same : (w : Option (List ℕ)) → map_some (shifted front 0) w ≡ map_some (behind front) w
      same none = refl
      same (some vs) = ap (λ l. some (front ++ l)) (shift_none vs)

  module _ (whole : Option (List ℕ)) (front : List ℕ) (s : ℕ) (B : List ℕ) (o : Owed whole front s B) where
    -- no member is left
    pub simplex_done : length B ≡ 0 → some (front ++ (s ∷ [])) ≡ whole
    simplex_done e =
        ap (λ v. some (front ++ (v ∷ []))) (sym (zero_sum s)) ∙ ap (map_some (shifted front s)) (sym (simplex_empty o.depth B e)) ∙ o.left

    -- the first has no partner
    pub simplex_stuck : 0 < length B → Alone B (length B) → none ≡ whole
    simplex_stuck h a = ap (map_some (shifted front s)) (sym (simplex_alone o.depth B h a)) ∙ o.left

    -- the j-th is its partner
    module _ (j : ℕ) (low : 1 ≤ j) (high : j < length B) (alone : Alone B j) (meets : E (get_or B 0 0) (get_or B j 0) ≡ true) where
      paired : Owed whole (front ++ ((get_or B j 0 ⊕ s) ∷ ((get_or B 0 0 ⊕ get_or B j 0) ⊕ s) ∷ [])) (get_or B 0 0 ⊕ s) (pair_rest_lem E j B)
      paired = record {
        depth = o.depth - 1;
        deep = omega (arith, o.deep, rest_length E j B low high);
        left = sym (shift_pair front s (get_or B 0 0) (get_or B j 0) (symplectic_simplex_lem E (o.depth - 1) (pair_rest_lem E j B)))
            ∙ ap (map_some (shifted front s)) (sym (simplex_pair o.depth B j o.deep low high alone meets)) ∙ o.left;
      }

      pub simplex_paired : (f p : ℕ) → f ≡ get_or B 0 0 → p ≡ get_or B j 0 → (next rest : List ℕ) (t : ℕ)
          → next ≡ front ++ ((p ⊕ s) ∷ ((f ⊕ p) ⊕ s) ∷ []) → t ≡ f ⊕ s → rest ≡ pair_rest_lem E j B → Owed whole next t rest
      simplex_paired f p f-is p-is next rest t n-is t-is r-is =
          subst (λ l. Owed whole l t rest) (sym (n-is ∙ ap₂ (λ x y. front ++ ((y ⊕ s) ∷ ((x ⊕ y) ⊕ s) ∷ [])) f-is p-is))
          (subst (λ x. Owed whole added x rest) (sym (t-is ∙ ap (λ x. x ⊕ s) f-is)) (subst (Owed whole added (get_or B 0 0 ⊕ s)) (sym r-is) paired))
        where
          added : List ℕ
          added = front ++ ((get_or B j 0 ⊕ s) ∷ ((get_or B 0 0 ⊕ get_or B j 0) ⊕ s) ∷ [])

-- dots of the first form row with the members read
module _ (d : ℕ) (b g E : List ℕ) (fit : matmul (take d b) E ≡ take d g) (f : ℕ) (f-is : f ≡ get_or g 0 0) (r : ℕ) (pos : 0 < d) where
  pub alone_by : r ≤ d → ((i : ℕ) → i < r → 1 ≤ i → dot f (get_or b i 0) ≡ false) → Alone (form E) (take d b) r
  alone_by h n i l p = member_form d b g E fit 0 i pos (omega arith) f (get_or b i 0) f-is refl (dot f (get_or b i 0)) refl ∙ n i l p

  pub partner_by : r < d → dot f (get_or b r 0) ≡ true → form E (get_or (take d b) 0 0) (get_or (take d b) r 0) ≡ true
  partner_by h e = member_form d b g E fit 0 r pos h f (get_or b r 0) f-is refl (dot f (get_or b r 0)) refl ∙ e
