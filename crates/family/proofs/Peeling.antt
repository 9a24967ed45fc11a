-- One turn of the family's loop: a vector peeled and a member dropped for it, none dropped, nothing picked.
-- Assumes nothing.
use mathlib.Core.Path.{◌≡◌, refl, sym, ap, ◌∙◌, subst}
use mathlib.Core.Bool.{Bool, true, false, ◌||◌}
use mathlib.Core.List.{List, [], ◌∷◌, ◌++◌, map, map-map, map-id}
use mathlib.Core.Option.{Option, none, some}
use Prim.Native.Nat.{ℕ, zero, suc, ◌≤◌, ◌<◌}
use native.Mathlib.Omega.{arith}
use lib.ListN.{length, get_or, length-map}
use lib.Seq.{append_snoc}
use Rattle.binar.specs.Bits.{select, ◌⊕◌, dot}
use Rattle.blocks.specs.Matrices.{times}
use Rattle.symplectic.specs.Picks.{map_some, pick}
use Rattle.symplectic.proofs.FirstPicks.{first_one_end, first_uneven_end, pick_of_uneven}
use Rattle.residue.specs.Residue.{form}
use Rattle.triangular.specs.Spaces.{drop_or_keep, complement}
use Rattle.triangular.proofs.Complements.{complement_nil, complement_cons, complement_none}
use Rattle.triangular.proofs.Cores.{form_row}
use Rattle.family.specs.Family.{any_of, symplectic_simplex_lem, related, passed_on, peeled, bordered_family_lem, vectors}
use Rattle.family.specs.inner.Parts.{behind}

-- ---- whether a member is dropped

module _ (f : ℕ → Bool) where
  pub any_drops : (bs : List ℕ) → any_of f bs ≡ true → length bs ≡ suc (length (complement f bs))
  any_drops [] e = let z : ◌≡◌ {A = ℕ} 0 1 = cc in absurd (omega arith)
  any_drops (m ∷ bs) e = go (f m) refl (any_drops bs) ∙ ap (λ l. suc (length l)) (sym (complement_cons f m bs))
    where
      go : (b : Bool) → f m ≡ b → (any_of f bs ≡ true → length bs ≡ suc (length (complement f bs)))
          → suc (length bs) ≡ suc (length (drop_or_keep b m (map (λ y. y ⊕ select 0 (f y) m) bs) (complement f bs)))
      go true q ih = ap suc (sym (length-map bs (λ y. y ⊕ select 0 (f y) m)))
      go false q ih = ap suc (ih (ap (λ t. t || any_of f bs) (sym q) ∙ e))

  pub any_keeps : (bs : List ℕ) → any_of f bs ≡ false → complement f bs ≡ bs
  any_keeps [] e = complement_nil f
  any_keeps (m ∷ bs) e = complement_cons f m bs ∙ go (f m) refl (any_keeps bs)
    where
      go : (b : Bool) → f m ≡ b → (any_of f bs ≡ false → complement f bs ≡ bs) → drop_or_keep b m (map (λ y. y ⊕ select 0 (f y) m) bs) (complement f bs) ≡ m ∷ bs
      go true q ih = let z : true ≡ false = ap (λ t. t || any_of f bs) (sym q) ∙ e in let n : ◌≡◌ {A = ℕ} 0 1 = cc in absurd (omega arith)
      go false q ih = ap (λ l. m ∷ l) (ih (ap (λ t. t || any_of f bs) (sym q) ∙ e))

-- ---- one turn

-- one more is peeled
behind_snoc : (front : List ℕ) (p : ℕ) (w : Option (List (ℕ × Bool)))
    → map_some (behind front) (map_some vectors (map_some (λ l. (p, false) ∷ l) w)) ≡ map_some (behind (front ++ (p ∷ []))) (map_some vectors w)
behind_snoc front p none = refl
behind_snoc front p (some l) = ap some (sym (append_snoc front p (vectors l)))

-- what is left to do from the members that are left, behind the vectors that were peeled
pub record Left (E : ℕ → ℕ → Bool) (whole : Option (List ℕ)) (vs bs : List ℕ) : Type 0 where
  pub depth : ℕ
  pub deep : length bs ≤ depth
  pub left : map_some (behind vs) (map_some vectors (bordered_family_lem E depth bs)) ≡ whole

module _ (E : ℕ → ℕ → Bool) where
  pick_nil : (bs : List ℕ) (p : ℕ) → length bs ≤ 0 → pick ◌⊕◌ E bs ≡ some p → ⊥
  pick_nil bs p h e =
      let none-picked = pick_of_uneven ◌⊕◌ E bs (first_one_end ◌⊕◌ E bs 0 0 h) ∙ first_uneven_end ◌⊕◌ E bs 0 0 h in
      let z : ◌≡◌ {A = ℕ} 0 1 = cc in
      omega arith

  module _ (whole : Option (List ℕ)) (vs bs : List ℕ) (l : Left E whole vs bs) where
    module _ (p : ℕ) (is : pick ◌⊕◌ E bs ≡ some p) where
      -- what is left a depth below, where p is peeled
      abbrev Below : ℕ → Bool → Type 0
      Below n b = (m : ℕ) × (n ≡ suc m) × (map_some (behind (vs ++ (p ∷ []))) (map_some vectors (passed_on E b (bordered_family_lem E m) (complement (E p) bs))) ≡ whole)

      below : Below l.depth (any_of (E p) bs)
      unfolding bordered_family_lem peeled
      below = go l.depth l.deep l.left
        where
          go : (n : ℕ) → length bs ≤ n → map_some (behind vs) (map_some vectors (bordered_family_lem E n bs)) ≡ whole → Below n (any_of (E p) bs)
          go zero h k = absurd (pick_nil bs p h is)
          go (suc m) h k = (
            m,
            refl,
            sym (behind_snoc vs p (passed_on E (any_of (E p) bs) (bordered_family_lem E m) (complement (E p) bs)))
                ∙ ap (λ w. map_some (behind vs) (map_some vectors (peeled E bs (bordered_family_lem E m) w))) (sym is) ∙ k,
          )

      -- a member is dropped
      family_peeled : length (complement (E p) bs) < length bs → Left E whole (vs ++ (p ∷ [])) (complement (E p) bs)
      family_peeled h = go (any_of (E p) bs) refl below
        where
          go : (b : Bool) → any_of (E p) bs ≡ b → Below l.depth b → Left E whole (vs ++ (p ∷ [])) (complement (E p) bs)
          go true q (m, e, k) = let deep = l.deep in record { depth = m; deep = omega arith; left = k }
          go false q (m, e, k) = let z = ap length (any_keeps (E p) bs q) in absurd (omega arith)

      -- none is
      family_stuck : length (complement (E p) bs) ≡ length bs → none ≡ whole
      family_stuck h = go (any_of (E p) bs) refl below
        where
          go : (b : Bool) → any_of (E p) bs ≡ b → Below l.depth b → none ≡ whole
          go true q (m, e, k) = let z = any_drops (E p) bs q in absurd (omega arith)
          go false q (m, e, k) = k

    -- nothing is picked
    pub family_rest : pick ◌⊕◌ E bs ≡ none → map_some (behind vs) (symplectic_simplex_lem E (length bs) bs) ≡ whole
    unfolding bordered_family_lem peeled
    family_rest e = ap (map_some (behind vs)) (sym (at l.depth)) ∙ l.left
      where
        plain : (w : Option (List ℕ)) → map_some vectors (related E w) ≡ w
        plain none = refl
        plain (some ws) = ap some (map-map (λ a. a.0) (λ v. (v, true)) ws ∙ map-id ws)

        at : (n : ℕ) → map_some vectors (bordered_family_lem E n bs) ≡ symplectic_simplex_lem E (length bs) bs
        at zero = plain (symplectic_simplex_lem E (length bs) bs)
        at (suc n) = ap (λ w. map_some vectors (peeled E bs (bordered_family_lem E n) w)) e ∙ plain (symplectic_simplex_lem E (length bs) bs)

-- a vector p is picked, with form row f
module _ (E : List ℕ) (whole : Option (List ℕ)) (vs bs : List ℕ) (l : Left (form E) whole vs bs) (p f : ℕ) (is : pick ◌⊕◌ (form E) bs ≡ some p)
    (row : f ≡ times p E) where
  by_form : complement (form E p) bs ≡ complement (dot f) bs
  by_form = ap (λ g. complement g bs) (form_row E p f row)

  -- f has a dot with no member
  pub turn_stuck : ((i : ℕ) → i < length bs → dot f (get_or bs i 0) ≡ false) → none ≡ whole
  turn_stuck h = family_stuck (form E) whole vs bs l p is (ap length (by_form ∙ complement_none (dot f) bs h))

  -- one is dropped
  pub turn_peeled : length (complement (dot f) bs) < length bs → (next rest : List ℕ) → next ≡ vs ++ (p ∷ []) → rest ≡ complement (dot f) bs → Left (form E) whole next rest
  turn_peeled h next rest n-is r-is =
      subst (λ x. Left (form E) whole x rest) (sym n-is) (subst (Left (form E) whole (vs ++ (p ∷ []))) (by_form ∙ sym r-is)
      (family_peeled (form E) whole vs bs l p is (subst (λ x. length x < length bs) (sym by_form) h)))
