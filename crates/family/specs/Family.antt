-- The bordered family (`bordered_family`, `symplectic_simplex`): r + 1 vectors, each beside its bit of the relation.
-- A construction that finds no partner or no member to drop gives none.
-- Assumes nothing.
use Rattle.std.specs.Prelude.{Bool, true, false, ◌||◌, List, [], ◌∷◌, map, ℕ, zero, suc, length}
use Rattle.std.proofs.Math.Option.{Option, none, some}
use Rattle.binar.specs.Bits.{select, ◌⊕◌}
use Rattle.blocks.specs.Matrices.{times, units}
use Rattle.symplectic.specs.Picks.{or_if, map_some, pick}
use Rattle.residue.specs.Residue.{basis, core, form}
use Rattle.triangular.specs.Spaces.{complement}

-- some member of a list passes the test
abbrev pub any_of : (ℕ → Bool) → List ℕ → Bool
any_of f [] = false
any_of f (y ∷ ys) = f y || any_of f ys

-- the first partner, and the other members in their order
pub record Split : Type 0 where
  pub partner : ℕ
  pub others : List ℕ

abbrev pub kept_before : ℕ → Split → Split
kept_before y t = record { partner = t.partner; others = y ∷ t.others }

module _ (E : ℕ → ℕ → Bool) where
  -- ---- the simplex on an alternating rest

  -- the first partner s of f, with fEs = 1
  unfoldable pub split_at : ℕ → List ℕ → Option Split
  split_at f [] = none
  split_at f (y ∷ ys) = or_if (E f y) (record { partner = y; others = ys }) (map_some (kept_before y) (split_at f ys))

  -- the remainder's members gain f where sEy = 1 and s where fEy = 1
  abbrev pub cleared_of_pair : ℕ → ℕ → ℕ → ℕ
  cleared_of_pair f s y = y ⊕ select 0 (E s y) f ⊕ select 0 (E f y) s

  -- s, f + s, and f added to each vector of the remainder's simplex
  abbrev pub extended : ℕ → ℕ → List ℕ → List ℕ
  extended f s vs = s ∷ (f ⊕ s) ∷ map (λ v. v ⊕ f) vs

  unfoldable pub with_partner : ℕ → (List ℕ → Option (List ℕ)) → Option Split → Option (List ℕ)
  with_partner f go none = none
  with_partner f go (some t) = map_some (extended f t.partner) (go (map (cleared_of_pair f t.partner) t.others))

  -- the empty space has the one zero vector
  unfoldable pub from_first : List ℕ → (List ℕ → Option (List ℕ)) → Option (List ℕ)
  from_first [] go = some (0 ∷ [])
  from_first (f ∷ bs) go = with_partner f go (split_at f bs)

  -- on a space of dimension d it rests on that of dimension d - 2: at most `depth` pairs are taken off
  unfoldable pub symplectic_simplex_lem : ℕ → List ℕ → Option (List ℕ)
  symplectic_simplex_lem zero bs = from_first bs (λ _. none)
  symplectic_simplex_lem (suc depth) bs = from_first bs (symplectic_simplex_lem depth)

  -- ---- the family

  abbrev pub related : Option (List ℕ) → Option (List (ℕ × Bool))
  related vs = map_some (map (λ v. (v, true))) vs

  abbrev pub passed_on : Bool → (List ℕ → Option (List (ℕ × Bool))) → List ℕ → Option (List (ℕ × Bool))
  passed_on true go rest = go rest
  passed_on false go rest = none

  -- peel p and pass on the rest, as in the search; on an alternating rest take the simplex
  unfoldable pub peeled : List ℕ → (List ℕ → Option (List (ℕ × Bool))) → Option ℕ → Option (List (ℕ × Bool))
  peeled bs go none = related (symplectic_simplex_lem (length bs) bs)
  peeled bs go (some p) = map_some (λ l. (p, false) ∷ l) (passed_on (any_of (E p) bs) go (complement (E p) bs))

  -- at most `depth` members are peeled
  unfoldable pub bordered_family_lem : ℕ → List ℕ → Option (List (ℕ × Bool))
  bordered_family_lem zero bs = related (symplectic_simplex_lem (length bs) bs)
  bordered_family_lem (suc depth) bs = peeled bs (bordered_family_lem depth) (pick ◌⊕◌ E bs)

-- the family of a core, begun from unit vectors
abbrev pub core_family : List ℕ → Option (List (ℕ × Bool))
core_family E = bordered_family_lem (form E) (length E) (units (length E))

-- the vectors of a family, where there is one
abbrev pub vectors : List (ℕ × Bool) → List ℕ
vectors l = map (λ a. a.0) l

unfoldable pub vectors_of : Option (List (ℕ × Bool)) → List ℕ
vectors_of none = []
vectors_of (some l) = vectors l

-- ---- the bordered list of an action

-- each vector multiplied by V, order kept
abbrev pub times_basis : ℕ → List ℕ → List ℕ → List ℕ
times_basis n F vs = map (λ p. times p (basis n F)) vs

unfoldable pub bordered_list : ℕ → List ℕ → List ℕ
bordered_list n F = times_basis n F (vectors_of (core_family (core n F)))
