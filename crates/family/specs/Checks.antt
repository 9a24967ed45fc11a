-- The two checks that the source makes of a bordered candidate: `validate` of the family, and `verifies_bordered_decomposition` of its list.
-- No code makes them and no contract reaches them: that a candidate passes wherever one is needed is a theorem (`always_passes`).
-- Assumes nothing.
use Rattle.std.specs.Prelude.{Bool, true, false, ◌&&◌, not, List, [], ◌∷◌, ℕ, suc, eqb, length}
use Rattle.std.proofs.Math.Option.{Option, none, some}
use Rattle.binar.specs.Bits.{◌⊻◌, select, ◌⊕◌}
use Rattle.std.specs.List.{list_all}
use Rattle.symplectic.specs.Matches.{fit_all, matches}
use Rattle.reduction.specs.Columns.{rank}
use Rattle.residue.specs.Residue.{basis, core, form}
use Rattle.family.specs.Family.{core_family, vectors, times_basis}

-- ---- `validate`

-- the relation has an odd number of ones
abbrev pub odd_relation : List (ℕ × Bool) → Bool
odd_relation [] = false
odd_relation (a ∷ l) = a.1 ⊻ odd_relation l

-- the sum of the vectors in the relation
abbrev pub relation_sum : List (ℕ × Bool) → ℕ
relation_sum [] = 0
relation_sum (a ∷ l) = relation_sum l ⊕ select 0 a.1 a.0

-- the Gram entry of two members, plus the product of their bits of the relation
abbrev pub bordered_form : (ℕ → ℕ → Bool) → ℕ × Bool → ℕ × Bool → Bool
bordered_form E a b = E a.0 b.0 ⊻ (a.1 && b.1)

-- on and above the diagonal it is one just on the diagonal
unfoldable pub unit_lower : (ℕ → ℕ → Bool) → List (ℕ × Bool) → Bool
unit_lower E [] = true
unit_lower E (a ∷ l) = bordered_form E a a && (list_all (λ b. not (bordered_form E a b)) l && unit_lower E l)

-- r + 1 vectors of the dimension, an odd relation, unit lower, relation sum zero, full rank
unfoldable pub validate : ℕ → (ℕ → ℕ → Bool) → List (ℕ × Bool) → Bool
validate r E l =
    fit_all r (vectors l)
    && (eqb (length l) (suc r) && (odd_relation l && (unit_lower E l && (eqb (relation_sum l) 0 && eqb (rank r (vectors l)) r))))

-- ---- `verifies_bordered_decomposition`

-- r + 1 vectors, none zero, that match F
unfoldable pub verifies_bordered : ℕ → List ℕ → ℕ → List ℕ → Bool
verifies_bordered n F r vs =
    eqb (length vs) (suc r) && (list_all (λ v. not (eqb v 0)) vs && matches n F vs)

-- ---- does the bordered candidate pass? A construction that finds no partner or no member to drop counts as not passing

abbrev pub both_checks : ℕ → List ℕ → Option (List (ℕ × Bool)) → Bool
both_checks n F none = false
both_checks n F (some l) = let r = length (basis n F) in validate r (form (core n F)) l && verifies_bordered n F r (times_basis n F (vectors l))

unfoldable pub candidate_passes : ℕ → List ℕ → Bool
candidate_passes n F = both_checks n F (core_family (core n F))
