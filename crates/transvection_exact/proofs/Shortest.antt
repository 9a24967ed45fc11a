-- The list that is laid out after a search: none is shorter, and it is as long as the core's triangular bases say.
-- Assumes nothing.
use mathlib.Core.Path.{◌≡◌, refl, sym, ◌∙◌, subst}
use mathlib.Core.Bool.{true}
use mathlib.Core.List.{List}
use mathlib.Core.Logic.{inl, inr, ⊎_elim}
use Prim.Native.Nat.{ℕ, suc, ◌+◌, ◌^◌, ◌≤◌, ◌<◌}
use native.Mathlib.Nat.{eq-or-lt_of_le}
use native.Mathlib.Omega.{arith}
use lib.ListN.{length, length-map}
use Rattle.blocks.specs.Matrices.{times, units, All}
use Rattle.blocks.proofs.Units.{units_length}
use Rattle.symplectic.specs.Turns.{product, symplectic}
use Rattle.residue.specs.Residue.{basis, core}
use Rattle.residue.proofs.Core.{basis_within}
use Rattle.residue.proofs.Forms.{form_of}
use Rattle.residue.proofs.Lengths.{none_below_rank}
use Rattle.triangular.specs.Bases.{TriangularBasis}
use Rattle.triangular.specs.Search.{Outcome, found, failed}
use Rattle.triangular.proofs.Bases.{of_good, to_good}
use Rattle.triangular.proofs.Complete.{Right, search_right}
use Rattle.family.specs.Checks.{candidate_passes}
use Rattle.family.proofs.Passes.{times_fits, bordered_list_lem, always_passes}
use Rattle.symplectic.specs.NoneShorter.{NoneShorter, LeastLength}
use Rattle.transvection_exact.specs.Minimal.{core_search, list_after}
use Rattle.transvection_exact.specs.Answers.{RankOrOneMore}
use Rattle.transvection_exact.proofs.Lengths.{basis_of_list, list_of_basis}

pub record ShortestList (n : ℕ) (F vs : List ℕ) : Type 0 where
  pub replays : product n vs ≡ F
  pub least : NoneShorter n F (length vs)
  pub fits : All (λ v. v < 2 ^ (n + n)) vs
  pub count : RankOrOneMore n F (length vs)

-- its length is the least
pub least_of : (n : ℕ) (F vs : List ℕ) → ShortestList n F vs → LeastLength n F (length vs)
least_of n F vs s = ((vs, s.fits, s.replays, refl), s.least)

-- what a search of a core is to have said to be right: a triangular basis, or that there is none
abbrev pub RightOf : ℕ → List ℕ → Outcome → Type 0
RightOf n F o = let r = length (basis n F) in Right (form_of (core n F)) r (units r) o

-- document 01's search is right
pub core_right : (n : ℕ) (F : List ℕ) → RightOf n F (core_search n F)
unfolding core_search
core_right n F = let r = length (basis n F) in search_right (form_of (core n F)) r (units r) 0 (units_length r)

module _ (n : ℕ) (F : List ℕ) (size : length F ≡ n + n) where
  -- it fits 2n + 1 words
  pub shortest_room : (vs : List ℕ) → ShortestList n F vs → length vs ≤ n + n + 1
  shortest_room vs s =
      let few = basis_within n F size in
      ⊎_elim (λ l. let e = l.1 in omega arith) (λ l. let e = l.1 in omega arith) s.count

  module _ (bounded : All (λ f. f < 2 ^ (n + n)) F) (symp : symplectic n F ≡ true) where
    -- without a triangular basis every list has more than r entries
    none_at_rank : (TriangularBasis n F → ⊥) → NoneShorter n F (suc (length (basis n F)))
    none_at_rank none ws fits e = ⊎_elim (λ l. absurd (none (basis_of_list n F size symp ws e l))) (λ l. l) (eq-or-lt_of_le (none_below_rank n F size symp ws fits e))

    none_after : (looks : ℕ) → RightOf n F (failed looks) → TriangularBasis n F → ⊥
    none_after looks h g = h g.list (to_good n F g)

    -- T10: of a search that is right: its list, and where it finds none the bordered list
    pub shortest_after : (o : Outcome) → RightOf n F o → ShortestList n F (list_after n F o)
    shortest_after (found ps looks) h =
        let long = length-map ps (λ p. times p (basis n F)) ∙ h.2 in
        record {
          replays = list_of_basis n F size symp bounded ps h;
          least = subst (NoneShorter n F) (sym long) (none_below_rank n F size symp);
          fits = times_fits n F size bounded ps;
          count = inl (of_good n F ps h, long);
        }
    shortest_after (failed looks) h =
        let none = none_after looks h in
        let b = bordered_list_lem n F size bounded symp in
        record { replays = b.replays; least = subst (NoneShorter n F) (sym b.size) (none_at_rank none); fits = b.fits; count = inr (none, b.size) }

    -- so document 01's question 7 would be answered yes wherever it was asked
    pub seven_passed : (looks : ℕ) → RightOf n F (failed looks) → candidate_passes n F ≡ true
    seven_passed looks h = always_passes n F size bounded symp (none_after looks h)
