-- Vectors that a self-inverse action's residue was taken apart into: their product is the action, no list is shorter, and how many they are.
-- Assumes nothing.
use mathlib.Core.Path.{◌≡◌, sym, ap, ap₂, ◌∙◌, subst}
use mathlib.Core.Bool.{true, true≢false}
use mathlib.Core.Logic.{⊎_elim}
use mathlib.Core.List.{List, [], ◌∷◌}
use Prim.Native.Nat.{ℕ, suc, ◌+◌, ◌^◌, ◌≤◌, ◌<◌, zero-le}
use native.Mathlib.Nat.{eq-or-lt_of_le}
use native.Mathlib.Omega.{arith}
use lib.ListN.{length}
use Rattle.binar.specs.Bits.{◌⊕◌}
use Rattle.blocks.specs.Matrices.{times, matmul, units, All}
use Rattle.blocks.proofs.All.{All-map}
use Rattle.blocks.proofs.Units.{units_length}
use Rattle.linear.specs.Triangular.{Tri}
use Rattle.symplectic.specs.Turns.{pairing, product, symplectic, identity_plus}
use Rattle.symplectic.specs.NoneShorter.{NoneShorter}
use Rattle.symplectic.specs.inner.Vectors.{swap_halves_lem}
use Rattle.symplectic.proofs.Pairings.{pairing_comm, swap_lt}
use Rattle.symplectic.proofs.Products.{product_nil}
use Rattle.symplectic.proofs.Layers.{added, added_lt, product_of_adds}
use Rattle.reduction.specs.Columns.{rank}
use Rattle.reduction.proofs.Transform.{rank_length}
use Rattle.residue.specs.Residue.{residue, basis, transform}
use Rattle.residue.proofs.Core.{residue_times, residue_length, basis_rank, rank_plus}
use Rattle.residue.proofs.Coordinates.{lift}
use Rattle.residue.proofs.Lengths.{none_below_rank, wall, good_of_list}
use Rattle.self_inverse.specs.inner.Peels.{Decomposed}
use Rattle.self_inverse.specs.Promises.{AllCommute, Isotropic, RankOrNext}
use Rattle.self_inverse.proofs.Adjoint.{residue_adds, pair_self, isotropic_of_level, all_isotropic}
use Rattle.self_inverse.proofs.Commutes.{run_commuting}

-- what is promised of a list
pub record CommutingList (n : ℕ) (F vs : List ℕ) : Type 0 where
  pub replays : product n vs ≡ F
  pub least : NoneShorter n F (length vs)
  pub fits : All (λ v. v < 2 ^ (n + n)) vs
  pub commuting : AllCommute n vs
  pub counted : RankOrNext n F (length vs)
  pub room : length vs ≤ n + n + 1

module _ (n : ℕ) (F : List ℕ) (size : length F ≡ n + n) (bounded : All (λ f. f < 2 ^ (n + n)) F) (symp : symplectic n F ≡ true) where
  abbrev r : ℕ
  r = length (basis n F)

  -- ---- where <u,uF> = 0 for all u, and F is not the identity, every list has more than r entries

  none_triangular : Isotropic n F → (ps : List ℕ) → Tri (wall n F size symp) ps → 0 < length ps → ⊥
  none_triangular flat [] t l = absurd (omega arith)
  none_triangular flat (p ∷ ps) t l =
      let u = lift n F p in
      true≢false (sym t.0 ∙ pairing_comm n (added n F u) u ∙ pair_self n F size u ∙ flat u (swap_lt n (times p (transform n F))))

  none_at_rank : Isotropic n F → 0 < r → NoneShorter n F (suc r)
  none_at_rank flat l ws fits e =
      ⊎_elim (λ q. let g = good_of_list n F size symp ws e q in absurd (none_triangular flat g.list g.tri (omega (arith, g.size, units_length r)))) (λ m. m)
      (eq-or-lt_of_le (none_below_rank n F size symp ws fits e))

  -- the identity has rank 0: the empty list plays it
  rank_of_identity : F ≡ units (n + n) → r ≤ 0
  rank_of_identity e = none_below_rank n F size symp [] tt (product_nil n ∙ sym e)

  module _ (vs : List ℕ) (replays : product n vs ≡ F) (fits : All (λ v. v < 2 ^ (n + n)) vs) where
    nothing_listed : length vs ≡ 0 → F ≡ units (n + n)
    nothing_listed e = sym replays ∙ go vs e
      where
        go : (l : List ℕ) → length l ≡ 0 → product n l ≡ units (n + n)
        go [] z = product_nil n
        go (v ∷ l) z = absurd (omega arith)

    some_listed : (F ≡ units (n + n) → ⊥) → 0 < length vs
    some_listed other = let l : 0 ≤ length vs = zero-le in ⊎_elim (λ q. absurd (other (nothing_listed (sym q)))) (λ q. q) (eq-or-lt_of_le l)

    rank_is : r ≡ rank (n + n) (identity_plus n F)
    rank_is = basis_rank n F ∙ sym (rank_plus n F size bounded)

    -- as many as the rank
    straight : length vs ≤ r → NoneShorter n F (length vs) × RankOrNext n F (length vs)
    straight l =
        let e : r ≡ length vs = omega (arith, none_below_rank n F size symp vs fits replays) in (
          subst (NoneShorter n F) e (none_below_rank n F size symp),
          (
            λ i. omega (arith, rank_of_identity i),
            (λ other flat. let m = some_listed other in absurd (omega (arith, none_at_rank flat (omega arith) vs fits replays)), λ uneven. sym e ∙ rank_is),
          ),
        )

    -- one more
    bent : Isotropic n F → 0 < r → length vs ≤ suc r → NoneShorter n F (length vs) × RankOrNext n F (length vs)
    bent flat m l =
        let e : suc r ≡ length vs = omega (arith, none_at_rank flat m vs fits replays) in (
          subst (NoneShorter n F) e (none_at_rank flat m),
          (λ i. absurd (omega (arith, rank_of_identity i)), (λ other _. sym e ∙ ap suc rank_is, λ uneven. absurd (uneven flat))),
        )

  module _ (twice : matmul F F ≡ units (n + n)) (vs : List ℕ) (d : Decomposed (residue n F) vs) where
    abbrev M : List ℕ
    M = residue n F

    -- each is what F adds to a vector
    sources : All (λ v. (u : ℕ) × (added n F u ≡ v)) vs
    sources = All-map (λ v h. (swap_halves_lem n h.0, sym (residue_times n F size h.0) ∙ h.1)) vs d.all.from

    fits : All (λ v. v < 2 ^ (n + n)) vs
    fits = All-map (λ v h. subst (λ t. t < 2 ^ (n + n)) h.1 (added_lt n F bounded h.0)) vs sources

    commuting : AllCommute n vs
    commuting =
        All-map (λ v h. All-map (λ w k. ap₂ (pairing n) (sym h.1) (sym k.1) ∙ all_isotropic n F size bounded symp twice h.0 k.0) vs sources) vs sources

    replays : product n vs ≡ F
    replays = product_of_adds n F size vs (λ z. run_commuting n vs commuting z ∙ ap (λ t. z ⊕ t) (sym (d.all.sums (swap_halves_lem n z)) ∙ residue_adds n F size z))

    rank_here : rank (length M) M ≡ r
    rank_here = ap (λ m. rank m M) (residue_length n F size) ∙ sym (basis_rank n F)

    both : NoneShorter n F (length vs) × RankOrNext n F (length vs)
    both =
        ⊎_elim (λ l. straight vs replays fits (omega (arith, rank_here)))
        (λ b. bent vs replays fits (isotropic_of_level n F size bounded b.0) (omega (arith, rank_here, b.1.0)) (omega (arith, rank_here, b.1.1))) d.few

    room : length vs ≤ n + n + 1
    room =
        let few = rank_length (length M) M in
        ⊎_elim (λ l. omega (arith, residue_length n F size)) (λ b. omega (arith, residue_length n F size, b.1.1)) d.few

    pub commuting_list : CommutingList n F vs
    commuting_list = record { replays = replays; least = both.0; fits = fits; commuting = commuting; counted = both.1; room = room }
