-- F times F is the identity just where I + F times itself is zero.
-- Assumes nothing.
use mathlib.Core.Path.{◌≡◌, refl, sym, ap, ◌∙◌}
use mathlib.Core.Bool.{Bool, true, false}
use mathlib.Core.List.{List, [], ◌∷◌, map, map-map}
use Prim.Native.Nat.{ℕ, ◌+◌, ◌^◌, ◌<◌}
use lib.Dec.{eqb}
use lib.ListN.{length}
use borrow.Author.Tests.{eqb-true, eq-eqb}
use Rattle.binar.specs.Bits.{◌⊕◌}
use Rattle.binar.proofs.Sums.{sum_assoc, sum_self}
use Rattle.blocks.specs.Matrices.{times, matmul, units, All}
use Rattle.blocks.proofs.All.{All-map₂, All-of_map, All-to_map}
use Rattle.blocks.proofs.Products.{times_sum, matmul_is}
use Rattle.blocks.proofs.Units.{units_lt}
use Rattle.linear.proofs.Instances.{𝕎}
use Rattle.linear.proofs.Sums.{eq_of_sum, self_left}
use Rattle.symplectic.specs.Turns.{identity_plus}
use Rattle.std.specs.List.{list_all}
use Rattle.symplectic.specs.Matches.{same_rows}
use Rattle.symplectic.proofs.Lists.{map_eq, eq_map, all_true, true_all}
use Rattle.symplectic.proofs.Matches.{rows_equal, rows_same}
use Rattle.symplectic.proofs.Layers.{added, added_is, added_lt, F-is, identity_plus_is, plus_times}
use Rattle.self_inverse.specs.SelfInverse.{is_self_inverse}

both_ways : (a b : Bool) → (a ≡ true → b ≡ true) → (b ≡ true → a ≡ true) → a ≡ b
both_ways true b f g = sym (f refl)
both_ways false true f g = g refl
both_ways false false f g = refl

module _ (n : ℕ) (F : List ℕ) where
  pub self_inverse_is : is_self_inverse n F ≡ true → matmul F F ≡ units (n + n)
  unfolding is_self_inverse
  self_inverse_is e = rows_equal (matmul F F) (units (n + n)) e

  pub is_self_inverse_lem : matmul F F ≡ units (n + n) → is_self_inverse n F ≡ true
  unfolding is_self_inverse
  is_self_inverse_lem e = ap (λ l. same_rows l (units (n + n))) e ∙ rows_same (units (n + n))

  module _ (size : length F ≡ n + n) (bounded : All (λ f. f < 2 ^ (n + n)) F) where
    abbrev P : List ℕ
    P = identity_plus n F

    abbrev test : ℕ → Bool
    test v = eqb (times v P) 0

    -- what is added twice: u and uFF
    twice_added : (u : ℕ) → u < 2 ^ (n + n) → added n F (added n F u) ≡ u ⊕ times (times u F) F
    twice_added u l =
        let a = times u F in
        added_is n F (added n F u) (added_lt n F bounded u) ∙ ap (λ t. t ⊕ times t F) (added_is n F u l)
        ∙ ap (λ t. (u ⊕ a) ⊕ t) (times_sum F u a) ∙ sum_assoc u a (a ⊕ times a F) ∙ ap (λ t. u ⊕ t) (self_left 𝕎 a (times a F))

    abbrev Returns : ℕ → Type 0
    Returns u = times (times u F) F ≡ u

    tests_is : list_all test P ≡ list_all test (map (added n F) (units (n + n)))
    tests_is = ap (list_all test) (identity_plus_is n F size)

    to_returns : list_all test P ≡ true → All Returns (units (n + n))
    to_returns e =
        All-map₂ (λ u l t. sym (eq_of_sum 𝕎 u (times (times u F) F) (sym (twice_added u l) ∙ sym (plus_times n F size (added n F u)) ∙ eqb-true (times (added n F u) P) 0 t)))
        (units (n + n)) (units_lt (n + n))
        (All-of_map (added n F) (λ v. test v ≡ true) (units (n + n)) (all_true test (map (added n F) (units (n + n))) (sym tests_is ∙ e)))

    of_returns : All Returns (units (n + n)) → list_all test P ≡ true
    of_returns h =
        tests_is
        ∙ true_all test (map (added n F) (units (n + n))) (All-to_map (added n F) (λ v. test v ≡ true) (units (n + n))
        (All-map₂ (λ u l e. eq-eqb (times (added n F u) P) 0 (plus_times n F size (added n F u) ∙ twice_added u l ∙ ap (λ t. u ⊕ t) e ∙ sum_self u)) (units (n + n)) (units_lt (n + n)) h))

    squared : matmul F F ≡ map (λ u. times (times u F) F) (units (n + n))
    squared = matmul_is F F ∙ ap (map (λ a. times a F)) (sym (F-is n F size)) ∙ map-map (λ a. times a F) (λ u. times u F) (units (n + n))

    same : (l : List ℕ) → map (λ u. u) l ≡ l
    same [] = refl
    same (x ∷ l) = ap (λ t. x ∷ t) (same l)

    identity_of : All Returns (units (n + n)) → matmul F F ≡ units (n + n)
    identity_of h = squared ∙ map_eq (λ u. times (times u F) F) (λ u. u) (units (n + n)) h ∙ same (units (n + n))

    returns_of : matmul F F ≡ units (n + n) → All Returns (units (n + n))
    returns_of e = eq_map (λ u. times (times u F) F) (λ u. u) (units (n + n)) (sym squared ∙ e ∙ sym (same (units (n + n))))

    pub squares_to_zero : list_all test P ≡ is_self_inverse n F
    squares_to_zero =
        both_ways (list_all test P) (is_self_inverse n F) (λ e. is_self_inverse_lem (identity_of (to_returns e))) (λ e. of_returns (returns_of (self_inverse_is e)))
