-- The turns of vectors that pair to 0 with each other: they add up, each in its own part.
-- Assumes nothing.
use mathlib.Core.Path.{◌≡◌, refl, sym, ap, ap₂, ◌∙◌}
use mathlib.Core.Bool.{Bool, true, false}
use mathlib.Core.List.{List, [], ◌∷◌}
use Prim.Native.Nat.{ℕ}
use Rattle.binar.specs.Bits.{select, dot, ◌⊕◌}
use Rattle.binar.proofs.Sums.{sum_assoc, sum_swap, sum_zero, zero_sum}
use Rattle.binar.proofs.Dots.{dot_comm, sum_dot}
use Rattle.blocks.specs.Matrices.{All}
use Rattle.blocks.proofs.All.{All-map}
use Rattle.blocks.proofs.Products.{select_sum}
use Rattle.linear.proofs.Instances.{𝕎}
use Rattle.linear.proofs.Maps.{map_o}
use Rattle.symplectic.specs.Turns.{pairing, turn}
use Rattle.symplectic.specs.inner.Vectors.{run, swap_halves_lem}
use Rattle.symplectic.proofs.Pairings.{𝕡, swap_pairing, swap_sum}
use Rattle.symplectic.proofs.Products.{turn_is_transvection}
use Rattle.symplectic.proofs.Transvections.{turn_is}
use Rattle.self_inverse.specs.inner.Peels.{outers}
use Rattle.self_inverse.specs.Promises.{AllCommute}

pub outers_sum : (vs : List ℕ) (x y : ℕ) → outers vs (x ⊕ y) ≡ outers vs x ⊕ outers vs y
outers_sum [] x y = sym (zero_sum 0)
outers_sum (v ∷ vs) x y =
    ap₂ ◌⊕◌ (ap (λ b. select 0 b v) (sum_dot x y v) ∙ select_sum (dot x v) (dot y v) v) (outers_sum vs x y)
    ∙ sum_swap (select 0 (dot x v) v) (select 0 (dot y v) v) (outers vs x) (outers vs y)

outers_none : (vs : List ℕ) (x : ℕ) → All (λ w. dot x w ≡ false) vs → outers vs x ≡ 0
outers_none [] x a = refl
outers_none (v ∷ vs) x a = ap₂ ◌⊕◌ (ap (λ b. select 0 b v) a.0) (outers_none vs x a.1) ∙ zero_sum 0

module _ (n : ℕ) where
  -- the dot with an exchanged vector
  exchanged_dot : (u v : ℕ) → dot (swap_halves_lem n u) v ≡ pairing n u v
  exchanged_dot u v = dot_comm (swap_halves_lem n u) v ∙ swap_pairing n u v

  outers_zero : (vs : List ℕ) → outers vs (swap_halves_lem n 0) ≡ 0
  outers_zero vs = map_o 𝕎 𝕎 (λ u. outers vs (swap_halves_lem n u)) (λ x y. ap (outers vs) (swap_sum n x y) ∙ outers_sum vs (swap_halves_lem n x) (swap_halves_lem n y))

  -- a vector that pairs to 0 with all of them adds nothing to what they do
  outers_select : (vs : List ℕ) (v : ℕ) (b : Bool) → All (λ w. pairing n v w ≡ false) vs → outers vs (swap_halves_lem n (select 0 b v)) ≡ 0
  outers_select vs v true a = outers_none vs (swap_halves_lem n v) (All-map (λ w e. exchanged_dot v w ∙ e) vs a)
  outers_select vs v false a = outers_zero vs

  turn_adds : (v z : ℕ) → turn n v z ≡ z ⊕ select 0 (dot (swap_halves_lem n z) v) v
  turn_adds v z = turn_is_transvection n v z ∙ turn_is 𝕎 (𝕡 n) v z ∙ ap (λ b. z ⊕ select 0 b v) (sym (exchanged_dot z v))

  -- each pairs to 0 with those behind it
  abbrev Onward : List ℕ → Type 0
  Onward [] = Unit {0}
  Onward (v ∷ vs) = All (λ w. pairing n v w ≡ false) vs × Onward vs

  onward_of : (vs : List ℕ) → AllCommute n vs → Onward vs
  onward_of [] a = tt
  onward_of (v ∷ vs) a = (a.0.1, onward_of vs (All-map (λ w h. h.1) vs a.1))

  run_onward : (vs : List ℕ) → Onward vs → (z : ℕ) → run n vs z ≡ z ⊕ outers vs (swap_halves_lem n z)
  run_onward [] a z = sym (sum_zero z)
  run_onward (v ∷ vs) a z =
      let b = dot (swap_halves_lem n z) v in
      let t = select 0 b v in
      ap (run n vs) (turn_adds v z) ∙ run_onward vs a.1 (z ⊕ t)
      ∙ ap (λ q. (z ⊕ t) ⊕ q) (ap (outers vs) (swap_sum n z t) ∙ outers_sum vs (swap_halves_lem n z) (swap_halves_lem n t)
      ∙ ap (λ q. outers vs (swap_halves_lem n z) ⊕ q) (outers_select vs v b a.0) ∙ sum_zero (outers vs (swap_halves_lem n z)))
      ∙ sum_assoc z t (outers vs (swap_halves_lem n z))

  pub run_commuting : (vs : List ℕ) → AllCommute n vs → (z : ℕ) → run n vs z ≡ z ⊕ outers vs (swap_halves_lem n z)
  run_commuting vs a z = run_onward vs (onward_of vs a) z
