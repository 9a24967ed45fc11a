-- Turns of n qubits are transvections, and the product of a list: its rows are the basis vectors sent through the list, and so is what it makes of a vector.
-- Assumes nothing.
use mathlib.Core.Path.{◌≡◌, refl, sym, ap, ap₂, ◌∙◌, fun_ext}
use mathlib.Core.List.{List, [], ◌∷◌, ◌++◌, map, map-map, map-id, reverse}
use Prim.Native.Nat.{ℕ, zero, suc, ◌+◌, ◌*◌, ◌^◌, ◌<◌}
use native.Mathlib.Nat.{le_of_suc-le-suc, not-suc-le-zero}
use native.Mathlib.Numerals.{add-one}
use lib.ListN.{length, take, get_or, length-map}
use lib.Seq.{take-suc}
use Rattle.binar.specs.Bits.{select, ◌⊕◌}
use Rattle.binar.proofs.Sums.{sum_lt, sum_self}
use Rattle.blocks.specs.Matrices.{times, units, All}
use Rattle.blocks.proofs.All.{All-map, All-to_map}
use Rattle.blocks.proofs.Products.{select_lt, times_sum}
use Rattle.blocks.proofs.Units.{units_length, units_lt, times_units}
use Rattle.linear.specs.Maps.{Additive}
use Rattle.linear.proofs.Sums.{swap4, eq_of_sum}
use Rattle.linear.proofs.Instances.{𝕎}
use Rattle.linear.proofs.Maps.{span_kernel}
use Rattle.linear.proofs.Rows.{map_times, units_span}
use Rattle.symplectic.specs.Turns.{pairing, turn, followed, followed_by, product}
use Rattle.symplectic.specs.inner.Vectors.{run}
use Rattle.symplectic.proofs.Lists.{eq_map}
use Rattle.symplectic.proofs.Pairings.{𝕡, pairing_comm, pair_over}
use Rattle.symplectic.proofs.Transvections.{transvection, turn_add, turn_pairs, turn_none, act, act_add, act_pairs, act_reverse}

-- ---- turns

pub turn_is_transvection : (n v u : ℕ) → turn n v u ≡ transvection 𝕎 (𝕡 n) v u
unfolding turn transvection
turn_is_transvection n v u = refl

pub run_is_act : (n : ℕ) (vs : List ℕ) (z : ℕ) → run n vs z ≡ act 𝕎 (𝕡 n) vs z
run_is_act n [] z = refl
run_is_act n (v ∷ vs) z = ap (run n vs) (turn_is_transvection n v z) ∙ run_is_act n vs (transvection 𝕎 (𝕡 n) v z)

pub turn_sum : (n v : ℕ) → Additive 𝕎 𝕎 (turn n v)
unfolding turn transvection
turn_sum n v = turn_add 𝕎 (𝕡 n) v

pub turn_pairing : (n v x y : ℕ) → pairing n (turn n v x) (turn n v y) ≡ pairing n x y
unfolding turn transvection
turn_pairing n v = turn_pairs 𝕎 (𝕡 n) v

pub run_sum : (n : ℕ) (vs : List ℕ) → Additive 𝕎 𝕎 (run n vs)
run_sum n vs x y = run_is_act n vs (x ⊕ y) ∙ act_add 𝕎 (𝕡 n) vs x y ∙ sym (ap₂ ◌⊕◌ (run_is_act n vs x) (run_is_act n vs y))

pub run_pairing : (n : ℕ) (vs : List ℕ) (x y : ℕ) → pairing n (run n vs x) (run n vs y) ≡ pairing n x y
run_pairing n vs x y = ap₂ (pairing n) (run_is_act n vs x) (run_is_act n vs y) ∙ act_pairs 𝕎 (𝕡 n) vs x y

pub run_append : (n : ℕ) (vs ws : List ℕ) (z : ℕ) → run n (vs ++ ws) z ≡ run n ws (run n vs z)
run_append n [] ws z = refl
run_append n (v ∷ vs) ws z = run_append n vs ws (turn n v z)

pub run_reverse : (n : ℕ) (vs : List ℕ) (z : ℕ) → run n (reverse vs) (run n vs z) ≡ z
run_reverse n vs z =
    run_is_act n (reverse vs) (run n vs z) ∙ ap (act 𝕎 (𝕡 n) (reverse vs)) (run_is_act n vs z) ∙ act_reverse 𝕎 (𝕡 n) vs z

-- columns from 2n on are left alone
pub run_over : (n : ℕ) (vs : List ℕ) (h : ℕ) → run n vs (h * 2 ^ (n + n)) ≡ h * 2 ^ (n + n)
run_over n [] h = refl
run_over n (v ∷ vs) h =
    ap (run n vs) (turn_is_transvection n v (h * 2 ^ (n + n)) ∙ turn_none 𝕎 (𝕡 n) v (h * 2 ^ (n + n)) (pairing_comm n (h * 2 ^ (n + n)) v ∙ pair_over n v h))
    ∙ run_over n vs h

-- rows of m columns stay rows of m columns
pub turn_lt : (m n v u : ℕ) → v < 2 ^ m → u < 2 ^ m → turn n v u < 2 ^ m
unfolding turn
turn_lt m n v u hv hu = sum_lt m u (select 0 (pairing n u v) v) hu (select_lt m (pairing n u v) v hv)

pub run_lt : (m n : ℕ) (vs : List ℕ) → All (λ v. v < 2 ^ m) vs → (u : ℕ) → u < 2 ^ m → run n vs u < 2 ^ m
run_lt m n [] a u h = h
run_lt m n (v ∷ vs) a u h = run_lt m n vs a.1 (turn n v u) (turn_lt m n v u a.0 h)

-- ---- matrices followed by turns

pub followed_at : (n : ℕ) (l : List ℕ) (v i : ℕ) → i < length l → get_or (followed n l v) i 0 ≡ turn n v (get_or l i 0)
unfolding followed
followed_at n [] v i h = absurd (not-suc-le-zero h)
followed_at n (x ∷ l) v zero h = refl
followed_at n (x ∷ l) v (suc i) h = followed_at n l v i (le_of_suc-le-suc h)

pub followed_length : (n : ℕ) (F : List ℕ) (v : ℕ) → length (followed n F v) ≡ length F
unfolding followed
followed_length n F v = length-map F (turn n v)

pub followed_lt : (m n : ℕ) (F : List ℕ) (v : ℕ) → All (λ f. f < 2 ^ m) F → v < 2 ^ m → All (λ f. f < 2 ^ m) (followed n F v)
unfolding followed
followed_lt m n F v a h = All-to_map (turn n v) (λ f. f < 2 ^ m) F (All-map (λ f g. turn_lt m n v f h g) F a)

pub followed_times : (n : ℕ) (F : List ℕ) (v z : ℕ) → times z (followed n F v) ≡ turn n v (times z F)
unfolding followed
followed_times n F v z = sym (map_times (turn n v) (turn_sum n v) F z)

pub followed_by_run : (n : ℕ) (F vs : List ℕ) → followed_by n F vs ≡ map (run n vs) F
unfolding followed
followed_by_run n F [] = sym (map-id F)
followed_by_run n F (v ∷ vs) = followed_by_run n (followed n F v) vs ∙ map-map (run n vs) (turn n v) F

pub followed_by_append : (n : ℕ) (F vs ws : List ℕ) → followed_by n F (vs ++ ws) ≡ followed_by n (followed_by n F vs) ws
followed_by_append n F [] ws = refl
followed_by_append n F (v ∷ vs) ws = followed_by_append n (followed n F v) vs ws

pub followed_by_length : (n : ℕ) (F vs : List ℕ) → length (followed_by n F vs) ≡ length F
followed_by_length n F vs = ap length (followed_by_run n F vs) ∙ length-map F (run n vs)

pub followed_by_lt : (m n : ℕ) (F vs : List ℕ) → All (λ f. f < 2 ^ m) F → All (λ v. v < 2 ^ m) vs → All (λ f. f < 2 ^ m) (followed_by n F vs)
followed_by_lt m n F [] a h = a
followed_by_lt m n F (v ∷ vs) a h = followed_by_lt m n (followed n F v) vs (followed_lt m n F v a h.0) h.1

-- the reverse undoes the list
pub followed_by_reverse : (n : ℕ) (F vs : List ℕ) → followed_by n (followed_by n F vs) (reverse vs) ≡ F
followed_by_reverse n F vs =
    followed_by_run n (followed_by n F vs) (reverse vs) ∙ ap (map (run n (reverse vs))) (followed_by_run n F vs)
    ∙ map-map (run n (reverse vs)) (run n vs) F ∙ ap (λ f. map f F) (fun_ext (run_reverse n vs)) ∙ map-id F

-- ---- products

pub product_nil : (n : ℕ) → product n [] ≡ units (n + n)
unfolding product
product_nil n = refl

pub product_run : (n : ℕ) (vs : List ℕ) → product n vs ≡ map (run n vs) (units (n + n))
unfolding product
product_run n vs = followed_by_run n (units (n + n)) vs

pub product_append : (n : ℕ) (vs ws : List ℕ) → product n (vs ++ ws) ≡ followed_by n (product n vs) ws
unfolding product
product_append n vs ws = followed_by_append n (units (n + n)) vs ws

pub product_snoc : (n : ℕ) (vs : List ℕ) (v : ℕ) → product n (vs ++ (v ∷ [])) ≡ followed n (product n vs) v
product_snoc n vs v = product_append n vs (v ∷ [])

-- one more of a list
product_next : (n : ℕ) (vs : List ℕ) (i : ℕ) → i < length vs → product n (take (suc i) vs) ≡ followed n (product n (take i vs)) (get_or vs i 0)
product_next n vs i h = ap (product n) (take-suc vs i 0 h) ∙ product_snoc n (take i vs) (get_or vs i 0)

-- the next turn made of the product so far, for a loop
pub product_more : (n : ℕ) (vs : List ℕ) (i : ℕ) → i < length vs → (F G : List ℕ) (v : ℕ) → F ≡ product n (take i vs) → v ≡ get_or vs i 0 → G ≡ followed n F v → G ≡ product n (take (i + 1) vs)
product_more n vs i h F G v so is made =
    made ∙ ap₂ (followed n) so is ∙ sym (product_next n vs i h) ∙ ap (λ (k : ℕ). product n (take k vs)) (sym (add-one i))

pub product_length : (n : ℕ) (vs : List ℕ) → length (product n vs) ≡ n + n
unfolding product
product_length n vs = followed_by_length n (units (n + n)) vs ∙ units_length (n + n)

pub product_lt : (n : ℕ) (vs : List ℕ) → All (λ v. v < 2 ^ (n + n)) vs → All (λ f. f < 2 ^ (n + n)) (product n vs)
unfolding product
product_lt n vs a = followed_by_lt (n + n) n (units (n + n)) vs (units_lt (n + n)) a

-- turns that take an action to the identity: in reverse they make it
pub product_reverse : (n : ℕ) (F vs : List ℕ) → followed_by n F vs ≡ units (n + n) → product n (reverse vs) ≡ F
unfolding product
product_reverse n F vs e = ap (λ l. followed_by n l (reverse vs)) (sym e) ∙ followed_by_reverse n F vs

-- a row times the identity
pub times_of_units : (m z : ℕ) → z < 2 ^ m → times z (units m) ≡ z
times_of_units m z h =
    eq_of_sum 𝕎 (times z (units m)) z
    (span_kernel 𝕎 𝕎 (λ x. times x (units m) ⊕ x) both_sum (units m)
    (All-map (λ u e. ap (λ t. t ⊕ u) e ∙ sum_self u) (units m) (eq_map (λ u. times u (units m)) (λ u. u) (units m) same)) z (units_span m z h))
  where
    both_sum : Additive 𝕎 𝕎 (λ x. times x (units m) ⊕ x)
    both_sum x y = ap (λ t. t ⊕ (x ⊕ y)) (times_sum (units m) x y) ∙ swap4 𝕎 (times x (units m)) (times y (units m)) x y

    same : map (λ u. times u (units m)) (units m) ≡ map (λ u. u) (units m)
    same = ap (λ k. map (λ u. times u (units m)) (units k)) (sym (units_length m)) ∙ times_units (units m) ∙ sym (map-id (units m))

pub run_times : (n : ℕ) (vs : List ℕ) (z : ℕ) → z < 2 ^ (n + n) → run n vs z ≡ times z (product n vs)
run_times n vs z h =
    ap (run n vs) (sym (times_of_units (n + n) z h)) ∙ map_times (run n vs) (run_sum n vs) (units (n + n)) z ∙ ap (times z) (sym (product_run n vs))
