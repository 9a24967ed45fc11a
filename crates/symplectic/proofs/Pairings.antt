-- The pairing of n qubits: the dot with the exchanged vector, additive, symmetric, zero on the diagonal, and zero with every vector for 0 alone.
-- Assumes nothing.
use mathlib.Core.Path.{◌≡◌, sym, ap, ap₂, ◌∙◌}
use mathlib.Core.Bool.{Bool, false}
use Prim.Native.Nat.{ℕ, ◌+◌, ◌-◌, ◌*◌, ◌/◌, ◌%◌, ◌^◌, ◌≤◌, ◌<◌}
use native.Mathlib.Nat.{mod-lt, mod-eq_of_lt, div-eq_of_lt, zero-mod, mul_assoc, mul-mod_left, add-zero}
use native.Mathlib.Omega.{arith}
use lib.Arith.{digits_lt}
use lib.Pow.{pow_pos, pow-lt, pow-add, mod-pow-add, split, shl-shr, high, low}
use Rattle.binar.specs.Bits.{◌⊻◌, select, bit, ◌⊕◌, dot}
use Rattle.binar.specs.Rows.{width, row_bound}
use Rattle.binar.proofs.Widths.{pow_bound}
use Rattle.binar.proofs.Sums.{bxor_comm, bxor_self, sum_zero, zero_sum, sum_low, sum_down, sum_parts, by_parts, same_bits, bit_of_zero}
use Rattle.binar.proofs.Dots.{dot_comm, dot_sum, dot_zero, dot_parts}
use Rattle.binar.proofs.Ones.{dot_unit}
use Rattle.linear.specs.Maps.{Pairing}
use Rattle.linear.proofs.Instances.{𝔹, 𝕎}
use Rattle.linear.proofs.Maps.{map_o}
use Rattle.symplectic.specs.Turns.{x_bits, z_bits, pairing, turn}
use Rattle.symplectic.specs.inner.Vectors.{swap_halves_lem}

-- ---- the two halves

pub x_lt : (n v : ℕ) → x_bits n v < 2 ^ n
unfolding x_bits
x_lt n v = mod-lt v (pow_pos n)

pub z_lt : (n v : ℕ) → z_bits n v < 2 ^ n
unfolding z_bits
z_lt n v = mod-lt (v / 2 ^ n) (pow_pos n)

pub x_sum : (n a b : ℕ) → x_bits n (a ⊕ b) ≡ x_bits n a ⊕ x_bits n b
unfolding x_bits
x_sum n a b = sum_low n a b

pub z_sum : (n a b : ℕ) → z_bits n (a ⊕ b) ≡ z_bits n a ⊕ z_bits n b
unfolding z_bits
z_sum n a b = ap (λ t. t % 2 ^ n) (sum_down n a b) ∙ sum_low n (a / 2 ^ n) (b / 2 ^ n)

-- columns from 2n on are in neither half
over : (n h : ℕ) → h * 2 ^ (n + n) ≡ (h * 2 ^ n) * 2 ^ n
over n h = ap (λ t. h * t) (pow-add 2 n n) ∙ sym (mul_assoc h (2 ^ n) (2 ^ n))

pub x_over : (n h : ℕ) → x_bits n (h * 2 ^ (n + n)) ≡ 0
unfolding x_bits
x_over n h = ap (λ t. t % 2 ^ n) (over n h) ∙ mul-mod_left (h * 2 ^ n) (2 ^ n)

pub z_over : (n h : ℕ) → z_bits n (h * 2 ^ (n + n)) ≡ 0
unfolding z_bits
z_over n h = ap (λ t. t / 2 ^ n % 2 ^ n) (over n h) ∙ ap (λ t. t % 2 ^ n) (shl-shr (h * 2 ^ n) n) ∙ mul-mod_left h (2 ^ n)

-- ---- exchanged

pub swap_sum : (n a b : ℕ) → swap_halves_lem n (a ⊕ b) ≡ swap_halves_lem n a ⊕ swap_halves_lem n b
unfolding swap_halves_lem
swap_sum n a b =
    ap₂ (λ s t. s * 2 ^ n + t) (x_sum n a b) (z_sum n a b)
    ∙ sym (sum_parts n (x_bits n a) (x_bits n b) (z_bits n a) (z_bits n b) (z_lt n a) (z_lt n b))

pub low_swap : (n v : ℕ) → x_bits n (swap_halves_lem n v) ≡ z_bits n v
unfolding swap_halves_lem x_bits
low_swap n v = low (x_bits n v) n (z_lt n v)

pub high_swap : (n v : ℕ) → z_bits n (swap_halves_lem n v) ≡ x_bits n v
unfolding swap_halves_lem z_bits
high_swap n v = ap (λ t. t % 2 ^ n) (high (x_bits n v) n (z_lt n v)) ∙ mod-eq_of_lt (x_lt n v)

pub swap_lt : (n v : ℕ) → swap_halves_lem n v < 2 ^ (n + n)
unfolding swap_halves_lem
swap_lt n v = rw (pow-add 2 n n) (digits_lt (x_lt n v) (z_lt n v))

pub swap_swap : (n v : ℕ) → swap_halves_lem n (swap_halves_lem n v) ≡ v % 2 ^ (n + n)
unfolding swap_halves_lem x_bits z_bits
swap_swap n v = ap₂ (λ s t. s * 2 ^ n + t) (low_swap n v) (high_swap n v) ∙ sym (mod-pow-add v n n)

pub swap_over : (n h : ℕ) → swap_halves_lem n (h * 2 ^ (n + n)) ≡ 0
unfolding swap_halves_lem
swap_over n h = ap₂ (λ s t. s * 2 ^ n + t) (x_over n h) (z_over n h) ∙ omega arith

-- by its halves, in rows that have columns enough
pub swap_rows : (n v : ℕ) → n + n ≤ width → (x_bits n v * 2 ^ n % row_bound) ⊕ z_bits n v ≡ swap_halves_lem n v
unfolding swap_halves_lem
swap_rows n v h =
    let x = x_bits n v in
    let z = z_bits n v in
    let fits : x * 2 ^ n < row_bound = omega (arith, swap_lt n v, pow_bound (n + n) h) in
    ap₂ ◌⊕◌ (mod-eq_of_lt fits ∙ sym (add-zero (x * 2 ^ n))) zero_high ∙ sum_parts n x 0 0 z (pow_pos n) (z_lt n v)
    ∙ ap₂ (λ s t. s * 2 ^ n + t) (sum_zero x) (zero_sum z)
  where
    zero_high : z_bits n v ≡ 0 * 2 ^ n + z_bits n v
    zero_high = omega arith

-- of one half alone
pub swap_low : (n u : ℕ) → u < 2 ^ n → swap_halves_lem n u ≡ u * 2 ^ n
unfolding swap_halves_lem x_bits z_bits
swap_low n u h =
    ap₂ (λ s t. s * 2 ^ n + t) (mod-eq_of_lt h) (ap (λ t. t % 2 ^ n) (div-eq_of_lt h) ∙ zero-mod (2 ^ n)) ∙ add-zero (u * 2 ^ n)

pub swap_high : (n u : ℕ) → u < 2 ^ n → swap_halves_lem n (u * 2 ^ n) ≡ u
unfolding swap_halves_lem x_bits z_bits
swap_high n u h =
    ap₂ (λ s t. s * 2 ^ n + t) (mul-mod_left u (2 ^ n)) (ap (λ t. t % 2 ^ n) (shl-shr u n) ∙ mod-eq_of_lt h) ∙ omega arith

-- ---- the pairing

-- columns that the other row has not
pub dot_low : (k a s : ℕ) → s < 2 ^ k → dot a s ≡ dot (a % 2 ^ k) s
dot_low k a s h =
    ap₂ dot (sym (split a k)) both ∙ dot_parts k (a / 2 ^ k) (a % 2 ^ k) 0 s (mod-lt a (pow_pos k)) h
    ∙ ap (λ t. t ⊻ dot (a % 2 ^ k) s) (dot_zero (a / 2 ^ k))
  where
    both : s ≡ 0 * 2 ^ k + s
    both = omega arith

pub pairing_dot : (n u v : ℕ) → pairing n u v ≡ dot u (swap_halves_lem n v)
unfolding pairing swap_halves_lem x_bits z_bits
pairing_dot n u v =
    bxor_comm (dot (x_bits n u) (z_bits n v)) (dot (z_bits n u) (x_bits n v))
    ∙ ap (λ t. t ⊻ dot (x_bits n u) (z_bits n v)) (sym (dot_low n (u / 2 ^ n) (x_bits n v) (x_lt n v)))
    ∙ sym (dot_parts n (u / 2 ^ n) (x_bits n u) (x_bits n v) (z_bits n v) (x_lt n u) (z_lt n v))
    ∙ ap (λ t. dot t (swap_halves_lem n v)) (split u n)

pub pairing_sum : (n u a b : ℕ) → pairing n u (a ⊕ b) ≡ pairing n u a ⊻ pairing n u b
pairing_sum n u a b =
    pairing_dot n u (a ⊕ b) ∙ ap (dot u) (swap_sum n a b) ∙ dot_sum u (swap_halves_lem n a) (swap_halves_lem n b)
    ∙ sym (ap₂ ◌⊻◌ (pairing_dot n u a) (pairing_dot n u b))

pub pairing_comm : (n u v : ℕ) → pairing n u v ≡ pairing n v u
unfolding pairing
pairing_comm n u v =
    ap₂ ◌⊻◌ (dot_comm (x_bits n u) (z_bits n v)) (dot_comm (z_bits n u) (x_bits n v))
    ∙ bxor_comm (dot (z_bits n v) (x_bits n u)) (dot (x_bits n v) (z_bits n u))

-- as a row with its halves exchanged gives them: of two rows, of two basis vectors, and of a turn
pub swap_pairing : (n u v : ℕ) → dot v (swap_halves_lem n u) ≡ pairing n u v
swap_pairing n u v = sym (pairing_dot n v u) ∙ pairing_comm n v u

pub swap_basis : (n i j : ℕ) → bit j (swap_halves_lem n (2 ^ i)) ≡ pairing n (2 ^ i) (2 ^ j)
swap_basis n i j = sym (dot_unit (swap_halves_lem n (2 ^ i)) j) ∙ dot_comm (swap_halves_lem n (2 ^ i)) (2 ^ j) ∙ swap_pairing n (2 ^ i) (2 ^ j)

-- a row's pairing with a basis vector is its bit in the other half
pub pairing_x : (n u j : ℕ) → j < n → pairing n u (2 ^ j) ≡ bit (j + n) u
pairing_x n u j h =
    pairing_dot n u (2 ^ j) ∙ ap (dot u) (swap_low n (2 ^ j) (pow-lt h) ∙ sym (pow-add 2 j n)) ∙ dot_unit u (j + n)

pub pairing_z : (n u j : ℕ) → n ≤ j → j < n + n → pairing n u (2 ^ j) ≡ bit (j - n) u
pairing_z n u j g h =
    let e : j - n + n ≡ j = omega arith in
    let l : j - n < n = omega arith in
    pairing_dot n u (2 ^ j) ∙ ap (λ k. dot u (swap_halves_lem n (2 ^ k))) (sym e) ∙ ap (λ t. dot u (swap_halves_lem n t)) (pow-add 2 (j - n) n)
    ∙ ap (dot u) (swap_high n (2 ^ (j - n)) (pow-lt l)) ∙ dot_unit u (j - n)

pub swap_turn : (n v u s : ℕ) → s ≡ swap_halves_lem n v → u ⊕ select 0 (dot u s) v ≡ turn n v u
unfolding turn
swap_turn n v u s e = ap (λ (b : Bool). u ⊕ select 0 b v) (ap (dot u) e ∙ sym (pairing_dot n u v))

pub pairing_self : (n u : ℕ) → pairing n u u ≡ false
unfolding pairing
pairing_self n u = ap (λ t. t ⊻ dot (z_bits n u) (x_bits n u)) (dot_comm (x_bits n u) (z_bits n u)) ∙ bxor_self (dot (z_bits n u) (x_bits n u))

abbrev pub 𝕡 : ℕ → Pairing 𝕎
𝕡 n = record { at = pairing n; right = pairing_sum n; comm = pairing_comm n; self = pairing_self n }

pub pairing_zero : (n u : ℕ) → pairing n u 0 ≡ false
pairing_zero n u = map_o 𝕎 𝔹 (pairing n u) (pairing_sum n u)

pub pair_over : (n u h : ℕ) → pairing n u (h * 2 ^ (n + n)) ≡ false
pair_over n u h = pairing_dot n u (h * 2 ^ (n + n)) ∙ ap (dot u) (swap_over n h) ∙ dot_zero u

pub pairing_low : (n u v : ℕ) → pairing n u (v % 2 ^ (n + n)) ≡ pairing n u v
pairing_low n u v =
    sym (ap (pairing n u) (by_parts (n + n) v) ∙ pairing_sum n u (v / 2 ^ (n + n) * 2 ^ (n + n)) (v % 2 ^ (n + n))
    ∙ ap (λ t. t ⊻ pairing n u (v % 2 ^ (n + n))) (pair_over n u (v / 2 ^ (n + n))))

pub pairing_swap : (n u v : ℕ) → v < 2 ^ (n + n) → pairing n u (swap_halves_lem n v) ≡ dot u v
pairing_swap n u v h = pairing_dot n u (swap_halves_lem n v) ∙ ap (dot u) (swap_swap n v ∙ mod-eq_of_lt h)

-- with an exchanged unit row: the bit
pub pairing_unit : (n u k : ℕ) → k < n + n → pairing n u (swap_halves_lem n (2 ^ k)) ≡ bit k u
pairing_unit n u k h = pairing_swap n u (2 ^ k) (pow-lt h) ∙ dot_unit u k

-- only 0 pairs to 0 with every vector of 2n columns
pub nondegenerate : (n u : ℕ) → u < 2 ^ (n + n) → ((v : ℕ) → v < 2 ^ (n + n) → pairing n u v ≡ false) → u ≡ 0
nondegenerate n u h f =
    same_bits (n + n) u 0 h (pow_pos (n + n))
    (λ k l. sym (pairing_unit n u k l) ∙ f (swap_halves_lem n (2 ^ k)) (swap_lt n (2 ^ k)) ∙ sym (bit_of_zero k))
