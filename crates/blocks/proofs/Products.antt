-- A row times a matrix: additive in the row, the row of the matrix at a unit, and the product of matrices.
-- Assumes nothing.
use mathlib.Core.Path.{◌≡◌, refl, sym, ap, ap₂, ◌∙◌}
use mathlib.Core.Bool.{Bool, true, false, ◌&&◌}
use mathlib.Core.List.{List, [], ◌∷◌, map}
use Prim.Native.Nat.{ℕ, zero, suc, ◌+◌, ◌*◌, ◌/◌, ◌%◌, ◌^◌, ◌≤◌, ◌<◌}
use native.Mathlib.Nat.{pow-suc, mul_assoc, mul-div_cancel, zero-lt-suc, le_of_suc-le-suc, not-suc-le-zero, pos_of_ne-zero}
use native.Mathlib.Omega.{arith}
use lib.Dec.{eqb, ltb}
use lib.Pow.{pow_pos, pow_mono}
use borrow.Author.Tests.{ltb-true, ltb-false, eqb-false}
use lib.ListN.{length, get_or, length-map, get_or-map}
use Rattle.binar.specs.Bits.{◌⊻◌, select, digit, odd, bit, ◌⊕◌, dot}
use Rattle.binar.specs.Rows.{width, row_bound, lowest}
use Rattle.binar.proofs.Digits.{digit_lt, same_digits, odd_digit, half_digit, odd_zero, odd_one, odd_double, odd_sum, half_sum, bit_suc}
use Rattle.binar.proofs.Sums.{bxor_comm, zero_sum, sum_zero, sum_self, sum_swap, sum_lt, by_parts, bit_zero_is_odd}
use Rattle.binar.proofs.Dots.{dot_step, dot_comm, zero_dot, dot_zero, sum_dot}
use Rattle.binar.proofs.Ones.{lowest_one, bit_le, sum_unit}
use Rattle.blocks.specs.Matrices.{times, matmul, dots, All}

pub select_sum : (a b : Bool) (v : ℕ) → select 0 (a ⊻ b) v ≡ select 0 a v ⊕ select 0 b v
select_sum true true v = sym (sum_self v)
select_sum true false v = sym (sum_zero v)
select_sum false b v = sym (zero_sum (select 0 b v))

pub times_nil : (c : ℕ) → times c [] ≡ 0
unfolding times
times_nil c = refl

pub times_cons : (c v : ℕ) (M : List ℕ) → times c (v ∷ M) ≡ times (c / 2) M ⊕ select 0 (odd c) v
unfolding times
times_cons c v M = refl

pub times_sum : (M : List ℕ) (a b : ℕ) → times (a ⊕ b) M ≡ times a M ⊕ times b M
unfolding times
times_sum [] a b = sym (zero_sum 0)
times_sum (v ∷ M) a b =
    ap₂ ◌⊕◌ (ap (λ t. times t M) (half_sum a b) ∙ times_sum M (a / 2) (b / 2)) (ap (λ t. select 0 t v) (odd_sum a b) ∙ select_sum (odd a) (odd b) v)
    ∙ sum_swap (times (a / 2) M) (times (b / 2) M) (select 0 (odd a) v) (select 0 (odd b) v)

pub times_zero : (M : List ℕ) → times 0 M ≡ 0
unfolding times
times_zero [] = refl
times_zero (v ∷ M) = ap₂ (λ t b. t ⊕ select 0 b v) (times_zero M) odd_zero ∙ zero_sum 0

-- a row with its lowest column empty passes the first row of the matrix over
pub times_double : (u v : ℕ) (M : List ℕ) → times (u * 2) (v ∷ M) ≡ times u M
unfolding times
times_double u v M =
    ap₂ (λ c b. times c M ⊕ select 0 b v) (mul-div_cancel u (zero-lt-suc 1)) (odd_double u)
    ∙ sum_zero (times u M)

pub times_unit : (i : ℕ) (M : List ℕ) → times (2 ^ i) M ≡ get_or M i 0
unfolding times
times_unit i [] = refl
times_unit zero (v ∷ M) = ap₂ (λ t b. t ⊕ select 0 b v) (times_zero M) odd_one ∙ zero_sum v
times_unit (suc i) (v ∷ M) = ap (λ t. times t (v ∷ M)) (pow-suc 2 i) ∙ times_double (2 ^ i) v M ∙ times_unit i M

pub times_high : (M : List ℕ) (h : ℕ) → times (h * 2 ^ length M) M ≡ 0
unfolding times
times_high [] h = refl
times_high (v ∷ M) h =
    ap (λ t. times t (v ∷ M)) (ap (λ t. h * t) (pow-suc 2 (length M)) ∙ sym (mul_assoc h (2 ^ length M) 2))
    ∙ times_double (h * 2 ^ length M) v M ∙ times_high M h

-- columns past the rows of the matrix do not matter
pub times_low : (M : List ℕ) (c : ℕ) → times (c % 2 ^ length M) M ≡ times c M
times_low M c =
    sym (ap (λ t. times t M) (by_parts (length M) c) ∙ times_sum M (c / 2 ^ length M * 2 ^ length M) (c % 2 ^ length M)
    ∙ ap (λ t. t ⊕ times (c % 2 ^ length M) M) (times_high M (c / 2 ^ length M)) ∙ zero_sum (times (c % 2 ^ length M) M))

-- one row of the matrix is added, and its column taken out of the row
pub times_next : (M : List ℕ) (t w c all : ℕ) → w ⊕ times c M ≡ all → (w ⊕ get_or M t 0) ⊕ times (c ⊕ 2 ^ t) M ≡ all
times_next M t w c all e =
    ap (λ x. (w ⊕ get_or M t 0) ⊕ x) (times_sum M c (2 ^ t) ∙ ap (λ x. times c M ⊕ x) (times_unit t M))
    ∙ sum_swap w (get_or M t 0) (times c M) (get_or M t 0) ∙ ap₂ ◌⊕◌ e (sum_self (get_or M t 0)) ∙ sum_zero all

pub times_done : (M : List ℕ) (w c all : ℕ) → c ≡ 0 → w ⊕ times c M ≡ all → w ≡ all
times_done M w c all z e = sym (ap (λ x. w ⊕ x) (ap (λ x. times x M) z ∙ times_zero M) ∙ sum_zero w) ∙ e

-- ---- with dots

select_dot : (b : Bool) (v x : ℕ) → dot (select 0 b v) x ≡ b && dot v x
select_dot true v x = refl
select_dot false v x = zero_dot x

pub dots_nil : (v : ℕ) → dots [] v ≡ 0
unfolding dots
dots_nil v = refl

pub dots_cons : (x : ℕ) (M : List ℕ) (v : ℕ) → dots (x ∷ M) v ≡ dots M v * 2 + digit (dot v x)
unfolding dots
dots_cons x M v = refl

pub dot_times : (M : List ℕ) (c x : ℕ) → dot (times c M) x ≡ dot c (dots M x)
unfolding times dots
dot_times [] c x = zero_dot x ∙ sym (dot_zero c)
dot_times (v ∷ M) c x =
    sum_dot (times (c / 2) M) (select 0 (odd c) v) x
    ∙ ap₂ ◌⊻◌ (dot_times M (c / 2) x) (select_dot (odd c) v x ∙ ap (λ t. odd c && t) (dot_comm v x))
    ∙ bxor_comm (dot (c / 2) (dots M x)) (odd c && dot x v)
    ∙ sym (dot_step c (dots M x * 2 + digit (dot x v)) ∙ ap₂ (λ s t. (odd c && s) ⊻ dot (c / 2) t) (odd_digit (dot x v) (dots M x)) (half_digit (dot x v) (dots M x)))

pub dots_sum : (B : List ℕ) (x y : ℕ) → dots B (x ⊕ y) ≡ dots B x ⊕ dots B y
unfolding dots
dots_sum [] x y = sym (zero_sum 0)
dots_sum (b ∷ B) x y =
    let p = dots B x * 2 + digit (dot x b) in
    let q = dots B y * 2 + digit (dot y b) in
    same_digits (dots B (x ⊕ y) * 2 + digit (dot (x ⊕ y) b)) (p ⊕ q)
    (odd_digit (dot (x ⊕ y) b) (dots B (x ⊕ y)) ∙ sum_dot x y b ∙ sym (odd_sum p q ∙ ap₂ ◌⊻◌ (odd_digit (dot x b) (dots B x)) (odd_digit (dot y b) (dots B y))))
    (half_digit (dot (x ⊕ y) b) (dots B (x ⊕ y)) ∙ dots_sum B x y ∙ sym (half_sum p q ∙ ap₂ ◌⊕◌ (half_digit (dot x b) (dots B x)) (half_digit (dot y b) (dots B y))))

pub dots_lt : (M : List ℕ) (v : ℕ) → dots M v < 2 ^ length M
unfolding dots
dots_lt [] v = pow_pos 0
dots_lt (x ∷ M) v = omega (arith, digit_lt (dot v x), dots_lt M v, pow-suc 2 (length M))

pub bit_dots : (M : List ℕ) (v i : ℕ) → i < length M → bit i (dots M v) ≡ dot v (get_or M i 0)
unfolding dots
bit_dots [] v i h = absurd (not-suc-le-zero h)
bit_dots (x ∷ M) v zero h = bit_zero_is_odd (dots M v * 2 + digit (dot v x)) ∙ odd_digit (dot v x) (dots M v)
bit_dots (x ∷ M) v (suc i) h =
    bit_suc i (dots M v * 2 + digit (dot v x)) ∙ ap (bit i) (half_digit (dot v x) (dots M v)) ∙ bit_dots M v i (le_of_suc-le-suc h)

-- ---- matrices

select_times : (b : Bool) (a : ℕ) (B : List ℕ) → select 0 b (times a B) ≡ times (select 0 b a) B
select_times true a B = refl
select_times false a B = sym (times_zero B)

pub times_matmul : (A B : List ℕ) (c : ℕ) → times c (matmul A B) ≡ times (times c A) B
unfolding times matmul
times_matmul [] B c = sym (times_zero B)
times_matmul (a ∷ A) B c =
    ap₂ ◌⊕◌ (times_matmul A B (c / 2)) (select_times (odd c) a B) ∙ sym (times_sum B (times (c / 2) A) (select 0 (odd c) a))

pub matmul_is : (A B : List ℕ) → matmul A B ≡ map (λ a. times a B) A
unfolding matmul
matmul_is A B = refl

pub row_times : (A B : List ℕ) (i : ℕ) → get_or (matmul A B) i 0 ≡ times (get_or A i 0) B
row_times A B i = ap₂ (λ M d. get_or M i d) (matmul_is A B) (sym (times_zero B)) ∙ get_or-map (λ a. times a B) A i 0

pub matmul_length : (A B : List ℕ) → length (matmul A B) ≡ length A
unfolding matmul
matmul_length A B = length-map A (λ a. times a B)

pub select_lt : (m : ℕ) (b : Bool) (v : ℕ) → v < 2 ^ m → select 0 b v < 2 ^ m
select_lt m true v h = h
select_lt m false v h = pow_pos m

pub times_lt : (m : ℕ) (M : List ℕ) → All (λ v. v < 2 ^ m) M → (c : ℕ) → times c M < 2 ^ m
unfolding times
times_lt m [] a c = pow_pos m
times_lt m (v ∷ M) a c = sum_lt m (times (c / 2) M) (select 0 (odd c) v) (times_lt m M a.1 (c / 2)) (select_lt m (odd c) v a.0)

-- ---- the ones of a row, lowest first

power_below : (t k x : ℕ) → 2 ^ t ≤ x → x < 2 ^ k → t < k
power_below t k x h g = go (ltb t k) refl
  where
    go : (b : Bool) → ltb t k ≡ b → t < k
    go true e = ltb-true t k e
    go false e = absurd (omega (arith, pow_mono (ltb-false t k e)))

-- its column is inside the width and the rows of the matrix, and without it the row is less
pub lowest_row : (k x : ℕ) → eqb x 0 ≡ false → x < row_bound → x < 2 ^ k → (lowest x < width) × (lowest x < k) × (x ⊕ 2 ^ lowest x < x)
lowest_row k x e h g =
    let t = lowest x in
    let o = lowest_one x (pos_of_ne-zero (eqb-false x 0 e)) h in
    let l = bit_le t x o.1 in
    let s = sum_unit t x o.1 in
    (o.0, power_below t k x l g, omega (arith, pow_pos t))
