-- A column times a row added to a matrix, and the sums of such: what a vector times them is.
-- Assumes nothing.
use mathlib.Core.Path.{◌≡◌, refl, sym, ap, ap₂, ◌∙◌}
use mathlib.Core.Bool.{Bool, true, false, ◌&&◌}
use mathlib.Core.List.{List, [], ◌∷◌, ◌++◌}
use Prim.Native.Nat.{ℕ, zero, suc, ◌+◌, ◌/◌, ◌^◌, ◌<◌}
use native.Mathlib.Nat.{pow-suc, le_of_suc-le-suc}
use native.Mathlib.Omega.{arith}
use lib.ListN.{length, get_or}
use Rattle.binar.specs.Bits.{◌⊻◌, select, odd, bit, dot, ◌⊕◌}
use Rattle.binar.proofs.Digits.{bit_suc}
use Rattle.binar.proofs.Sums.{sum_assoc, sum_comm, sum_self, sum_zero, zero_sum, sum_left, sum_lt, bit_zero_is_odd}
use Rattle.binar.proofs.Dots.{dot_step, dot_zero, dot_sum}
use Rattle.blocks.specs.Matrices.{times, All}
use Rattle.blocks.proofs.Products.{select_lt, times_nil, times_cons}
use Rattle.linear.proofs.Instances.{𝕎}
use Rattle.linear.proofs.Sums.{self_left}
use Rattle.self_inverse.specs.inner.Peels.{plus_outer, outers, three, with_pair}

-- ---- added to a matrix

pub outer_length : (u v : ℕ) (M : List ℕ) → length (plus_outer u v M) ≡ length M
outer_length u v [] = refl
outer_length u v (x ∷ M) = ap suc (outer_length (u / 2) v M)

pub outer_at : (u v : ℕ) (M : List ℕ) (i : ℕ) → i < length M → get_or (plus_outer u v M) i 0 ≡ get_or M i 0 ⊕ select 0 (bit i u) v
outer_at u v [] i l = absurd (omega arith)
outer_at u v (x ∷ M) zero l = ap (λ b. x ⊕ select 0 b v) (sym (bit_zero_is_odd u))
outer_at u v (x ∷ M) (suc i) l = outer_at (u / 2) v M i (le_of_suc-le-suc l) ∙ ap (λ b. get_or M i 0 ⊕ select 0 b v) (sym (bit_suc i u))

pub outer_lt : (m u v : ℕ) → v < 2 ^ m → (M : List ℕ) → All (λ x. x < 2 ^ m) M → All (λ x. x < 2 ^ m) (plus_outer u v M)
outer_lt m u v h [] a = tt
outer_lt m u v h (x ∷ M) a = (sum_lt m x (select 0 (odd u) v) a.0 (select_lt m (odd u) v h), outer_lt m (u / 2) v h M a.1)

crossed : (a b d : Bool) (t x v : ℕ) → (t ⊕ select 0 d v) ⊕ select 0 a (x ⊕ select 0 b v) ≡ (t ⊕ select 0 a x) ⊕ select 0 ((a && b) ⊻ d) v
crossed false b d t x v = sum_zero (t ⊕ select 0 d v) ∙ ap (λ s. s ⊕ select 0 d v) (sym (sum_zero t))
crossed true false d t x v = ap (λ s. (t ⊕ select 0 d v) ⊕ s) (sum_zero x) ∙ simp (sum_assoc, sum_comm)
crossed true true true t x v = simp (sum_assoc, sum_left, sum_self, sum_zero)
crossed true true false t x v = simp (sum_assoc, sum_zero)

pub outer_times : (u v : ℕ) (M : List ℕ) → u < 2 ^ length M → (c : ℕ) → times c (plus_outer u v M) ≡ times c M ⊕ select 0 (dot c u) v
outer_times u v [] h c =
    let z : u ≡ 0 = omega arith in
    sym (ap₂ (λ s t. s ⊕ select 0 t v) (times_nil c) (ap (dot c) z ∙ dot_zero c) ∙ zero_sum 0 ∙ sym (times_nil c))
outer_times u v (x ∷ M) h c =
    times_cons c (x ⊕ select 0 (odd u) v) (plus_outer (u / 2) v M)
    ∙ ap (λ t. t ⊕ select 0 (odd c) (x ⊕ select 0 (odd u) v)) (outer_times (u / 2) v M (omega (arith, pow-suc 2 (length M))) (c / 2))
    ∙ crossed (odd c) (odd u) (dot (c / 2) (u / 2)) (times (c / 2) M) x v
    ∙ sym (ap₂ (λ s t. s ⊕ select 0 t v) (times_cons c x M) (dot_step c u))

-- ---- sums of them

pub outers_snoc : (vs : List ℕ) (v x : ℕ) → outers (vs ++ (v ∷ [])) x ≡ outers vs x ⊕ select 0 (dot x v) v
outers_snoc [] v x = sum_comm (select 0 (dot x v) v) 0
outers_snoc (w ∷ vs) v x =
    ap (λ t. select 0 (dot x w) w ⊕ t) (outers_snoc vs v x) ∙ sym (sum_assoc (select 0 (dot x w) w) (outers vs x) (select 0 (dot x v) v))

-- the part of f and s crosswise
abbrev pub across : ℕ → ℕ → ℕ → ℕ
across f s x = select 0 (dot x f) s ⊕ select 0 (dot x s) f

three_bits : (a b c : Bool) (p f s : ℕ) → select 0 (a ⊻ b) (p ⊕ f) ⊕ (select 0 (a ⊻ c) (p ⊕ s) ⊕ (select 0 ((a ⊻ b) ⊻ c) ((p ⊕ f) ⊕ s) ⊕ 0))
    ≡ select 0 a p ⊕ (select 0 b s ⊕ select 0 c f)
three_bits true true true p f s = simp (sum_assoc, sum_comm, sum_zero, zero_sum)
three_bits true true false p f s = simp (sum_assoc, sum_comm, sum_self, sum_zero, zero_sum)
three_bits true false true p f s = simp (sum_assoc, sum_comm, sum_self, zero_sum)
three_bits true false false p f s = simp (sum_assoc, sum_comm, sum_left, sum_self, self_left 𝕎, zero_sum)
three_bits false true true p f s = simp (sum_assoc, sum_comm, sum_left, sum_self, self_left 𝕎, zero_sum)
three_bits false true false p f s = simp (sum_assoc, sum_comm, sum_left, self_left 𝕎, sum_zero, zero_sum)
three_bits false false true p f s = simp (sum_assoc, sum_comm, sum_left, sum_self, self_left 𝕎, sum_zero, zero_sum)
three_bits false false false p f s = simp (sum_comm, sum_self)

pub outers_three : (f s p x : ℕ) → outers (three f s p) x ≡ select 0 (dot x p) p ⊕ across f s x
outers_three f s p x =
    let pf : dot x (p ⊕ f) ≡ dot x p ⊻ dot x f = dot_sum x p f in
    ap₂ (λ a t. select 0 a (p ⊕ f) ⊕ t) pf
    (ap₂ (λ b t. select 0 b (p ⊕ s) ⊕ (select 0 t ((p ⊕ f) ⊕ s) ⊕ 0)) (dot_sum x p s) (dot_sum x (p ⊕ f) s ∙ ap (λ t. t ⊻ dot x s) pf))
    ∙ three_bits (dot x p) (dot x f) (dot x s) p f s

pub outers_pair : (f s : ℕ) (vs : List ℕ) (x : ℕ) → outers (with_pair f s vs) x ≡ outers vs x ⊕ across f s x
outers_pair f s [] x = outers_three f s 0 x ∙ ap (λ b. select 0 b 0 ⊕ across f s x) (dot_zero x)
outers_pair f s (p ∷ []) x = outers_three f s p x ∙ ap (λ t. t ⊕ across f s x) (sym (sum_zero (select 0 (dot x p) p)))
outers_pair f s (v ∷ w ∷ vs) x =
    ap (λ t. select 0 (dot x v) v ⊕ t) (outers_pair f s (w ∷ vs) x) ∙ sym (sum_assoc (select 0 (dot x v) v) (outers (w ∷ vs) x) (across f s x))

-- the last vector, by its place
pub pair_last : (f s : ℕ) (us : List ℕ) (p : ℕ) → with_pair f s (us ++ (p ∷ [])) ≡ us ++ three f s p
pair_last f s [] p = refl
pair_last f s (u ∷ []) p = refl
pair_last f s (u ∷ w ∷ us) p = ap (λ t. u ∷ t) (pair_last f s (w ∷ us) p)

-- one more than two more, or two more
pub pair_length : (f s : ℕ) (v : ℕ) (vs : List ℕ) → length (with_pair f s (v ∷ vs)) ≡ length vs + 3
pair_length f s v [] = refl
pair_length f s v (w ∷ vs) = omega (arith, pair_length f s w vs)
