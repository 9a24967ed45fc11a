-- One turn of the loop of `dots`: the dots of a vector and each row of a list, column by column.
-- Assumes nothing.
use mathlib.Core.Path.{◌≡◌, refl, sym, ap, ap₂, ◌∙◌}
use mathlib.Core.Bool.{Bool, true, false}
use mathlib.Core.List.{List, [], ◌∷◌, ◌++◌}
use Prim.Native.Nat.{ℕ, suc, ◌+◌, ◌*◌, ◌^◌, ◌≤◌, ◌<◌}
use native.Mathlib.Omega.{arith}
use native.Mathlib.Nat.{pow-suc}
use native.Mathlib.Numerals.{add-one}
use lib.ListN.{length, take, get_or}
use lib.Seq.{take-suc, length-take-le}
use Rattle.binar.specs.Bits.{select, digit, dot, ◌⊕◌}
use Rattle.binar.proofs.Digits.{digit_lt}
use Rattle.binar.proofs.Sums.{zero_sum, sum_zero, sum_parts}
use Rattle.blocks.specs.Matrices.{dots}
use Rattle.blocks.proofs.Products.{dots_nil, dots_cons}

first_digit : (b : Bool) → 0 * 2 + digit b ≡ 0 ⊕ select 0 b 1
first_digit true = sym (zero_sum 1)
first_digit false = sym (zero_sum 0)

doubled : (b : Bool) (k : ℕ) → select 0 b (2 ^ k) * 2 + 0 ≡ select 0 b (2 ^ suc k)
doubled true k = omega (arith, pow-suc 2 k)
doubled false k = refl

dots_snoc : (M : List ℕ) (x v : ℕ) → dots (M ++ (x ∷ [])) v ≡ dots M v ⊕ select 0 (dot v x) (2 ^ length M)
dots_snoc [] x v = dots_cons x [] v ∙ ap (λ t. t * 2 + digit (dot v x)) (dots_nil v) ∙ first_digit (dot v x) ∙ ap (λ t. t ⊕ select 0 (dot v x) 1) (sym (dots_nil v))
dots_snoc (y ∷ M) x v =
    dots_cons y (M ++ (x ∷ [])) v ∙ ap (λ t. t * 2 + digit (dot v y)) (dots_snoc M x v)
    ∙ ap (λ t. (dots M v ⊕ select 0 (dot v x) (2 ^ length M)) * 2 + t) (sym (sum_zero (digit (dot v y))))
    ∙ sym (sum_parts 1 (dots M v) (select 0 (dot v x) (2 ^ length M)) (digit (dot v y)) 0 (digit_lt (dot v y)) (omega arith))
    ∙ ap₂ ◌⊕◌ (sym (dots_cons y M v)) (doubled (dot v x) (length M))

pub dots_next : (M : List ℕ) (i v : ℕ) → i < length M → dots (take (i + 1) M) v ≡ dots (take i M) v ⊕ select 0 (dot v (get_or M i 0)) (2 ^ i)
dots_next M i v h =
    let k : i ≤ length M = omega arith in
    ap (λ n. dots (take n M) v) (add-one i) ∙ ap (λ l. dots l v) (take-suc M i 0 h) ∙ dots_snoc (take i M) (get_or M i 0) v
    ∙ ap (λ n. dots (take i M) v ⊕ select 0 (dot v (get_or M i 0)) (2 ^ n)) (length-take-le i M k)
