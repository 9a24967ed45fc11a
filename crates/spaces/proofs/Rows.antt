-- A row to be passed on, as it is read; and a sum of first rows with one more.
-- Assumes nothing.
use mathlib.Core.Path.{◌≡◌, refl, sym, ap, ap₂, ◌∙◌}
use mathlib.Core.Bool.{Bool, true, false}
use mathlib.Core.List.{List}
use Prim.Native.Nat.{ℕ, suc, ◌+◌, ◌-◌, ◌*◌, ◌/◌, ◌^◌, ◌<◌}
use native.Mathlib.Nat.{add_assoc, one-mul, pow-suc}
use native.Mathlib.Omega.{arith}
use lib.Dec.{ltb}
use lib.ListN.{get_or, take}
use lib.Pow.{pow_pos, ones_lt}
use lib.Seq.{get_or-take}
use borrow.Author.Tests.{ltb-false}
use Rattle.binar.specs.Bits.{select, ◌⊕◌, bit}
use Rattle.binar.proofs.Digits.{bit_down}
use Rattle.binar.proofs.Sums.{parts_sum, sum_comm}
use Rattle.blocks.specs.Matrices.{times}
use Rattle.blocks.proofs.Products.{times_sum, times_unit}
use Rattle.spaces.specs.Levels.{kept_or, passed_at, shrunk, gram_at, sum_to}

-- ---- the sums of the first rows

pub summed_more : (M : List ℕ) (k : ℕ) → times (2 ^ k - 1) M ⊕ get_or M k 0 ≡ times (2 ^ suc k - 1) M
summed_more M k =
    let e : 2 ^ suc k - 1 ≡ 1 * 2 ^ k + (2 ^ k - 1) = omega (arith, pow-suc 2 k, one-mul (2 ^ k), pow_pos k) in
    sym (
    ap (λ t. times t M) (e ∙ sym (parts_sum k 1 (2 ^ k - 1) (ones_lt k)) ∙ ap (λ t. t ⊕ (2 ^ k - 1)) (one-mul (2 ^ k)) ∙ sum_comm (2 ^ k) (2 ^ k - 1))
    ∙ times_sum M (2 ^ k - 1) (2 ^ k) ∙ ap (λ t. times (2 ^ k - 1) M ⊕ t) (times_unit k M)
    )

pub sum_is : (M : List ℕ) (i : ℕ) → sum_to M i ≡ times (2 ^ suc i - 1) M
unfolding sum_to
sum_is M i = refl

-- ---- what a draw passes on

-- a row to be added is asked for only behind the dropped one
moved_alike : (before : Bool) (x y m m' : ℕ) (hit : Bool) → (before ≡ false → m ≡ m') → kept_or before x (y ⊕ select 0 hit m) ≡ kept_or before x (y ⊕ select 0 hit m')
moved_alike true x y m m' hit e = refl
moved_alike false x y m m' hit e = ap (λ t. y ⊕ select 0 hit t) (e refl)

pub passed_is : (h j d : ℕ) (w : List ℕ) (m i : ℕ) → i + 1 < d → m ≡ get_or w j 0 → (x y : ℕ) → x ≡ get_or w i 0 → y ≡ get_or w (i + 1) 0
    → (hit : Bool) → hit ≡ bit (i + 1) h → (v : ℕ) → v ≡ kept_or (ltb i j) x (y ⊕ select 0 hit m) → v ≡ passed_at h j (take d w) i
unfolding passed_at
passed_is h j d w m i inside m-is x y x-is y-is hit h-is v v-is =
    v-is ∙ ap₂ (λ a b. kept_or (ltb i j) a (b ⊕ select 0 hit m)) (x-is ∙ sym (get_or-take d w i 0 (omega arith))) (y-is ∙ sym (get_or-take d w (i + 1) 0 inside))
    ∙ ap (λ t. kept_or (ltb i j) (get_or (take d w) i 0) (get_or (take d w) (i + 1) 0 ⊕ select 0 t m)) h-is
    ∙ moved_alike (ltb i j) (get_or (take d w) i 0) (get_or (take d w) (i + 1) 0) m (get_or (take d w) j 0) (bit (i + 1) h)
    (λ e. m-is ∙ sym (get_or-take d w j 0 (omega (arith, ltb-false i j e))))

pub gram_is : (h j : ℕ) (G : List ℕ) (i : ℕ) → gram_at h j G i ≡ shrunk j h (passed_at h j G i)
unfolding gram_at
gram_is h j G i = refl

-- the digits of a row that moves down by one at each place
pub digit_next : (h r r' i : ℕ) → ((k : ℕ) → bit k r ≡ bit (i + k) h) → r' ≡ r / 2 ^ 1 → (k : ℕ) → bit k r' ≡ bit (i + 1 + k) h
digit_next h r r' i e is k = ap (bit k) is ∙ bit_down 1 k r ∙ e (1 + k) ∙ ap (λ n. bit n h) (sym (add_assoc i 1 k))
