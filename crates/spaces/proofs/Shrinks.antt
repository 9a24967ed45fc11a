-- The columns of a Gram matrix once a member is dropped: the dots with what a draw passes on, from those with all members.
-- Assumes nothing.
use mathlib.Core.Path.{◌≡◌, refl, sym, ap, ap₂, ◌∙◌}
use mathlib.Core.Bool.{Bool, true, false, ◌&&◌, and_comm, and-false}
use mathlib.Core.List.{List, [], ◌∷◌, map}
use Prim.Native.Nat.{ℕ, zero, suc, ◌+◌, ◌*◌, ◌/◌, ◌%◌, ◌^◌, zero-le}
use native.Mathlib.Nat.{add-zero, mul_assoc, mul_comm, mod-lt, pow-suc, zero-lt-suc, not-suc-le-zero}
use native.Mathlib.Numerals.{add-one, one-add}
use native.Mathlib.Omega.{arith}
use lib.Pow.{pow_pos, shl-shr, shr-shr, mod-pow-add}
use Rattle.binar.specs.Bits.{select, digit, odd, ◌⊕◌, ◌⊻◌, bit, dot}
use Rattle.binar.proofs.Digits.{by_digits, low_digit, odd_zero, bit_down, odd_digit, half_digit, same_digits, odd_sum, half_sum, bit_suc}
use Rattle.binar.proofs.Dots.{dot_sum, dot_zero}
use Rattle.binar.proofs.Sums.{bit_sum, bit_of_zero, bit_zero_is_odd, by_parts, parts_sum, sum_assoc, sum_comm, sum_self, sum_zero}
use Rattle.blocks.specs.Matrices.{dots}
use Rattle.blocks.proofs.Firsts.{First, first_later}
use Rattle.blocks.proofs.Products.{dots_nil, dots_cons, bit_dots}
use Rattle.linear.proofs.Instances.{𝔹}
use Rattle.linear.proofs.Sums.{add-zero as bxor_none}
use Rattle.triangular.specs.Spaces.{drop_or_keep, complement}
use Rattle.triangular.proofs.Complements.{complement_cons}
use Rattle.spaces.specs.Levels.{without_column, shrunk}

-- ---- a number without digit j

without : ℕ → ℕ → ℕ
without j y = y / 2 ^ j / 2 * 2 ^ j + y % 2 ^ j

without_first : (y : ℕ) → without 0 y ≡ y / 2
unfolding without
without_first y = omega arith

without_later : (j y : ℕ) → without (suc j) y ≡ without j (y / 2) * 2 + y % 2
unfolding without
without_later j y =
    let high : y / 2 ^ suc j ≡ y / 2 / 2 ^ j = sym (shr-shr y 1 j ∙ ap (λ t. y / 2 ^ t) (one-add j)) in
    let low : y % 2 ^ suc j ≡ (y / 2 % 2 ^ j) * 2 + y % 2 = ap (λ n. y % 2 ^ n) (sym (add-one j)) ∙ mod-pow-add y j 1 in
    let up : y / 2 / 2 ^ j / 2 * 2 ^ suc j ≡ y / 2 / 2 ^ j / 2 * 2 ^ j * 2 = ap (λ t. y / 2 / 2 ^ j / 2 * t) (pow-suc 2 j) ∙ sym (mul_assoc (y / 2 / 2 ^ j / 2) (2 ^ j) 2) in
    ap₂ (λ a b. a / 2 * 2 ^ suc j + b) high low ∙ omega arith

-- where digit j is zero the code's steps make it
without_column_lem : (j y : ℕ) → bit j y ≡ false → without_column j y ≡ without j y
unfolding without_column without
without_column_lem j y off =
    let q = y / 2 ^ j in
    let l = y % 2 ^ j in
    let even : q ≡ q / 2 * 2 = by_digits q ∙ ap (λ b. q / 2 * 2 + digit b) (sym (bit_zero_is_odd q) ∙ bit_down j 0 y ∙ ap (λ n. bit n y) (add-zero j) ∙ off) ∙ add-zero (q / 2 * 2) in
    let rest : y ⊕ l ≡ q * 2 ^ j = ap (λ t. t ⊕ l) (by_parts j y) ∙ sum_assoc (q * 2 ^ j) l l ∙ ap (λ t. q * 2 ^ j ⊕ t) (sum_self l) ∙ sum_zero (q * 2 ^ j) in
    let up : q * 2 ^ j ≡ q / 2 * 2 ^ j * 2 ^ 1 = ap (λ t. t * 2 ^ j) even ∙ mul_assoc (q / 2) 2 (2 ^ j) ∙ ap (λ t. q / 2 * t) (mul_comm 2 (2 ^ j)) ∙ sym (mul_assoc (q / 2) (2 ^ j) 2) in
    ap (λ t. l ⊕ t / 2 ^ 1) (rest ∙ up) ∙ ap (λ t. l ⊕ t) (shl-shr (q / 2 * 2 ^ j) 1) ∙ sum_comm l (q / 2 * 2 ^ j) ∙ parts_sum j (q / 2) l (mod-lt y (pow_pos j))

-- ---- a scaled row

odd_select : (b : Bool) (h : ℕ) → odd (select 0 b h) ≡ b && odd h
odd_select true h = refl
odd_select false h = odd_zero

half_select : (b : Bool) (h : ℕ) → select 0 b h / 2 ≡ select 0 b (h / 2)
half_select true h = refl
half_select false h = refl

dot_select : (v : ℕ) (b : Bool) (m : ℕ) → dot v (select 0 b m) ≡ b && dot v m
dot_select v true m = refl
dot_select v false m = dot_zero v

-- ---- the dots of v with members to which m is added by f

module _ (f v : ℕ) where
  added_dots : (m : ℕ) (bs : List ℕ) → dots (map (λ y. y ⊕ select 0 (dot f y) m) bs) v ≡ dots bs v ⊕ select 0 (dot v m) (dots bs f)
  added_dots m [] = sym (ap₂ (λ a b. a ⊕ select 0 (dot v m) b) (dots_nil v) (dots_nil f) ∙ go (dot v m) ∙ sym (dots_nil v))
    where
      go : (b : Bool) → 0 ⊕ select 0 b 0 ≡ 0
      go true = sum_zero 0
      go false = sum_zero 0
  added_dots m (y ∷ bs) =
      let p = dots bs v * 2 + digit (dot v y) in
      let h = dots bs f * 2 + digit (dot f y) in
      let z = y ⊕ select 0 (dot f y) m in
      let rest = map (λ y. y ⊕ select 0 (dot f y) m) bs in
      let q = dots rest v in
      dots_cons z rest v
      ∙ same_digits (q * 2 + digit (dot v z)) (p ⊕ select 0 (dot v m) h)
      (odd_digit (dot v z) q ∙ dot_sum v y (select 0 (dot f y) m) ∙ ap (λ t. dot v y ⊻ t) (dot_select v (dot f y) m ∙ and_comm (dot f y) (dot v m))
      ∙ sym (odd_sum p (select 0 (dot v m) h) ∙ ap₂ ◌⊻◌ (odd_digit (dot v y) (dots bs v)) (odd_select (dot v m) h ∙ ap (λ t. dot v m && t) (odd_digit (dot f y) (dots bs f)))))
      (half_digit (dot v z) q ∙ added_dots m bs
      ∙ sym (half_sum p (select 0 (dot v m) h) ∙ ap₂ ◌⊕◌ (half_digit (dot v y) (dots bs v)) (half_select (dot v m) h ∙ ap (select 0 (dot v m)) (half_digit (dot f y) (dots bs f)))))
      ∙ sym (ap₂ (λ a b. a ⊕ select 0 (dot v m) b) (dots_cons y bs v) (dots_cons y bs f))

  -- m is the first member: where it is hit it is dropped, else the others follow
  module _ (m : ℕ) (bs : List ℕ) where
    abbrev x : ℕ
    x = dots bs v * 2 + digit (dot v m)

    abbrev g : ℕ
    g = dots bs f * 2 + digit (dot f m)

    parts : (j : ℕ) → without j (dots (m ∷ bs) v ⊕ select 0 (bit j (dots (m ∷ bs) v)) (dots (m ∷ bs) f)) ≡ without j (x ⊕ select 0 (bit j x) g)
    parts j = ap₂ (λ a b. without j (a ⊕ select 0 (bit j a) b)) (dots_cons m bs v) (dots_cons m bs f)

    dropped_here : dot f m ≡ true → dots (complement (dot f) (m ∷ bs)) v ≡ without 0 (x ⊕ select 0 (bit 0 x) g)
    dropped_here on =
        let b : bit 0 x ≡ dot v m = bit_zero_is_odd x ∙ odd_digit (dot v m) (dots bs v) in
        ap (λ l. dots l v) (complement_cons (dot f) m bs ∙ ap (λ t. drop_or_keep t m (map (λ y. y ⊕ select 0 (dot f y) m) bs) (complement (dot f) bs)) on)
        ∙ added_dots m bs
        ∙ sym (without_first (x ⊕ select 0 (bit 0 x) g) ∙ half_sum x (select 0 (bit 0 x) g)
        ∙ ap₂ ◌⊕◌ (half_digit (dot v m) (dots bs v)) (half_select (bit 0 x) g ∙ ap₂ (select 0) b (half_digit (dot f m) (dots bs f))))

    dropped_later : (j : ℕ) → dot f m ≡ false → dots (complement (dot f) bs) v ≡ without j (dots bs v ⊕ select 0 (bit j (dots bs v)) (dots bs f))
        → dots (complement (dot f) (m ∷ bs)) v ≡ without (suc j) (x ⊕ select 0 (bit (suc j) x) g)
    dropped_later j off rest =
        let b : bit (suc j) x ≡ bit j (dots bs v) = bit_suc j x ∙ ap (bit j) (half_digit (dot v m) (dots bs v)) in
        let y = x ⊕ select 0 (bit (suc j) x) g in
        let half : y / 2 ≡ dots bs v ⊕ select 0 (bit j (dots bs v)) (dots bs f) =
        half_sum x (select 0 (bit (suc j) x) g) ∙ ap₂ ◌⊕◌ (half_digit (dot v m) (dots bs v)) (half_select (bit (suc j) x) g ∙ ap₂ (select 0) b (half_digit (dot f m) (dots bs f))) in
        let low : y % 2 ≡ digit (dot v m) =
        low_digit y ∙ ap digit (odd_sum x (select 0 (bit (suc j) x) g)
        ∙ ap₂ ◌⊻◌ (odd_digit (dot v m) (dots bs v)) (odd_select (bit (suc j) x) g ∙ ap (λ t. bit (suc j) x && t) (odd_digit (dot f m) (dots bs f) ∙ off) ∙ and-false (bit (suc j) x))
        ∙ bxor_none 𝔹 (dot v m)) in
        ap (λ l. dots l v) (complement_cons (dot f) m bs ∙ ap (λ t. drop_or_keep t m (map (λ y. y ⊕ select 0 (dot f y) m) bs) (complement (dot f) bs)) off)
        ∙ dots_cons m (complement (dot f) bs) v ∙ ap (λ t. t * 2 + digit (dot v m)) rest ∙ sym (without_later j y ∙ ap₂ (λ s t. without j s * 2 + t) half low)

  dropped_dots : (bs : List ℕ) (j : ℕ) → First (dot f) 0 bs 0 j
      → dots (complement (dot f) bs) v ≡ without j (dots bs v ⊕ select 0 (bit j (dots bs v)) (dots bs f))
  dropped_dots [] j h = absurd (not-suc-le-zero h.inside)
  dropped_dots (m ∷ bs) zero h = dropped_here m bs h.at ∙ sym (parts m bs 0)
  dropped_dots (m ∷ bs) (suc j) h =
      dropped_later m bs j (h.before zero zero-le (zero-lt-suc j)) (dropped_dots bs j (first_later (dot f) 0 m bs j h)) ∙ sym (parts m bs (suc j))

  -- a Gram row of what is passed on
  pub shrunk_dots : (bs : List ℕ) (j : ℕ) → First (dot f) 0 bs 0 j → shrunk j (dots bs f) (dots bs v) ≡ dots (complement (dot f) bs) v
  unfolding shrunk
  shrunk_dots bs j h =
      let x = dots bs v in
      let g = dots bs f in
      let on : bit j g ≡ true = bit_dots bs f j h.inside ∙ h.at in
      without_column_lem j (x ⊕ select 0 (bit j x) g) (bit_sum j x (select 0 (bit j x) g) ∙ cleared (bit j x) g on) ∙ sym (dropped_dots bs j h)
    where
      cleared : (b : Bool) (g : ℕ) → bit j g ≡ true → b ⊻ bit j (select 0 b g) ≡ false
      cleared true g e = ap (λ t. true ⊻ t) e
      cleared false g e = bit_of_zero j
