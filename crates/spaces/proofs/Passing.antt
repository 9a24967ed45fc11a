-- What a draw passes on, row by row: the members, and their Gram matrix. The draw has coefficients c; g, the sum of its Gram rows, says which members it has form one with.
-- Assumes nothing.
use mathlib.Core.Path.{◌≡◌, refl, sym, ap, ap₂, ◌∙◌, subst}
use mathlib.Core.Bool.{Bool, true, false, false≢true}
use mathlib.Core.List.{List, ◌++◌, map}
use Prim.Native.Nat.{ℕ, zero, suc, ◌+◌, ◌-◌, ◌*◌, ◌/◌, ◌%◌, ◌^◌, ◌≤◌, ◌<◌, zero-le}
use native.Mathlib.Nat.{pos_of_ne-zero}
use native.Mathlib.Numerals.{add-one}
use native.Mathlib.Omega.{arith}
use lib.Dec.{ltb, eqb}
use lib.Pow.{mod-pow-add}
use lib.ListN.{length, get_or, take, drop, get_or-append, get_or-map}
use lib.Seq.{get_or-take, get_or-drop, length-take-le, get_or-append-add}
use borrow.Author.Tests.{ltb-true, ltb-false, ne_eqb}
use Rattle.binar.specs.Bits.{select, ◌⊕◌, bit, dot}
use Rattle.binar.specs.Rows.{width, row_bound, lowest}
use Rattle.binar.proofs.Digits.{odd_is, bit_suc}
use Rattle.binar.proofs.Sums.{bit_zero_is_odd, sum_zero}
use Rattle.binar.proofs.Dots.{dot_sum, dot_zero}
use Rattle.binar.proofs.Ones.{lowest_one}
use Rattle.binar.proofs.Widths.{pow_bound}
use Rattle.blocks.specs.Matrices.{times, dots}
use Rattle.blocks.proofs.Firsts.{First}
use Rattle.blocks.proofs.Products.{dots_sum, bit_dots, dots_lt, times_sum, lowest_row}
use Rattle.linear.specs.Maps.{Additive}
use Rattle.linear.proofs.Instances.{𝔹, 𝕎}
use Rattle.linear.proofs.Maps.{map_at, map_o}
use Rattle.linear.proofs.Rows.{times_in}
use Rattle.residue.specs.Residue.{form}
use Rattle.triangular.specs.Spaces.{complement}
use Rattle.spaces.specs.Levels.{kept_or, passed_at, gram_of, shrunk}
use Rattle.triangular.proofs.Complements.{complement_at, complement_length}
use Rattle.triangular.proofs.Cores.{form_dot, form_row}
use Rattle.spaces.proofs.Grams.{gram_row, gram_drawn, gram_self}
use Rattle.spaces.proofs.Shrinks.{shrunk_dots}

-- the digits below the lowest one are zero
low_zero : (t x i : ℕ) → x % 2 ^ t ≡ 0 → i < t → bit i x ≡ false
low_zero zero x i e h = absurd (omega arith)
low_zero (suc t) x zero e h =
    let m : x % 2 ^ suc t ≡ (x / 2 % 2 ^ t) * 2 + x % 2 = ap (λ n. x % 2 ^ n) (sym (add-one t)) ∙ mod-pow-add x t 1 in
    let z : x % 2 ≡ 0 = omega arith in
    bit_zero_is_odd x ∙ odd_is x ∙ ap (λ n. eqb n 1) z
low_zero (suc t) x (suc i) e h =
    let m : x % 2 ^ suc t ≡ (x / 2 % 2 ^ t) * 2 + x % 2 = ap (λ n. x % 2 ^ n) (sym (add-one t)) ∙ mod-pow-add x t 1 in
    bit_suc i x ∙ low_zero t (x / 2) i (omega arith) (omega arith)

-- ---- members dropped at j, the first with a dot, and added by the digits of h

module _ (B : List ℕ) (f h j : ℕ) (first : First (dot f) 0 B 0 j) (hit : (i : ℕ) → i < length B → bit i h ≡ dot f (get_or B i 0)) where
  abbrev m : ℕ
  m = get_or B j 0

  abbrev past : ℕ → ℕ
  past y = y ⊕ select 0 (dot f y) m

  abbrev front : length (take j B) ≡ j
  front = length-take-le j B (omega (arith, first.inside))

  past_zero : past 0 ≡ 0
  past_zero = ap (λ b. 0 ⊕ select 0 b m) (map_o 𝕎 𝔹 (dot f) (dot_sum f)) ∙ sum_zero 0

  early : (i : ℕ) → i < j → get_or B i 0 ≡ get_or (complement (dot f) B) i 0
  early i l =
      sym (get_or-take j B i 0 l) ∙ sym (get_or-append (take j B) (map past (drop (suc j) B)) 0 i (omega (arith, front)))
      ∙ ap (λ k. get_or k i 0) (sym (complement_at (dot f) B j first))

  late : (i : ℕ) → j ≤ i → past (get_or B (i + 1) 0) ≡ get_or (complement (dot f) B) i 0
  late i l =
      let k = i - j in
      let at : suc j + k ≡ i + 1 = omega arith in
      let whole : length (take j B) + k ≡ i = omega (arith, front) in
      ap (λ n. past (get_or B n 0)) (sym at) ∙ ap past (sym (get_or-drop (suc j) B k 0)) ∙ sym (get_or-map past (drop (suc j) B) k 0)
      ∙ ap (λ x. get_or (map past (drop (suc j) B)) k x) past_zero ∙ sym (get_or-append-add (take j B) (map past (drop (suc j) B)) k 0)
      ∙ ap (λ n. get_or (take j B ++ map past (drop (suc j) B)) n 0) whole ∙ ap (λ q. get_or q i 0) (sym (complement_at (dot f) B j first))

  passed_member : (i : ℕ) → i + 1 < length B → passed_at h j B i ≡ get_or (complement (dot f) B) i 0
  unfolding passed_at
  passed_member i g = go (ltb i j) refl
    where
      go : (b : Bool) → ltb i j ≡ b → kept_or b (get_or B i 0) (get_or B (i + 1) 0 ⊕ select 0 (bit (i + 1) h) m) ≡ get_or (complement (dot f) B) i 0
      go true e = early i (ltb-true i j e)
      go false e = ap (λ b. get_or B (i + 1) 0 ⊕ select 0 b m) (hit (i + 1) g) ∙ late i (ltb-false i j e)

-- an additive map goes along
passed_map : (φ : ℕ → ℕ) → Additive 𝕎 𝕎 φ → (h j : ℕ) (B G : List ℕ) → ((i : ℕ) → i < length B → get_or G i 0 ≡ φ (get_or B i 0))
    → (i : ℕ) → i + 1 < length B → j < length B → passed_at h j G i ≡ φ (passed_at h j B i)
unfolding passed_at
passed_map φ add h j B G is i l k =
    ap₂ (λ a b. kept_or (ltb i j) a b) (is i (omega arith))
    (ap₂ (λ a b. a ⊕ select 0 (bit (i + 1) h) b) (is (i + 1) l) (is j k) ∙ sym (map_at 𝕎 𝕎 φ add (get_or B (i + 1) 0) (bit (i + 1) h) (get_or B j 0)))
    ∙ choose (ltb i j) (get_or B i 0) (get_or B (i + 1) 0 ⊕ select 0 (bit (i + 1) h) (get_or B j 0))
  where
    choose : (b : Bool) (x y : ℕ) → kept_or b (φ x) (φ y) ≡ φ (kept_or b x y)
    choose true x y = refl
    choose false x y = refl

-- ---- one draw

module _ (d : ℕ) (fits : d ≤ width) (E B G : List ℕ) (size : length B ≡ d) (is : gram_of E B ≡ G) (c g j : ℕ) (g-is : g ≡ times c G) (on : dot c g ≡ true) (j-is : j ≡ lowest g) where
  -- the vector, and its form row
  abbrev p : ℕ
  p = times c B

  abbrev f : ℕ
  f = times p E

  abbrev rest : List ℕ
  rest = complement (form E p) B

  dots_are : g ≡ dots B f
  dots_are = g-is ∙ gram_drawn E B G is c

  form_self : dot f p ≡ true
  form_self = sym (form_dot E p f p refl) ∙ gram_self E B G is c ∙ ap (dot c) (sym g-is) ∙ on

  rest_is : rest ≡ complement (dot f) B
  rest_is = ap (λ t. complement t B) (form_row E p f refl)

  hits : (i : ℕ) → i < length B → bit i g ≡ dot f (get_or B i 0)
  hits i l = ap (bit i) dots_are ∙ bit_dots B f i l

  some : 0 < g
  some = pos_of_ne-zero (λ z. false≢true (sym (dot_zero c) ∙ ap (dot c) (sym z) ∙ on))

  below : g < 2 ^ d
  below = subst (λ n. g < 2 ^ n) size (subst (λ x. x < 2 ^ length B) (sym dots_are) (dots_lt B f))

  inside : g < row_bound
  inside = omega (arith, below, pow_bound d fits)

  pub first_hit : First (dot f) 0 B 0 j
  first_hit =
      let o = lowest_one g some inside in
      let l : j < length B = subst (λ n. j < n) (sym size) (subst (λ n. n < d) (sym j-is) (lowest_row d g (ne_eqb g 0 (λ z. omega (arith, some))) inside below).1) in
      record {
        from = zero-le;
        inside = l;
        before = λ i a q. sym (hits i (omega arith)) ∙ low_zero (lowest g) g i o.2 (subst (λ n. i < n) j-is q);
        at = sym (hits j l) ∙ ap (λ n. bit n g) j-is ∙ o.1;
      }

  pub rest_length : length rest ≡ d - 1
  rest_length =
      ap length rest_is ∙ omega (arith, complement_length (dot f) (dot_sum f) B p form_self (times_in c B), size)

  pub passed_rest : (i : ℕ) → i < d - 1 → passed_at g j B i ≡ get_or rest i 0
  passed_rest i l = passed_member B f g j first_hit hits i (omega (arith, size)) ∙ ap (λ M. get_or M i 0) (sym rest_is)

  -- the Gram rows of the rest
  pub passed_gram : (i : ℕ) → i < d - 1 → shrunk j g (passed_at g j G i) ≡ get_or (gram_of E rest) i 0
  passed_gram i l =
      let φ : ℕ → ℕ = λ x. dots B (times x E) in
      let add : Additive 𝕎 𝕎 φ = λ x y. ap (dots B) (times_sum E x y) ∙ dots_sum B (times x E) (times y E) in
      let v = times (get_or rest i 0) E in
      ap₂ (shrunk j) dots_are (passed_map φ add g j B G (gram_row E B G is) i (omega (arith, size)) first_hit.inside ∙ ap φ (passed_rest i l))
      ∙ shrunk_dots f v B j first_hit ∙ ap (λ M. dots M v) (sym rest_is)
      ∙ sym (gram_row E rest (gram_of E rest) refl i (subst (λ n. i < n) (sym rest_length) l))
