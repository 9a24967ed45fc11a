-- The test for an alternating form: by indices, as a loop takes it, and what it says of the span.
-- Assumes nothing.
use mathlib.Core.Path.{◌≡◌, refl, sym, ap, ap₂, ◌∙◌}
use mathlib.Core.Bool.{Bool, true, false, true≢false, false≢true, ◌&&◌, not, beq, and-eq-true_iff}
use mathlib.Core.List.{List, [], ◌∷◌, ◌++◌}
use Prim.Native.Nat.{ℕ, zero, suc, ◌+◌, ◌<◌}
use native.Mathlib.Nat.{not-suc-le-zero, le_of_suc-le-suc}
use native.Mathlib.Numerals.{add-one}
use native.Mathlib.Omega.{arith}
use lib.ListN.{length, take, get_or}
use lib.Seq.{take-suc}
use borrow.Author.Tests.{not-true}
use Rattle.binar.specs.Bits.{◌⊻◌, select, ◌⊕◌}
use Rattle.binar.proofs.Sums.{bxor_assoc, bxor_comm, bxor_self}
use Rattle.blocks.specs.Matrices.{All}
use Rattle.linear.specs.VectorSpace.{scale}
use Rattle.linear.specs.Span.{InSpan}
use Rattle.linear.specs.Maps.{Additive, Form}
use Rattle.linear.proofs.Sums.{left_comm, cancel_right, swap4, scale_o}
use Rattle.linear.proofs.Instances.{𝔹, 𝕎}
use Rattle.linear.proofs.Maps.{same_of_beq, map_o, map_scale, span_kernel}
use Rattle.triangular.specs.Spaces.{symmetric_with, is_alternating_lem}

-- ---- by indices, for any form

beq_of_same : (a b : Bool) → a ≡ b → beq a b ≡ true
beq_of_same true true e = refl
beq_of_same true false e = absurd (true≢false e)
beq_of_same false true e = absurd (false≢true e)
beq_of_same false false e = refl

pub beq_differ : (a b : Bool) → beq a b ≡ false → a ≡ b → ⊥
beq_differ a b e q = true≢false (sym (beq_of_same a b q) ∙ e)

module _ (E : ℕ → ℕ → Bool) where
  symmetric_parts : (b y : ℕ) (ys : List ℕ) → symmetric_with E b (y ∷ ys) ≡ true → (E b y ≡ E y b) × (symmetric_with E b ys ≡ true)
  unfolding symmetric_with
  symmetric_parts b y ys e =
      let k = (and-eq-true_iff (beq (E b y) (E y b)) (symmetric_with E b ys)).0 e in (same_of_beq (E b y) (E y b) k.0, k.1)

  symmetric_cons : (b y : ℕ) (ys : List ℕ) → E b y ≡ E y b → symmetric_with E b ys ≡ true → symmetric_with E b (y ∷ ys) ≡ true
  unfolding symmetric_with
  symmetric_cons b y ys e s = ap₂ ◌&&◌ (beq_of_same (E b y) (E y b) e) s

  alternating_parts : (b : ℕ) (bs : List ℕ) → is_alternating_lem E (b ∷ bs) ≡ true → (E b b ≡ false) × (symmetric_with E b bs ≡ true) × (is_alternating_lem E bs ≡ true)
  unfolding is_alternating_lem
  alternating_parts b bs e =
      let k = (and-eq-true_iff (not (E b b)) (symmetric_with E b bs && is_alternating_lem E bs)).0 e in
      let l = (and-eq-true_iff (symmetric_with E b bs) (is_alternating_lem E bs)).0 k.1 in
      (not-true (E b b) k.0, l.0, l.1)

  alternating_cons : (b : ℕ) (bs : List ℕ) → E b b ≡ false → symmetric_with E b bs ≡ true → is_alternating_lem E bs ≡ true → is_alternating_lem E (b ∷ bs) ≡ true
  unfolding is_alternating_lem
  alternating_cons b bs e s a = ap₂ (λ x y. not x && y) e (ap₂ ◌&&◌ s a)

  -- what the test says of members i and j
  symmetric_at : (b : ℕ) (ys : List ℕ) (j : ℕ) → symmetric_with E b ys ≡ true → j < length ys → E b (get_or ys j 0) ≡ E (get_or ys j 0) b
  symmetric_at b [] j e h = absurd (not-suc-le-zero h)
  symmetric_at b (y ∷ ys) zero e h = (symmetric_parts b y ys e).0
  symmetric_at b (y ∷ ys) (suc j) e h = symmetric_at b ys j (symmetric_parts b y ys e).1 (le_of_suc-le-suc h)

  alternating_diagonal : (bs : List ℕ) (i : ℕ) → is_alternating_lem E bs ≡ true → i < length bs → E (get_or bs i 0) (get_or bs i 0) ≡ false
  alternating_diagonal [] i e h = absurd (not-suc-le-zero h)
  alternating_diagonal (b ∷ bs) zero e h = (alternating_parts b bs e).0
  alternating_diagonal (b ∷ bs) (suc i) e h = alternating_diagonal bs i (alternating_parts b bs e).2 (le_of_suc-le-suc h)

  alternating_pair : (bs : List ℕ) (i j : ℕ) → is_alternating_lem E bs ≡ true → i < length bs → j < length bs
      → E (get_or bs i 0) (get_or bs j 0) ≡ E (get_or bs j 0) (get_or bs i 0)
  alternating_pair [] i j e h k = absurd (not-suc-le-zero h)
  alternating_pair (b ∷ bs) zero zero e h k = refl
  alternating_pair (b ∷ bs) zero (suc j) e h k = symmetric_at b bs j (alternating_parts b bs e).1 (le_of_suc-le-suc k)
  alternating_pair (b ∷ bs) (suc i) zero e h k = sym (symmetric_at b bs i (alternating_parts b bs e).1 (le_of_suc-le-suc h))
  alternating_pair (b ∷ bs) (suc i) (suc j) e h k =
      alternating_pair bs i j (alternating_parts b bs e).2 (le_of_suc-le-suc h) (le_of_suc-le-suc k)

  -- one failure
  refuted : (b : Bool) → (b ≡ true → ⊥) → b ≡ false
  refuted true n = absurd (n refl)
  refuted false n = refl

  pub fails_diagonal : (bs : List ℕ) (i : ℕ) → i < length bs → E (get_or bs i 0) (get_or bs i 0) ≡ true → is_alternating_lem E bs ≡ false
  fails_diagonal bs i h e = refuted (is_alternating_lem E bs) (λ a. true≢false (sym e ∙ alternating_diagonal bs i a h))

  pub fails_pair : (bs : List ℕ) (i j : ℕ) → i < length bs → j < length bs
      → (E (get_or bs i 0) (get_or bs j 0) ≡ E (get_or bs j 0) (get_or bs i 0) → ⊥) → is_alternating_lem E bs ≡ false
  fails_pair bs i j h k differ = refuted (is_alternating_lem E bs) (λ a. differ (alternating_pair bs i j a h k))

  -- none: the members before i have passed, and member i with those before j
  symmetric_snoc : (b : ℕ) (ys : List ℕ) (y : ℕ) → symmetric_with E b ys ≡ true → E b y ≡ E y b → symmetric_with E b (ys ++ (y ∷ [])) ≡ true
  symmetric_snoc b [] y s e = symmetric_cons b y [] e s
  symmetric_snoc b (z ∷ ys) y s e =
      let k = symmetric_parts b z ys s in symmetric_cons b z (ys ++ (y ∷ [])) k.0 (symmetric_snoc b ys y k.1 e)

  alternating_snoc : (bs : List ℕ) (b : ℕ) → is_alternating_lem E bs ≡ true → E b b ≡ false → symmetric_with E b bs ≡ true → is_alternating_lem E (bs ++ (b ∷ [])) ≡ true
  unfolding symmetric_with
  alternating_snoc [] b a e s = alternating_cons b [] e refl a
  alternating_snoc (c ∷ bs) b a e s =
      let k = alternating_parts c bs a in
      let l = symmetric_parts b c bs s in
      alternating_cons c (bs ++ (b ∷ [])) k.0 (symmetric_snoc c bs b k.1 (sym l.0)) (alternating_snoc bs b k.2 e l.1)

  pub symmetric_start : (b : ℕ) (bs : List ℕ) → symmetric_with E b (take 0 bs) ≡ true
  unfolding symmetric_with
  symmetric_start b bs = refl

  pub symmetric_next : (b : ℕ) (bs : List ℕ) (j : ℕ) → symmetric_with E b (take j bs) ≡ true → j < length bs
      → E b (get_or bs j 0) ≡ E (get_or bs j 0) b → symmetric_with E b (take (j + 1) bs) ≡ true
  symmetric_next b bs j s h e =
      ap (symmetric_with E b) (ap (λ n. take n bs) (add-one j) ∙ take-suc bs j 0 h) ∙ symmetric_snoc b (take j bs) (get_or bs j 0) s e

  pub alternating_start : (bs : List ℕ) → is_alternating_lem E (take 0 bs) ≡ true
  unfolding is_alternating_lem
  alternating_start bs = refl

  pub alternating_next : (bs : List ℕ) (i : ℕ) → is_alternating_lem E (take i bs) ≡ true → i < length bs
      → E (get_or bs i 0) (get_or bs i 0) ≡ false → symmetric_with E (get_or bs i 0) (take i bs) ≡ true → is_alternating_lem E (take (i + 1) bs) ≡ true
  alternating_next bs i a h e s =
      ap (is_alternating_lem E) (ap (λ n. take n bs) (add-one i) ∙ take-suc bs i 0 h) ∙ alternating_snoc (take i bs) (get_or bs i 0) a e s

-- ---- by what the form says of each two members

module _ (E F : ℕ → ℕ → Bool) where
  symmetric_alike : (b c : ℕ) (ys zs : List ℕ) → length ys ≡ length zs → ((j : ℕ) → j < length ys → (E b (get_or ys j 0) ≡ F c (get_or zs j 0)) × (E (get_or ys j 0) b ≡ F (get_or zs j 0) c))
      → symmetric_with E b ys ≡ symmetric_with F c zs
  unfolding symmetric_with
  symmetric_alike b c [] [] e same = refl
  symmetric_alike b c [] (z ∷ zs) e same = absurd (omega arith)
  symmetric_alike b c (y ∷ ys) [] e same = absurd (omega arith)
  symmetric_alike b c (y ∷ ys) (z ∷ zs) e same =
      let first = same 0 (omega arith) in
      ap₂ ◌&&◌ (ap₂ beq first.0 first.1) (symmetric_alike b c ys zs (omega arith) (λ j h. same (suc j) (omega arith)))

  pub alternating_alike : (bs cs : List ℕ) → length bs ≡ length cs
      → ((i j : ℕ) → i < length bs → j < length bs → E (get_or bs i 0) (get_or bs j 0) ≡ F (get_or cs i 0) (get_or cs j 0)) → is_alternating_lem E bs ≡ is_alternating_lem F cs
  unfolding is_alternating_lem
  alternating_alike [] [] e same = refl
  alternating_alike [] (c ∷ cs) e same = absurd (omega arith)
  alternating_alike (b ∷ bs) [] e same = absurd (omega arith)
  alternating_alike (b ∷ bs) (c ∷ cs) e same =
      ap₂ (λ x y. not x && y) (same 0 0 (omega arith) (omega arith))
      (ap₂ ◌&&◌ (symmetric_alike b c bs cs (omega arith) (λ j h. (same 0 (suc j) (omega arith) (omega arith), same (suc j) 0 (omega arith) (omega arith))))
      (alternating_alike bs cs (omega arith) (λ i j h k. same (suc i) (suc j) (omega arith) (omega arith))))

-- ---- on the span

module _ (E : Form 𝕎) where
  swaps : ℕ → ℕ → Bool
  swaps b y = E.at b y ⊻ E.at y b

  swaps_add : (b : ℕ) → Additive 𝕎 𝔹 (swaps b)
  unfolding swaps
  swaps_add b x y = ap₂ ◌⊻◌ (E.right b x y) (E.left b x y) ∙ swap4 𝔹 (E.at b x) (E.at b y) (E.at x b) (E.at y b)

  swaps_none : (b : ℕ) (ys : List ℕ) → symmetric_with E.at b ys ≡ true → All (λ y. swaps b y ≡ false) ys
  unfolding swaps
  swaps_none b [] e = tt
  swaps_none b (y ∷ ys) e =
      let k = symmetric_parts E.at b y ys e in (ap (λ t. t ⊻ E.at y b) k.0 ∙ bxor_self (E.at y b), swaps_none b ys k.1)

  square : (u v : ℕ) → E.at (u ⊕ v) (u ⊕ v) ≡ (E.at u u ⊻ E.at v v) ⊻ swaps u v
  unfolding swaps
  square u v =
      E.right (u ⊕ v) u v ∙ ap₂ ◌⊻◌ (E.left u u v) (E.left v u v)
      ∙ shuffle (E.at u u) (E.at v u) (E.at u v) (E.at v v)
    where
      shuffle : (a b c d : Bool) → (a ⊻ b) ⊻ (c ⊻ d) ≡ (a ⊻ d) ⊻ (c ⊻ b)
      shuffle a b c d = simp (bxor_assoc, bxor_comm, left_comm 𝔹)

  diagonal_scale : (c : Bool) (b : ℕ) → E.at b b ≡ false → E.at (select 0 c b) (select 0 c b) ≡ false
  diagonal_scale true b e = e
  diagonal_scale false b e = map_o 𝕎 𝔹 (E.at 0) (E.right 0)

  swaps_scale : (u b : ℕ) (c : Bool) → swaps b u ≡ false → swaps u (select 0 c b) ≡ false
  unfolding swaps
  swaps_scale u b c e = map_scale 𝕎 𝔹 (swaps u) (swaps_add u) c b ∙ ap (scale 𝔹 c) (bxor_comm (E.at u b) (E.at b u) ∙ e) ∙ scale_o 𝔹 c

  pub alternates : (bs : List ℕ) → is_alternating_lem E.at bs ≡ true → (x : ℕ) → InSpan 𝕎 bs x → E.at x x ≡ false
  alternates [] a x h = ap (E.at x) h ∙ map_o 𝕎 𝔹 (E.at x) (E.right x)
  alternates (b ∷ bs) a x (c, h) =
      let k = alternating_parts E.at b bs a in
      let u = x ⊕ select 0 c b in
      ap (λ t. E.at t t) (sym (cancel_right 𝕎 x (select 0 c b))) ∙ square u (select 0 c b)
      ∙ ap₂ ◌⊻◌ (ap₂ ◌⊻◌ (alternates bs k.2 u h) (diagonal_scale c b k.0))
      (swaps_scale u b c (span_kernel 𝕎 𝔹 (swaps b) (swaps_add b) bs (swaps_none b bs k.1) u h))
