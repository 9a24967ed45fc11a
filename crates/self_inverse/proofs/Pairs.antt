-- A pair of rows peeled off a symmetric matrix with zeros on its diagonal: the last vector listed makes way for three, and the rank of what is left is less by two.
-- Assumes nothing.
use mathlib.Core.Path.{◌≡◌, refl, sym, ap, ap₂, ◌∙◌, subst}
use mathlib.Core.Bool.{Bool, true, false}
use mathlib.Core.Logic.{inl, inr}
use mathlib.Core.List.{List, [], ◌∷◌}
use Prim.Native.Nat.{ℕ, suc, ◌+◌, ◌^◌, ◌≤◌, ◌<◌}
use native.Mathlib.Omega.{arith}
use native.Mathlib.Nat.{le_refl}
use lib.ListN.{length}
use Rattle.binar.specs.Bits.{◌⊻◌, select, dot, ◌⊕◌}
use Rattle.binar.proofs.Sums.{bxor_self, bxor_comm, sum_assoc, sum_self, sum_swap, sum_zero, zero_sum}
use Rattle.binar.proofs.Dots.{dot_comm, sum_dot, zero_dot}
use Rattle.blocks.specs.Matrices.{times, All}
use Rattle.blocks.proofs.Products.{times_sum, times_zero, times_lt}
use Rattle.linear.specs.Span.{InSpan}
use Rattle.linear.proofs.Exchange.{span_skip, span_head, span_members}
use Rattle.linear.proofs.Instances.{𝕎}
use Rattle.linear.proofs.Rows.{times_in}
use Rattle.blocks.proofs.All.{All-map}
use Rattle.reduction.specs.Columns.{rank}
use Rattle.self_inverse.specs.inner.Peels.{plus_outer, outers, three, with_pair, SymmetricSquare, Level, Image, Split, Grown, Paired}
use Rattle.self_inverse.proofs.Outers.{outer_length, outer_lt, outer_times, across, outers_pair, pair_length}
use Rattle.self_inverse.proofs.Peeling.{rank_drop, rows_inside, no_dot, not_spanned, dot_select, select_comm, times_select, image_sum}

-- ---- three for the last

image_three : (M : List ℕ) (f s p : ℕ) → Image M f → Image M s → Image M p → All (Image M) (three f s p)
image_three M f s p a b c = let pf = image_sum M p f c a in (pf, (image_sum M p s c b, (image_sum M (p ⊕ f) s pf b, tt)))

image_pair : (M : List ℕ) (f s : ℕ) → Image M f → Image M s → (vs : List ℕ) → All (Image M) vs → All (Image M) (with_pair f s vs)
image_pair M f s a b [] h = image_three M f s 0 a b (0, times_zero M)
image_pair M f s a b (p ∷ []) h = image_three M f s p a b h.0
image_pair M f s a b (v ∷ w ∷ vs) h = (h.0, image_pair M f s a b (w ∷ vs) h.1)

-- ---- the two rows

module _ (R : List ℕ) (rest : SymmetricSquare R) (level : Level R) (e g : ℕ) (one : dot (times e R) g ≡ true) where
  abbrev f : ℕ
  f = times e R

  abbrev s : ℕ
  s = times g R

  abbrev R' : List ℕ
  R' = plus_outer s f (plus_outer f s R)

  small : (x : ℕ) → times x R < 2 ^ length R
  small x = times_lt (length R) R rest.bounded x

  after : (x : ℕ) → times x R' ≡ times x R ⊕ across f s x
  after x =
      outer_times s f (plus_outer f s R) (subst (λ m. s < 2 ^ m) (sym (outer_length f s R)) (small g)) x
      ∙ ap (λ t. t ⊕ select 0 (dot x s) f) (outer_times f s R (small e) x) ∙ sum_assoc (times x R) (select 0 (dot x f) s) (select 0 (dot x s) f)

  dot_across : (x y : ℕ) → dot (across f s x) y ≡ select false (dot x f) (dot s y) ⊻ select false (dot x s) (dot f y)
  dot_across x y =
      sum_dot (select 0 (dot x f) s) (select 0 (dot x s) f) y ∙ ap₂ ◌⊻◌ (dot_select (dot x f) s y) (dot_select (dot x s) f y)

  dot_after : (x y : ℕ) → dot (times x R') y ≡ dot (times x R) y ⊻ (select false (dot x f) (dot s y) ⊻ select false (dot x s) (dot f y))
  dot_after x y = ap (λ t. dot t y) (after x) ∙ sum_dot (times x R) (across f s x) y ∙ ap (λ t. dot (times x R) y ⊻ t) (dot_across x y)

  turned : (a b c d : Bool) → select false a b ⊻ select false c d ≡ select false d c ⊻ select false b a
  turned a b c d = ap₂ ◌⊻◌ (select_comm a b) (select_comm c d) ∙ bxor_comm (select false b a) (select false d c)

  symmetric' : (x y : ℕ) → dot (times x R') y ≡ dot x (times y R')
  symmetric' x y =
      dot_after x y
      ∙ ap₂ ◌⊻◌ (rest.symmetric x y ∙ dot_comm x (times y R))
      (turned (dot x f) (dot s y) (dot x s) (dot f y) ∙ ap₂ ◌⊻◌ (ap₂ (select false) (dot_comm f y) (dot_comm x s)) (ap₂ (select false) (dot_comm s y) (dot_comm x f)))
      ∙ sym (dot_comm x (times y R') ∙ dot_after y x)

  paired_length : length R' ≡ length R
  paired_length = outer_length s f (plus_outer f s R) ∙ outer_length f s R

  paired_rest : SymmetricSquare R'
  paired_rest = record {
    symmetric = symmetric';
    bounded = subst (λ m. All (λ x. x < 2 ^ m) R') (sym paired_length)
        (outer_lt (length R) s f (small e) (plus_outer f s R) (outer_lt (length R) f s (small g) R rest.bounded));
  }

  paired_level : Level R'
  paired_level x =
      dot_after x x
      ∙ ap₂ ◌⊻◌ (level x) (ap₂ ◌⊻◌ (ap (select false (dot x f)) (dot_comm s x) ∙ select_comm (dot x f) (dot x s)) (ap (select false (dot x s)) (dot_comm f x)))
      ∙ bxor_self (select false (dot x s) (dot x f))

  -- ---- the dots of e and g with the two rows

  ef : dot e f ≡ false
  ef = dot_comm e f ∙ level e

  gs : dot g s ≡ false
  gs = dot_comm g s ∙ level g

  gf : dot g f ≡ true
  gf = dot_comm g f ∙ one

  es : dot e s ≡ true
  es = sym (rest.symmetric e g) ∙ one

  gone_e : times e R' ≡ 0
  gone_e = after e ∙ ap₂ (λ a b. f ⊕ (select 0 a s ⊕ select 0 b f)) ef es ∙ ap (λ t. f ⊕ t) (zero_sum f) ∙ sum_self f

  gone_g : times g R' ≡ 0
  gone_g = after g ∙ ap₂ (λ a b. s ⊕ (select 0 a s ⊕ select 0 b f)) gf gs ∙ ap (λ t. s ⊕ t) (sum_zero s) ∙ sum_self s

  -- a vector that has nothing in R has nothing in what is left
  paired_zero : (x : ℕ) → times x R ≡ 0 → times x R' ≡ 0
  paired_zero x z =
      after x ∙ ap₂ ◌⊕◌ z (ap₂ (λ a b. select 0 a s ⊕ select 0 b f) (none e) (none g) ∙ zero_sum 0) ∙ zero_sum 0
    where
      none : (y : ℕ) → dot x (times y R) ≡ false
      none y = sym (rest.symmetric x y) ∙ ap (λ t. dot t y) z ∙ zero_dot y

  -- ---- what it takes away was there

  source : ℕ → ℕ
  source x = x ⊕ (select 0 (dot x f) g ⊕ select 0 (dot x s) e)

  inside' : (x : ℕ) → times (source x) R ≡ times x R'
  unfolding source
  inside' x =
      times_sum R x (select 0 (dot x f) g ⊕ select 0 (dot x s) e)
      ∙ ap (λ t. times x R ⊕ t) (times_sum R (select 0 (dot x f) g) (select 0 (dot x s) e) ∙ ap₂ ◌⊕◌ (times_select R (dot x f) g) (times_select R (dot x s) e))
      ∙ sym (after x)

  paired_split : (M vs : List ℕ) → Split M vs R → Split M (with_pair f s vs) R'
  paired_split M vs t = record {
    sums = λ x. t.sums x ∙ sym (ap₂ ◌⊕◌ (outers_pair f s vs x) (after x) ∙ sum_swap (outers vs x) (across f s x) (times x R) (across f s x)
        ∙ ap (λ q. (outers vs x ⊕ times x R) ⊕ q) (sum_self (across f s x)) ∙ sum_zero (outers vs x ⊕ times x R));
    inside = λ x. subst (Image M) (inside' x) (t.inside (source x));
    from = image_pair M f s (t.inside e) (t.inside g) vs t.from;
  }

  -- ---- e and g have no dot with what is left; e has one with s, and g with f alone of the two

  none_left : (y : ℕ) → times y R' ≡ 0 → All (λ w. dot y w ≡ false) R'
  none_left y z = no_dot R' y (λ x. sym (symmetric' y x) ∙ ap (λ t. dot t x) z ∙ zero_dot x)

  paired_rank : rank (length R) R' + 2 ≤ rank (length R) R
  paired_rank =
      let m = length R in
      let inside : All (InSpan 𝕎 R) R' = rows_inside R R' (λ x. (source x, inside' x)) in
      let lt : All (λ x. x < 2 ^ m) R' = subst (λ k. All (λ x. x < 2 ^ k) R') paired_length paired_rest.bounded in
      let first = rank_drop m R' (s ∷ R') (small g, lt) (All-map (λ x h. span_skip 𝕎 s R' x h) R' (span_members 𝕎 R')) s (span_head 𝕎 s R')
      (not_spanned R' e s (none_left e gone_e) es) in
      let second = rank_drop m (s ∷ R') R rest.bounded (times_in g R, inside) f (times_in e R) (not_spanned (s ∷ R') g f (gs, none_left g gone_g) gf) in
      omega arith

  -- ---- the step

  -- three for none: one more than the rank is less by
  counted : (vs : List ℕ) → (length vs ≤ length (with_pair f s vs)) × Grown (length vs) (rank (length R) R) (length (with_pair f s vs)) (rank (length R) R')
  counted [] = let l = paired_rank in (omega arith, inr (refl, (omega arith, (omega arith, omega arith))))
  counted (v ∷ vs) = let l = paired_rank in let e = pair_length f s v vs in (omega arith, inl (omega arith))

  pub paired : (i : ℕ) → e ≡ 2 ^ i → (vs : List ℕ) → Paired i R R' vs (with_pair f s vs)
  paired i is vs = record {
    square = paired_length;
    rest = paired_rest;
    level = paired_level;
    gone = ap (λ t. times t R') (sym is) ∙ gone_e;
    zero = paired_zero;
    split = λ M t. paired_split M vs t;
    more = (counted vs).0;
    grown = (counted vs).1;
  }

-- a row that is zero
pub unpaired : (i : ℕ) (R vs : List ℕ) → SymmetricSquare R → Level R → times (2 ^ i) R ≡ 0 → Paired i R R vs vs
unpaired i R vs rest level z =
    record { square = refl; rest = rest; level = level; gone = z; zero = λ x h. h; split = λ M t. t; more = le_refl (length vs); grown = inl (le_refl (length vs + rank (length R) R)) }

-- ---- one step after another

pub grown_on : (k l c a d b : ℕ) → k ≤ c → c ≤ d → Grown k l c a → Grown c a d b → Grown k l d b
grown_on k l c a d b m n (inl g) (inl h) = inl (omega arith)
grown_on k l c a d b m n (inl g) (inr h) = let e = h.0 in let p = h.1.0 in let q = h.1.1.0 in let t = h.1.1.1 in inr (omega arith, (omega arith, (q, omega arith)))
grown_on k l c a d b m n (inr g) (inl h) = let q = g.1.1.0 in let t = g.1.1.1 in inr (g.0, (g.1.0, (omega arith, omega arith)))
grown_on k l c a d b m n (inr g) (inr h) = let q = g.1.1.0 in let e = h.0 in absurd (omega arith)

-- what is left does not count
pub grown_end : (k l c a : ℕ) → Grown k l c a → Grown k l c 0
grown_end k l c a (inl g) = inl (omega arith)
grown_end k l c a (inr g) = let t = g.1.1.1 in inr (g.0, (g.1.0, (g.1.1.0, omega arith)))

-- the room that is left
pub grown_room : (k l c a m : ℕ) → k + l ≤ m → Grown k l c a → c + a ≤ suc m
grown_room k l c a m h (inl g) = omega arith
grown_room k l c a m h (inr g) = let t = g.1.1.1 in omega arith
