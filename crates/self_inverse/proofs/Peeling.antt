-- A row peeled off a symmetric matrix where its diagonal has a one: it is listed, and the rank of what is left is less.
-- Assumes nothing.
use mathlib.Core.Path.{◌≡◌, refl, sym, ap, ap₂, ◌∙◌, subst}
use mathlib.Core.Bool.{Bool, true, false, true≢false}
use mathlib.Core.List.{List, [], ◌∷◌, ◌++◌}
use Prim.Native.Nat.{ℕ, suc, ◌+◌, ◌*◌, ◌^◌, ◌≤◌, ◌<◌}
use native.Mathlib.Omega.{arith}
use native.Mathlib.Nat.{add-zero as nat_add_zero, zero-add as nat_zero_add, zero-mul}
use lib.Pow.{pow_pos}
use lib.ListN.{length, get_or}
use Rattle.binar.specs.Bits.{◌⊻◌, select, bit, dot, ◌⊕◌}
use Rattle.binar.proofs.Sums.{bxor_self, sum_self, sum_swap, sum_zero}
use Rattle.binar.proofs.Dots.{dot_comm, dot_sum, sum_dot, zero_dot, dot_zero, dot_parts}
use Rattle.binar.proofs.Ones.{dot_unit}
use Rattle.blocks.specs.Matrices.{times, units, All}
use Rattle.blocks.proofs.All.{All-map, All-append, All-to_map, All-any, All-by_index}
use Rattle.blocks.proofs.Products.{times_sum, times_zero, times_unit, times_high, times_lt}
use Rattle.blocks.proofs.Units.{units_length, units_at, times_units}
use Rattle.linear.specs.Span.{InSpan}
use Rattle.linear.specs.Maps.{Additive}
use Rattle.linear.proofs.Exchange.{span_trans, steinitz}
use Rattle.linear.proofs.Instances.{𝔹, 𝕎}
use Rattle.linear.proofs.Maps.{map_scale, span_kernel}
use Rattle.linear.proofs.Rows.{times_in, zero_by_units}
use Rattle.linear.proofs.Sums.{swap4, eq_of_sum}
use Rattle.reduction.specs.Columns.{rank}
use Rattle.reduction.specs.inner.Plain.{reduced}
use Rattle.reduction.proofs.Reduced.{reduced_indep, reduced_out, basis_in}
use Rattle.reduction.proofs.Transform.{rank_plain}
use Rattle.self_inverse.specs.inner.Peels.{plus_outer, outers, SymmetricSquare, Level, OnDiagonal, Image, Split}
use Rattle.self_inverse.proofs.Outers.{outer_length, outer_lt, outer_times, outers_snoc}

-- ---- ranks

-- rows that lie in the span of others, which has a vector that theirs has not, are of less rank
pub rank_drop : (m : ℕ) (A B : List ℕ) → All (λ v. v < 2 ^ m) B → All (InSpan 𝕎 B) A → (v : ℕ) → InSpan 𝕎 B v → (InSpan 𝕎 A v → ⊥) → suc (rank m A) ≤ rank m B
rank_drop m A B small inside v there other =
    let up = (reduced m A).up in
    let l = steinitz 𝕎 (reduced m B).up (v ∷ up) (λ h. other (span_trans 𝕎 up A v (basis_in m A) h), reduced_indep m A)
    (out v there, All-map (λ x h. out x (span_trans 𝕎 A B x inside h)) up (basis_in m A)) in
    omega (arith, rank_plain m A, rank_plain m B)
  where
    out : (x : ℕ) → InSpan 𝕎 B x → InSpan 𝕎 (reduced m B).up x
    out x h = span_trans 𝕎 B (reduced m B).up x (reduced_out m B small) h

-- the rows of a matrix are sums of the rows of another where each vector times it is one
pub rows_inside : (M R : List ℕ) → ((x : ℕ) → Image M (times x R)) → All (InSpan 𝕎 M) R
rows_inside M R inside =
    subst (All (InSpan 𝕎 M)) (times_units R)
    (All-to_map (λ u. times u R) (InSpan 𝕎 M) (units (length R)) (All-any (λ u. let z = inside u in subst (InSpan 𝕎 M) z.1 (times_in z.0 M)) (units (length R))))

-- where y has no dot with any row, it has none with their sums
pub no_dot : (R : List ℕ) (y : ℕ) → ((x : ℕ) → dot y (times x R) ≡ false) → All (λ v. dot y v ≡ false) R
no_dot R y h = subst (All (λ v. dot y v ≡ false)) (times_units R) (All-to_map (λ u. times u R) (λ v. dot y v ≡ false) (units (length R)) (All-any h (units (length R))))

pub not_spanned : (R : List ℕ) (y v : ℕ) → All (λ w. dot y w ≡ false) R → dot y v ≡ true → InSpan 𝕎 R v → ⊥
not_spanned R y v none one h = true≢false (sym one ∙ span_kernel 𝕎 𝔹 (dot y) (dot_sum y) R none v h)

-- ---- dots with a vector that is taken or not

pub dot_select : (b : Bool) (v y : ℕ) → dot (select 0 b v) y ≡ select false b (dot v y)
dot_select b v y = map_scale 𝕎 𝔹 (λ x. dot x y) (λ a c. sum_dot a c y) b v

pub select_comm : (a b : Bool) → select false a b ≡ select false b a
select_comm true true = refl
select_comm true false = refl
select_comm false true = refl
select_comm false false = refl

select_same : (a : Bool) → select false a a ≡ a
select_same true = refl
select_same false = refl

pub times_select : (R : List ℕ) (b : Bool) (e : ℕ) → times (select 0 b e) R ≡ select 0 b (times e R)
times_select R true e = refl
times_select R false e = times_zero R

pub image_sum : (M : List ℕ) (a b : ℕ) → Image M a → Image M b → Image M (a ⊕ b)
image_sum M a b h k = (h.0 ⊕ k.0, times_sum M h.0 k.0 ∙ ap₂ ◌⊕◌ h.1 k.1)

-- ---- the diagonal

-- columns from m on have nothing in a row of m columns
pub dot_past : (m d h : ℕ) → d < 2 ^ m → dot (h * 2 ^ m) d ≡ false
dot_past m d h l =
    ap₂ dot (sym (nat_add_zero (h * 2 ^ m))) (sym (ap (λ t. t + d) (zero-mul (2 ^ m)) ∙ nat_zero_add d)) ∙ dot_parts m h 0 0 d (pow_pos m) l
    ∙ ap₂ ◌⊻◌ (dot_zero h) (zero_dot d)

abbrev pub Diagonal : List ℕ → ℕ → Type 0
Diagonal R d = (x : ℕ) → dot (times x R) x ≡ dot x d

module _ (R : List ℕ) (rest : SymmetricSquare R) where
  -- the form of a vector with itself is additive
  self_sum : Additive 𝕎 𝔹 (λ x. dot (times x R) x)
  self_sum x y =
      let a = times x R in
      let b = times y R in
      ap (λ t. dot t (x ⊕ y)) (times_sum R x y) ∙ sum_dot a b (x ⊕ y) ∙ ap₂ ◌⊻◌ (dot_sum a x y) (dot_sum b x y)
      ∙ ap (λ t. (dot a x ⊻ dot a y) ⊻ (t ⊻ dot b y)) (rest.symmetric y x ∙ dot_comm y a)
      ∙ cross (dot a x) (dot a y) (dot b y)
    where
      cross : (p q r : Bool) → (p ⊻ q) ⊻ (q ⊻ r) ≡ p ⊻ r
      cross true true r = refl
      cross true false r = refl
      cross false true true = refl
      cross false true false = refl
      cross false false r = refl

  module _ (d : ℕ) (on : OnDiagonal R d) where
    abbrev off : ℕ → Bool
    off z = dot (times z R) z ⊻ dot z d

    off_sum : Additive 𝕎 𝔹 off
    off_sum y z = ap₂ ◌⊻◌ (self_sum y z) (sum_dot y z d) ∙ swap4 𝔹 (dot (times y R) y) (dot (times z R) z) (dot y d) (dot z d)

    at_unit : (i : ℕ) → i < length R → off (2 ^ i) ≡ false
    at_unit i l =
        ap₂ ◌⊻◌ (ap (λ t. dot t (2 ^ i)) (times_unit i R) ∙ dot_unit (get_or R i 0) i) (dot_comm (2 ^ i) d ∙ dot_unit d i ∙ on.on i l)
        ∙ bxor_self (bit i (get_or R i 0))

    off_units : All (λ u. off u ≡ false) (units (length R))
    off_units =
        let m = length R in
        All-by_index (λ u. off u ≡ false) (units m) 0 (λ i l. let k : i < m = omega (arith, units_length m) in ap off (units_at i m k) ∙ at_unit i k)

    off_past : (h : ℕ) → off (h * 2 ^ length R) ≡ false
    off_past h = ap₂ ◌⊻◌ (ap (λ t. dot t (h * 2 ^ length R)) (times_high R h) ∙ zero_dot (h * 2 ^ length R)) (dot_past (length R) d h on.fits)

    pub diagonal_is : Diagonal R d
    diagonal_is x = eq_of_sum 𝔹 (dot (times x R) x) (dot x d) (zero_by_units 𝔹 off off_sum (length R) off_units off_past x)

  pub level_of : Diagonal R 0 → Level R
  level_of h x = h x ∙ dot_zero x

-- ---- one row

module _ (R : List ℕ) (rest : SymmetricSquare R) (e : ℕ) (one : dot (times e R) e ≡ true) where
  abbrev v : ℕ
  v = times e R

  abbrev R' : List ℕ
  R' = plus_outer v v R

  v_lt : v < 2 ^ length R
  v_lt = times_lt (length R) R rest.bounded e

  after : (x : ℕ) → times x R' ≡ times x R ⊕ select 0 (dot x v) v
  after x = outer_times v v R v_lt x

  dot_after : (x y : ℕ) → dot (times x R') y ≡ dot (times x R) y ⊻ select false (dot x v) (dot v y)
  dot_after x y = ap (λ t. dot t y) (after x) ∙ sum_dot (times x R) (select 0 (dot x v) v) y ∙ ap (λ t. dot (times x R) y ⊻ t) (dot_select (dot x v) v y)

  symmetric' : (x y : ℕ) → dot (times x R') y ≡ dot x (times y R')
  symmetric' x y =
      dot_after x y
      ∙ ap₂ ◌⊻◌ (rest.symmetric x y ∙ dot_comm x (times y R)) (select_comm (dot x v) (dot v y) ∙ ap₂ (select false) (dot_comm v y) (dot_comm x v))
      ∙ sym (dot_comm x (times y R') ∙ dot_after y x)

  pub peeled_rest : SymmetricSquare R'
  peeled_rest = record {
    symmetric = symmetric';
    bounded = subst (λ m. All (λ x. x < 2 ^ m) R') (sym (outer_length v v R)) (outer_lt (length R) v v v_lt R rest.bounded);
  }

  -- what it takes away was there
  inside' : (x : ℕ) → times (x ⊕ select 0 (dot x v) e) R ≡ times x R'
  inside' x = times_sum R x (select 0 (dot x v) e) ∙ ap (λ t. times x R ⊕ t) (times_select R (dot x v) e) ∙ sym (after x)

  pub peeled_split : (M vs : List ℕ) → Split M vs R → Split M (vs ++ (v ∷ [])) R'
  peeled_split M vs s = record {
    sums = λ x. s.sums x ∙ sym (ap₂ ◌⊕◌ (outers_snoc vs v x) (after x) ∙ sum_swap (outers vs x) (select 0 (dot x v) v) (times x R) (select 0 (dot x v) v)
        ∙ ap (λ t. (outers vs x ⊕ times x R) ⊕ t) (sum_self (select 0 (dot x v) v)) ∙ sum_zero (outers vs x ⊕ times x R));
    inside = λ x. subst (Image M) (inside' x) (s.inside (x ⊕ select 0 (dot x v) e));
    from = All-append (Image M) vs (v ∷ []) s.from (s.inside e, tt);
  }

  gone : times e R' ≡ 0
  gone = after e ∙ ap (λ b. v ⊕ select 0 b v) (dot_comm e v ∙ one) ∙ sum_self v

  -- e has a dot with the row, and with nothing that is left
  pub peeled_rank : suc (rank (length R) R') ≤ rank (length R) R
  peeled_rank =
      rank_drop (length R) R' R rest.bounded (rows_inside R R' (λ x. (x ⊕ select 0 (dot x v) e, inside' x))) v (times_in e R)
      (not_spanned R' e v (no_dot R' e (λ x. sym (symmetric' e x) ∙ ap (λ t. dot t x) gone ∙ zero_dot x)) (dot_comm e v ∙ one))

  pub peeled_diagonal : (d : ℕ) → Diagonal R d → Diagonal R' (d ⊕ v)
  peeled_diagonal d h x =
      dot_after x x ∙ ap₂ ◌⊻◌ (h x) (ap (select false (dot x v)) (dot_comm v x) ∙ select_same (dot x v)) ∙ sym (dot_sum x d v)
