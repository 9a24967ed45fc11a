-- The turns of the loops that peel rows off a matrix: what holds before each, and what one leaves.
-- Assumes nothing.
use mathlib.Core.Path.{◌≡◌, refl, sym, ap, ◌∙◌, subst, subst₂}
use mathlib.Core.Bool.{false, true}
use mathlib.Core.Logic.{◌⊎◌, inl, inr, ⊎_elim}
use mathlib.Core.List.{List, [], ◌∷◌, ◌++◌}
use Prim.Native.Nat.{ℕ, suc, ◌+◌, ◌^◌, ◌≤◌, ◌<◌}
use native.Mathlib.Nat.{le_refl, eq-or-lt_of_le, pos_of_ne-zero}
use native.Mathlib.Omega.{arith}
use lib.Dec.{eqb}
use lib.ListN.{length, get_or, length-append}
use borrow.Author.Tests.{eqb-false}
use Rattle.binar.specs.Bits.{bit, dot, ◌⊕◌}
use Rattle.binar.specs.Rows.{width, lowest}
use Rattle.binar.proofs.Widths.{pow_bound}
use Rattle.binar.proofs.Sums.{zero_sum, sum_zero, sum_lt}
use Rattle.binar.proofs.Dots.{dot_comm}
use Rattle.binar.proofs.Ones.{dot_unit, lowest_one}
use Rattle.blocks.specs.Matrices.{times, units}
use Rattle.blocks.proofs.All.{All-by_index}
use Rattle.blocks.proofs.Products.{times_sum, times_unit, times_high, times_lt}
use Rattle.blocks.proofs.Units.{units_length, units_at}
use Rattle.linear.proofs.Instances.{𝕎}
use Rattle.linear.proofs.Rows.{zero_by_units}
use Rattle.reduction.specs.Columns.{rank}
use Rattle.reduction.proofs.Transform.{rank_length}
use Rattle.self_inverse.specs.inner.Peels.{plus_outer, outers, with_pair, SymmetricSquare, Level, OnDiagonal, Split, Sums, Grown, Paired, Decomposed}
use Rattle.self_inverse.proofs.Outers.{outer_length}
use Rattle.self_inverse.proofs.Peeling.{Diagonal, diagonal_is, level_of, peeled_rest, peeled_split, peeled_rank, peeled_diagonal}
use Rattle.self_inverse.proofs.Pairs.{paired, grown_on, grown_end, grown_room}

-- the lowest one of a row that is not zero
one_there : (m x : ℕ) → m ≤ width → x < 2 ^ m → eqb x 0 ≡ false → bit (lowest x) x ≡ true
one_there m x w l e = (lowest_one x (pos_of_ne-zero (eqb-false x 0 e)) (omega (arith, pow_bound m w))).1

-- ---- single rows

-- of M the vectors vs are taken, and R is left, with the diagonal d
pub record Peeled (M R vs : List ℕ) (d : ℕ) : Type 0 where
  pub square : length R ≡ length M
  pub rest : SymmetricSquare R
  pub diagonal : Diagonal R d
  pub fits : d < 2 ^ length M
  pub split : Split M vs R
  pub short : length vs + rank (length M) R ≤ rank (length M) M

pub peel_begins : (M : List ℕ) (d : ℕ) → SymmetricSquare M → OnDiagonal M d → Peeled M M [] d
peel_begins M d rest on = record {
  square = refl;
  rest = rest;
  diagonal = diagonal_is M rest d on;
  fits = on.fits;
  split = record { sums = λ x. sym (zero_sum (times x M)); inside = λ x. (x, refl); from = tt };
  short = omega arith;
}

module _ (M R vs : List ℕ) (d : ℕ) (p : Peeled M R vs d) where
  pub peel_room : length vs ≤ length M
  peel_room = let s = p.short in omega (arith, rank_length (length M) M)

  pub peel_ends : d ≡ 0 → Level R
  peel_ends e = level_of R p.rest (subst (Diagonal R) e p.diagonal)

  module _ (small : length M ≤ width) (other : eqb d 0 ≡ false) (v : ℕ) (is : v ≡ get_or R (lowest d) 0) where
    abbrev i : ℕ
    i = lowest d

    row_is : times (2 ^ i) R ≡ v
    row_is = times_unit i R ∙ sym is

    one : dot (times (2 ^ i) R) (2 ^ i) ≡ true
    one = p.diagonal (2 ^ i) ∙ dot_comm (2 ^ i) d ∙ dot_unit d i ∙ one_there (length M) d small p.fits other

    fewer : suc (rank (length M) (plus_outer v v R)) ≤ rank (length M) R
    fewer = subst₂ (λ (m w : ℕ). suc (rank m (plus_outer w w R)) ≤ rank m R) p.square row_is (peeled_rank R p.rest (2 ^ i) one)

    pub peel_less : rank (length M) (plus_outer v v R) < rank (length M) R
    peel_less = fewer

    pub peel_turn : Peeled M (plus_outer v v R) (vs ++ (v ∷ [])) (d ⊕ v)
    peel_turn = record {
      square = outer_length v v R ∙ p.square;
      rest = subst (λ w. SymmetricSquare (plus_outer w w R)) row_is (peeled_rest R p.rest (2 ^ i) one);
      diagonal = subst (λ w. Diagonal (plus_outer w w R) (d ⊕ w)) row_is (peeled_diagonal R p.rest (2 ^ i) one d p.diagonal);
      fits = sum_lt (length M) d v p.fits (subst₂ (λ (m w : ℕ). w < 2 ^ m) p.square row_is (times_lt (length R) R p.rest.bounded (2 ^ i)));
      split = subst (λ w. Split M (vs ++ (w ∷ [])) (plus_outer w w R)) row_is (peeled_split R p.rest (2 ^ i) one M vs p.split);
      short = let s = p.short in let f = fewer in omega (arith, length-append vs (v ∷ []));
    }

-- ---- pairs

module _ (R : List ℕ) (rest : SymmetricSquare R) (level : Level R) (small : length R ≤ width) (i f s : ℕ) (first : f ≡ get_or R i 0) (second : s ≡ get_or R (lowest f) 0) where
  pub pair_turn : eqb f 0 ≡ false → (vs : List ℕ) → Paired i R (plus_outer s f (plus_outer f s R)) vs (with_pair f s vs)
  pair_turn other vs =
      let e : times (2 ^ i) R ≡ f = times_unit i R ∙ sym first in
      let g : times (2 ^ lowest f) R ≡ s = times_unit (lowest f) R ∙ sym second in
      let l : f < 2 ^ length R = subst (λ w. w < 2 ^ length R) e (times_lt (length R) R rest.bounded (2 ^ i)) in
      subst₂ (λ a b. Paired i R (plus_outer b a (plus_outer a b R)) vs (with_pair a b vs)) e g
      (paired R rest level (2 ^ i) (2 ^ lowest f) (ap (λ t. dot t (2 ^ lowest f)) e ∙ dot_unit f (lowest f) ∙ one_there (length R) f small l other) i refl vs)

  -- where the rank leaves room
  pub pair_room : eqb f 0 ≡ false → (vs : List ℕ) → length vs + rank (length R) R ≤ suc (length R) → length (with_pair f s vs) ≤ suc (length R)
  pair_room other vs h = go (pair_turn other vs).grown
    where
      go : Grown (length vs) (rank (length R) R) (length (with_pair f s vs)) (rank (length R) (plus_outer s f (plus_outer f s R))) → length (with_pair f s vs) ≤ suc (length R)
      go (inl g) = omega arith
      go (inr g) = let t = g.1.1.1 in omega (arith, rank_length (length R) R)

-- ---- nothing left

pub cleared : (R : List ℕ) → ((j : ℕ) → j < length R → times (2 ^ j) R ≡ 0) → (x : ℕ) → times x R ≡ 0
cleared R z x =
    let m = length R in
    zero_by_units 𝕎 (λ u. times u R) (times_sum R) m
    (All-by_index (λ u. times u R ≡ 0) (units m) 0 (λ j l. let k : j < m = omega (arith, units_length m) in ap (λ u. times u R) (units_at j m k) ∙ z j k)) (times_high R) x

pub sums_of : (M vs R : List ℕ) → ((x : ℕ) → times x R ≡ 0) → Split M vs R → Sums M vs
sums_of M vs R z s = record { sums = λ x. s.sums x ∙ ap (λ t. outers vs x ⊕ t) (z x) ∙ sum_zero (outers vs x); from = s.from }

-- ---- pair after pair

-- from the vectors us and R₀ to vs and R, of which the first i rows are zero
pub record PairedOff (R₀ R us vs : List ℕ) (i : ℕ) : Type 0 where
  pub square : length R ≡ length R₀
  pub rest : SymmetricSquare R
  pub level : Level R
  pub zeros : (j : ℕ) → j < i → times (2 ^ j) R ≡ 0
  pub split : (M : List ℕ) → Split M us R₀ → Split M vs R
  pub more : length us ≤ length vs
  pub grown : Grown (length us) (rank (length R₀) R₀) (length vs) (rank (length R₀) R)

pub pairs_begin : (R us : List ℕ) → SymmetricSquare R → Level R → PairedOff R R us us 0
pairs_begin R us rest level = record {
  square = refl;
  rest = rest;
  level = level;
  zeros = λ j l. absurd (omega arith);
  split = λ M s. s;
  more = le_refl (length us);
  grown = inl (le_refl (length us + rank (length R) R));
}

module _ (R₀ R us vs : List ℕ) (i : ℕ) (p : PairedOff R₀ R us vs i) where
  pub pairs_turn : (R' vs' : List ℕ) → Paired i R R' vs vs' → PairedOff R₀ R' us vs' (i + 1)
  pairs_turn R' vs' q = record {
    square = q.square ∙ p.square;
    rest = q.rest;
    level = q.level;
    zeros = λ j l. let h : j ≤ i = omega arith in ⊎_elim (λ e. ap (λ t. times (2 ^ t) R') e ∙ q.gone) (λ m. q.zero (2 ^ j) (p.zeros j m)) (eq-or-lt_of_le h);
    split = λ M s. q.split M (p.split M s);
    more = let a = p.more in let b = q.more in omega arith;
    grown = grown_on (length us) (rank (length R₀) R₀) (length vs) (rank (length R₀) R) (length vs') (rank (length R₀) R') p.more q.more p.grown
        (subst (λ m. Grown (length vs) (rank m R) (length vs') (rank m R')) p.square q.grown);
  }

  pub pairs_room : length us + rank (length R₀) R₀ ≤ length R₀ → length vs + rank (length R) R ≤ suc (length R)
  pairs_room h =
      subst (λ m. length vs + rank m R ≤ suc m) (sym p.square) (grown_room (length us) (rank (length R₀) R₀) (length vs) (rank (length R₀) R) (length R₀) h p.grown)

  pub pairs_sums : length R₀ ≤ i → (M : List ℕ) → Split M us R₀ → Sums M vs
  pairs_sums l M s = sums_of M vs R (cleared R (λ j h. p.zeros j (omega (arith, p.square)))) (p.split M s)

  pub pairs_short : Grown (length us) (rank (length R₀) R₀) (length vs) 0
  pairs_short = grown_end (length us) (rank (length R₀) R₀) (length vs) (rank (length R₀) R) p.grown

-- ---- all of it

-- what is left once single rows are taken, and then taken in pairs
pub decomposed : (M R us vs : List ℕ) → Split M us R → Level R → length R ≡ length M → length us + rank (length M) R ≤ rank (length M) M → Sums M vs
    → Grown (length us) (rank (length R) R) (length vs) 0 → Decomposed M vs
decomposed M R us vs s level e short all g = record { all = all; few = go us s short (subst (λ m. Grown (length us) (rank m R) (length vs) 0) e g) }
  where
    go : (l : List ℕ) → Split M l R → length l + rank (length M) R ≤ rank (length M) M → Grown (length l) (rank (length M) R) (length vs) 0
        → (length vs ≤ rank (length M) M) ⊎ (Level M × ((0 < rank (length M) M) × (length vs ≤ suc (rank (length M) M))))
    go l t h (inl k) = inl (omega arith)
    go [] t h (inr k) =
        let p = k.1.0 in
        let q = k.1.1.1 in
        inr (λ x. ap (λ y. dot y x) (t.sums x ∙ zero_sum (times x R)) ∙ level x, (omega arith, omega arith))
    go (v ∷ l) t h (inr k) = let z = k.0 in absurd (omega arith)
