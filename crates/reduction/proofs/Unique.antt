-- An echelon list is independent, and there is one for each span.
-- Assumes nothing.
use mathlib.Core.Path.{◌≡◌, refl, sym, ap, ap₂, ◌∙◌, subst}
use mathlib.Core.Bool.{Bool, true, false, true≢false}
use mathlib.Core.List.{List, [], ◌∷◌, ◌++◌, append-nil}
use mathlib.Core.Logic.{⊎_elim}
use Prim.Native.Nat.{ℕ, ◌≤◌, ◌<◌}
use native.Mathlib.Omega.{arith}
use native.Mathlib.Nat.{eq-or-lt_of_le}
use native.Mathlib.Decide.{dec_le}
use Rattle.binar.specs.Bits.{◌⊻◌}
use Rattle.blocks.specs.Matrices.{All}
use Rattle.blocks.proofs.All.{All-map₂, All-any, All-append}
use Rattle.linear.specs.VectorSpace.{VectorSpace}
use Rattle.linear.specs.Span.{InSpan, Indep}
use Rattle.linear.specs.Maps.{Additive}
use Rattle.linear.proofs.Sums.{add-zero, eq_of_sum}
use Rattle.linear.proofs.Exchange.{span_add, span_head}
use Rattle.linear.proofs.Instances.{𝔹}
use Rattle.linear.proofs.Maps.{map_at, map_o, span_kernel}
use Rattle.reduction.proofs.Echelon.{Rref, tail_zero}

module _ (S : VectorSpace) (has : ℕ → S.Car → Bool) (has-add : (c : ℕ) → Additive S 𝔹 (has c)) where
  open S use {Car, add as ◌⊕◌, o}

  infixl 60 ◌⊕◌
  rest_zero : (p : ℕ) (ps : List ℕ) (u : Car) (us : List Car) → Rref has (p ∷ ps) (u ∷ us) → All (λ v. has p v ≡ false) us
  rest_zero p ps u us r = tail_zero has p p ps u us r (omega arith)

  pub rref_indep : (ps : List ℕ) (us : List Car) → Rref has ps us → Indep S us
  rref_indep [] [] r = tt
  rref_indep [] (u ∷ us) r = absurd r
  rref_indep (p ∷ ps) [] r = tt
  rref_indep (p ∷ ps) (u ∷ us) r = (λ h. true≢false (sym r.0 ∙ span_kernel S 𝔹 (has p) (has-add p) us (rest_zero p ps u us r) u h), rref_indep ps us r.3)

  -- what has no one where the first row has one, and the others have none, does without the first row
  without : (p : ℕ) (u : Car) (vs : List Car) → has p u ≡ true → All (λ v. has p v ≡ false) vs → (y : Car) → has p y ≡ false → InSpan S (u ∷ vs) y → InSpan S vs y
  without p u vs t z y e (true, h) =
      absurd (true≢false (sym (map_at S 𝔹 (has p) (has-add p) y true u ∙ ap₂ ◌⊻◌ e t) ∙ span_kernel S 𝔹 (has p) (has-add p) vs z (y ⊕ u) h))
  without p u vs t z y e (false, h) = rw (add-zero S) at h

  -- what has no one at the pivots is a sum of the rows behind the list, which have none there either
  pub past_pivots : (ps : List ℕ) (us ds : List Car) → Rref has ps us → All (λ p. All (λ d. has p d ≡ false) ds) ps → (y : Car) → All (λ p. has p y ≡ false) ps
      → InSpan S (us ++ ds) y → InSpan S ds y
  past_pivots [] [] ds r z y a h = h
  past_pivots [] (u ∷ us) ds r z y a h = absurd r
  past_pivots (p ∷ ps) [] ds r z y a h = absurd r
  past_pivots (p ∷ ps) (u ∷ us) ds r z y a h =
      past_pivots ps us ds r.3 z.1 y a.1 (without p u (us ++ ds) r.0 (All-append (λ v. has p v ≡ false) us ds (rest_zero p ps u us r) z.0) y a.0 h)

  zero_at_pivots : (ps : List ℕ) (us : List Car) → Rref has ps us → (y : Car) → All (λ p. has p y ≡ false) ps → InSpan S us y → y ≡ o
  zero_at_pivots ps us r y a h = past_pivots ps us [] r (All-any (λ p. tt) ps) y a (subst (λ l. InSpan S l y) (sym (append-nil us)) h)

  not_before : (p q : ℕ) (qs : List ℕ) (u v : Car) (vs : List Car) → has p u ≡ true → Rref has (q ∷ qs) (v ∷ vs) → InSpan S (v ∷ vs) u → p < q → ⊥
  not_before p q qs u v vs e r h l =
      true≢false (sym e ∙ span_kernel S 𝔹 (has p) (has-add p) (v ∷ vs) (r.1 p l, tail_zero has p q qs v vs r (omega arith)) u h)

  nonzero : (p : ℕ) (u : Car) → has p u ≡ true → u ≡ o → ⊥
  nonzero p u e z = true≢false (sym e ∙ ap (has p) z ∙ map_o S 𝔹 (has p) (has-add p))

  pub unique : (ps qs : List ℕ) (us vs : List Car) → Rref has ps us → Rref has qs vs → All (InSpan S vs) us → All (InSpan S us) vs → (ps ≡ qs) × (us ≡ vs)
  unique [] [] [] [] r s a b = (refl, refl)
  unique [] [] [] (v ∷ vs) r s a b = absurd s
  unique [] [] (u ∷ us) [] r s a b = absurd r
  unique [] [] (u ∷ us) (v ∷ vs) r s a b = absurd r
  unique [] (q ∷ qs) [] [] r s a b = absurd s
  unique [] (q ∷ qs) [] (v ∷ vs) r s a b = absurd (nonzero q v s.0 b.0)
  unique [] (q ∷ qs) (u ∷ us) [] r s a b = absurd s
  unique [] (q ∷ qs) (u ∷ us) (v ∷ vs) r s a b = absurd r
  unique (p ∷ ps) [] [] [] r s a b = absurd r
  unique (p ∷ ps) [] [] (v ∷ vs) r s a b = absurd r
  unique (p ∷ ps) [] (u ∷ us) [] r s a b = absurd (nonzero p u r.0 a.0)
  unique (p ∷ ps) [] (u ∷ us) (v ∷ vs) r s a b = absurd s
  unique (p ∷ ps) (q ∷ qs) [] [] r s a b = absurd r
  unique (p ∷ ps) (q ∷ qs) [] (v ∷ vs) r s a b = absurd r
  unique (p ∷ ps) (q ∷ qs) (u ∷ us) [] r s a b = absurd s
  unique (p ∷ ps) (q ∷ qs) (u ∷ us) (v ∷ vs) r s a b =
      let rest = unique ps qs us vs r.3 s.3
      (All-map₂ (λ y h z. without q v vs s.0 (rest_zero q qs v vs s) y (subst (λ k. has k y ≡ false) same z) h) us a.1 (rest_zero p ps u us r))
      (All-map₂ (λ y h z. without p u us r.0 (rest_zero p ps u us r) y (subst (λ k. has k y ≡ false) (sym same) z) h) vs b.1 (rest_zero q qs v vs s)) in (
        ap₂ ◌∷◌ same rest.0,
        ap₂ ◌∷◌ (eq_of_sum S u v (zero_at_pivots qs vs s.3 (u ⊕ v)
            (All-map₂ (λ k h l. has-add k u v ∙ ap₂ ◌⊻◌ h.1 l.1) qs (subst (All (λ k. (p < k) × (has k u ≡ false))) rest.0 r.2) s.2)
            (without q v vs s.0 (rest_zero q qs v vs s) (u ⊕ v) (has-add q u v ∙ ap₂ ◌⊻◌ (subst (λ k. has k u ≡ true) same r.0) s.0) (span_add S (v ∷ vs) u v a.0 (span_head S v vs))))) rest.1,
      )
    where
      same : p ≡ q
      same = go (dec_le p q)
        where
          go : Dec (p ≤ q) → p ≡ q
          go (yes l) = ⊎_elim (λ e. e) (λ k. absurd (not_before p q qs u v vs r.0 s a.0 k)) (eq-or-lt_of_le l)
          go (no f) = absurd (not_before q p ps v u us s.0 r b.0 (omega (arith, f)))
