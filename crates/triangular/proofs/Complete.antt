-- The search is right: what it finds is a good basis of the space, and where it finds none there is none.
-- Assumes nothing.
use mathlib.Core.Path.{◌≡◌, refl, sym, ap, ◌∙◌, subst}
use mathlib.Core.Bool.{Bool, true, false, true≢false}
use mathlib.Core.List.{List, [], ◌∷◌}
use mathlib.Core.Logic.{⊎_elim}
use Prim.Native.Nat.{ℕ, zero, suc, ◌+◌, ◌-◌, ◌^◌, ◌≤◌, ◌<◌}
use native.Mathlib.Omega.{arith}
use native.Mathlib.Nat.{eq-or-lt_of_le}
use lib.ListN.{length}
use Rattle.blocks.specs.Matrices.{times, All}
use Rattle.blocks.proofs.All.{All-map, All-map₂}
use Rattle.blocks.proofs.Products.{times_zero}
use Rattle.linear.specs.Span.{InSpan}
use Rattle.linear.specs.Maps.{Form}
use Rattle.linear.specs.Triangular.{Tri}
use Rattle.linear.proofs.Exchange.{span_trans}
use Rattle.linear.proofs.Instances.{𝔹, 𝕎}
use Rattle.linear.proofs.Maps.{map_o, span_kernel}
use Rattle.linear.proofs.Rows.{times_in, drawn}
use Rattle.triangular.specs.Spaces.{complement, is_alternating_lem}
use Rattle.triangular.specs.Search.{Outcome, found, failed, unless_alternating, after_rest, draw, draws, search}
use Rattle.triangular.proofs.Complements.{complement_in, complement_out, complement_length}
use Rattle.triangular.proofs.Alternates.{alternates}

module _ (E : Form 𝕎) where
  -- a good basis of the space of bs, of dimension d, in its parts
  abbrev pub Is : ℕ → List ℕ → List ℕ → Type 0
  Is d bs ps = Tri E.at ps × All (InSpan 𝕎 bs) ps × (length ps ≡ d)

  abbrev pub None : ℕ → List ℕ → Type 0
  None d bs = (ps : List ℕ) → Is d bs ps → ⊥

  -- what an outcome says of the space
  abbrev pub Right : ℕ → List ℕ → Outcome → Type 0
  Right d bs (found ps n) = Is d bs ps
  Right d bs (failed n) = None d bs

  -- and of the draws c, c + 1, .. k of them
  abbrev Drawn : ℕ → List ℕ → ℕ → ℕ → Outcome → Type 0
  Drawn d bs k c (found ps n) = Is (suc d) bs ps
  Drawn d bs k c (failed n) = (x : ℕ) → c ≤ x → x < c + k → E.at (times x bs) (times x bs) ≡ true → None d (complement (E.at (times x bs)) bs)

  widen : (d : ℕ) (bs : List ℕ) (k c : ℕ) → (E.at (times c bs) (times c bs) ≡ true → None d (complement (E.at (times c bs)) bs))
      → (out : Outcome) → Drawn d bs k (suc c) out → Drawn d bs (suc k) c out
  widen d bs k c z (found ps n) r = r
  widen d bs k c z (failed n) r =
      λ x l u. ⊎_elim (λ e. subst (λ y. E.at (times y bs) (times y bs) ≡ true → None d (complement (E.at (times y bs)) bs)) e z)
      (λ g. r x g (omega arith)) (eq-or-lt_of_le l)

  pub cons_is : (d : ℕ) (bs : List ℕ) (p : ℕ) (ps : List ℕ) → E.at p p ≡ true → InSpan 𝕎 bs p → Is d (complement (E.at p) bs) ps → Is (suc d) bs (p ∷ ps)
  cons_is d bs p ps e h i =
      let rest = complement (E.at p) bs in
      let inside = complement_in (E.at p) (E.right p) bs in (
        (e, All-map (λ y k. span_kernel 𝕎 𝔹 (E.at p) (E.right p) rest (All-map (λ z w. w.1) rest inside) y k) ps i.1, i.0),
        (h, All-map (λ y k. span_trans 𝕎 rest bs y (All-map (λ z w. w.0) rest inside) k) ps i.1),
        ap suc i.2,
      )

  module _ (sub : List ℕ → ℕ → Outcome) (d : ℕ) (sub-right : (bs : List ℕ) (n : ℕ) → length bs ≡ d → Right d bs (sub bs n))
      (bs : List ℕ) (size : length bs ≡ suc d) where
    draws_right : (k c n : ℕ) → Drawn d bs k c (draws E.at sub bs k c n)
    unfolding draws
    draws_right zero c n = λ x l u. absurd (omega arith)
    draws_right (suc k) c n = go (E.at p p) refl (draws_right k (suc c))
      where
        p : ℕ
        p = times c bs

        rest : List ℕ
        rest = complement (E.at p) bs

        next : ℕ → Outcome
        next = draws E.at sub bs k (suc c)

        rest_size : E.at p p ≡ true → length rest ≡ d
        rest_size e = let l = complement_length (E.at p) (E.right p) bs p e (times_in c bs) in omega arith

        from : E.at p p ≡ true → ((m : ℕ) → Drawn d bs k (suc c) (next m)) → (out : Outcome) → Right d rest out → Drawn d bs (suc k) c (after_rest p next out)
        from e ih (found ps m) r = cons_is d bs p ps e (times_in c bs) r
        from e ih (failed m) r = widen d bs k c (λ _. r) (next m) (ih m)

        go : (b : Bool) → E.at p p ≡ b → ((m : ℕ) → Drawn d bs k (suc c) (next m)) → Drawn d bs (suc k) c (draw b p (sub rest) next n)
        go true e ih = from e ih (sub rest (suc n)) (sub-right rest (suc n) (rest_size e))
        go false e ih = widen d bs k c (λ t. absurd (true≢false (sym t ∙ e))) (next (suc n)) (ih (suc n))

  none_alternating : (d : ℕ) (bs : List ℕ) → is_alternating_lem E.at bs ≡ true → None (suc d) bs
  none_alternating d bs a [] i = absurd (omega (arith, i.2))
  none_alternating d bs a (p ∷ ps) i = true≢false (sym i.0.0 ∙ alternates E bs a p i.1.0)

  -- no draw has a good rest: there is no good basis
  none_drawn : (d : ℕ) (bs : List ℕ) → length bs ≡ suc d → (n : ℕ) → Drawn d bs (2 ^ suc d - 1) 1 (failed n) → None (suc d) bs
  none_drawn d bs size n r [] i = absurd (omega (arith, i.2))
  none_drawn d bs size n r (p ∷ ps) i =
      r x.0 (positive x.0 x.2) (omega (arith, rw size at x.1))
      (rw x.2 i.0.0) ps
      (rw x.2 (i.0.2, All-map₂ (λ y h e. complement_out (E.at p) (E.right p) bs y e h) ps i.1.1 i.0.1, omega (arith, i.2)))
    where
      x : (c : ℕ) × (c < 2 ^ length bs) × (times c bs ≡ p)
      x = drawn bs p i.1.0

      positive : (c : ℕ) → times c bs ≡ p → 1 ≤ c
      positive zero e = absurd (true≢false (sym i.0.0 ∙ ap (E.at p) (sym e ∙ times_zero bs) ∙ map_o 𝕎 𝔹 (E.at p) (E.right p)))
      positive (suc c) e = omega arith

  pub search_right : (d : ℕ) (bs : List ℕ) (looks : ℕ) → length bs ≡ d → Right d bs (search E.at d bs looks)
  unfolding search
  search_right zero bs looks e = (tt, tt, refl)
  search_right (suc d) bs looks e = go (is_alternating_lem E.at bs) refl (draws_right (search E.at d) d (search_right d) bs e (2 ^ suc d - 1) 1 looks)
    where
      all : ℕ → Outcome
      all = draws E.at (search E.at d) bs (2 ^ suc d - 1) 1

      finish : (out : Outcome) → Drawn d bs (2 ^ suc d - 1) 1 out → Right (suc d) bs out
      finish (found ps m) r = r
      finish (failed m) r = none_drawn d bs e m r

      go : (b : Bool) → is_alternating_lem E.at bs ≡ b → Drawn d bs (2 ^ suc d - 1) 1 (all looks) → Right (suc d) bs (unless_alternating b all looks)
      go true a r = none_alternating d bs a
      go false a r = finish (all looks) r
