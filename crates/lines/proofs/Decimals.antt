-- A number in decimal: its last digit behind its tens, and how many digits it has.
-- Assumes nothing.
use mathlib.Core.Path.{◌≡◌, refl, ap, ◌∙◌}
use mathlib.Core.Bool.{Bool, true, false, cond}
use mathlib.Core.List.{List, [], ◌∷◌, ◌++◌}
use Prim.Native.Nat.{ℕ, zero, suc, ◌+◌, ◌/◌, ◌%◌, ◌^◌, ◌≤◌, ◌<◌}
use native.Mathlib.Nat.{le_refl, not-suc-le-zero, pow-suc}
use native.Mathlib.Decide.{le_ind}
use native.Mathlib.Omega.{arith}
use lib.Dec.{ltb}
use lib.ListN.{length, length-append}
use borrow.Author.Tests.{lt-ltb, le-ltb, ltb-true}
use Rattle.lines.specs.Lines.{decimal_in, decimal}

-- ---- more digits than the number itself has change nothing

tenth_le : (k v : ℕ) → v ≤ suc k → v / 10 ≤ k
tenth_le k v h = omega arith

more : (k v : ℕ) → v ≤ k → decimal_in (suc k) v ≡ decimal_in k v
unfolding decimal_in
more zero zero h = refl
more zero (suc v) h = absurd (not-suc-le-zero h)
more (suc k) v h = ap (λ (high : List ℕ). cond (ltb v 10) ((48 + v) ∷ []) (high ++ ((48 + v % 10) ∷ []))) (more k (v / 10) (tenth_le k v h))

enough : (k v : ℕ) → v ≤ k → decimal_in k v ≡ decimal_in v v
enough k v h = le_ind (λ (m : ℕ). decimal_in m v ≡ decimal_in v v) refl (λ m l e. more m v l ∙ e) k h

pub decimal_step : (v : ℕ) → decimal v ≡ cond (ltb v 10) ((48 + v) ∷ []) (decimal (v / 10) ++ ((48 + v % 10) ∷ []))
unfolding decimal decimal_in
decimal_step zero = refl
decimal_step (suc v) =
    ap (λ (high : List ℕ). cond (ltb (suc v) 10) ((48 + suc v) ∷ []) (high ++ ((48 + suc v % 10) ∷ [])))
    (enough v (suc v / 10) (tenth_le v (suc v) (le_refl (suc v))))

-- ---- by its tens

pub decimal_digit : (u : ℕ) → u < 10 → decimal u ≡ (48 + u) ∷ []
decimal_digit u h = decimal_step u ∙ ap (λ (b : Bool). cond b ((48 + u) ∷ []) (decimal (u / 10) ++ ((48 + u % 10) ∷ []))) (lt-ltb u 10 h)

pub decimal_low : (v : ℕ) → v < 10 → decimal v ≡ (48 + v % 10) ∷ []
decimal_low v h = decimal_digit v h ∙ ap (λ (k : ℕ). (48 + k) ∷ []) (omega arith)

pub decimal_high : (v : ℕ) → 10 ≤ v → decimal v ≡ decimal (v / 10) ++ ((48 + v % 10) ∷ [])
decimal_high v h = decimal_step v ∙ ap (λ (b : Bool). cond b ((48 + v) ∷ []) (decimal (v / 10) ++ ((48 + v % 10) ∷ []))) (le-ltb v 10 h)

-- ---- how many digits

pub decimal_length : (d v : ℕ) → v < 10 ^ suc d → length (decimal v) ≤ suc d
decimal_length zero v h = omega (arith, ap length (decimal_digit v h))
decimal_length (suc d) v h = go (ltb v 10) refl (decimal_length d (v / 10) (omega (arith, pow-suc 10 (suc d))))
  where
    go : (b : Bool) → ltb v 10 ≡ b → length (decimal (v / 10)) ≤ suc d → length (decimal v) ≤ suc (suc d)
    go true e ih = omega (arith, ap length (decimal_digit v (ltb-true v 10 e)))
    go false e ih =
        let whole = ap length (decimal_step v ∙ ap (λ (b : Bool). cond b ((48 + v) ∷ []) (decimal (v / 10) ++ ((48 + v % 10) ∷ []))) e) in
        omega (arith, whole, length-append (decimal (v / 10)) ((48 + v % 10) ∷ []))
