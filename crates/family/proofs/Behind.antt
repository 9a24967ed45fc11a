-- Rows of which the first have been put, and rows put behind the first.
-- Assumes nothing.
use mathlib.Core.Path.{◌≡◌, ap, ◌∙◌}
use mathlib.Core.List.{List, [], ◌∷◌, ◌++◌}
use Prim.Native.Nat.{ℕ, ◌+◌, ◌<◌}
use native.Mathlib.Omega.{arith}
use lib.ListN.{length, set, take, drop, length-set}
use lib.Seq.{take_all, take_at, append_snoc}
use Rattle.blocks.proofs.Values.{set_next}

-- all have been put
pub put_all : (rows out x : List ℕ) (n k : ℕ) → n ≡ k → length rows ≡ k → x ≡ take n rows ++ drop n out → take k x ≡ rows
put_all rows out x n k e h is =
    ap (take k) (is ∙ ap (λ (m : List ℕ). m ++ drop n out) (take_all n rows (omega arith))) ∙ take_at rows (drop n out) k h

-- two more
pub two_put : (l : List ℕ) (n u w : ℕ) → n + 1 < length l → take (n + 2) (set (set l n u) (n + 1) w) ≡ take n l ++ (u ∷ w ∷ [])
two_put l n u w h =
    let e : n + 2 ≡ n + 1 + 1 = omega arith in
    ap (λ (m : ℕ). take m (set (set l n u) (n + 1) w)) e ∙ set_next (set l n u) (n + 1) w (omega (arith, length-set l n u))
    ∙ ap (λ (m : List ℕ). m ++ (w ∷ [])) (set_next l n u (omega arith)) ∙ append_snoc (take n l) u (w ∷ [])
