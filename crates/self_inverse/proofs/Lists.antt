-- The last of the first members of a list.
-- Assumes nothing.
use mathlib.Core.Path.{◌≡◌, ap, ◌∙◌}
use mathlib.Core.List.{List, [], ◌∷◌, ◌++◌}
use Prim.Native.Nat.{ℕ, suc, ◌-◌, ◌≤◌, ◌<◌}
use native.Mathlib.Omega.{arith}
use lib.ListN.{length, get_or, take}
use lib.Seq.{take-suc}

pub take_last : (l : List ℕ) (k : ℕ) → 0 < k → k ≤ length l → take k l ≡ take (k - 1) l ++ (get_or l (k - 1) 0 ∷ [])
take_last l k p h = let e : k ≡ suc (k - 1) = omega arith in ap (λ (j : ℕ). take j l) e ∙ take-suc l (k - 1) 0 (omega arith)
