-- The least length of an action: there is one at most, and an action that has one has 2n rows of 2n columns and is symplectic.
-- Assumes nothing.
use mathlib.Core.Path.{◌≡◌, sym, ap, ◌∙◌, subst}
use mathlib.Core.Bool.{true}
use mathlib.Core.List.{List}
use Prim.Native.Nat.{ℕ, ◌+◌, ◌^◌, ◌≤◌, ◌<◌}
use native.Mathlib.Nat.{le_antisymm}
use lib.ListN.{length}
use Rattle.blocks.specs.Matrices.{All}
use Rattle.symplectic.specs.Turns.{symplectic}
use Rattle.symplectic.specs.NoneShorter.{LeastLength}
use Rattle.symplectic.proofs.Products.{product_length, product_lt}
use Rattle.symplectic.proofs.Layers.{product_symplectic}

module _ (n : ℕ) (F : List ℕ) where
  pub least_same : (j k : ℕ) → LeastLength n F j → LeastLength n F k → j ≡ k
  least_same j k a b = le_antisymm (at_most j k a b) (at_most k j b a)
    where
      at_most : (j k : ℕ) → LeastLength n F j → LeastLength n F k → j ≤ k
      at_most j k a b = let list = b.0 in subst (λ (t : ℕ). j ≤ t) list.3 (a.1 list.0 list.1 list.2)

  module _ (k : ℕ) (least : LeastLength n F k) where
    pub least_size : length F ≡ n + n
    least_size = ap length (sym least.0.2) ∙ product_length n least.0.0

    pub least_bounded : All (λ f. f < 2 ^ (n + n)) F
    least_bounded = subst (All (λ f. f < 2 ^ (n + n))) least.0.2 (product_lt n least.0.0 least.0.1)

    pub least_symplectic : symplectic n F ≡ true
    least_symplectic = ap (symplectic n) (sym least.0.2) ∙ product_symplectic n least.0.0
