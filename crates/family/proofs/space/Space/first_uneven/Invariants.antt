-- `first_uneven` passes the members that are even with all behind them, by `first_uneven_skip`.
use mathlib.Core.Path.{◌≡◌}
use mathlib.Core.List.{List}
use Prim.Native.Nat.{ℕ}
use lib.ListN.{take, drop}
use Rattle.binar.specs.Bits.{◌⊕◌}
use Rattle.blocks.specs.Matrices.{matmul}
use Rattle.blocks.specs.Words.{rows_in_lem}
use Rattle.residue.specs.Residue.{form}
use Rattle.symplectic.specs.Picks.{first_uneven_lem}
use Rattle.family.proofs.space.Space.first_uneven.Given as goal

abbrev pub invariant-loop-i : goal.invariant-loop-i
invariant-loop-i l = (E : List ℕ) → matmul (take l.self.d (rows_in_lem l.self.basis)) E ≡ take l.self.d (rows_in_lem l.self.forms)
    → first_uneven_lem ◌⊕◌ (form E) (drop l.i (take l.self.d (rows_in_lem l.self.basis))) ≡ first_uneven_lem ◌⊕◌ (form E) (take l.self.d (rows_in_lem l.self.basis))
