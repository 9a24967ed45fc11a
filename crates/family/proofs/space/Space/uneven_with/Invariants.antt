-- `uneven_with` passes the members that are even with member i, by `uneven_with_skip`.
use mathlib.Core.Path.{◌≡◌}
use mathlib.Core.List.{List}
use Prim.Native.Nat.{ℕ, ◌+◌}
use lib.ListN.{get_or, take, drop}
use Rattle.binar.specs.Bits.{◌⊕◌}
use Rattle.blocks.specs.Matrices.{matmul}
use Rattle.blocks.specs.Words.{rows_in_lem}
use Rattle.residue.specs.Residue.{form}
use Rattle.symplectic.specs.Picks.{uneven_with_lem}
use Rattle.family.proofs.space.Space.uneven_with.Given as goal

abbrev pub invariant-loop-j : goal.invariant-loop-j
invariant-loop-j l = (E : List ℕ) → matmul (take l.self.d (rows_in_lem l.self.basis)) E ≡ take l.self.d (rows_in_lem l.self.forms)
    → uneven_with_lem ◌⊕◌ (form E) (get_or (take l.self.d (rows_in_lem l.self.basis)) l.i 0) (drop l.j (take l.self.d (rows_in_lem l.self.basis)))
    ≡ uneven_with_lem ◌⊕◌ (form E) (get_or (take l.self.d (rows_in_lem l.self.basis)) l.i 0) (drop (l.i + 1) (take l.self.d (rows_in_lem l.self.basis)))
