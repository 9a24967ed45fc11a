-- `drop_member` moves the members behind member j up, each changed as the complement asks, and their form rows with them, by the laws of Drops.
use mathlib.Core.Path.{◌≡◌}
use mathlib.Core.List.{List, ◌++◌}
use Prim.Native.Nat.{ℕ}
use lib.ListN.{take, drop}
use Rattle.binar.specs.Bits.{dot}
use Rattle.binar.specs.Rows.{val}
use Rattle.blocks.specs.Matrices.{matmul}
use Rattle.blocks.specs.Words.{rows_in_lem}
use Rattle.triangular.specs.Spaces.{complement}
use Rattle.family.proofs.space.Space.drop_member.Given as goal

abbrev pub invariant-loop-n : goal.invariant-loop-n
invariant-loop-n l = (l.self.d ≡ l.initial.self.d)
    × (rows_in_lem l.self.basis ≡ take l.n (complement (dot (val l.f)) (take l.initial.self.d (rows_in_lem l.initial.self.basis))) ++ drop l.n (rows_in_lem l.initial.self.basis))
    × ((E : List ℕ) → matmul (take l.initial.self.d (rows_in_lem l.initial.self.basis)) E ≡ take l.initial.self.d (rows_in_lem l.initial.self.forms)
    → rows_in_lem l.self.forms ≡ take l.n (matmul (complement (dot (val l.f)) (take l.initial.self.d (rows_in_lem l.initial.self.basis))) E) ++ drop l.n (rows_in_lem l.initial.self.forms))
