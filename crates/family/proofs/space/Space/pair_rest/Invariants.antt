-- `pair_rest` puts the others one by one over the members, and their form rows with them, by `rest_member` and `rest_row`.
use mathlib.Core.Path.{◌≡◌}
use mathlib.Core.List.{List, ◌++◌}
use Prim.Native.Nat.{ℕ}
use lib.ListN.{take, drop}
use Rattle.blocks.specs.Matrices.{matmul}
use Rattle.blocks.specs.Words.{rows_in_lem}
use Rattle.residue.specs.Residue.{form}
use Rattle.family.specs.inner.Parts.{pair_rest_lem}
use Rattle.family.proofs.space.Space.pair_rest.Given as goal

abbrev pub invariant-loop-n : goal.invariant-loop-n
invariant-loop-n l = (l.self.d ≡ l.initial.self.d)
    × ((E : List ℕ) → matmul (take l.initial.self.d (rows_in_lem l.initial.self.basis)) E ≡ take l.initial.self.d (rows_in_lem l.initial.self.forms)
    → (rows_in_lem l.self.basis ≡ take l.n (pair_rest_lem (form E) l.j (take l.initial.self.d (rows_in_lem l.initial.self.basis))) ++ drop l.n (rows_in_lem l.initial.self.basis))
    × (rows_in_lem l.self.forms ≡ take l.n (matmul (pair_rest_lem (form E) l.j (take l.initial.self.d (rows_in_lem l.initial.self.basis))) E) ++ drop l.n (rows_in_lem l.initial.self.forms)))
