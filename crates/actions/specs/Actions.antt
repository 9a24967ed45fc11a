-- What an action of the code means: the first 2n of its rows. A qubit count above the most counts as the most.
-- Assumes nothing.
use Rattle.std.specs.Prelude.{List, ◌++◌, map, ℕ, ◌+◌, take, replicate}
use Rattle.binar.specs.declared.Row.{Row}
use Rattle.binar.specs.Rows.{val}
use Rattle.symplectic.specs.Sizes.{capped}
use Rattle.actions.specs.declared.Action.{Action}

-- the values of rows in an array
unfoldable pub vals : List Row → List ℕ
vals l = map val l

unfoldable pub qubits : Action → ℕ
qubits a = capped a.n

unfoldable pub matrix : Action → List ℕ
matrix a = take (qubits a + qubits a) (vals a.rows)

-- exactly m rows: those given, and zero rows behind them
unfoldable pub padded : ℕ → List ℕ → List ℕ
padded m rows = take m (rows ++ replicate m 0)
