-- How many qubits and rows there may be.
-- Assumes nothing.
use Rattle.std.specs.Prelude.{ℕ, min}

-- the most qubits of an action (question 1), and the most rows. Plain numbers, open to users
abbrev pub max_qubits : ℕ
max_qubits = 32

abbrev pub most_rows : ℕ
most_rows = 64

-- the most vectors of a list that is as short as any: one more than a row has columns
abbrev pub most_vectors : ℕ
most_vectors = 65

-- a qubit count above the most counts as the most
unfoldable pub capped : ℕ → ℕ
capped n = min n max_qubits
