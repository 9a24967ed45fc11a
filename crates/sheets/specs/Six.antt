-- Our six gates: document 01's table, and the same as a sheet.
-- Assumes nothing.
use Rattle.std.specs.Prelude.{List, [], ◌∷◌, ℕ}
use Rattle.sheets.specs.Sheets.{Gate}

-- document 01's gate sheet
unfoldable pub table : List Gate
table =
    -- 0, H a: Ya
    record { qubits = 1; turns = 5 ∷ [] }
    -- 1, S a: Za
    ∷ record { qubits = 1; turns = 4 ∷ [] }
    -- 2, root X a: Xa
    ∷ record { qubits = 1; turns = 1 ∷ [] }
    -- 3, CX a b: Za, ZaXb, Xb
    ∷ record { qubits = 2; turns = 4 ∷ 6 ∷ 2 ∷ [] }
    -- 4, CZ a b: Za, ZaZb, Zb
    ∷ record { qubits = 2; turns = 4 ∷ 12 ∷ 8 ∷ [] }
    -- 5, SWAP a b: XaXb, YaYb, ZaZb
    ∷ record { qubits = 2; turns = 3 ∷ 15 ∷ 12 ∷ [] }
    ∷ []

-- its bytes as a sheet: the count, six lines, and the turns in the same order
unfoldable pub six_gates_lem : List ℕ
six_gates_lem =
    6
    ∷ 1 ∷ 1 ∷ 25 ∷ 0
    ∷ 1 ∷ 1 ∷ 26 ∷ 0
    ∷ 1 ∷ 1 ∷ 27 ∷ 0
    ∷ 2 ∷ 3 ∷ 28 ∷ 0
    ∷ 2 ∷ 3 ∷ 31 ∷ 0
    ∷ 2 ∷ 3 ∷ 34 ∷ 0
    ∷ 5
    ∷ 4
    ∷ 1
    ∷ 4 ∷ 6 ∷ 2
    ∷ 4 ∷ 12 ∷ 8
    ∷ 3 ∷ 15 ∷ 12
    ∷ []
