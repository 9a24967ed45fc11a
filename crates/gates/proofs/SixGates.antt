-- With our six gates as the sheet in force, every sequence has the action and the refusals that it has with document 01's table.
-- Assumes nothing.
use mathlib.Core.Path.{◌≡◌, ap₂}
use mathlib.Core.List.{List}
use Prim.Native.Nat.{ℕ}
use Rattle.sheets.specs.Sheets.{Gate}
use Rattle.sheets.specs.Six.{six_gates_lem}
use Rattle.sheets.proofs.SixGates.{six_passes, six_table}
use Rattle.gates.specs.Sequences.{sequence_reply, gates_reply, table_reply}

pub six_as_table : (n : ℕ) (bytes out : List ℕ) → gates_reply n six_gates_lem bytes out ≡ table_reply n bytes out
unfolding gates_reply table_reply
six_as_table n bytes out = ap₂ (λ (asked : ℕ) (gates : List Gate). sequence_reply n asked gates bytes out) six_passes six_table
