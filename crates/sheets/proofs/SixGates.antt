-- Our six gates as a sheet: it passes its questions, and its gates are document 01's table.
-- Assumes nothing.
use mathlib.Core.Path.{◌≡◌}
use Rattle.binar.proofs.Digits.{bit_is}
use Rattle.numbers.proofs.Numbers.{number_one, number_two, part_is}
use Rattle.sheets.specs.Sheets.{gate_count_lem, line, lines_from, lines, gate_of, gates_of, line_fits_lem, well_formed_lem, turn_fits_lem, gate_fits_lem, sheet_questions_lem}
use Rattle.sheets.specs.Six.{table, six_gates_lem}

pub six_passes : sheet_questions_lem six_gates_lem ≡ 0
unfolding gate_count_lem line lines_from lines gate_of gates_of line_fits_lem well_formed_lem turn_fits_lem gate_fits_lem sheet_questions_lem six_gates_lem
six_passes = simp (number_one, number_two, part_is, bit_is)

pub six_table : gates_of six_gates_lem ≡ table
unfolding gate_count_lem line lines_from lines gate_of gates_of six_gates_lem table
six_table = simp (number_one, number_two, part_is)
