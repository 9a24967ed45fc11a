-- What is computed: every starred example of document 01, and those of the fixed space, of the shorter list, of the commutation chart, of a lent memory, of gate sheets and of self-inverse layers, as the definitions answer them.
-- Assumes nothing.
use mathlib.Core.Path.{◌≡◌, refl}
use mathlib.Core.Bool.{true, false}
use mathlib.Core.List.{List, [], ◌∷◌, map, zip, zip_with, flatten}
use Prim.Native.Nat.{ℕ}
use Rattle.bench_examples.specs.Table.{Example, answer, table, memories, sheets, echoes}
use Rattle.binar.specs.Bits.{odd, bit, ◌⊕◌, weight, dot}
use Rattle.blocks.specs.Matrices.{times, matmul, units, dots}
use Rattle.blocks.specs.Words.{rows_of_words, word_of, words_of_rows, laid, over}
use Rattle.symplectic.specs.Picks.{first_one_lem, uneven_with_lem, first_uneven_lem, pick}
use Rattle.symplectic.specs.Matches.{fit_all, matches}
use Rattle.questions.specs.Replies.{size_question, count_question, action_questions_lem, list_questions}
use Rattle.symplectic.specs.Turns.{x_bits, z_bits, pairing, turn, followed, product, pair_alike, symplectic, identity_plus}
use Rattle.reduction.specs.Columns.{columns, row_reduce_with_transform_lem, rank}
use Rattle.residue.specs.Residue.{residue, reduction, basis, transform, times_transposed, core, form}
use Rattle.shorter.specs.Shorter.{shorter_of_lem, shorter_reply, part_of}
use Rattle.fixed_space.specs.FixedSpace.{kernel, reduced_basis, fixed_space_lem, fixed_reply}
use Rattle.self_inverse.specs.SelfInverse.{is_self_inverse, self_inverse_questions, self_inverse_reply}
use Rattle.triangular.specs.Search.{draws, search, budgeted}
use Rattle.triangular.specs.Memory.{entry_basis, is_space, holds, enter, draws_with, search_with, known_within}
use Rattle.triangular.specs.Spaces.{complement, symmetric_with, is_alternating_lem}
use Rattle.family.specs.Family.{split_at, with_partner, from_first, symplectic_simplex_lem, peeled, bordered_family_lem, vectors_of, bordered_list}
use Rattle.family.specs.Checks.{unit_lower, validate, verifies_bordered, candidate_passes}
use Rattle.transvection.specs.Greedy.{beside_basis, first_nonzero, next_transvection_lem, recorded, greedy_list, greedy_reply}
use Rattle.transvection_exact.specs.Minimal.{core_search, minimal_reply, core_search_with, remembering_reply, memory_left}
use Rattle.memory.specs.Entries.{entry_words, memory_words, room_in}
use Rattle.sheets.specs.Sheets.{gate_count_lem, line as sheet_line, lines_from, lines, gate_of, gates_of, line_fits_lem, well_formed_lem, turn_fits_lem, gate_fits_lem, sheet_questions_lem}
use Rattle.sheets.specs.Six.{table as our_table, six_gates_lem}
use Rattle.gates.specs.Sequences.{turn_vector_lem, gate, reads_two, gate_questions, sequence_questions, sequence_turns, sequence_reply, gates_reply, table_reply}
use Rattle.numbers.specs.Numbers.{little_endian, part, number}
use Rattle.job.specs.Files.{qubit_count_lem, entry_count_lem, entry, part_size_lem, entry_passes_lem, entries_pass_lem, file_questions_lem}
use Rattle.letters.specs.Letters.{letter, vector, letters_from, letters, spelling}
use Rattle.lines.specs.Lines.{decimal_in, decimal, touched_from, touched, load, spelled, line, file_line_lem}
use Rattle.printout.specs.Printout.{words_of_bytes, entry_action, entry_line, entry_lines, file_lines, printout}

pub starred : map (λ (e : Example). answer e.call) table ≡ map (λ (e : Example). e.expected) table
unfolding table answer zip zip_with flatten odd bit ◌⊕◌ weight dot times units dots rows_of_words word_of words_of_rows laid first_one_lem uneven_with_lem first_uneven_lem pick fit_all size_question count_question action_questions_lem list_questions x_bits z_bits pairing turn followed product pair_alike symplectic identity_plus columns row_reduce_with_transform_lem rank residue reduction basis transform times_transposed core form kernel reduced_basis fixed_space_lem fixed_reply shorter_of_lem shorter_reply part_of draws search budgeted complement symmetric_with is_alternating_lem matches bordered_list split_at with_partner from_first symplectic_simplex_lem peeled bordered_family_lem vectors_of beside_basis first_nonzero next_transvection_lem recorded greedy_list greedy_reply core_search minimal_reply gate_count_lem sheet_line lines_from lines gate_of gates_of line_fits_lem well_formed_lem turn_fits_lem gate_fits_lem sheet_questions_lem our_table six_gates_lem turn_vector_lem gate reads_two gate_questions sequence_questions sequence_turns sequence_reply gates_reply table_reply little_endian part number qubit_count_lem entry_count_lem entry part_size_lem entry_passes_lem entries_pass_lem file_questions_lem letter vector letters_from letters spelling decimal_in decimal touched_from touched load spelled line file_line_lem words_of_bytes entry_action entry_line entry_lines file_lines printout
starred = refl

pub remembered : map (λ (e : Example). answer e.call) memories ≡ map (λ (e : Example). e.expected) memories
unfolding memories answer zip zip_with flatten odd bit ◌⊕◌ weight dot times units dots rows_of_words word_of words_of_rows laid first_one_lem uneven_with_lem first_uneven_lem pick fit_all size_question count_question action_questions_lem list_questions x_bits z_bits pairing turn followed product pair_alike symplectic identity_plus columns row_reduce_with_transform_lem rank residue reduction basis transform times_transposed core form kernel reduced_basis fixed_space_lem fixed_reply shorter_of_lem shorter_reply part_of draws search budgeted complement symmetric_with is_alternating_lem matches bordered_list split_at with_partner from_first symplectic_simplex_lem peeled bordered_family_lem vectors_of beside_basis first_nonzero next_transvection_lem recorded greedy_list greedy_reply core_search minimal_reply core_search_with remembering_reply memory_left entry_basis is_space holds enter draws_with search_with known_within entry_words memory_words room_in over gate_count_lem sheet_line lines_from lines gate_of gates_of line_fits_lem well_formed_lem turn_fits_lem gate_fits_lem sheet_questions_lem our_table six_gates_lem turn_vector_lem gate reads_two gate_questions sequence_questions sequence_turns sequence_reply gates_reply table_reply little_endian part number qubit_count_lem entry_count_lem entry part_size_lem entry_passes_lem entries_pass_lem file_questions_lem letter vector letters_from letters spelling decimal_in decimal touched_from touched load spelled line file_line_lem words_of_bytes entry_action entry_line entry_lines file_lines printout
remembered = refl

pub loaded : map (λ (e : Example). answer e.call) sheets ≡ map (λ (e : Example). e.expected) sheets
unfolding sheets answer odd bit ◌⊕◌ weight dot units rows_of_words word_of words_of_rows laid size_question count_question x_bits z_bits pairing turn followed product gate_count_lem sheet_line lines_from lines gate_of gates_of line_fits_lem well_formed_lem turn_fits_lem gate_fits_lem sheet_questions_lem six_gates_lem turn_vector_lem gate reads_two gate_questions sequence_questions sequence_turns sequence_reply gates_reply little_endian part number
loaded = refl

pub self-inverse : map (λ (e : Example). answer e.call) echoes ≡ map (λ (e : Example). e.expected) echoes
unfolding echoes answer zip odd bit ◌⊕◌ weight dot times matmul units rows_of_words word_of words_of_rows laid fit_all size_question count_question action_questions_lem list_questions x_bits z_bits pairing turn followed product pair_alike symplectic is_self_inverse self_inverse_questions self_inverse_reply turn_vector_lem gate reads_two gate_questions sequence_questions sequence_turns sequence_reply table_reply our_table
self-inverse = refl

-- the rank of I + F of the SWAP, which takes one turn more, and of the identity
pub ranks : map (λ (F : List ℕ). rank 4 (identity_plus 2 F)) ((2 ∷ 1 ∷ 8 ∷ 4 ∷ []) ∷ (1 ∷ 2 ∷ 4 ∷ 8 ∷ []) ∷ []) ≡ 2 ∷ 0 ∷ []
unfolding rank identity_plus columns row_reduce_with_transform_lem zip zip_with odd bit ◌⊕◌ units
ranks = refl

-- document 01's checks of a bordered candidate: that of a SWAP passes, that of the identity, which has a triangular basis, does not
pub checked : map (candidate_passes 2) ((2 ∷ 1 ∷ 8 ∷ 4 ∷ []) ∷ (1 ∷ 2 ∷ 4 ∷ 8 ∷ []) ∷ []) ≡ true ∷ false ∷ []
unfolding candidate_passes unit_lower validate verifies_bordered matches fit_all zip odd bit ◌⊕◌ weight dot times units dots x_bits z_bits pairing turn followed product identity_plus columns row_reduce_with_transform_lem rank residue reduction basis transform times_transposed core form complement first_one_lem uneven_with_lem first_uneven_lem pick split_at with_partner from_first symplectic_simplex_lem peeled bordered_family_lem
checked = refl
