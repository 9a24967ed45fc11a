-- `file_questions` answers the first question that is answered no, by the laws of each question.
use mathlib.Core.Path.{◌≡◌, sym, ap, ◌∙◌}
use mathlib.Core.Bool.{true, false}
use native.Mathlib.Omega.{arith}
use Rattle.job.specs.Files.{entry_count_lem, entries_pass_lem}
use Rattle.job.proofs.Checks.{file_short, file_long, file_cut, file_wide, file_entries}
use Rattle.job.proofs.file_questions.Goals as goal
use Rattle.job.proofs.file_questions.Goals.{After-entries_pass}

-- what the code asks of the entries
asked : (c : goal.After-entries_pass)
    → entries_pass_lem c.args.file.now (entry_count_lem c.args.file.now) ≡ c.entries_pass.result
asked c = ap (entries_pass_lem c.args.file.now) (sym c.entry_count-k.ensures.0) ∙ sym c.entries_pass.ensures

pub returns-then-length-lt-HEAD_SIZE : goal.returns-then-length-lt-HEAD_SIZE
returns-then-length-lt-HEAD_SIZE c =
    let file = c.args.file.now in
    sym (file_short file (omega arith))

pub returns-then-length-gt-LONGEST_FILE : goal.returns-then-length-gt-LONGEST_FILE
returns-then-length-gt-LONGEST_FILE c =
    let file = c.args.file.now in
    sym (file_long file (omega arith))

pub returns-then-length-k : goal.returns-then-length-k
returns-then-length-k c =
    let file = c.args.file.now in
    sym (file_cut file (omega arith))

pub returns-then-qubit_count-gt-MAX_QUBITS : goal.returns-then-qubit_count-gt-MAX_QUBITS
returns-then-qubit_count-gt-MAX_QUBITS c =
    let file = c.args.file.now in
    sym (file_wide file (omega arith) (omega arith) (omega arith) (omega arith))

pub returns-then-not-entries_pass : goal.returns-then-not-entries_pass
returns-then-not-entries_pass c =
    let file = c.args.file.now in
    sym
    (file_entries file (omega arith) (omega arith) (omega arith) (omega arith) false
    (asked (goal.at.returns-then-not-entries_pass c).After-entries_pass ∙ c.if-not-entries_pass.true))

pub returns : goal.returns
returns c =
    let file = c.args.file.now in
    sym
    (file_entries file (omega arith) (omega arith) (omega arith) (omega arith) true
    (asked (goal.at.returns c).After-entries_pass ∙ c.if-not-entries_pass.false))
