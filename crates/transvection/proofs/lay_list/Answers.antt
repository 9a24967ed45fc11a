-- `lay_list` records the turns of the rows that it has put into words of its own, and lays them in reverse, by `lent_front` and `back_length`.
use mathlib.Core.Path.{◌≡◌, sym, ap, ap₂, ◌∙◌}
use mathlib.Core.List.{List, reverse}
use Prim.Native.Nat.{ℕ, ◌+◌, ◌*◌, ◌/◌, ◌≤◌}
use native.Mathlib.Omega.{arith}
use lib.ListN.{length, take, replicate}
use Rattle.binar.specs.Rows.{width}
use Rattle.blocks.specs.Words.{laid, rows_in_lem}
use Rattle.blocks.proofs.Values.{rows_count, unmapped}
use Rattle.blocks.proofs.Lent.{lent_front}
use Rattle.blocks.proofs.Overs.{over_front}
use Rattle.symplectic.specs.Sizes.{most_rows}
use Rattle.actions.specs.Actions.{qubits, matrix}
use Rattle.actions.proofs.Arrays.{qubits_le, matrix_length, qubits_capped}
use Rattle.symplectic.proofs.Work.{room_in_lem}
use Rattle.transvection.specs.Greedy.{recorded, greedy_list}
use Rattle.transvection.proofs.Kept.{back_length}
use borrow.Author.Rules.{rules}
use Rattle.transvection.proofs.lay_list.Goals as goal
use Rattle.transvection.proofs.lay_list.Goals.{After-capped-n, After-record_turns-count, After-start-to, Start}

qubits_is : (c : goal.After-capped-n) → c.capped-n.result ≡ qubits c.args.a
qubits_is c = c.capped-n.ensures ∙ sym (qubits_capped c.args.a)

-- how many turns a record has room for
abbrev record_room : ℕ
record_room = 130

size : (c : goal.Start) → length (matrix c.args.a) ≡ qubits c.args.a + qubits c.args.a
size c = let long : length c.args.a.rows ≡ most_rows = search (rules, unmapped) in matrix_length c.args.a long

-- the rows of the action are the first in the words
loaded : (c : goal.After-start-to) → rows_in_lem (take c.start-to.result c.load.new.w) ≡ matrix c.args.a
loaded c =
    let a = c.args.a in
    let n = c.capped-n.result in
    let zeros = rows_in_lem (replicate most_rows 0) in
    lent_front (n + n) c.start-to.result c.load.new.w c.start-to.ensures
    ∙ ap₂ take (ap (λ (m : ℕ). m + m) (qubits_is (goal.at.After-start-to c).After-capped-n) ∙ sym (size (goal.at.After-start-to c).Start)) c.load.ensures
    ∙ over_front (matrix a) zeros (room_in_lem most_rows (length (matrix a)) (omega (arith, size (goal.at.After-start-to c).Start, qubits_le a)))

-- the record is that of the rule
kept_is : (c : goal.After-record_turns-count) → take c.record_turns-count.result (rows_in_lem c.record_turns-count.new.kept) ≡ recorded (qubits c.args.a) (4 * qubits c.args.a + 2) (matrix c.args.a)
kept_is c = c.record_turns-count.ensures.1 ∙ ap₂ (λ (m : ℕ) (F : List ℕ). recorded m (4 * m + 2) F) (qubits_is (goal.at.After-record_turns-count c).After-capped-n) (loaded (goal.at.After-record_turns-count c).After-start-to)

fits : (c : goal.After-record_turns-count) → c.record_turns-count.result ≤ length (rows_in_lem c.record_turns-count.new.kept)
fits c = omega (arith, rows_count (width / 2) c.record_turns-count.new.kept, qubits_le c.args.a, qubits_is (goal.at.After-record_turns-count c).After-capped-n, c.record_turns-count.ensures.0)

pub load-requires : goal.load-requires
load-requires c = room_in_lem most_rows (qubits c.args.a + qubits c.args.a) (omega (arith, qubits_le c.args.a))

pub overflow_add-n : goal.overflow_add-n
overflow_add-n c = omega (arith, qubits_is (goal.at.overflow_add-n c).After-capped-n, qubits_le c.args.a)

pub record_turns-count-requires : goal.record_turns-count-requires
record_turns-count-requires c =
    let q = qubits_is (goal.at.record_turns-count-requires c).After-capped-n in
    let le = qubits_le c.args.a in
    (omega (arith, q, le), ap length (loaded (goal.at.record_turns-count-requires c).After-start-to) ∙ size (goal.at.record_turns-count-requires c).Start ∙ sym (ap (λ (m : ℕ). m + m) q), room_in_lem record_room (4 * c.capped-n.result + 2) (omega (arith, q, le)))

pub store_reversed-requires : goal.store_reversed-requires
store_reversed-requires c = (fits (goal.at.store_reversed-requires c).After-record_turns-count, omega (arith, c.requires, c.record_turns-count.ensures.0, qubits_is (goal.at.store_reversed-requires c).After-capped-n))

pub returns : goal.returns
unfolding greedy_list
returns c =
    let s = c.args in
    let kept = ap reverse (kept_is (goal.at.returns c).After-record_turns-count) in (
      sym (back_length (rows_in_lem c.record_turns-count.new.kept) c.record_turns-count.result (fits (goal.at.returns c).After-record_turns-count)) ∙ ap length kept,
      c.store_reversed.ensures ∙ ap₂ (λ (m : ℕ) (l : List ℕ). laid m l s.out.now) (qubits_is (goal.at.returns c).After-capped-n) kept,
    )
