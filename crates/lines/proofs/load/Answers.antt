-- `load` adds the touched qubits: the sum and the load of the rest make the load, by `load_next`; it fits, by `touched_within`.
use mathlib.Core.Path.{◌≡◌, ap, ◌∙◌}
use Prim.Native.Nat.{◌≤◌, ◌<◌}
use native.Mathlib.Omega.{arith}
use lib.ListN.{length, get_or, drop_of_length-le}
use Rattle.blocks.specs.Words.{rows_of_words}
use Rattle.blocks.proofs.Values.{rows_count, rows_word}
use Rattle.lines.specs.Lines.{touched, load}
use Rattle.lines.proofs.Loads.{touched_within, load_next}
use Rattle.lines.proofs.load.Goals as goal
use Rattle.lines.proofs.load.Goals.{After-touched}

-- what the word that is read touches; it has 64 bits
one : (c : goal.After-touched) → (c.touched.result ≡ touched c.args.n (get_or c.args.words.now c.loop-w.w-index 0)) × (c.touched.result ≤ 64)
one c =
    let v = get_or c.args.words.now c.loop-w.w-index 0 in
    let n = c.args.n in
    let e : c.touched.result ≡ touched n v = c.touched.ensures ∙ ap (touched n) c.from.ensures in
    (e, omega (arith, touched_within n v 64 (omega (arith, c.type_inv.words c.loop-w.w-index))))

pub overflow_add-sum : goal.overflow_add-sum
overflow_add-sum c = omega (arith, one (goal.at.overflow_add-sum c).After-touched)

pub loop-w-preserved : goal.loop-w-preserved
loop-w-preserved c =
    let at = c.loop-w in
    let o = one (goal.at.loop-w-preserved c).After-touched in
    let s = c.args in
    let rows = rows_of_words s.n s.words.now in
    let inside : at.w-index < length rows = omega (arith, rows_count s.n s.words.now) in
    omega (arith, load_next s.n at.w-index rows inside, ap (touched s.n) (rows_word s.n s.words.now at.w-index))

pub returns : goal.returns
unfolding load
returns c =
    let at = c.loop-w in
    let s = c.args in
    let rows = rows_of_words s.n s.words.now in
    let past : length rows ≤ at.w-index = omega (arith, rows_count s.n s.words.now) in
    omega (arith, ap (load s.n) (drop_of_length-le rows past))
