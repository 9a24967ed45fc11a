-- `gate_rows` lends our six gates and the first 2n of its blank words, and holds what the call leaves, by `gates_loaded`. With our six gates the call's reply is
-- that of document 01's table, by `six_as_table`.
use mathlib.Core.Path.{ap, ◌∙◌}
use mathlib.Core.List.{List}
use Prim.Native.Nat.{ℕ, ◌+◌}
use lib.ListN.{take, replicate}
use Rattle.symplectic.specs.Sizes.{most_rows}
use Rattle.questions.specs.Replies.{Reply}
use Rattle.gates.specs.Sequences.{gates_reply}
use Rattle.gates.proofs.SixGates.{six_as_table}
use Rattle.printout.proofs.Holding.{gates_loaded}
use Rattle.printout.proofs.gate_rows.Goals as goal

pub returns : goal.returns
returns c =
    let s = c.args in
    let call = c.gate_action in
    let blank : List ℕ = take (s.n + s.n) (replicate most_rows 0) in
    let same = ap (λ (sheet : List ℕ). gates_reply s.n sheet s.bytes.now blank) c.six_gates-sheet.ensures ∙ six_as_table s.n s.bytes.now blank in
    gates_loaded s.n c.requires s.bytes.now call.result (call.ensures.answered ∙ ap (λ (x : Reply). x.figures) same) c.in_ok-gate_action.field-0 c.in_ok-gate_action.was call.new.out call.auto.out
    (call.ensures.left ∙ ap (λ (x : Reply). x.words) same)
