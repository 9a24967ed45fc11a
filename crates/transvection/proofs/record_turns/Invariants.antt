-- `record_turns` takes one turn after another, by `record_step`, until none is left, by `record_done`, or there is room for no more.
use mathlib.Core.Path.{◌≡◌}
use mathlib.Core.List.{◌++◌}
use Prim.Native.Nat.{◌+◌, ◌-◌}
use lib.ListN.{length, take}
use Rattle.blocks.specs.Words.{rows_in_lem}
use Rattle.transvection.specs.Greedy.{recorded}
use Rattle.transvection.proofs.record_turns.Given as goal

abbrev pub invariant-loop-i : goal.invariant-loop-i
invariant-loop-i l = record {
  whole : length (rows_in_lem l.w) ≡ l.n + l.n;
  room : length (rows_in_lem l.kept) ≡ length (rows_in_lem l.initial.kept);
  taken : take l.i (rows_in_lem l.kept) ++ recorded l.n (l.limit - l.i) (rows_in_lem l.w) ≡ recorded l.n l.limit (rows_in_lem l.initial.w);
}
