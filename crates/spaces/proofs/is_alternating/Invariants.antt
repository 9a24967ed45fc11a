-- `is_alternating` passes the members one by one, by the laws of `Alternates`.
use mathlib.Core.Path.{◌≡◌}
use mathlib.Core.Bool.{true}
use lib.ListN.{take}
use Rattle.blocks.specs.Words.{rows_in_lem}
use Rattle.triangular.specs.Spaces.{is_alternating_lem}
use Rattle.spaces.specs.Levels.{below, form_in}
use Rattle.spaces.proofs.is_alternating.Given as goal

abbrev pub invariant-loop-member : goal.invariant-loop-member
invariant-loop-member l = is_alternating_lem (form_in (rows_in_lem l.gram)) (take l.member (below l.d)) ≡ true
