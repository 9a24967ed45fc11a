-- `try_draw`, `try_space` and `try_draws` tell of the search with a memory, cut at the budget: a draw by its steps, a space by its questions, its draws by their invariant.
use mathlib.Core.Path.{◌≡◌}
use mathlib.Core.List.{List}
use Prim.Native.Nat.{ℕ, ◌+◌, ◌-◌, ◌*◌, ◌≤◌}
use lib.ListN.{length, take}
use Rattle.binar.specs.Rows.{val}
use Rattle.blocks.specs.Matrices.{times}
use Rattle.blocks.specs.Words.{rows_in_lem}
use Rattle.triangular.specs.Memory.{Entry}
use Rattle.memory.specs.Entries.{room_in}
use Rattle.search.specs.inner.Reports.{Space, Carries, Grew}
use Rattle.search.proofs.Going.{Going}
use Rattle.search.proofs.+try_draw_try_draws_try_space.Given as goal

-- the dimension falls; a space is above its draws, and these above each of them
abbrev pub decreases-try_draw : goal.decreases-try_draw
decreases-try_draw l = 3 * l.d

abbrev pub decreases-try_draws : goal.decreases-try_draws
decreases-try_draws l = 3 * l.d + 1

abbrev pub decreases-try_space : goal.decreases-try_space
decreases-try_space l = 3 * l.d + 2

-- as the draws begin, basis₀ are the members and gram₀ the Gram rows with their sums behind them; c draws are behind the loop
abbrev pub invariant-try_draws-loop-last : goal.invariant-try_draws-loop-last
invariant-try_draws-loop-last l =
    (val l.c ≤ val l.last) × (l.spent ≤ l.budget) × (length l.basis ≡ length l.initial.basis) × (length l.gram ≡ length l.initial.gram) × (length l.memory ≡ length l.initial.memory)
    × (take (l.d + l.d) (rows_in_lem l.basis) ≡ take (l.d + l.d) (rows_in_lem l.initial.basis)) × (take (l.d + l.d) (rows_in_lem l.gram) ≡ take (l.d + l.d) (rows_in_lem l.initial.gram))
    × (val l.g ≡ times (val l.c) (take l.d (rows_in_lem l.initial.gram))) × Grew l.initial.memory l.used l.memory l.kept
    × ((E : List ℕ) (M : List Entry) → Space E l.d (rows_in_lem l.initial.basis) (rows_in_lem l.initial.gram) → Carries l.looks l.initial.memory l.used M
    → Going E (room_in l.initial.memory) l.budget l.d (take l.d (rows_in_lem l.initial.basis)) l.looks M (val l.last) (val l.c) l.spent l.memory l.kept)

abbrev pub decreases-try_draws-loop-last : goal.decreases-try_draws-loop-last
decreases-try_draws-loop-last l = val l.last - val l.c
