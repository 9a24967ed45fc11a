-- The two calls of an entry, by the name of the line: each is the call of its name, and another count of rows is refused with 2.
-- Assumes nothing.
use mathlib.Core.Path.{◌≡◌}
use mathlib.Core.List.{List}
use Prim.Native.Nat.{ℕ, ◌+◌, ◌≤◌}
use lib.ListN.{length}
use Rattle.symplectic.specs.Sizes.{max_qubits}
use Rattle.questions.specs.Replies.{refused}
use Rattle.transvection.proofs.Replied.{greedy_miscounted}
use Rattle.transvection_exact.proofs.Replies.{minimal_miscounted}
use Rattle.lines.specs.declared.Name.{Name}
use Rattle.lines.specs.declared.Name.TheVariants.{Min, Greedy}
use Rattle.printout.specs.Printout.{job_budget, call_reply}

pub call_miscounted : (which : Name) (n : ℕ) (rows out : List ℕ) → n ≤ max_qubits → (length rows ≡ n + n → ⊥) → call_reply which n rows out ≡ refused 2 0 out
call_miscounted Min n rows out = minimal_miscounted n rows job_budget out
call_miscounted Greedy n rows out = greedy_miscounted n rows out
