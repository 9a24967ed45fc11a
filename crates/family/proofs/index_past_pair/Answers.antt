-- `index_past_pair` passes the first place and place j over, by `other_before` and `other_behind`.
use Rattle.family.proofs.Others.{other_before, other_behind}
use native.Mathlib.Omega.{arith}
use borrow.Author.Rules.{rules}
use Rattle.family.proofs.index_past_pair.Goals as goal

pub returns-then-i-j : goal.returns-then-i-j
returns-then-i-j c = let s = c.args in (search rules, search rules, λ B p h. other_before s.n s.j B (omega arith))

pub returns-else-i-j : goal.returns-else-i-j
returns-else-i-j c = let s = c.args in (search rules, search rules, λ B p h. other_behind s.n s.j B p (omega arith))
