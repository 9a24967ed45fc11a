-- `meets` reads the bit that pairs with a basis vector, by `pairing_x` and `pairing_z`.
use mathlib.Core.Path.{sym, ◌∙◌}
use Rattle.binar.specs.Rows.{val}
use Rattle.symplectic.proofs.Pairings.{pairing_x, pairing_z}
use borrow.Author.Rules.{rules}
use Rattle.transvection.proofs.Standing.meets.Goals as goal

pub returns-then-j-self : goal.returns-then-j-self
returns-then-j-self c = let s = c.args in c.bit.ensures ∙ sym (pairing_x s.self.now.n (val s.row) s.j (search rules))

pub returns-else-j-self : goal.returns-else-j-self
returns-else-j-self c = let s = c.args in c.bit-else-j-self.ensures ∙ sym (pairing_z s.self.now.n (val s.row) s.j (search rules) (search rules))
