-- `tell` puts the value where the number is 0, and elsewhere nothing.
use mathlib.Core.Path.{◌≡◌, refl}
use Prim.Native.Nat.{ℕ, zero, suc}
use Rattle.questions.specs.Answers.{lent_number}
use Rattle.questions.proofs.tell.Goals as goal

left : (k value before : ℕ) → (k ≡ 0 → ⊥) → before ≡ lent_number k value before
left zero value before h = absurd (h refl)
left (suc k) value before h = refl

pub returns-else-number-eq0 : goal.returns-else-number-eq0
returns-else-number-eq0 c = let s = c.args in left s.number s.value s.lent.now c.if-number-eq0.false
