-- `as_slice` lends the words of the vectors, by `lent_front`.
use mathlib.Core.Path.{◌∙◌}
use Rattle.blocks.proofs.Lent.{lent_front}
use Rattle.self_inverse.proofs.Vectors.as_slice.Goals as goal

pub returns : goal.returns
returns c = let i = c.self.inside in lent_front i.count c.start.result i.words c.start.ensures ∙ c.self.view_is
