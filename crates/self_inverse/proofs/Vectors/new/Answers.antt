-- `new` has words for as many vectors as a list may have.
use Prim.Native.Nat.{zero-le}
use native.Mathlib.Nat.{le_refl}
use Rattle.symplectic.specs.Sizes.{most_vectors}
use Rattle.symplectic.proofs.Work.{room_in_lem}
use Rattle.self_inverse.proofs.Vectors.new.Goals as goal

pub invariant_of-result : goal.invariant_of-result
invariant_of-result c = (zero-le, room_in_lem most_vectors most_vectors (le_refl most_vectors))
