-- `lay_kernel` has the kernel in the transform from `from` on, and lays the reduced basis of that part, by `lent_rest`.
use mathlib.Core.Path.{◌≡◌, refl, ap, ◌∙◌}
use mathlib.Core.List.{List}
use Prim.Native.Nat.{ℕ, ◌-◌}
use lib.ListN.{length, take, drop, length-drop}
use Rattle.blocks.specs.Words.{rows_in_lem, laid}
use Rattle.blocks.proofs.Lent.{lent_same, lent_rest}
use Rattle.fixed_space.specs.FixedSpace.{reduced_basis}
use native.Mathlib.Omega.{arith}
use Rattle.fixed_space.proofs.lay_kernel.Goals as goal
use Rattle.fixed_space.proofs.lay_kernel.Goals.{After-start-from}

-- the part of the transform that is lent
rest : (c : goal.After-start-from) → let k = c.kernel-r in let t = k.new.transform in
    rows_in_lem (take (length t - c.start-from.result) (drop c.start-from.result t)) ≡ drop k.result (rows_in_lem t)
rest c =
    let k = c.kernel-r in
    let t = k.new.transform in
    lent_rest k.result c.start-from.result t c.start-from.ensures (length t - c.start-from.result) refl

pub lay_basis-requires : goal.lay_basis-requires
lay_basis-requires c =
    let s = c.args in
    let k = c.kernel-r in
    let t = k.new.transform in
    let behind = ap length (rest (goal.at.lay_basis-requires c).After-start-from) ∙ length-drop k.result (rows_in_lem t) in
    let all = lent_same t s.transform.now k.auto.transform in
    let there = lent_same k.new.rows s.rows.now k.auto.rows in
    (omega (arith, behind, all, there, c.requires.0), omega (arith, behind, all, c.requires.0, c.requires.1))

pub returns : goal.returns
returns c =
    let s = c.args in
    let o = c.lay_basis in
    let is = rest (goal.at.returns c).After-start-from ∙ c.kernel-r.ensures in record {
      counted = o.ensures.counted ∙ ap (λ (l : List ℕ). length (reduced_basis s.m l)) is;
      laid = o.ensures.laid ∙ ap (λ (l : List ℕ). laid s.n (reduced_basis s.m l) s.out.now) is;
    }
