-- `store` lays the rows one by one, by `laid_next` and `laid_end`.
use mathlib.Core.Path.{◌≡◌, refl, ◌∙◌, sym}
use Prim.Native.Nat.{◌+◌, ◌<◌}
use native.Mathlib.Omega.{arith}
use lib.ListN.{length, length-set}
use Rattle.blocks.proofs.Values.{laid_next, laid_end, unmapped}
use Rattle.symplectic.specs.Sizes.{most_rows}
use Rattle.actions.specs.Actions.{qubits, matrix}
use Rattle.actions.proofs.Arrays.{qubits_le, matrix_length, matrix_get, qubits_capped}
use borrow.Author.Rules.{rules}
use Rattle.actions.proofs.store.Goals as goal
use Rattle.actions.proofs.store.Goals.{After-capped-n, Start}

qubits_is : (c : goal.After-capped-n) → c.capped-n.result ≡ qubits c.args.a
qubits_is c = c.capped-n.ensures ∙ sym (qubits_capped c.args.a)

long : (c : goal.Start) → length c.args.a.rows ≡ most_rows
long c = search (rules, unmapped)

pub overflow_add-n : goal.overflow_add-n
overflow_add-n c = omega (arith, qubits_le c.args.a, qubits_is c)

pub loop-i-init : goal.loop-i-init
loop-i-init c = (search rules, omega (arith, qubits_le c.args.a, qubits_is (goal.at.loop-i-init c).After-capped-n, c.min-count.ensures), refl, refl)

pub loop-i-preserved : goal.loop-i-preserved
loop-i-preserved c =
    let s = c.args in
    let at = c.loop-i in
    let m = matrix s.a in
    let size = matrix_length s.a (long (goal.at.loop-i-preserved c).Start) in
    let e = c.min-count.ensures in
    let h : at.i < qubits s.a + qubits s.a = omega (arith, e, qubits_is (goal.at.loop-i-preserved c).After-capped-n) in
    let g : at.i < length s.out.now = omega (arith, e) in (
      search rules,
      search rules,
      simp length-set at.invariant.2,
      laid_next (qubits s.a) m s.out.now at.out at.i c.word.result _ (omega arith) g at.invariant.3 c.word.ensures (matrix_get s.a at.i h),
    )

pub returns : goal.returns
returns c =
    let s = c.args in
    let size = matrix_length s.a (long (goal.at.returns c).Start) in
    c.loop-i.invariant.3
    ∙ laid_end (qubits s.a) (matrix s.a) s.out.now c.loop-i.i (omega (arith, c.min-count.ensures, qubits_is (goal.at.returns c).After-capped-n))
