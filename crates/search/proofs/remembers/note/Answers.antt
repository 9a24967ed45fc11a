-- `note` lends the reduced basis behind the members, and the words of the memory past those in use.
use mathlib.Core.Path.{◌≡◌, ap, ap₂, ◌∙◌}
use mathlib.Core.List.{List, [], ◌++◌, append-nil}
use Prim.Native.Nat.{ℕ, ◌+◌, ◌-◌, ◌≤◌}
use native.Mathlib.Omega.{arith}
use lib.ListN.{length, take, drop, length-drop, drop_of_length-le}
use lib.Seq.{take_all}
use Rattle.blocks.proofs.Lent.{lent_part, words_mono}
use Rattle.memory.specs.Entries.{entered, taken}
use Rattle.memory.proofs.Kept.{entered_rest}
use borrow.Author.Rules.{rules}
use Rattle.search.proofs.remembers.note.Goals as goal

-- the words past those in use, lent as they are
rest_is : (ws : List ℕ) (used : ℕ) → take (length ws - used) (drop used ws) ≡ drop used ws
rest_is ws used = take_all (length ws - used) (drop used ws) (omega (arith, length-drop used ws))

pub slice_bounds-enter-count-2 : goal.slice_bounds-enter-count-2
slice_bounds-enter-count-2 c = omega (arith, c.start-c.ensures, c.start-b.ensures, words_mono c.args.d (c.args.d + c.args.d) (omega arith))

pub slice_bounds-enter-start-2 : goal.slice_bounds-enter-start-2
slice_bounds-enter-start-2 c = omega (arith, c.start-c.ensures, c.start-b.ensures, words_mono c.args.d (c.args.d + c.args.d) (omega arith))

pub overflow_add-result : goal.overflow_add-result
overflow_add-result c =
    let ws = c.args.memory.now in
    let fits : c.args.used + c.enter.result ≤ length ws =
    omega (arith, c.enter.ensures.answered ∙ ap taken (rest_is ws c.args.used), (entered_rest ws c.args.used [] c.requires.0).1) in
    search (rules, fits)

pub returns : goal.returns
returns c =
    let ws = c.args.memory.now in
    let used = c.args.used in
    let o = c.enter in
    let rows = lent_part c.args.d c.args.d c.start-b.result c.start-c.result c.args.basis.now c.start-b.ensures c.start-c.ensures in (
      ap (λ n. used + n) (o.ensures.answered ∙ ap taken (rest_is ws used)),
      ap (λ l. take used ws ++ l) (ap₂ (λ x y. x ++ y) (o.ensures.left ∙ ap₂ entered rows (rest_is ws used)) (drop_of_length-le (drop used ws) {i = length ws - used} (omega (arith, length-drop used ws))) ∙ append-nil _),
    )
