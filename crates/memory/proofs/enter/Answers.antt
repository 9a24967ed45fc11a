-- `enter` writes the dimension, and lends the words behind it to `lay`.
use mathlib.Core.Path.{◌≡◌, sym, ap, ap₂, ◌∙◌}
use mathlib.Core.List.{List, [], ◌∷◌, ◌++◌}
use Prim.Native.Nat.{ℕ, ◌/◌, ◌≤◌}
use lib.ListN.{length, take, drop, set, replicate}
use lib.Seq.{length-take-le}
use Rattle.binar.specs.Rows.{width}
use Rattle.blocks.specs.Words.{laid, rows_in_lem}
use Rattle.memory.specs.Entries.{entry_size, entry_words, entered}
use Rattle.memory.proofs.Kept.{entered_some}
use native.Mathlib.Omega.{arith}
use Rattle.memory.proofs.enter.Goals as goal

-- the dimension written, and what came back from behind it
put : (rs ws ys : List ℕ) (d : ℕ) → entry_size ≤ length ws → d ≡ length rs → ys ≡ laid (width / 2) rs (replicate (length (take 64 (drop 1 (set ws 0 d)))) 0)
    → take 1 (set ws 0 d) ++ (ys ++ drop 64 (drop 1 (set ws 0 d))) ≡ entered rs ws
unfolding entry_words
put rs [] ys d room e is = absurd (omega arith)
put rs (w ∷ ws) ys d room e is =
    let n : length (take 64 ws) ≡ 64 = length-take-le 64 ws (omega arith) in
    ap₂ (λ (k : ℕ) (zs : List ℕ). k ∷ (zs ++ drop 64 ws)) e (is ∙ ap (λ (k : ℕ). laid (width / 2) rs (replicate k 0)) n)
    ∙ sym (entered_some rs (w ∷ ws) room)

pub returns-clause-left : goal.returns-clause-left
returns-clause-left c =
    let s = c.args in
    let d = c.rows_in in
    put (rows_in_lem s.basis.now) s.memory.now _ d.result c.if-memory-lt-ENTRY.false d.ensures c.lay.ensures
