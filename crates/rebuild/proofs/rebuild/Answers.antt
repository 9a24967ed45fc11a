-- `rebuild` refuses by the first question that is answered no; else it lays the product of the list.
use mathlib.Core.Path.{◌≡◌, sym, ap, ap₂, ◌∙◌}
use mathlib.Core.List.{List}
use Prim.Native.Nat.{ℕ, ◌+◌}
use native.Mathlib.Omega.{arith}
use Rattle.blocks.specs.Words.{rows_of_words, laid}
use Rattle.symplectic.specs.Turns.{product}
use Rattle.symplectic.specs.Matches.{fit_all}
use Rattle.symplectic.proofs.Sizes.{capped_is}
use Rattle.questions.proofs.Questions.{fit_capped}
use Rattle.rebuild.proofs.Replied.{rebuild_1, rebuild_2, rebuild_8, rebuild_listed}
use borrow.Author.Rules.{rules}
use Rattle.rebuild.proofs.rebuild.Goals as goal
use Rattle.rebuild.proofs.rebuild.Goals.{After-words_fit}

-- the code's test is that of question 8
tested : (c : goal.After-words_fit) → let s = c.args in fit_all (s.n + s.n) (rows_of_words s.n s.list.now) ≡ c.words_fit.result
tested c =
    let s = c.args in
    sym (c.words_fit.ensures ∙ fit_capped s.n (rows_of_words s.n s.list.now) (search rules))

pub returns-then-n-gt-MAX_QUBITS : goal.returns-then-n-gt-MAX_QUBITS
returns-then-n-gt-MAX_QUBITS c =
    let s = c.args in
    let told = rebuild_1 s.n s.list.now s.out.now (search rules) in record {
      answered = told.0;
      left = told.1.0;
      replays = told.1.1;
    }

pub returns-then-out-count : goal.returns-then-out-count
returns-then-out-count c =
    let s = c.args in
    let told = rebuild_2 s.n s.list.now s.out.now (search rules) c.if-out-count.true in record {
      answered = told.0;
      left = told.1.0;
      replays = told.1.1;
    }

pub returns-then-not-words_fit : goal.returns-then-not-words_fit
returns-then-not-words_fit c =
    let s = c.args in
    let told = rebuild_8 s.n s.list.now s.out.now (search rules) (omega arith) (tested (goal.at.returns-then-not-words_fit c).After-words_fit ∙ c.if-not-words_fit.true) in record {
      answered = told.0;
      left = told.1.0;
      replays = told.1.1;
    }

pub returns : goal.returns
returns c =
    let s = c.args in
    let made = c.product_of.ensures in
    let e = capped_is s.n (search rules) in
    let told = rebuild_listed s.n s.list.now s.out.now (search rules) (omega arith) c.store.new.out
    (tested (goal.at.returns c).After-words_fit ∙ c.if-not-words_fit.false)
    (c.store.ensures ∙ ap₂ (λ (k : ℕ) (l : List ℕ). laid k l s.out.now) (made.0 ∙ e) (made.1 ∙ ap (λ (k : ℕ). product k (rows_of_words s.n s.list.now)) e)) in record {
      answered = told.0;
      left = told.1.0;
      replays = told.1.1;
    }
