-- What the shared questions answer: each refusal in its turn, the answer where all are passed, and what is known then.
-- Assumes nothing.
use mathlib.Core.Path.{◌≡◌, refl, ap, ◌∙◌}
use mathlib.Core.Bool.{Bool, true, false}
use mathlib.Core.List.{List}
use mathlib.Core.Logic.{◌⊎◌, inl, inr}
use Prim.Native.Nat.{ℕ, zero, suc, ◌+◌, ◌^◌, ◌≤◌, ◌<◌}
use native.Mathlib.Omega.{arith}
use lib.Dec.{leb, eqb}
use lib.ListN.{length}
use borrow.Author.Tests.{leb-true, eqb-true, le-leb, lt-leb, eq-eqb, ne_eqb}
use Rattle.blocks.specs.Matrices.{All}
use Rattle.symplectic.specs.Sizes.{max_qubits, capped}
use Rattle.symplectic.specs.Turns.{symplectic}
use Rattle.questions.specs.Replies.{Reply, refused, ask, and_then, unless_refused, size_question, count_question, action_questions_lem, list_questions}
use Rattle.symplectic.specs.Matches.{fit_all}
use Rattle.symplectic.proofs.Sizes.{capped_is}
use Rattle.symplectic.proofs.Matches.{fit_all_lem}

-- ---- one question

-- a question and those behind it are passed
pub ask_passed : (b : Bool) (k later : ℕ) → ask b (suc k) later ≡ 0 → (b ≡ true) × (later ≡ 0)
ask_passed true k later e = (refl, e)
ask_passed false k later e = absurd (omega arith)

-- at no more qubits than the most
pub test_capped : (n : ℕ) (rows : List ℕ) → n ≤ max_qubits → symplectic (capped n) rows ≡ symplectic n rows
test_capped n rows h = ap (λ (k : ℕ). symplectic k rows) (capped_is n h)

pub fit_capped : (n : ℕ) (rows : List ℕ) → n ≤ max_qubits → fit_all (capped n + capped n) rows ≡ fit_all (n + n) rows
fit_capped n rows h = ap (λ (k : ℕ). fit_all (k + k) rows) (capped_is n h)

module _ (n later : ℕ) where
  pub size_refused : max_qubits < n → size_question n later ≡ 1
  unfolding size_question
  size_refused h = ap (λ (b : Bool). ask b 1 later) (lt-leb n max_qubits h)

  pub size_passed : n ≤ max_qubits → size_question n later ≡ later
  unfolding size_question
  size_passed h = ap (λ (b : Bool). ask b 1 later) (le-leb n max_qubits h)

  pub size_known : size_question n later ≡ 0 → (n ≤ max_qubits) × (later ≡ 0)
  unfolding size_question
  size_known e = let k = ask_passed (leb n max_qubits) 0 later e in (leb-true n max_qubits k.0, k.1)

  module _ (rows : List ℕ) where
    pub count_refused : (length rows ≡ n + n → ⊥) → count_question n rows later ≡ 2
    unfolding count_question
    count_refused h = ap (λ (b : Bool). ask b 2 later) (ne_eqb (length rows) (n + n) h)

    pub count_passed : length rows ≡ n + n → count_question n rows later ≡ later
    unfolding count_question
    count_passed h = ap (λ (b : Bool). ask b 2 later) (eq-eqb (length rows) (n + n) h)

    pub count_known : count_question n rows later ≡ 0 → (length rows ≡ n + n) × (later ≡ 0)
    unfolding count_question
    count_known e = let k = ask_passed (eqb (length rows) (n + n)) 1 later e in (eqb-true (length rows) (n + n) k.0, k.1)

-- ---- the questions of an action

module _ (n : ℕ) (rows : List ℕ) where
  fits : Bool
  fits = fit_all (n + n) rows

  last : ℕ
  last = ask (symplectic n rows) 4 0

  pub question_1 : max_qubits < n → action_questions_lem n rows ≡ 1
  unfolding action_questions_lem
  question_1 h = size_refused n _ h

  counted : n ≤ max_qubits → length rows ≡ n + n → action_questions_lem n rows ≡ ask fits 3 last
  unfolding action_questions_lem fits last
  counted h e = size_passed n _ h ∙ count_passed n _ rows e

  pub question_2 : n ≤ max_qubits → (length rows ≡ n + n → ⊥) → action_questions_lem n rows ≡ 2
  unfolding action_questions_lem
  question_2 h k = size_passed n _ h ∙ count_refused n _ rows k

  pub question_3 : n ≤ max_qubits → length rows ≡ n + n → fit_all (n + n) rows ≡ false → action_questions_lem n rows ≡ 3
  unfolding fits
  question_3 h e f = counted h e ∙ ap (λ (b : Bool). ask b 3 last) f

  pub question_4 : n ≤ max_qubits → length rows ≡ n + n → fit_all (n + n) rows ≡ true → symplectic n rows ≡ false → action_questions_lem n rows ≡ 4
  unfolding fits last
  question_4 h e f s = counted h e ∙ ap (λ (b : Bool). ask b 3 last) f ∙ ap (λ (b : Bool). ask b 4 0) s

  pub questions_passed : n ≤ max_qubits → length rows ≡ n + n → fit_all (n + n) rows ≡ true → symplectic n rows ≡ true → action_questions_lem n rows ≡ 0
  unfolding fits last
  questions_passed h e f s = counted h e ∙ ap (λ (b : Bool). ask b 3 last) f ∙ ap (λ (b : Bool). ask b 4 0) s

  -- what is known of an action that passed
  module _ (passed : action_questions_lem n rows ≡ 0) where
    pub passed_size : n ≤ max_qubits
    unfolding action_questions_lem
    passed_size = (size_known n _ passed).0

    behind_size : count_question n rows (ask fits 3 last) ≡ 0
    unfolding action_questions_lem fits last
    behind_size = (size_known n _ passed).1

    pub passed_count : length rows ≡ n + n
    passed_count = (count_known n _ rows behind_size).0

    behind_count : (fits ≡ true) × (last ≡ 0)
    behind_count = ask_passed fits 2 last (count_known n _ rows behind_size).1

    pub passed_fits : fit_all (n + n) rows ≡ true
    unfolding fits
    passed_fits = behind_count.0

    pub passed_rows : All (λ f. f < 2 ^ (n + n)) rows
    passed_rows = fit_all_lem (n + n) rows passed_fits

    pub passed_symplectic : symplectic n rows ≡ true
    unfolding last
    passed_symplectic = (ask_passed (symplectic n rows) 3 0 behind_count.1).0

-- ---- the questions of a list call

pub then_passed : (first later : ℕ) → first ≡ 0 → and_then first later ≡ later
then_passed first later e = ap (λ (q : ℕ). and_then q later) e

pub then_refused : (first later k : ℕ) → first ≡ suc k → and_then first later ≡ suc k
then_refused first later k e = ap (λ (q : ℕ). and_then q later) e

pub then_known : (first later : ℕ) → and_then first later ≡ 0 → (first ≡ 0) × (later ≡ 0)
then_known zero later e = (refl, e)
then_known (suc k) later e = absurd (omega arith)

module _ (n : ℕ) (rows : List ℕ) (wanted lent : ℕ) where
  pub list_passed : action_questions_lem n rows ≡ 0 → wanted ≤ lent → list_questions n rows wanted lent ≡ 0
  unfolding list_questions
  list_passed e h = then_passed (action_questions_lem n rows) (ask (leb wanted lent) 5 0) e ∙ ap (λ (b : Bool). ask b 5 0) (le-leb wanted lent h)

  pub list_short : action_questions_lem n rows ≡ 0 → lent < wanted → list_questions n rows wanted lent ≡ 5
  unfolding list_questions
  list_short e h = then_passed (action_questions_lem n rows) (ask (leb wanted lent) 5 0) e ∙ ap (λ (b : Bool). ask b 5 0) (lt-leb wanted lent h)

  -- of an action that passed, only the output words can be too few
  pub list_or_short : action_questions_lem n rows ≡ 0 → (list_questions n rows wanted lent ≡ 0) ⊎ (list_questions n rows wanted lent ≡ 5)
  unfolding list_questions
  list_or_short e = go (leb wanted lent) (then_passed (action_questions_lem n rows) (ask (leb wanted lent) 5 0) e)
    where
      go : (b : Bool) → list_questions n rows wanted lent ≡ ask b 5 0 → (list_questions n rows wanted lent ≡ 0) ⊎ (list_questions n rows wanted lent ≡ 5)
      go true is = inl is
      go false is = inr is

  pub list_refused : (k : ℕ) → action_questions_lem n rows ≡ suc k → list_questions n rows wanted lent ≡ suc k
  unfolding list_questions
  list_refused k e = then_refused (action_questions_lem n rows) (ask (leb wanted lent) 5 0) k e

  -- what is known of a list call that passed
  pub list_known : list_questions n rows wanted lent ≡ 0 → (action_questions_lem n rows ≡ 0) × (wanted ≤ lent)
  unfolding list_questions
  list_known e =
      let k = then_known (action_questions_lem n rows) (ask (leb wanted lent) 5 0) e in
      (k.0, leb-true wanted lent (ask_passed (leb wanted lent) 4 0 k.1).0)

-- ---- the questions of an action, and of a list call, have numbers up to 5

ask_small : (b : Bool) (k later : ℕ) → k ≤ 5 → later ≤ 5 → ask b k later ≤ 5
ask_small true k later h l = l
ask_small false k later h l = h

then_small : (first later : ℕ) → first ≤ 5 → later ≤ 5 → and_then first later ≤ 5
then_small zero later h l = l
then_small (suc k) later h l = h

pub action_small : (n : ℕ) (rows : List ℕ) → action_questions_lem n rows ≤ 5
unfolding action_questions_lem size_question count_question
action_small n rows =
    ask_small (leb n max_qubits) 1 _ (omega arith)
    (ask_small (eqb (length rows) (n + n)) 2 _ (omega arith)
    (ask_small (fit_all (n + n) rows) 3 _ (omega arith) (ask_small (symplectic n rows) 4 0 (omega arith) (omega arith))))

pub list_small : (n : ℕ) (rows : List ℕ) (wanted lent : ℕ) → list_questions n rows wanted lent ≤ 5
unfolding list_questions
list_small n rows wanted lent =
    then_small (action_questions_lem n rows) (ask (leb wanted lent) 5 0) (action_small n rows) (ask_small (leb wanted lent) 5 0 (omega arith) (omega arith))

-- ---- the reply

pub reply_passed : (asked : ℕ) (out : List ℕ) (answer : Reply) → asked ≡ 0 → unless_refused asked out answer ≡ answer
reply_passed asked out answer e = ap (λ (q : ℕ). unless_refused q out answer) e

pub reply_refused : (asked k : ℕ) (out : List ℕ) (answer : Reply) → asked ≡ suc k → unless_refused asked out answer ≡ refused (suc k) 0 out
reply_refused asked k out answer e = ap (λ (q : ℕ). unless_refused q out answer) e
