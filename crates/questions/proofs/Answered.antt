-- A call meets its reply: its answer and the words that it leaves are the reply's, so what holds of the reply holds of them.
-- Assumes nothing.
use mathlib.Core.Path.{◌≡◌, refl, sym, ap, ◌∙◌, subst}
use mathlib.Core.List.{List}
use Prim.Native.Nat.{ℕ, zero, suc, ◌+◌, ◌^◌, ◌≤◌, ◌<◌}
use native.Mathlib.Omega.{arith}
use lib.ListN.{length}
use Rattle.blocks.specs.Words.{rows_of_words}
use Rattle.binar.specs.Rows.{width}
use Rattle.blocks.specs.Matrices.{All}
use Rattle.blocks.proofs.Values.{laid_front, laid_whole, rows_count}
use Rattle.symplectic.specs.Sizes.{max_qubits}
use Rattle.questions.specs.declared.Figures.{Figures}
use Rattle.symplectic.specs.Turns.{product}
use Rattle.questions.specs.Replies.{Reply, refused, listed, unless_refused, Replays, Rebuilds}
use Rattle.symplectic.proofs.Products.{product_length, product_lt}
use Rattle.questions.proofs.Questions.{reply_passed, reply_refused}

-- ---- a reply and what holds of it

-- what a contract says of an answer t that leaves the words `left`
abbrev pub Meets : (List ℕ → Figures → Type 0) → Reply → List ℕ → Figures → Type 0
Meets P reply left t = (t ≡ reply.figures) × ((left ≡ reply.words) × P left t)

-- what holds of a reply
abbrev pub Holds : (List ℕ → Figures → Type 0) → Reply → Type 0
Holds P reply = P reply.words reply.figures

module _ (P : List ℕ → Figures → Type 0) where
  pub meets : (reply : Reply) → Holds P reply → (left : List ℕ) (t : Figures) → t ≡ reply.figures → left ≡ reply.words → Meets P reply left t
  meets reply h left t e l = (e, (l, subst (λ (x : Figures). P left x) (sym e) (subst (λ (x : List ℕ). P x reply.figures) (sym l) h)))

  module _ (asked : ℕ) (out : List ℕ) (answer : Reply) where
    -- of a reply that is the answer where every question is passed, else the refusal
    pub holds_unless : ((k : ℕ) → Holds P (refused (suc k) 0 out)) → (asked ≡ 0 → Holds P answer) → Holds P (unless_refused asked out answer)
    holds_unless r a = go asked a
      where
        go : (q : ℕ) → (q ≡ 0 → Holds P answer) → Holds P (unless_refused q out answer)
        go zero h = h refl
        go (suc k) h = r k

    module _ (h : Holds P (unless_refused asked out answer)) (t : Figures) where
      -- a refusal leaves the words as they are
      pub meets_refused : (k : ℕ) → asked ≡ suc k → t ≡ (refused (suc k) 0 out).figures → Meets P (unless_refused asked out answer) out t
      meets_refused k e s =
          let w = reply_refused asked k out answer e in
          meets (unless_refused asked out answer) h out t (s ∙ sym (ap (λ (x : Reply). x.figures) w)) (sym (ap (λ (x : Reply). x.words) w))

      pub meets_answer : asked ≡ 0 → (left : List ℕ) → t ≡ answer.figures → left ≡ answer.words → Meets P (unless_refused asked out answer) left t
      meets_answer e left s l =
          let w = reply_passed asked out answer e in
          meets (unless_refused asked out answer) h left t (s ∙ sym (ap (λ (x : Reply). x.figures) w)) (l ∙ sym (ap (λ (x : Reply). x.words) w))

-- ---- lists and rebuilds

-- a row has columns enough
pub rows_wide : {n : ℕ} → n ≤ max_qubits → n + n ≤ width
rows_wide h = omega arith

module _ (n : ℕ) (rows : List ℕ) where
  pub refused_replays : (k looks : ℕ) (out : List ℕ) → Holds (Replays n rows) (refused (suc k) looks out)
  refused_replays k looks out z = absurd (omega arith)

  pub listed_replays : n ≤ max_qubits → (vs : List ℕ) → All (λ v. v < 2 ^ (n + n)) vs → (looks : ℕ) (out : List ℕ) → product n vs ≡ rows_of_words n rows → length vs ≤ length out
      → Holds (Replays n rows) (listed n vs looks out)
  listed_replays size vs fits looks out p h z = ap (product n) (laid_front n (rows_wide size) vs out fits h) ∙ p

module _ (n : ℕ) (turns : List ℕ) where
  refused_rebuilds : (out : List ℕ) (k : ℕ) → Holds (Rebuilds n turns) (refused (suc k) 0 out)
  refused_rebuilds out k z = absurd (omega arith)

  listed_rebuilds : n ≤ max_qubits → All (λ v. v < 2 ^ (n + n)) turns → (out : List ℕ) → length (rows_of_words n out) ≡ n + n → Holds (Rebuilds n turns) (listed n (product n turns) 0 out)
  listed_rebuilds size fits out e z =
      laid_whole n (rows_wide size) (product n turns) out (product_lt n turns fits) (product_length n turns ∙ sym e ∙ rows_count n out)

  -- the product of the turns in exactly 2n lent rows, where every question is passed
  pub rebuilds : (asked : ℕ) (out : List ℕ) → (asked ≡ 0 → (n ≤ max_qubits) × (All (λ v. v < 2 ^ (n + n)) turns × (length (rows_of_words n out) ≡ n + n))) → Holds (Rebuilds n turns) (unless_refused asked out (listed n (product n turns) 0 out))
  rebuilds asked out known =
      holds_unless (Rebuilds n turns) asked out (listed n (product n turns) 0 out) (refused_rebuilds out) (λ e. listed_rebuilds (known e).0 (known e).1.0 out (known e).1.1)
