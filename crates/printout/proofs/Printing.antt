-- A line by what is held of its entry's action, and by what a call answers and leaves.
-- Assumes nothing.
use mathlib.Core.Path.{◌≡◌, refl, sym, ap, ◌∙◌, subst}
use mathlib.Core.List.{List, [], ◌++◌}
use mathlib.Core.Logic.{⊎_elim}
use Prim.Native.Nat.{ℕ, zero, suc, ◌+◌, ◌*◌, ◌^◌, ◌≤◌, ◌<◌}
use native.Mathlib.Omega.{arith}
use lib.ListN.{length, take, drop, replicate}
use Rattle.symplectic.specs.Sizes.{max_qubits}
use Rattle.questions.specs.declared.Figures.{Figures}
use Rattle.questions.specs.Replies.{Reply, refused}
use Rattle.job.specs.Files.{qubit_count_lem, entry}
use Rattle.lines.specs.Lines.{line}
use Rattle.lines.specs.declared.Name.{Name}
use Rattle.lines.specs.Bytes.{line_room, name_bytes}
use Rattle.lines.proofs.Fits.{most_vectors, refused_alike, line_figures}
use Rattle.std.specs.Prelude.{Ok, Err}
use Rattle.printout.specs.declared.EntryError.{EntryError}
use Rattle.printout.specs.Printout.{list_words, entry_action, unless_refused_action, call_reply, entry_line}
use Rattle.printout.specs.inner.Held.{entry_number, RefusedBy, Held}
use Rattle.printout.proofs.Called.{call_miscounted}
use Rattle.printout.proofs.Lent.{lent_figures, left_count, left_words}

-- ---- by what is held of the action of entry i

module _ (file : List ℕ) (i : ℕ) (which : Name) where
  abbrev m : ℕ
  m = qubit_count_lem file

  abbrev action : Reply
  action = entry_action file (entry file i)

  abbrev name : List ℕ
  name = name_bytes which

  abbrev call : ℕ → List ℕ → Reply
  call n rows = call_reply which n rows (list_words n)

  abbrev whole : ℕ → List ℕ
  whole k = line m i name (unless_refused_action action (call m) k)

  module _ (n : ℕ) (q : n ≡ qubit_count_lem file) where
    pub line_passed : (rows : List ℕ) → Held n (entry_action file (entry file i)) (Ok rows)
        → line n i (name_bytes which) (call_reply which n (take (n + n) rows) (list_words n)) ≡ entry_line file i which
    unfolding entry_line Held
    line_passed rows a =
        ap (λ (r : List ℕ). line n i name (call n r)) (sym a.1) ∙ ap (λ (k : ℕ). line k i name (call k action.words)) q ∙ ap whole (sym a.0)

    -- another count of rows is refused with 2
    refused_by : m ≤ max_qubits → (number : ℕ) → RefusedBy m action number → line n i name (refused number 0 []) ≡ entry_line file i which
    unfolding entry_line
    refused_by few number held =
        ap (λ (k : ℕ). line k i name (refused number 0 [])) q
        ∙ ⊎_elim (λ a. own number a.0 ∙ ap whole (sym a.1))
        (λ a. ap (λ (k : ℕ). line m i name (refused k 0 [])) a.0 ∙ refused_alike m i name 2 0 [] (list_words m) ∙ ap (line m i name) (sym (call_miscounted which m action.words (list_words m) few a.1.1))
        ∙ ap whole (sym a.1.0))
        held
      where
        own : (k : ℕ) → (k ≡ 0 → ⊥) → line m i name (refused k 0 []) ≡ whole k
        own zero z = absurd (z refl)
        own (suc k) z = refl

    pub line_refused : n ≤ max_qubits → (e : EntryError) → Held n (entry_action file (entry file i)) (Err e)
        → line n i (name_bytes which) (refused (entry_number e) 0 []) ≡ entry_line file i which
    unfolding Held
    line_refused few e held = refused_by (omega (arith, q)) (entry_number e) (subst (λ (k : ℕ). RefusedBy k action (entry_number e)) q held)

-- ---- by the figures that a call answers and the words that it leaves, where it is lent the first 4n + 2 of blank words

pub line_left : (n i : ℕ) (which : Name) (rows : List ℕ) → n ≤ max_qubits → i < 2 ^ 64 → (t : Figures) (left : List ℕ)
    → (t.number < 2 ^ 64) × (t.count < 2 ^ 64) × (t.looks < 2 ^ 64) → length left ≡ length (take {A = ℕ} (4 * n + 2) (replicate most_vectors 0))
    → t ≡ (call_reply which n rows (take (4 * n + 2) (replicate most_vectors 0))).figures → left ≡ (call_reply which n rows (take (4 * n + 2) (replicate most_vectors 0))).words
    → take line_room (line n i (name_bytes which) (record { figures = t; words = take (4 * n + 2) (left ++ drop (4 * n + 2) (replicate most_vectors 0)) }))
    ≡ line n i (name_bytes which) (call_reply which n rows (list_words n))
line_left n i which rows few entry t left bounds kept told is =
    let k = 4 * n + 2 in
    let fits : k ≤ most_vectors = omega arith in
    line_figures n i which t (take k (left ++ drop k (replicate most_vectors 0))) few entry (call_reply which n rows (list_words n)) bounds (omega (arith, left_count k most_vectors fits left kept))
    (lent_figures k most_vectors fits (call_reply which n rows) t told) (left_words k most_vectors fits left kept (call_reply which n rows) is)
