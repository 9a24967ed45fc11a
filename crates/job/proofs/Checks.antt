-- What the questions of a file answer: each refusal in its turn, the answer where all are passed, and what is known then.
-- Assumes nothing.
use mathlib.Core.Path.{◌≡◌, refl, sym, ap, ap₂, ◌∙◌}
use mathlib.Core.Bool.{Bool, true, false, ◌&&◌, and-true, and_assoc, and-eq-true_iff}
use Rattle.std.specs.List.{list_all, range_with_len}
use mathlib.Core.List.{List}
use mathlib.Core.Logic.{⊎_elim}
use Prim.Native.Nat.{ℕ, zero, suc, ◌+◌, ◌*◌, ◌≤◌, ◌<◌}
use native.Mathlib.Omega.{arith}
use native.Mathlib.Nat.{zero-add, add-zero, eq-or-lt_of_le, le_of_suc-le-suc}
use lib.Dec.{eqb, leb, ltb}
use lib.ListN.{length}
use borrow.Author.Tests.{ltb-true, leb-true, eqb-true, le-leb, lt-leb}
use Rattle.symplectic.specs.Sizes.{max_qubits}
use Rattle.questions.specs.Replies.{ask, size_question}
use Rattle.questions.proofs.Questions.{ask_passed, size_refused, size_passed, size_known}
use Rattle.job.specs.Files.{longest_file, head_size, entry_size, qubit_count_lem, entry_count_lem, Entry, entry, part_size_lem, entry_passes_lem, entries_pass_lem, file_questions_lem}

no_second : (a b : Bool) → b ≡ false → (a && b) ≡ false
no_second true b e = e
no_second false b e = refl

-- ---- one entry

module _ (file : List ℕ) (e : Entry) where
  -- what is known of an entry that passed
  pub entry_known : entry_passes_lem file e ≡ true → (e.kind < 2) × (e.zero_byte ≡ 0) × (e.offset + part_size_lem e ≤ length file)
  unfolding entry_passes_lem
  entry_known p =
      let k = (and-eq-true_iff (ltb e.kind 2) (eqb e.zero_byte 0 && leb (e.offset + part_size_lem e) (length file))).0 p in
      let l = (and-eq-true_iff (eqb e.zero_byte 0) (leb (e.offset + part_size_lem e) (length file))).0 k.1 in
      (ltb-true e.kind 2 k.0, eqb-true e.zero_byte 0 l.0, leb-true (e.offset + part_size_lem e) (length file) l.1)

-- ---- the entries

module _ (file : List ℕ) where
  -- the code goes from the first entry up
  pub entries_range : (k : ℕ) → list_all (λ i. entry_passes_lem file (entry file i)) (range_with_len 0 k) ≡ entries_pass_lem file k
  unfolding entries_pass_lem
  entries_range zero = refl
  entries_range (suc k) = last_of 0 k ∙ ap₂ (λ (b : Bool) (i : ℕ). b && entry_passes_lem file (entry file i)) (entries_range k) (zero-add k)
    where
      passes : ℕ → Bool
      passes i = entry_passes_lem file (entry file i)

      last_of : (a m : ℕ) → list_all passes (range_with_len a (suc m)) ≡ (list_all passes (range_with_len a m) && passes (a + m))
      last_of a zero = and-true (passes a) ∙ ap passes (sym (add-zero a))
      last_of a (suc m) = ap (λ (b : Bool). passes a && b) (last_of (a + 1) m) ∙ sym (and_assoc (passes a) (list_all passes (range_with_len (a + 1) m)) (passes (a + 1 + m))) ∙ ap (λ (i : ℕ). list_all passes (range_with_len a (suc m)) && passes i) (omega arith)

  pub entries_known : (k : ℕ) → entries_pass_lem file k ≡ true → (i : ℕ) → i < k → entry_passes_lem file (entry file i) ≡ true
  unfolding entries_pass_lem
  entries_known zero e i h = absurd (omega arith)
  entries_known (suc k) e i h =
      let t = (and-eq-true_iff (entries_pass_lem file k) (entry_passes_lem file (entry file k))).0 e in
      ⊎_elim (λ (same : i ≡ k). rw same t.1) (λ (l : i < k). entries_known k t.0 i l) (eq-or-lt_of_le (le_of_suc-le-suc h))

-- ---- the file

module _ (file : List ℕ) where
  length_passes : Bool
  length_passes = leb head_size (length file) && (leb (length file) longest_file && leb (head_size + entry_size * entry_count_lem file) (length file))

  last : ℕ
  last = ask (entries_pass_lem file (entry_count_lem file)) 13 0

  refused_length : length_passes ≡ false → file_questions_lem file ≡ 12
  unfolding file_questions_lem length_passes last
  refused_length e = ap (λ (b : Bool). ask b 12 (size_question (qubit_count_lem file) last)) e

  pub file_short : length file < head_size → file_questions_lem file ≡ 12
  unfolding length_passes
  file_short h =
      refused_length (ap (λ (b : Bool). b && (leb (length file) longest_file && leb (head_size + entry_size * entry_count_lem file) (length file))) (lt-leb head_size (length file) h))

  pub file_long : longest_file < length file → file_questions_lem file ≡ 12
  unfolding length_passes
  file_long h =
      refused_length
      (no_second (leb head_size (length file)) _ (ap (λ (b : Bool). b && leb (head_size + entry_size * entry_count_lem file) (length file)) (lt-leb (length file) longest_file h)))

  pub file_cut : length file < head_size + entry_size * entry_count_lem file → file_questions_lem file ≡ 12
  unfolding length_passes
  file_cut h =
      refused_length (no_second (leb head_size (length file)) _ (no_second (leb (length file) longest_file) _ (lt-leb (head_size + entry_size * entry_count_lem file) (length file) h)))

  module _ (low : head_size ≤ length file) (high : length file ≤ longest_file) (whole : head_size + entry_size * entry_count_lem file ≤ length file) where
    sized : file_questions_lem file ≡ size_question (qubit_count_lem file) last
    unfolding file_questions_lem last
    sized =
        ap (λ (b : Bool). ask (b && (leb (length file) longest_file && leb (head_size + entry_size * entry_count_lem file) (length file))) 12 (size_question (qubit_count_lem file) last)) (le-leb head_size (length file) low)
        ∙ ap (λ (b : Bool). ask (b && leb (head_size + entry_size * entry_count_lem file) (length file)) 12 (size_question (qubit_count_lem file) last)) (le-leb (length file) longest_file high)
        ∙ ap (λ (b : Bool). ask b 12 (size_question (qubit_count_lem file) last)) (le-leb (head_size + entry_size * entry_count_lem file) (length file) whole)

    pub file_wide : max_qubits < qubit_count_lem file → file_questions_lem file ≡ 1
    file_wide h = sized ∙ size_refused (qubit_count_lem file) last h

    pub file_entries : qubit_count_lem file ≤ max_qubits → (b : Bool) → entries_pass_lem file (entry_count_lem file) ≡ b → file_questions_lem file ≡ ask b 13 0
    unfolding last
    file_entries h b e = sized ∙ size_passed (qubit_count_lem file) last h ∙ ap (λ (t : Bool). ask t 13 0) e

  -- what is known of a file that passed
  module _ (passed : file_questions_lem file ≡ 0) where
    behind_length : (length_passes ≡ true) × (size_question (qubit_count_lem file) last ≡ 0)
    unfolding file_questions_lem length_passes last
    behind_length = ask_passed length_passes 11 (size_question (qubit_count_lem file) last) passed

    behind_size : (qubit_count_lem file ≤ max_qubits) × (last ≡ 0)
    behind_size = size_known (qubit_count_lem file) last behind_length.1

    pub passed_qubits : qubit_count_lem file ≤ max_qubits
    passed_qubits = behind_size.0

    pub passed_entry : (i : ℕ) → i < entry_count_lem file → entry_passes_lem file (entry file i) ≡ true
    unfolding last
    passed_entry = entries_known file (entry_count_lem file) (ask_passed (entries_pass_lem file (entry_count_lem file)) 12 0 behind_size.1).0

    -- its entries stand within it, and it is not too long
    pub passed_length : (head_size + entry_size * entry_count_lem file ≤ length file) × (length file ≤ longest_file)
    unfolding length_passes
    passed_length =
        let low = ((and-eq-true_iff (leb head_size (length file)) (leb (length file) longest_file && leb (head_size + entry_size * entry_count_lem file) (length file))).0 behind_length.0).1 in
        let k = (and-eq-true_iff (leb (length file) longest_file) (leb (head_size + entry_size * entry_count_lem file) (length file))).0 low in
        (leb-true (head_size + entry_size * entry_count_lem file) (length file) k.1, leb-true (length file) longest_file k.0)
