-- What the code holds of an entry's action: its rows, or a refusal.
-- Assumes nothing.
use mathlib.Core.Path.{◌≡◌, refl, sym, ap, ◌∙◌, subst}
use mathlib.Core.List.{List, ◌++◌}
use mathlib.Core.Logic.{inl, inr}
use Prim.Native.Nat.{ℕ, zero, suc, ◌+◌, ◌-◌, ◌*◌, ◌≤◌, ◌<◌}
use native.Mathlib.Omega.{arith}
use lib.ListN.{length, take, drop, replicate}
use Rattle.symplectic.specs.Sizes.{max_qubits, most_rows}
use Rattle.questions.specs.declared.Figures.{Figures}
use Rattle.questions.specs.Replies.{Reply}
use Rattle.std.specs.Prelude.{Result, Ok, Err}
use Rattle.sheets.specs.declared.SheetError.TheVariants.{Malformed, BadTurn}
use Rattle.gates.specs.declared.GateError.TheVariants.{UnknownGate, QubitTooHigh, EqualQubits}
use Rattle.gates.specs.declared.GateActionError.{GateActionError}
use Rattle.gates.specs.declared.GateActionError.TheVariants.{TooManyQubits, WrongRowCount, Sheet, Gate}
use Rattle.gates.specs.Answers.{gate_action_number, figures_of_lem}
use Rattle.gates.specs.Sequences.{table_reply}
use Rattle.numbers.specs.Numbers.{part}
use Rattle.numbers.proofs.Numbers.{part_cut}
use Rattle.job.specs.Files.{qubit_count_lem, entry_count_lem, Entry, entry, part_size_lem, entry_passes_lem, file_questions_lem}
use Rattle.job.specs.Answers.{part_kind_lem}
use Rattle.job.specs.declared.Kind.TheVariants as kind
use Rattle.job.proofs.Entries.{part_rows, rows_kind, gates_kind}
use Rattle.job.proofs.Checks.{entry_known, passed_entry}
use Rattle.printout.specs.declared.EntryError.{EntryError}
use Rattle.printout.specs.declared.EntryError.TheVariants as error
use Rattle.printout.specs.Printout.{blank_words, words_of_bytes, action_by, entry_action}
use Rattle.printout.specs.inner.Held.{Held}
use Rattle.printout.proofs.Words.{words_length}
use Rattle.printout.proofs.Lent.{lent_figures, left_words}

-- a gate call's refusal has a number other than 0
gate_action_number_lem : (e : GateActionError) → gate_action_number e ≡ 0 → ⊥
gate_action_number_lem TooManyQubits = omega arith
gate_action_number_lem WrongRowCount = omega arith
gate_action_number_lem (Sheet Malformed) = omega arith
gate_action_number_lem (Sheet BadTurn) = omega arith
gate_action_number_lem (Gate UnknownGate) = omega arith
gate_action_number_lem (Gate QubitTooHigh) = omega arith
gate_action_number_lem (Gate EqualQubits) = omega arith

-- of a gate sequence, by what the call answers and the words that it leaves, where it is lent the first 2n of blank words
module _ (n : ℕ) (few : n ≤ max_qubits) (bytes : List ℕ) (r : Result ℕ GateActionError) (told : figures_of_lem r ≡ (table_reply n bytes (take (n + n) (replicate most_rows 0))).figures) where
  fits : n + n ≤ most_rows
  fits = omega arith

  number_is : (table_reply n bytes (blank_words (n + n))).figures.number ≡ (figures_of_lem r).number
  number_is = sym (ap (λ (f : Figures). f.number) (lent_figures (n + n) most_rows fits (table_reply n bytes) (figures_of_lem r) told))

  pub gates_loaded : (count : ℕ) → r ≡ Ok count → (left : List ℕ) → length left ≡ length (take {A = ℕ} (n + n) (replicate most_rows 0)) → left ≡ (table_reply n bytes (take (n + n) (replicate most_rows 0))).words
      → Held n (table_reply n bytes (blank_words (n + n))) (Ok (left ++ drop (n + n) (replicate most_rows 0)))
  unfolding Held
  gates_loaded count e left kept is =
      (number_is ∙ ap (λ (x : Result ℕ GateActionError). (figures_of_lem x).number) e, sym (left_words (n + n) most_rows fits left kept (table_reply n bytes) is))

  pub gates_refused : (e : GateActionError) → r ≡ Err e → Held n (table_reply n bytes (blank_words (n + n))) (Err (error.Gates e))
  unfolding Held
  gates_refused e is = inl (gate_action_number_lem e, number_is ∙ ap (λ (x : Result ℕ GateActionError). (figures_of_lem x).number) is)

-- of an entry, by its kind
module _ (file : List ℕ) (e : Entry) where
  abbrev n : ℕ
  n = qubit_count_lem file

  abbrev given_action : Reply
  given_action = record { figures = record { number = 0; count = e.count; looks = 0 }; words = words_of_bytes e.count (part file e.offset (8 * e.count)) }

  abbrev gate_action : Reply
  gate_action = table_reply n (part file e.offset (part_size_lem e)) (blank_words (n + n))

  action_given : e.kind ≡ 0 → entry_action file e ≡ given_action
  unfolding entry_action
  action_given z =
      ap (λ (k : ℕ). action_by k n e.count (part file e.offset (part_size_lem e))) z ∙ ap (λ (s : ℕ). action_by 0 n e.count (part file e.offset s)) (part_rows e z)

  action_made : (e.kind ≡ 0 → ⊥) → entry_action file e ≡ gate_action
  unfolding entry_action
  action_made h = go e.kind h
    where
      go : (k : ℕ) → (k ≡ 0 → ⊥) → action_by k n e.count (part file e.offset (part_size_lem e)) ≡ gate_action
      go zero z = absurd (z refl)
      go (suc k) z = refl

  module _ (z : e.kind ≡ 0) where
    held_miscounted : (e.count ≡ qubit_count_lem file + qubit_count_lem file → ⊥) → Held (qubit_count_lem file) (entry_action file e) (Err error.WrongRowCount)
    unfolding Held
    held_miscounted h =
        subst (λ (a : Reply). Held n a (Err error.WrongRowCount)) (sym (action_given z))
        (inr (refl, (refl, λ m. h (sym (words_length e.count (part file e.offset (8 * e.count))) ∙ m))))

    held_given : (rows : List ℕ) → e.count ≡ qubit_count_lem file + qubit_count_lem file → take e.count rows ≡ words_of_bytes e.count (part file e.offset (8 * e.count))
        → Held (qubit_count_lem file) (entry_action file e) (Ok rows)
    unfolding Held
    held_given rows c w =
        subst (λ (a : Reply). Held n a (Ok rows)) (sym (action_given z))
        (refl, sym w ∙ ap (λ (k : ℕ). take k rows) c)

  held_made : (e.kind ≡ 0 → ⊥) → (l : Result (List ℕ) EntryError)
      → Held (qubit_count_lem file) (table_reply (qubit_count_lem file) (part file e.offset (part_size_lem e)) (blank_words (qubit_count_lem file + qubit_count_lem file))) l
      → Held (qubit_count_lem file) (entry_action file e) l
  held_made h l = subst (λ (a : Reply). Held n a l) (sym (action_made h))

-- of entry i, as the code reads it
module _ (file : List ℕ) (i : ℕ) (e : Entry) (read : e ≡ entry file i) where
  -- its part lies within the file, since the file passed
  pub part_within : file_questions_lem file ≡ 0 → i < entry_count_lem file → e.offset + part_size_lem e ≤ length file
  part_within passes there = (entry_known file e (ap (entry_passes_lem file) read ∙ passed_entry file passes i there)).2

  module _ (n : ℕ) (q : n ≡ qubit_count_lem file) where
    of_entry : (l : Result (List ℕ) EntryError) → Held (qubit_count_lem file) (entry_action file e) l → Held n (entry_action file (entry file i)) l
    of_entry l h = subst (λ (k : ℕ). Held k (entry_action file (entry file i)) l) (sym q) (subst (λ (x : Entry). Held (qubit_count_lem file) (entry_action file x) l) read h)

    twice : n + n ≡ qubit_count_lem file + qubit_count_lem file
    twice = ap (λ (k : ℕ). k + k) q

    pub rows_miscounted : kind.Rows ≡ part_kind_lem e.kind → (e.count ≡ n + n → ⊥) → Held n (entry_action file (entry file i)) (Err error.WrongRowCount)
    rows_miscounted k h = of_entry (Err error.WrongRowCount) (held_miscounted file e (rows_kind e.kind k) (λ m. h (m ∙ sym twice)))

    pub rows_given : kind.Rows ≡ part_kind_lem e.kind → e.count ≡ n + n → (rows : List ℕ) → take e.count rows ≡ words_of_bytes e.count (part file e.offset (8 * e.count))
        → Held n (entry_action file (entry file i)) (Ok rows)
    rows_given k c rows w = of_entry (Ok rows) (held_given file e (rows_kind e.kind k) rows (c ∙ twice) w)

    pub gates_made : kind.Gates ≡ part_kind_lem e.kind → (size : ℕ) → size ≡ part_size_lem e → (l : Result (List ℕ) EntryError)
        → Held n (table_reply n (take (e.offset + size - e.offset) (drop e.offset file)) (blank_words (n + n))) l → Held n (entry_action file (entry file i)) l
    gates_made k size s l h =
        of_entry l
        (held_made file e (gates_kind e.kind k) l
        (subst (λ (m : ℕ). Held m (table_reply m (part file e.offset (part_size_lem e)) (blank_words (m + m))) l) q
        (subst (λ (bytes : List ℕ). Held n (table_reply n bytes (blank_words (n + n))) l) (part_cut file e.offset size ∙ ap (part file e.offset) s) h)))
