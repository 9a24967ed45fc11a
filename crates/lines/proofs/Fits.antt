-- A line of at most the most qubits and as many vectors as the longest list has fits its room, and so does the line of a refused file.
-- Assumes nothing.
use mathlib.Core.Path.{◌≡◌, refl, ap, ap₂, ◌∙◌}
use mathlib.Core.List.{List, [], ◌∷◌, ◌++◌}
use Prim.Native.Nat.{ℕ, suc, ◌+◌, ◌*◌, ◌^◌, ◌≤◌, ◌<◌}
use native.Mathlib.Nat.{mul-le-mul_left, mul-le-mul_right}
use native.Mathlib.Omega.{arith}
use lib.ListN.{length, take, length-append, length-take}
use lib.Seq.{take_all}
use Rattle.blocks.specs.Words.{rows_of_words}
use Rattle.blocks.proofs.Values.{rows_count}
use Rattle.questions.specs.declared.Figures.{Figures}
use Rattle.symplectic.specs.Sizes.{max_qubits}
use Rattle.questions.specs.Replies.{Reply, refused}
use Rattle.lines.specs.Lines.{decimal, field, load, space, newline, spelled, line, file_line_lem}
use Rattle.lines.specs.declared.Name.{Name}
use Rattle.lines.specs.declared.Name.TheVariants.{Min, Greedy}
use Rattle.lines.specs.Bytes.{line_room, name_bytes}
use Rattle.lines.proofs.Decimals.{decimal_length}
use Rattle.lines.proofs.Spelling.{spelled_length}
use Rattle.lines.proofs.Loads.{load_le}

-- the longest list: a greedy one of the most qubits
abbrev pub most_vectors : ℕ
most_vectors = 4 * max_qubits + 2

-- ---- the parts

pub decimal_short : (v : ℕ) → v < 2 ^ 64 → length (decimal v) ≤ 20
decimal_short v h = decimal_length 19 v (omega arith)

pub name_length : (w : Name) → length (name_bytes w) ≤ 6
name_length Min = omega arith
name_length Greedy = omega arith

module _ (n : ℕ) (vs : List ℕ) (few : n ≤ max_qubits) (short : length vs ≤ most_vectors) where
  -- a vector takes a space and its letters
  spelled_short : length (spelled n vs) ≤ most_vectors * suc max_qubits
  spelled_short =
      let bound : suc n ≤ suc max_qubits = omega arith in
      omega (arith, spelled_length n vs, mul-le-mul_left (length vs) bound, mul-le-mul_right (suc max_qubits) short)

  load_short : load n vs < 2 ^ 64
  load_short = omega (arith, load_le n vs, mul-le-mul_left (length vs) few)

-- ---- the line of a refused file

pub file_fits : (number : ℕ) → number < 2 ^ 64 → length (file_line_lem number) ≤ 26
unfolding file_line_lem
file_fits number h = omega (arith, length-append (decimal number) (newline ∷ []), decimal_short number h)

-- ---- the line of an answer

-- a refusal lists no vectors, whatever the words
pub refused_alike : (n i : ℕ) (name : List ℕ) (k looks : ℕ) (out left : List ℕ) → line n i name (refused k looks out) ≡ line n i name (refused k looks left)
unfolding line
refused_alike n i name k looks out left = refl

module _ (n i : ℕ) (name : List ℕ) (r : Reply) (few : n ≤ max_qubits) (entry : i < 2 ^ 64) (named : length name ≤ 6) (refusal : r.figures.number < 2 ^ 64) (counted : r.figures.count < 2 ^ 64) (looked : r.figures.looks < 2 ^ 64) (short : length r.words ≤ most_vectors) where
  abbrev vectors : List ℕ
  vectors = take r.figures.count (rows_of_words n r.words)

  vectors_short : length vectors ≤ most_vectors
  vectors_short = omega (arith, length-take r.figures.count (rows_of_words n r.words), rows_count n r.words)

  line_fits : length (line n i name r) ≤ line_room
  unfolding line
  line_fits =
      let a0 = decimal i in
      let a1 = a0 ++ (space ∷ name) in
      let a2 = a1 ++ field r.figures.number in
      let a3 = a2 ++ field r.figures.count in
      let a4 = a3 ++ field (load n vectors) in
      let a5 = a4 ++ field r.figures.looks in
      let a6 = a5 ++ spelled n vectors in
      omega (
        arith,
        length-append a6 (newline ∷ []),
        length-append a5 (spelled n vectors),
        length-append a4 (field r.figures.looks),
        length-append a3 (field (load n vectors)),
        length-append a2 (field r.figures.count),
        length-append a1 (field r.figures.number),
        length-append a0 (space ∷ name),
        decimal_short i entry,
        decimal_short r.figures.number refusal,
        decimal_short r.figures.count counted,
        decimal_short (load n vectors) (load_short n vectors few vectors_short),
        decimal_short r.figures.looks looked,
        spelled_short n vectors few vectors_short,
      )

  pub line_whole : take line_room (line n i name r) ≡ line n i name r
  line_whole = take_all line_room (line n i name r) line_fits

-- by the figures that a call answers and the words that it leaves
module _ (n i : ℕ) (which : Name) (t : Figures) (words : List ℕ) (few : n ≤ max_qubits) (entry : i < 2 ^ 64) (reply : Reply) where
  pub line_figures : (t.number < 2 ^ 64) × (t.count < 2 ^ 64) × (t.looks < 2 ^ 64) → length words ≤ most_vectors → t ≡ reply.figures → words ≡ reply.words
      → take line_room (line n i (name_bytes which) (record { figures = t; words = words })) ≡ line n i (name_bytes which) reply
  line_figures bounds short e d =
      ap (λ (r : Reply). take line_room (line n i (name_bytes which) r)) same
      ∙ line_whole n i (name_bytes which) reply few entry (name_length which) (rw e at bounds.0) (rw e at bounds.1) (rw e at bounds.2) (rw d at short)
    where
      same : ◌≡◌ {A = Reply} (record { figures = t; words = words }) reply
      same = ap₂ (λ (f : Figures) (w : List ℕ). record { figures = f; words = w }) e d
