-- The lines of a sheet by their index, and the gates that they stand for.
-- Assumes nothing.
use mathlib.Core.Path.{◌≡◌, refl, sym, ap, ◌∙◌}
use mathlib.Core.Bool.{Bool, ◌&&◌}
use mathlib.Core.List.{List, [], ◌∷◌, map}
use Prim.Native.Nat.{ℕ, zero, suc, ◌+◌, ◌*◌, ◌<◌}
use native.Mathlib.Nat.{add-zero, add-suc, suc-add, zero-add, le_of_suc-le-suc, not-suc-le-zero}
use native.Mathlib.Numerals.{add-one}
use native.Mathlib.Omega.{arith}
use lib.Dec.{leb, ltb}
use lib.ListN.{length, take, drop, get_or, length-map, get_or-map}
use Rattle.std.specs.List.{list_all, range_with_len}
use Rattle.std.proofs.lemmas.List.Folds.{list_all-map}
use Rattle.numbers.specs.Numbers.{part}
use Rattle.numbers.proofs.Numbers.{part_is}
use Rattle.sheets.specs.declared.SheetLine.{SheetLine}
use Rattle.sheets.specs.Sheets.{Gate, most_gates, line_size, gate_count_lem, line, lines_from, lines, gate_of, gates_of, line_fits_lem, well_formed_lem, turn_fits_lem, gate_fits_lem}

from_length : (sheet : List ℕ) (k g : ℕ) → length (lines_from sheet k g) ≡ k
unfolding lines_from
from_length sheet zero g = refl
from_length sheet (suc k) g = ap suc (from_length sheet k (suc g))

from_at : (sheet : List ℕ) (d : SheetLine) (k g i : ℕ) → i < k → get_or (lines_from sheet k g) i d ≡ line sheet (g + i)
unfolding lines_from
from_at sheet d zero g i h = absurd (not-suc-le-zero h)
from_at sheet d (suc k) g zero h = ap (line sheet) (sym (add-zero g))
from_at sheet d (suc k) g (suc i) h = from_at sheet d k (suc g) i (le_of_suc-le-suc h) ∙ ap (line sheet) (suc-add g i ∙ sym (add-suc g i))

module _ (sheet : List ℕ) where
  pub lines_length : length (lines sheet) ≡ gate_count_lem sheet
  unfolding lines
  lines_length = from_length sheet (gate_count_lem sheet) 0

  pub line_in : (d : SheetLine) (g : ℕ) → g < gate_count_lem sheet → get_or (lines sheet) g d ≡ line sheet g
  unfolding lines
  line_in d g h = from_at sheet d (gate_count_lem sheet) 0 g h ∙ ap (line sheet) (zero-add g)

  pub gates_length : length (gates_of sheet) ≡ gate_count_lem sheet
  unfolding gates_of
  gates_length = length-map (lines sheet) (gate_of sheet) ∙ lines_length

  -- whatever stands for gates past the end
  pub gate_in : (d : Gate) (g : ℕ) → g < gate_count_lem sheet → get_or (gates_of sheet) g d ≡ gate_of sheet (line sheet g)
  unfolding gates_of
  gate_in d g h =
      other (map (gate_of sheet) (lines sheet)) d (gate_of sheet (line sheet g)) g (omega (arith, length-map (lines sheet) (gate_of sheet), lines_length))
      ∙ get_or-map (gate_of sheet) (lines sheet) g (line sheet g) ∙ ap (gate_of sheet) (line_in (line sheet g) g h)
    where
      other : (l : List Gate) (d e : Gate) (i : ℕ) → i < length l → get_or l i d ≡ get_or l i e
      other [] d e i h = absurd (not-suc-le-zero h)
      other (x ∷ l) d e zero h = refl
      other (x ∷ l) d e (suc i) h = other l d e i (le_of_suc-le-suc h)

  -- what a line's gate has
  module _ (l : SheetLine) where
    pub gate_qubits : (gate_of sheet l).qubits ≡ l.qubits
    unfolding gate_of
    gate_qubits = refl

    pub gate_turns : (gate_of sheet l).turns ≡ part sheet l.offset l.count
    unfolding gate_of
    gate_turns = refl

    -- what is tested is that each turn fits
    pub gate_fits_is : list_all (turn_fits_lem l.qubits) (take l.count (drop l.offset sheet)) ≡ gate_fits_lem (gate_of sheet l)
    unfolding gate_fits_lem gate_of
    gate_fits_is = ap (list_all (turn_fits_lem l.qubits)) (sym (part_is sheet l.offset l.count))

-- ---- tests of all, by their index

module _ (sheet : List ℕ) where
  by_index : (f : SheetLine → Bool) (k g : ℕ) → list_all (λ i. f (line sheet i)) (range_with_len g k) ≡ list_all f (lines_from sheet k g)
  unfolding lines_from
  by_index f zero g = refl
  by_index f (suc k) g =
      ap (λ b. f (line sheet g) && b) (ap (λ h. list_all (λ i. f (line sheet i)) (range_with_len h k)) (add-one g) ∙ by_index f k (suc g))

  lines_by_index : (f : SheetLine → Bool) → list_all (λ g. f (line sheet g)) (range_with_len 0 (gate_count_lem sheet)) ≡ list_all f (lines sheet)
  unfolding lines
  lines_by_index f = by_index f (gate_count_lem sheet) 0

  pub well_formed_is : well_formed_lem sheet ≡ (ltb 0 (gate_count_lem sheet) && leb (gate_count_lem sheet) most_gates) && (leb (1 + line_size * gate_count_lem sheet) (length sheet) && list_all (λ g. line_fits_lem sheet (line sheet g)) (range_with_len 0 (gate_count_lem sheet)))
  unfolding well_formed_lem
  well_formed_is = ap (λ b. (ltb 0 (gate_count_lem sheet) && leb (gate_count_lem sheet) most_gates) && (leb (1 + line_size * gate_count_lem sheet) (length sheet) && b)) (sym (lines_by_index (line_fits_lem sheet)))

  pub gates_by_index : list_all (λ g. gate_fits_lem (gate_of sheet (line sheet g))) (range_with_len 0 (gate_count_lem sheet)) ≡ list_all gate_fits_lem (gates_of sheet)
  unfolding gates_of
  gates_by_index = lines_by_index (λ l. gate_fits_lem (gate_of sheet l)) ∙ sym (list_all-map gate_fits_lem (gate_of sheet) (lines sheet))
