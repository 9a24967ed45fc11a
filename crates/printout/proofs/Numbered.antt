-- The lines of a file by their number: two an entry, the minimal list first.
-- Assumes nothing.
use mathlib.Core.Path.{◌≡◌, refl, sym, ap, ◌∙◌}
use mathlib.Core.List.{List, []}
use Prim.Native.Nat.{ℕ, zero, suc, ◌+◌, ◌*◌, ◌<◌}
use native.Mathlib.Omega.{arith}
use native.Mathlib.Nat.{zero-add}
use lib.ListN.{length, get_or}
use Rattle.job.specs.Files.{entry_count_lem}
use Rattle.lines.specs.declared.Name.{Name}
use Rattle.lines.specs.declared.Name.TheVariants.{Min, Greedy}
use Rattle.printout.specs.Printout.{entry_line, entry_lines, file_lines}

-- where the line of a name stands among the lines, of entry j
abbrev pub place_of : Name → ℕ → ℕ
place_of Min j = 2 * j
place_of Greedy j = suc (2 * j)

place_next : (which : Name) (j : ℕ) → place_of which (suc j) ≡ suc (suc (place_of which j))
place_next Min j = omega arith
place_next Greedy j = omega arith

module _ (file : List ℕ) where
  lines_length : (k i : ℕ) → length (entry_lines file k i) ≡ 2 * k
  unfolding entry_lines
  lines_length zero i = refl
  lines_length (suc k) i = omega (arith, lines_length k (suc i))

  pub file_lines_lem : length (file_lines file) ≡ 2 * entry_count_lem file
  unfolding file_lines
  file_lines_lem = lines_length (entry_count_lem file) 0

  -- entry j behind entry i
  line_named : (which : Name) (k i j : ℕ) → j < k → get_or (entry_lines file k i) (place_of which j) [] ≡ entry_line file (i + j) which
  unfolding entry_lines
  line_named which zero i j h = absurd (omega arith)
  line_named which (suc k) i zero h = let here : i ≡ i + 0 = omega arith in first which ∙ ap (λ (at : ℕ). entry_line file at which) here
    where
      first : (name : Name) → get_or (entry_lines file (suc k) i) (place_of name 0) [] ≡ entry_line file i name
      first Min = refl
      first Greedy = refl
  line_named which (suc k) i (suc j) h =
      let next : suc i + j ≡ i + suc j = omega arith in
      ap (λ (at : ℕ). get_or (entry_lines file (suc k) i) at []) (place_next which j) ∙ line_named which k (suc i) j (omega arith) ∙ ap (λ (at : ℕ). entry_line file at which) next

  pub file_named : (which : Name) (k i : ℕ) → i < entry_count_lem file → k ≡ place_of which i → entry_line file i which ≡ get_or (file_lines file) k []
  unfolding file_lines
  file_named which k i there e =
      sym (ap (λ (at : ℕ). get_or (entry_lines file (entry_count_lem file) 0) at []) e ∙ line_named which (entry_count_lem file) 0 i there ∙ ap (λ (at : ℕ). entry_line file at which) (zero-add i))
