-- Entries of a file: past the end, by their numbers, and the size of their parts.
-- Assumes nothing.
use mathlib.Core.Path.{◌≡◌, refl, sym, ap}
use mathlib.Core.List.{List}
use Prim.Native.Nat.{ℕ, zero, suc, ◌+◌, ◌*◌, ◌≤◌}
use native.Mathlib.Omega.{arith}
use lib.ListN.{length}
use lib.Dec.{ltb}
use borrow.Author.Tests.{le-ltb}
use Rattle.std.specs.Prelude.{is_ok}
use Rattle.numbers.specs.Numbers.{number}
use Rattle.numbers.proofs.Numbers.{number_past}
use Rattle.job.specs.declared.Kind.TheVariants.{Rows, Gates}
use Rattle.job.specs.Answers.{kind_of, part_kind_lem}
use Rattle.job.specs.Files.{head_size, entry_size, Entry, entry, item_size, part_size_lem}

-- ---- past the end

pub entry_past : (file : List ℕ) (i : ℕ) → length file ≤ head_size + entry_size * i → entry file i ≡ record { kind = 0; zero_byte = 0; count = 0; offset = 0 }
unfolding entry
entry_past file i h =
    simp (
      number_past file (head_size + entry_size * i) 1 h,
      number_past file (head_size + entry_size * i + 1) 1 (omega arith),
      number_past file (head_size + entry_size * i + 2) 2 (omega arith),
      number_past file (head_size + entry_size * i + 4) 4 (omega arith),
    )

-- ---- an entry by its numbers

pub entry_read : (file : List ℕ) (i a b c d : ℕ) → a ≡ number file (head_size + entry_size * i) 1 → b ≡ number file (head_size + (entry_size * i + 1)) 1
    → c ≡ number file (head_size + (entry_size * i + 2)) 2 → d ≡ number file (head_size + (entry_size * i + 4)) 4
    → record { kind = a; zero_byte = b; count = c; offset = d } ≡ entry file i
unfolding entry
entry_read file i a b c d ea eb ec ed =
    let at : (k : ℕ) → head_size + (entry_size * i + k) ≡ head_size + entry_size * i + k = λ k. omega arith in
    simp (ea, eb, ec, ed, at 1, at 2, at 4)

-- ---- the size of a part

pub part_rows : (e : Entry) → e.kind ≡ 0 → part_size_lem e ≡ 8 * e.count
unfolding part_size_lem
part_rows e z = ap (λ (k : ℕ). item_size k * e.count) z

pub part_gates : (e : Entry) → (e.kind ≡ 0 → ⊥) → part_size_lem e ≡ 3 * e.count
unfolding part_size_lem
part_gates e h = ap (λ (s : ℕ). s * e.count) (size e.kind h)
  where
    size : (k : ℕ) → (k ≡ 0 → ⊥) → item_size k ≡ 3
    size zero z = absurd (z refl)
    size (suc k) z = refl

pub part_le : (e : Entry) → part_size_lem e ≤ 8 * e.count
unfolding part_size_lem
part_le e = go e.kind
  where
    go : (k : ℕ) → item_size k * e.count ≤ 8 * e.count
    go zero = omega arith
    go (suc k) = omega arith

-- ---- a kind byte by the kind that it names

pub rows_kind : (byte : ℕ) → Rows ≡ part_kind_lem byte → byte ≡ 0
rows_kind zero e = refl
rows_kind (suc more) e = cc

pub gates_kind : (byte : ℕ) → Gates ≡ part_kind_lem byte → byte ≡ 0 → ⊥
gates_kind zero e z = cc
gates_kind (suc more) e z = cc

pub known_kind : (byte : ℕ) → is_ok (kind_of byte) ≡ ltb byte 2
known_kind zero = refl
known_kind (suc zero) = refl
known_kind (suc (suc more)) = sym (le-ltb (suc (suc more)) 2 (omega arith))
