-- What is computed over the book: its codes, made anew by four loops; that they ascend; and that each entry is right.
-- Assumes nothing.
use Rattle.std.specs.Prelude.{Bool, true, false, not, ◌&&◌, List, [], ◌∷◌, ◌++◌, map, ℕ, zero, suc, ◌+◌, ◌*◌, ◌<◌, eqb, ltb, length, get_or}
use Rattle.symplectic.specs.Turns.{pairing, symplectic}
use Rattle.residue.specs.Residue.{basis}
use Rattle.triangular.specs.Search.{Outcome, found, failed}
use Rattle.transvection_exact.specs.Minimal.{core_search}
use Rattle.two_qubits.specs.declared.Entry.{Entry}
use Rattle.two_qubits.specs.Codes.{code_count, rows_of_code, code_of}
use Rattle.two_qubits.specs.Book.{◌takes◌, book}

-- ---- the codes, by rows that pair as the basis does

abbrev pub taken : Bool → (ℕ → List ℕ) → ℕ → List ℕ → List ℕ
taken true go x rest = go x ++ rest
taken false go x rest = rest

-- what is made of x, x + 1, .. k of them, where the test passes
unfoldable pub loop : (ℕ → Bool) → (ℕ → List ℕ) → ℕ → ℕ → List ℕ
loop test go zero x = []
loop test go (suc k) x = taken (test x) go x (loop test go k (suc x))

-- rows 3, 2, 1, 0, each with the pairings that it has with those before it
abbrev pub from_row0 : ℕ → ℕ → ℕ → List ℕ
from_row0 b c d = loop (λ a. not (pairing 2 a b) && (pairing 2 a c && not (pairing 2 a d))) (λ a. code_of (a ∷ b ∷ c ∷ d ∷ []) ∷ []) 16 0

abbrev pub from_row1 : ℕ → ℕ → List ℕ
from_row1 c d = loop (λ b. not (pairing 2 b c) && pairing 2 b d) (λ b. from_row0 b c d) 16 0

abbrev pub from_row2 : ℕ → List ℕ
from_row2 d = loop (λ c. not (pairing 2 c d)) (λ c. from_row1 c d) 16 0

unfoldable pub symplectic_codes : List ℕ
symplectic_codes = loop (λ d. true) from_row2 16 0

-- ---- they ascend

-- the codes ascend strictly
abbrev pub Ascending : List Entry → Type 0
Ascending l = (i j : ℕ) → i < j → j < length l → (get_or l i (0 takes 0)).code < (get_or l j (0 takes 0)).code

unfoldable pub above : ℕ → List ℕ → Bool
above x [] = true
above x (y ∷ ys) = ltb x y && above y ys

unfoldable pub ascends : List ℕ → Bool
ascends [] = true
ascends (x ∷ xs) = above x xs

-- ---- an entry is right

-- how long the list is after a search: as long as the rank, or one longer
abbrev pub length_after : ℕ → Outcome → ℕ
length_after r (found ps looks) = r
length_after r (failed looks) = suc r

unfoldable pub is_right : Entry → Bool
is_right e = let F = rows_of_code e.code in symplectic 2 F && eqb (length_after (length (basis 2 F)) (core_search 2 F)) e.length

-- ---- entries as single numbers

-- the code, then the length in four bits
abbrev pub pack : Entry → ℕ
pack e = e.code * 16 + e.length

unfoldable pub packed : List ℕ
packed = map pack book

-- a code of 16 bits and a length of four
unfoldable pub fits : Entry → Bool
fits e = ltb e.code code_count && ltb e.length 16
