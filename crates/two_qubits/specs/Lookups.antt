-- What is read off the book: the length beside a code, and how many actions have a length.
-- Assumes nothing.
use Rattle.std.specs.Prelude.{◌≡◌, Bool, true, false, List, [], ◌∷◌, ℕ, ◌+◌, eqb}
use Rattle.std.proofs.Math.Option.{Option, none, some}
use Rattle.binar.specs.Bits.{digit}
use Rattle.symplectic.specs.Picks.{or_if}
use Rattle.symplectic.specs.Turns.{symplectic, identity_plus}
use Rattle.symplectic.specs.NoneShorter.{LeastLength}
use Rattle.reduction.specs.Columns.{rank}
use Rattle.two_qubits.specs.declared.Entry.{Entry}
use Rattle.two_qubits.specs.Codes.{rows_of_code}
use Rattle.two_qubits.specs.Book.{book}

-- the length beside a code; none where no entry has the code
unfoldable pub length_in : List Entry → ℕ → Option ℕ
length_in [] code = none
length_in (e ∷ es) code = or_if (eqb e.code code) e.length (length_in es code)

-- what is said of a code: of a symplectic action its least length, and nothing of any other. Open to users
abbrev pub Says : ℕ → Option ℕ → Type 0
Says code none = symplectic 2 (rows_of_code code) ≡ false
Says code (some length) = (symplectic 2 (rows_of_code code) ≡ true) × LeastLength 2 (rows_of_code code) length

-- how many entries pass a test
unfoldable pub count_of : (Entry → Bool) → List Entry → ℕ
count_of f [] = 0
count_of f (e ∷ es) = digit (f e) + count_of f es

-- how many actions have a length
unfoldable pub how_many_lem : ℕ → ℕ
how_many_lem length = count_of (λ e. eqb e.length length) book

-- an action needs r + 1 turns, where r is the rank of I + F
unfoldable pub needs_one_more_lem : Entry → Bool
needs_one_more_lem e = eqb (rank 4 (identity_plus 2 (rows_of_code e.code)) + 1) e.length

-- how many actions need them
unfoldable pub one_more_lem : ℕ
one_more_lem = count_of needs_one_more_lem book
