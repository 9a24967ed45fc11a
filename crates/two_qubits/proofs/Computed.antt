-- What is computed over the book. The definitions of the crates below are open here, and in no other file.
-- Assumes nothing.
use mathlib.Core.Path.{◌≡◌, refl}
use mathlib.Core.Bool.{true, false}
use mathlib.Core.List.{[], ◌∷◌, map, zip, zip_with}
use lib.ListN.{length}
use Rattle.binar.specs.Bits.{odd, bit, ◌⊕◌, weight, dot}
use Rattle.blocks.specs.Matrices.{times, units, dots}
use Rattle.symplectic.specs.Turns.{x_bits, z_bits, pairing, pair_alike, symplectic, identity_plus}
use Rattle.std.specs.List.{list_all}
use Rattle.reduction.specs.Columns.{columns, row_reduce_with_transform_lem, rank}
use Rattle.residue.specs.Residue.{residue, reduction, basis, transform, times_transposed, core, form}
use Rattle.triangular.specs.Search.{draws, search}
use Rattle.triangular.specs.Spaces.{complement, symmetric_with, is_alternating_lem}
use Rattle.transvection_exact.specs.Minimal.{core_search}
use Rattle.two_qubits.specs.declared.Entry.{Entry}
use Rattle.two_qubits.specs.Codes.{rows_of_code, code_of}
use Rattle.two_qubits.specs.Book.{book}
use Rattle.two_qubits.specs.Lookups.{count_of, how_many_lem, needs_one_more_lem, one_more_lem}
use Rattle.two_qubits.specs.inner.Rules.{loop, symplectic_codes, above, ascends, is_right, fits}

-- the codes are those of the loops
pub same_codes : symplectic_codes ≡ map (λ (e : Entry). e.code) book
unfolding symplectic_codes loop code_of book pairing x_bits z_bits dot weight odd
same_codes = refl

-- how the basis pairs
pub basis_pairs : (pairing 2 1 2 ≡ false) × (pairing 2 1 4 ≡ true) × (pairing 2 1 8 ≡ false) × (pairing 2 2 4 ≡ false) × (pairing 2 2 8 ≡ true) × (pairing 2 4 8 ≡ false)
unfolding pairing x_bits z_bits dot weight odd
basis_pairs = (refl, refl, refl, refl, refl, refl)

pub codes_ascend : ascends (map (λ (e : Entry). e.code) book) ≡ true
unfolding ascends above book
codes_ascend = refl

-- and fit their numbers
pub all_fit : list_all fits book ≡ true
unfolding fits book
all_fit = refl

pub book_length : length book ≡ 720
unfolding book
book_length = refl

-- every entry is right
pub all_right : list_all is_right book ≡ true
unfolding is_right book rows_of_code symplectic pair_alike pairing x_bits z_bits dot weight odd bit ◌⊕◌ zip zip_with times units dots identity_plus columns row_reduce_with_transform_lem residue reduction basis transform times_transposed core form draws search complement symmetric_with is_alternating_lem core_search
all_right = refl

-- how many actions have each length
pub counts : map how_many_lem (0 ∷ 1 ∷ 2 ∷ 3 ∷ 4 ∷ 5 ∷ []) ≡ 1 ∷ 15 ∷ 85 ∷ 225 ∷ 274 ∷ 120 ∷ []
unfolding how_many_lem count_of book
counts = refl

-- and how many need r + 1
pub one_more : one_more_lem ≡ 225
unfolding one_more_lem needs_one_more_lem count_of book rows_of_code rank identity_plus columns row_reduce_with_transform_lem bit odd ◌⊕◌ zip zip_with units
one_more = refl
