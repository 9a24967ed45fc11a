-- A line of the printout, byte by byte.
-- Assumes nothing.
use Rattle.std.specs.Prelude.{cond, ◌||◌, List, [], ◌∷◌, ◌++◌, ℕ, zero, suc, ◌+◌, ◌/◌, ◌%◌, ltb, take}
use Rattle.binar.specs.Bits.{digit, bit}
use Rattle.blocks.specs.Words.{rows_of_words}
use Rattle.questions.specs.Replies.{Reply}
use Rattle.letters.specs.Letters.{spelling}

-- a number in decimal: at most one digit more than the first number says
unfoldable pub decimal_in : ℕ → ℕ → List ℕ
decimal_in zero v = (48 + v % 10) ∷ []
decimal_in (suc k) v = let high = decimal_in k (v / 10) in cond (ltb v 10) ((48 + v) ∷ []) (high ++ ((48 + v % 10) ∷ []))

unfoldable pub decimal : ℕ → List ℕ
decimal v = decimal_in v v

-- k qubits of a vector of n from qubit q on: how many have x or z set
unfoldable pub touched_from : ℕ → ℕ → ℕ → ℕ → ℕ
touched_from n v zero q = 0
touched_from n v (suc k) q = digit (bit q v || bit (n + q) v) + touched_from n v k (suc q)

-- the number of qubits with x or z set: those that the turn of a vector touches; a Y counts once
unfoldable pub touched : ℕ → ℕ → ℕ
touched n v = touched_from n v n 0

-- load: the number of qubits with x or z set, summed over the list (document 02, item 1, in the place of document 01's count of ones)
unfoldable pub load : ℕ → List ℕ → ℕ
load n [] = 0
load n (v ∷ vs) = touched n v + load n vs

abbrev pub space : ℕ
space = 32

abbrev pub newline : ℕ
newline = 10

-- each vector, after a space
unfoldable pub spelled : ℕ → List ℕ → List ℕ
spelled n [] = []
spelled n (v ∷ vs) = space ∷ (spelling n v ++ spelled n vs)

-- a number, after a space
abbrev pub field : ℕ → List ℕ
field v = space ∷ decimal v

-- `min`, `greedy` and `file`
abbrev pub min_name : List ℕ
min_name = 109 ∷ 105 ∷ 110 ∷ []

abbrev pub greedy_name : List ℕ
greedy_name = 103 ∷ 114 ∷ 101 ∷ 101 ∷ 100 ∷ 121 ∷ []

abbrev pub file_word : List ℕ
file_word = 102 ∷ 105 ∷ 108 ∷ 101 ∷ []

-- entry number, name, refusal, vector count, load, looks, then each vector; a refused line has count and load 0, no letters
unfoldable pub line : ℕ → ℕ → List ℕ → Reply → List ℕ
line n i name reply =
    let figures = reply.figures in
    let vs = take figures.count (rows_of_words n reply.words) in
    decimal i ++ (space ∷ name) ++ field figures.number ++ field figures.count ++ field (load n vs) ++ field figures.looks ++ spelled n vs ++ (newline ∷ [])

-- a refused file prints only `file` and the number
unfoldable pub file_line_lem : ℕ → List ℕ
file_line_lem number = file_word ++ field number ++ (newline ∷ [])
