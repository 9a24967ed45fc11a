-- The words of a part, one by one.
-- Assumes nothing.
use mathlib.Core.Path.{◌≡◌, refl, sym, ap, ◌∙◌}
use mathlib.Core.List.{List, [], ◌∷◌, ◌++◌}
use Prim.Native.Nat.{ℕ, zero, suc, ◌+◌, ◌*◌, ◌<◌}
use native.Mathlib.Omega.{arith}
use native.Mathlib.Numerals.{add-one}
use lib.ListN.{length, take, drop, set}
use Rattle.blocks.proofs.Values.{set_next}
use Rattle.numbers.specs.Numbers.{little_endian, part, number}
use Rattle.numbers.proofs.Numbers.{number_front, number_drop, number_of_part}
use Rattle.printout.specs.Printout.{words_of_bytes}

pub words_length : (k : ℕ) (bytes : List ℕ) → length (words_of_bytes k bytes) ≡ k
unfolding words_of_bytes
words_length zero bytes = refl
words_length (suc k) bytes = ap suc (words_length k (drop 8 bytes))

words_next : (k : ℕ) (bytes : List ℕ) → words_of_bytes (suc k) bytes ≡ words_of_bytes k bytes ++ (number bytes (8 * k) 8 ∷ [])
unfolding words_of_bytes
words_next zero bytes = ap (λ (w : ℕ). w ∷ []) (number_front bytes 8)
words_next (suc k) bytes =
    let at : 8 + 8 * k ≡ 8 * suc k = omega arith in
    ap (λ (l : List ℕ). little_endian (take 8 bytes) ∷ l)
    (words_next k (drop 8 bytes)
    ∙ ap (λ (w : ℕ). words_of_bytes k (drop 8 bytes) ++ (w ∷ [])) (number_drop bytes 8 (8 * k) 8 ∙ ap (λ (o : ℕ). number bytes o 8) at))

pub words_none : (rows bytes : List ℕ) → take 0 rows ≡ words_of_bytes 0 bytes
unfolding words_of_bytes
words_none rows bytes = refl

pub words_more : (file rows : List ℕ) (offset m k v : ℕ) → k < m → k < length rows → v ≡ number file (offset + 8 * k) 8
    → take k rows ≡ words_of_bytes k (part file offset (8 * m)) → take (k + 1) (set rows k v) ≡ words_of_bytes (k + 1) (part file offset (8 * m))
words_more file rows offset m k v h g e w =
    let bytes = part file offset (8 * m) in
    set_next rows k v g
    ∙ ap (λ (l : List ℕ). l ++ (v ∷ [])) w
    ∙ ap (λ (x : ℕ). words_of_bytes k bytes ++ (x ∷ [])) (e ∙ sym (number_of_part file offset (8 * m) (8 * k) 8 (omega arith)))
    ∙ sym (words_next k bytes) ∙ ap (λ (j : ℕ). words_of_bytes j bytes) (sym (add-one k))
