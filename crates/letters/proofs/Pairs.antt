-- What two letters pair to, by their bits; the pairing of two vectors is the sum modulo 2 of the chart over their qubits.
-- Assumes nothing.
use mathlib.Core.Path.{◌≡◌, refl, sym, ap, ap₂, ◌∙◌}
use mathlib.Core.Bool.{Bool, true, false, not, ◌&&◌}
use mathlib.Core.List.{foldr, zip_with}
use Prim.Native.Nat.{ℕ, zero, suc, ◌+◌}
use Rattle.binar.specs.Bits.{◌⊻◌, digit, bit}
use Rattle.binar.proofs.Digits.{odd_digit, half_digit, odd_bit, bit_suc}
use Rattle.binar.proofs.Sums.{bit_zero_is_odd}
use Rattle.linear.proofs.Instances.{𝔹}
use Rattle.linear.proofs.Sums.{add-zero}
use Rattle.symplectic.specs.Turns.{pairing}
use Rattle.symplectic.specs.inner.Vectors.{pairing_from}
use Rattle.symplectic.proofs.Qubits.{pairing_from_lem}
use denote.Enum.Bare.{sameb}
use Rattle.letters.specs.contracts.Letter.{the_type}
use Rattle.letters.specs.declared.Letter.{Letter}
use Rattle.letters.specs.declared.Letter.TheVariants.{I, X, Y, Z}
use Rattle.letters.specs.Letters.{bits, letter, vector, chart, letters_from, letters}

-- ---- two letters

letter_bits : (x z : Bool) → bits (letter x z) ≡ (x, z)
unfolding letter
letter_bits true true = refl
letter_bits true false = refl
letter_bits false true = refl
letter_bits false false = refl

vector_x : (l : Letter) → bit 0 (vector l) ≡ (bits l).0
unfolding vector
vector_x l = bit_zero_is_odd (vector l) ∙ odd_digit (bits l).0 (digit (bits l).1)

vector_z : (l : Letter) → bit 1 (vector l) ≡ (bits l).1
unfolding vector
vector_z l = bit_suc 0 (vector l) ∙ ap (bit 0) (half_digit (bits l).0 (digit (bits l).1)) ∙ bit_zero_is_odd (digit (bits l).1) ∙ odd_bit (bits l).1

-- x with z, and z with x
abbrev pub crosswise : Bool × Bool → Bool × Bool → Bool
crosswise a b = (a.0 && b.1) ⊻ (a.1 && b.0)

pub chart_bits : (a b : Letter) → chart a b ≡ crosswise (bits a) (bits b)
chart_bits a b =
    pairing_from_lem 1 (vector a) (vector b)
    ∙ add-zero 𝔹 ((bit 0 (vector a) && bit 1 (vector b)) ⊻ (bit 1 (vector a) && bit 0 (vector b)))
    ∙ ap₂ ◌⊻◌ (ap₂ ◌&&◌ (vector_x a) (vector_z b)) (ap₂ ◌&&◌ (vector_z a) (vector_x b))

-- the cases of the chart
pub pairs_left : (a b : Letter) → a ≡ I → chart a b ≡ false
pairs_left a b e = ap (λ (l : Letter). chart l b) e ∙ chart_bits I b

pub pairs_right : (a b : Letter) → b ≡ I → chart a b ≡ false
pairs_right a b e = ap (chart a) e ∙ chart_bits a I ∙ none a
  where
    none : (l : Letter) → crosswise (bits l) (bits I) ≡ false
    none I = refl
    none X = refl
    none Y = refl
    none Z = refl

pub pairs_others : (a b : Letter) → (a ≡ I → ⊥) → (b ≡ I → ⊥) → chart a b ≡ not (sameb the_type a b)
pairs_others a b f g = chart_bits a b ∙ others a b f g
  where
    others : (l m : Letter) → (l ≡ I → ⊥) → (m ≡ I → ⊥) → crosswise (bits l) (bits m) ≡ not (sameb the_type l m)
    others I m f g = absurd (f refl)
    others X I f g = absurd (g refl)
    others X X f g = refl
    others X Y f g = refl
    others X Z f g = refl
    others Y I f g = absurd (g refl)
    others Y X f g = refl
    others Y Y f g = refl
    others Y Z f g = refl
    others Z I f g = absurd (g refl)
    others Z X f g = refl
    others Z Y f g = refl
    others Z Z f g = refl

-- ---- two vectors

pub pairing_chart : (n u v : ℕ) → pairing n u v ≡ foldr ◌⊻◌ false (zip_with chart (letters n u) (letters n v))
unfolding letters letters_from zip_with
pairing_chart n u v = pairing_from_lem n u v ∙ from n 0
  where
    qubit : (x z s t : Bool) → crosswise (x, z) (s, t) ≡ chart (letter x z) (letter s t)
    qubit x z s t = sym (chart_bits (letter x z) (letter s t) ∙ ap₂ crosswise (letter_bits x z) (letter_bits s t))

    from : (k q : ℕ) → pairing_from n u v k q ≡ foldr ◌⊻◌ false (zip_with chart (letters_from n u k q) (letters_from n v k q))
    from zero q = refl
    from (suc k) q = ap₂ ◌⊻◌ (qubit (bit q u) (bit (n + q) u) (bit q v) (bit (n + q) v)) (from k (suc q))
