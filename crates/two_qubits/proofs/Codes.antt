-- Codes and rows: a code of 16 bits is four rows of four columns, and these rows have that code.
-- Assumes nothing.
use mathlib.Core.Path.{◌≡◌, refl, sym, ap, ap₂, ◌∙◌}
use mathlib.Core.List.{List, [], ◌∷◌}
use Prim.Native.Nat.{ℕ, ◌+◌, ◌*◌, ◌/◌, ◌%◌, ◌<◌}
use native.Mathlib.Omega.{arith}
use native.Mathlib.Nat.{mod-lt}
use lib.Pow.{shr-shr}
use lib.ListN.{length}
use Rattle.blocks.specs.Matrices.{All}
use Rattle.two_qubits.specs.Codes.{code_count, rows_of_code, code_of}

pub rows_is : (code : ℕ) → rows_of_code code ≡ code % 16 ∷ code / 16 % 16 ∷ code / 256 % 16 ∷ code / 4096 % 16 ∷ []
unfolding rows_of_code
rows_is code = refl

pub rows_count : (code : ℕ) → length (rows_of_code code) ≡ 4
unfolding rows_of_code
rows_count code = refl

pub rows_lt : (code : ℕ) → All (λ f. f < 16) (rows_of_code code)
unfolding rows_of_code
rows_lt code = (mod-lt code (omega arith), (mod-lt (code / 16) (omega arith), (mod-lt (code / 256) (omega arith), (mod-lt (code / 4096) (omega arith), tt))))

-- the rows, each from what is left of the code
rows_by : (q r s t : ℕ) → q / 16 ≡ r → r / 16 ≡ s → s / 16 ≡ t → rows_of_code q ≡ q % 16 ∷ r % 16 ∷ s % 16 ∷ t % 16 ∷ []
unfolding rows_of_code
rows_by q r s t e f g =
    let by-256 : q / 256 ≡ s = sym (shr-shr q 4 4) ∙ ap (λ x. x / 16) e ∙ f in
    let by-4096 : q / 4096 ≡ t = sym (shr-shr q 8 4) ∙ ap (λ x. x / 16) by-256 ∙ g in
    ap₂ (λ x y. q % 16 ∷ x % 16 ∷ y) e (ap₂ (λ x y. x % 16 ∷ y % 16 ∷ []) by-256 by-4096)

digits : (q r s t : ℕ) → q / 16 ≡ r → r / 16 ≡ s → s / 16 ≡ t → t < 16 → q % 16 + 16 * (r % 16 + 16 * (s % 16 + 16 * (t % 16 + 16 * 0))) ≡ q
digits q r s t e f g l = omega arith

pub code_of_rows : (code : ℕ) → code < code_count → code_of (rows_of_code code) ≡ code
unfolding code_of
code_of_rows q l =
    ap code_of (rows_by q (q / 16) (q / 16 / 16) (q / 16 / 16 / 16) refl refl refl) ∙ digits q (q / 16) (q / 16 / 16) (q / 16 / 16 / 16) refl refl refl (omega arith)

-- four rows of four columns
module _ (a b c d : ℕ) (la : a < 16) (lb : b < 16) (lc : c < 16) (ld : d < 16) where
  pub code_lt : code_of (a ∷ b ∷ c ∷ d ∷ []) < code_count
  unfolding code_of
  code_lt = omega arith

  pub rows_of_code_lem : rows_of_code (code_of (a ∷ b ∷ c ∷ d ∷ [])) ≡ a ∷ b ∷ c ∷ d ∷ []
  unfolding code_of
  rows_of_code_lem = rows_by (a + 16 * r) r s t (omega arith) (omega arith) (omega arith) ∙ same
    where
      t : ℕ
      t = d + 16 * 0

      s : ℕ
      s = c + 16 * t

      r : ℕ
      r = b + 16 * s

      same : (a + 16 * r) % 16 ∷ r % 16 ∷ s % 16 ∷ t % 16 ∷ [] ≡ a ∷ b ∷ c ∷ d ∷ []
      same = ap₂ ◌∷◌ (omega arith) (ap₂ ◌∷◌ (omega arith) (ap₂ (λ x y. x ∷ y ∷ []) (omega arith) (omega arith)))

-- any four rows
pub four_rows : (P : List ℕ → Type 0) → ((a b c d : ℕ) → a < 16 → b < 16 → c < 16 → d < 16 → P (a ∷ b ∷ c ∷ d ∷ [])) → (F : List ℕ) → length F ≡ 4 → All (λ f. f < 16) F → P F
four_rows P p [] e h = absurd (omega arith)
four_rows P p (a ∷ []) e h = absurd (omega arith)
four_rows P p (a ∷ b ∷ []) e h = absurd (omega arith)
four_rows P p (a ∷ b ∷ c ∷ []) e h = absurd (omega arith)
four_rows P p (a ∷ b ∷ c ∷ d ∷ []) e h = p a b c d h.0 h.1.0 h.1.1.0 h.1.1.1.0
four_rows P p (a ∷ b ∷ c ∷ d ∷ x ∷ F) e h = absurd (omega arith)
