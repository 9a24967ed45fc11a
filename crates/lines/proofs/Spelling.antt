-- Vectors as they are printed, by their place in a list, and how many bytes they take.
-- Assumes nothing.
use mathlib.Core.Path.{◌≡◌, sym, ap, ◌∙◌}
use mathlib.Core.List.{List, [], ◌∷◌, ◌++◌, append-nil, append_assoc}
use Prim.Native.Nat.{ℕ, suc, ◌+◌, ◌*◌, ◌<◌}
use native.Mathlib.Nat.{suc-mul}
use native.Mathlib.Numerals.{add-one}
use native.Mathlib.Omega.{arith}
use lib.ListN.{length, get_or, take, length-append}
use lib.Seq.{take-suc}
use Rattle.letters.specs.Letters.{spelling}
use Rattle.letters.proofs.Spelling.{spelling_length}
use Rattle.lines.specs.Lines.{space, spelled}

spelled_snoc : (n v : ℕ) (vs : List ℕ) → spelled n (vs ++ (v ∷ [])) ≡ spelled n vs ++ (space ∷ spelling n v)
unfolding spelled
spelled_snoc n v [] = ap (λ (l : List ℕ). space ∷ l) (append-nil (spelling n v))
spelled_snoc n v (u ∷ vs) =
    ap (λ (l : List ℕ). space ∷ l)
    (ap (λ (l : List ℕ). spelling n u ++ l) (spelled_snoc n v vs) ∙ sym (append_assoc (spelling n u) (spelled n vs) (space ∷ spelling n v)))

pub spelled_next : (n i : ℕ) (l : List ℕ) → i < length l → spelled n (take (i + 1) l) ≡ spelled n (take i l) ++ (space ∷ spelling n (get_or l i 0))
spelled_next n i l h =
    ap (spelled n) (ap (λ (j : ℕ). take j l) (add-one i) ∙ take-suc l i 0 h) ∙ spelled_snoc n (get_or l i 0) (take i l)

pub spelled_length : (n : ℕ) (vs : List ℕ) → length (spelled n vs) ≡ length vs * suc n
unfolding spelled
spelled_length n [] = omega arith
spelled_length n (v ∷ vs) =
    omega (arith, length-append (spelling n v) (spelled n vs), spelling_length n v, spelled_length n vs, suc-mul (length vs) (suc n))
