-- The bytes of a line laid into lent bytes, and a line that fits.
-- Assumes nothing.
use mathlib.Core.Path.{◌≡◌, refl, sym, ap}
use mathlib.Core.List.{List, [], ◌∷◌, ◌++◌}
use Prim.Native.Nat.{ℕ, zero, suc, ◌≤◌, min}
use native.Mathlib.Omega.{arith}
use lib.ListN.{length, take, drop, length-append, length-drop}
use lib.Seq.{take_all, take-length}
use Rattle.lines.specs.Bytes.{laid_bytes}

-- as many bytes laid as there are, or as have room
pub bytes_laid : (bytes out : List ℕ) (k : ℕ) → k ≡ min (length bytes) (length out) → take k bytes ++ drop k out ≡ laid_bytes bytes out
unfolding laid_bytes
bytes_laid [] out zero e = sym (take-length out)
bytes_laid [] out (suc k) e = absurd (omega arith)
bytes_laid (b ∷ bytes) [] zero e = refl
bytes_laid (b ∷ bytes) [] (suc k) e = absurd (omega arith)
bytes_laid (b ∷ bytes) (w ∷ out) zero e = absurd (omega arith)
bytes_laid (b ∷ bytes) (w ∷ out) (suc k) e = ap (λ (m : List ℕ). b ∷ m) (bytes_laid bytes out k (omega arith))

-- a line for which there is room is laid whole
pub laid_bytes_lem : (bytes out : List ℕ) → length bytes ≤ length out → laid_bytes bytes out ≡ bytes ++ drop (length bytes) out
unfolding laid_bytes
laid_bytes_lem bytes out h =
    take_all (length out) (bytes ++ drop (length bytes) out) (omega (arith, length-append bytes (drop (length bytes) out), length-drop (length bytes) out))
