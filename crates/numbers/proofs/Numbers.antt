-- Numbers in bytes: byte by byte, past the end, in a part of a part, and their bounds; parts.
-- Assumes nothing.
use mathlib.Core.Path.{◌≡◌, refl, sym, ap, ap₂, ◌∙◌}
use mathlib.Core.List.{List, [], ◌∷◌}
use mathlib.Core.Logic.{⊎_elim}
use Prim.Native.Nat.{ℕ, zero, suc, ◌+◌, ◌*◌, ◌-◌, ◌^◌, ◌≤◌, ◌<◌, min}
use native.Mathlib.Omega.{arith}
use native.Mathlib.Nat.{pow-suc, pow-le-pow_right, zero-add, suc-add, sub_self}
use lib.ListN.{length, get_or, take, drop, length-drop, drop_of_length-le}
use lib.Seq.{take-nil, drop-nil, take-take, drop-drop, length-take-le}
use Rattle.std.proofs.lemmas.Bool.{cases_lt}
use Rattle.numbers.specs.Numbers.{little_endian, part, number}

-- ---- the first byte, and the others

pub number_none : (bytes : List ℕ) (from : ℕ) → number bytes from 0 ≡ 0
unfolding number part little_endian
number_none bytes from = refl

first : (bytes : List ℕ) (size : ℕ) → little_endian (take (suc size) bytes) ≡ get_or bytes 0 0 + 256 * little_endian (take size (drop 1 bytes))
unfolding little_endian
first [] size = ap (λ (l : List ℕ). 0 + 256 * little_endian l) (sym (take-nil size))
first (b ∷ bytes) size = refl

pub number_step : (bytes : List ℕ) (from size : ℕ) → number bytes from (suc size) ≡ get_or bytes from 0 + 256 * number bytes (suc from) size
unfolding number part little_endian
number_step bytes zero size = first bytes size
number_step [] (suc from) size = ap (λ (l : List ℕ). 0 + 256 * little_endian l) (sym (take-nil size))
number_step (b ∷ bytes) (suc from) size = number_step bytes from size

-- of one byte, and of two
pub number_one : (bytes : List ℕ) (from : ℕ) → number bytes from 1 ≡ get_or bytes from 0
number_one bytes from = number_step bytes from 0 ∙ omega (arith, number_none bytes (suc from))

pub number_two : (bytes : List ℕ) (from : ℕ) → number bytes from 2 ≡ get_or bytes from 0 + 256 * get_or bytes (suc from) 0
number_two bytes from = number_step bytes from 1 ∙ ap (λ (v : ℕ). get_or bytes from 0 + 256 * v) (number_one bytes (suc from))

-- one more byte in front
pub number_more : (bytes : List ℕ) (b v from next size more : ℕ) → next ≡ suc from → more ≡ suc size → b ≡ get_or bytes from 0 → v ≡ number bytes next size
    → b + 256 * v ≡ number bytes from more
number_more bytes b v from next size more n m e f =
    ap₂ (λ (x y : ℕ). x + 256 * y) e (f ∙ ap (λ (o : ℕ). number bytes o size) n) ∙ sym (number_step bytes from size) ∙ ap (number bytes from) (sym m)

-- ---- bounds

pub bound_more : (b v size more : ℕ) → more ≡ suc size → b < 256 → v < 256 ^ size → b + 256 * v < 256 ^ more
bound_more b v size more m h k = omega (arith, pow-suc 256 size, ap (λ (j : ℕ). 256 ^ j) m)

-- 7 bytes leave room for one more in 64 bits
pub seven_bytes : (v size : ℕ) → size < 8 → v < 256 ^ size → v < 72057594037927936
seven_bytes v size h k =
    let m : 256 ^ size ≤ 256 ^ 7 = pow-le-pow_right {n = 256} (omega arith) {i = size} {j = 7} (omega arith) in
    omega arith

-- ---- a number read from its last byte: before the first byte that is read

pub reading_starts : (bytes : List ℕ) (from size : ℕ) → (0 ≡ number bytes from (size - size)) × (0 < 256 ^ (size - size))
reading_starts bytes from size = rw (sub_self size) (sym (number_none bytes from), omega arith)

-- ---- past the end

pub number_past : (bytes : List ℕ) (from size : ℕ) → length bytes ≤ from → number bytes from size ≡ 0
unfolding number part little_endian
number_past bytes from size h = ap (λ (l : List ℕ). little_endian (take size l)) (drop_of_length-le bytes h) ∙ ap little_endian (take-nil size)

-- ---- parts

pub part_is : (bytes : List ℕ) (offset size : ℕ) → part bytes offset size ≡ take size (drop offset bytes)
unfolding part
part_is bytes offset size = refl

-- as the code cuts one
pub part_cut : (bytes : List ℕ) (offset size : ℕ) → take (offset + size - offset) (drop offset bytes) ≡ part bytes offset size
unfolding part
part_cut bytes offset size = let left : offset + size - offset ≡ size = omega arith in ap (λ (k : ℕ). take k (drop offset bytes)) left

-- a part within the bytes has all its bytes
pub part_length : (bytes : List ℕ) (offset size : ℕ) → offset + size ≤ length bytes → length (part bytes offset size) ≡ size
unfolding part
part_length bytes offset size h = length-take-le size (drop offset bytes) (omega (arith, length-drop offset bytes))

-- numbers of the front of bytes, and of what is left of it
pub number_front : (bytes : List ℕ) (size : ℕ) → little_endian (take size bytes) ≡ number bytes 0 size
unfolding number part
number_front bytes size = refl

pub number_drop : (bytes : List ℕ) (skip from size : ℕ) → number (drop skip bytes) from size ≡ number bytes (skip + from) size
unfolding number part
number_drop bytes skip from size = ap (λ (l : List ℕ). little_endian (take size l)) (drop-drop from skip bytes)

-- a part of a part

drop_take : (l : List ℕ) (skip size : ℕ) → drop skip (take (skip + size) l) ≡ take size (drop skip l)
drop_take l zero size = simp zero-add
drop_take [] (suc skip) size = simp (take-nil, drop-nil)
drop_take (b ∷ l) (suc skip) size = simp suc-add (drop_take l skip size)

pub part_of_part : (bytes : List ℕ) (offset size skip width : ℕ) → skip + width ≤ size → part (part bytes offset size) skip width ≡ part bytes (offset + skip) width
unfolding part
part_of_part bytes offset size skip width h =
    let left : size ≡ skip + (size - skip) = omega arith in
    ap (λ (s : ℕ). take width (drop skip (take s (drop offset bytes)))) left
    ∙ ap (take width) (drop_take (drop offset bytes) skip (size - skip) ∙ ap (take (size - skip)) (drop-drop skip offset bytes))
    ∙ take-take width (size - skip) (drop (offset + skip) bytes) (omega arith)

-- a number of a part is one of the bytes
pub number_of_part : (bytes : List ℕ) (offset size skip width : ℕ) → skip + width ≤ size → number (part bytes offset size) skip width ≡ number bytes (offset + skip) width
unfolding number
number_of_part bytes offset size skip width h = ap little_endian (part_of_part bytes offset size skip width h)

-- a place that does not fit 64 bits is past the end of bytes that do, and so is the last that fits
pub number_saturated : (bytes : List ℕ) (from at size : ℕ) → length bytes < 9223372036854775808 → at ≡ min from 18446744073709551615
    → number bytes at size ≡ number bytes from size
number_saturated bytes from at size short e =
    ⊎_elim
    (λ (h : from < 18446744073709551616). ap (λ (k : ℕ). number bytes k size) (omega arith))
    (λ (h : 18446744073709551616 ≤ from). number_past bytes at size (omega arith) ∙ sym (number_past bytes from size (omega arith)))
    (cases_lt from 18446744073709551616)
