-- The values of rows in an array; the rows of an action, how many there are, compared with those of another, and taken from lent words.
-- Assumes nothing.
use mathlib.Core.Path.{◌≡◌, refl, sym, ap, ap₂, ◌∙◌}
use mathlib.Core.List.{List, [], ◌∷◌, ◌++◌}
use Prim.Native.Nat.{ℕ, zero, suc, ◌+◌, ◌≤◌, ◌<◌, min}
use native.Mathlib.Nat.{le_of_suc-le-suc, not-suc-le-zero}
use native.Mathlib.Omega.{arith}
use lib.ListN.{length, get_or, set, take, drop, replicate, length-map}
use lib.Seq.{take_at, get_or-take, length-take-le}
use Rattle.binar.specs.declared.Row.{Row}
use Rattle.binar.specs.Rows.{val}
use Rattle.binar.specs.inner.Blank.{blank}
use Rattle.binar.proofs.Widths.{val_blank}
use Rattle.binar.proofs.Orders.{rows_eq}
use Rattle.binar.specs.contracts.RowPartialEq.TheImpl.{eq-value}
use lib.Pointwise.{pointwise}
use mathlib.Core.Bool.{◌&&◌}
use Rattle.symplectic.specs.Matches.{same_rows}
use Rattle.blocks.proofs.Overs.{over_more}
use Rattle.actions.specs.declared.Action.{Action}
use Rattle.symplectic.specs.Sizes.{max_qubits, most_rows, capped}
use Rattle.actions.specs.Actions.{vals, qubits, matrix, padded}
use Rattle.symplectic.proofs.Sizes.{capped_le, capped_is}

-- ---- values

vals_get : (l : List Row) (i : ℕ) → val (get_or l i blank) ≡ get_or (vals l) i 0
unfolding vals
vals_get [] i = val_blank
vals_get (x ∷ l) zero = refl
vals_get (x ∷ l) (suc i) = vals_get l i

vals_set : (l : List Row) (i : ℕ) (v : Row) → vals (set l i v) ≡ set (vals l) i (val v)
unfolding vals
vals_set [] i v = refl
vals_set (x ∷ l) zero v = refl
vals_set (x ∷ l) (suc i) v = ap (λ (m : List ℕ). val x ∷ m) (vals_set l i v)

vals_length : (l : List Row) → length (vals l) ≡ length l
unfolding vals
vals_length l = length-map l val

pub vals_replicate : (m : ℕ) (z : Row) → val z ≡ 0 → vals (replicate m z) ≡ replicate m 0
unfolding vals
vals_replicate zero z e = refl
vals_replicate (suc m) z e = ap₂ ◌∷◌ e (vals_replicate m z e)

-- ---- the qubits and the rows of an action

pub qubits_le : (a : Action) → qubits a ≤ max_qubits
unfolding qubits
qubits_le a = capped_le a.n

pub qubits_capped : (a : Action) → qubits a ≡ capped a.n
unfolding qubits
qubits_capped a = refl

pub matrix_length : (a : Action) → length a.rows ≡ most_rows → length (matrix a) ≡ qubits a + qubits a
unfolding matrix
matrix_length a long =
    length-take-le (qubits a + qubits a) (vals a.rows) (omega (arith, qubits_le a, vals_length a.rows))

pub matrix_get : (a : Action) (i : ℕ) → i < qubits a + qubits a → val (get_or a.rows i blank) ≡ get_or (matrix a) i 0
unfolding matrix
matrix_get a i h = vals_get a.rows i ∙ sym (get_or-take (qubits a + qubits a) (vals a.rows) i 0 h)

-- ---- rows compared

-- one by one, as the code does it
compared : (xs ys : List Row) → pointwise eq-value.it xs ys ≡ same_rows (vals xs) (vals ys)
unfolding vals
compared [] [] = refl
compared [] (y ∷ ys) = refl
compared (x ∷ xs) [] = refl
compared (x ∷ xs) (y ∷ ys) = ap₂ ◌&&◌ (rows_eq x y) (compared xs ys)

vals_take : (k : ℕ) (l : List Row) → vals (take k l) ≡ take k (vals l)
unfolding vals
vals_take zero l = refl
vals_take (suc k) [] = refl
vals_take (suc k) (x ∷ l) = ap (λ (m : List ℕ). val x ∷ m) (vals_take k l)

-- the rows of two actions on as many qubits
pub compared_rows : (a b : Action) (n : ℕ) → n ≡ capped a.n → n ≡ capped b.n → pointwise eq-value.it (take (n + n) a.rows) (take (n + n) b.rows) ≡ same_rows (matrix a) (matrix b)
unfolding matrix qubits
compared_rows a b n p q =
    compared (take (n + n) a.rows) (take (n + n) b.rows)
    ∙ ap₂ same_rows (vals_take (n + n) a.rows ∙ ap (λ (k : ℕ). take (k + k) (vals a.rows)) p) (vals_take (n + n) b.rows ∙ ap (λ (k : ℕ). take (k + k) (vals b.rows)) q)

-- ---- rows m written over the rows l, up to i

-- one row more
pub rows_more : (m l : List ℕ) (rows : List Row) (i : ℕ) (w : Row) → i < length m → i < length l
    → vals rows ≡ take i m ++ drop i l → val w ≡ get_or m i 0 → vals (set rows i w) ≡ take (i + 1) m ++ drop (i + 1) l
rows_more m l rows i w hm hl inv e =
    vals_set rows i w ∙ ap₂ (λ (x : List ℕ) (v : ℕ). set x i v) inv e ∙ over_more 0 m l i hm hl

-- ---- the rows of lent words

take_replicate : (k m : ℕ) → k ≤ m → ◌≡◌ {A = List ℕ} (take k (replicate m 0)) (replicate k 0)
take_replicate zero m h = refl
take_replicate (suc k) zero h = absurd (not-suc-le-zero h)
take_replicate (suc k) (suc m) h = ap (λ (l : List ℕ). 0 ∷ l) (take_replicate k m (le_of_suc-le-suc h))

-- zero rows behind the words, from the array and from the definition
pads : (w : List ℕ) (m k j i : ℕ) → k ≤ m → k ≤ j → i ≡ min (length w) m → take k (take i w ++ drop i (replicate m 0)) ≡ take k (w ++ replicate j 0)
pads [] m k j zero h g e = take_replicate k m h ∙ sym (take_replicate k j g)
pads [] m k j (suc i) h g e = absurd (omega arith)
pads (x ∷ w) m zero j i h g e = refl
pads (x ∷ w) zero (suc k) j i h g e = absurd (not-suc-le-zero h)
pads (x ∷ w) (suc m) (suc k) j zero h g e = absurd (omega arith)
pads (x ∷ w) (suc m) (suc k) j (suc i) h g e =
    ap (λ (l : List ℕ). x ∷ l) (pads w m k j i (le_of_suc-le-suc h) (omega arith) (omega arith))

pub padded_rows : (w : List ℕ) (m k i : ℕ) → k ≤ m → i ≡ min (length w) m → take k (take i w ++ drop i (replicate m 0)) ≡ padded k w
unfolding padded
padded_rows w m k i h e = pads w m k k i h (omega arith) e

-- exactly as many words as there are rows
pub padded_is : (m : ℕ) (w : List ℕ) → length w ≡ m → padded m w ≡ w
unfolding padded
padded_is m w e = take_at w (replicate m 0) m e

-- an action loaded from exactly as many words as there are rows, at no more qubits than the most
pub loaded : (a : Action) (n : ℕ) (w : List ℕ) → n ≤ max_qubits → length w ≡ n + n → qubits a ≡ capped n → matrix a ≡ padded (capped n + capped n) w → (qubits a ≡ n) × (matrix a ≡ w)
loaded a n w h size q m =
    let e = capped_is n h in
    (q ∙ e, m ∙ padded_is (capped n + capped n) w (size ∙ ap (λ (k : ℕ). k + k) (sym e)))
