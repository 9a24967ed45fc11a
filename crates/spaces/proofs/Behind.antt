-- Rows put over others from row k on, each as its place says: one by one, as far as there is room, and what they are then.
-- Assumes nothing.
use mathlib.Core.Path.{◌≡◌, refl, sym, ap, ap₂, ◌∙◌, subst}
use mathlib.Core.Logic.{⊎_elim}
use mathlib.Core.List.{List, [], ◌∷◌, ◌++◌, map}
use Prim.Native.Nat.{ℕ, zero, suc, ◌+◌, ◌≤◌, ◌<◌}
use native.Mathlib.Nat.{add-zero, zero-add, suc-add, eq-or-lt_of_le, le_of_suc-le-suc, not-suc-le-zero, le_refl}
use native.Mathlib.Numerals.{add-one}
use native.Mathlib.Omega.{arith}
use lib.ListN.{length, get_or, set, take, length-append, length-map, get_or-append}
use lib.Seq.{get_or-append-add, get_or-take, take_all}
use Rattle.std.proofs.lemmas.List.{take-append-le}
use Rattle.blocks.specs.Words.{over}
use Rattle.blocks.proofs.Overs.{over_nil, over_no_room, over_put, over_at}
use Rattle.blocks.proofs.Values.{map_get}
use Rattle.spaces.specs.Levels.{below, over_from}

-- ---- the numbers below m

pub below_length : (m : ℕ) → length (below m) ≡ m
unfolding below
below_length zero = refl
below_length (suc m) = length-append (below m) (m ∷ []) ∙ ap (λ n. n + 1) (below_length m) ∙ add-one m

pub below_at : (m i : ℕ) → i < m → get_or (below m) i 0 ≡ i
unfolding below
below_at zero i h = absurd (not-suc-le-zero h)
below_at (suc m) i h = ⊎_elim last (λ l. before l ∙ below_at m i l) (eq-or-lt_of_le (le_of_suc-le-suc h))
  where
    last : i ≡ m → get_or (below m ++ (m ∷ [])) i 0 ≡ i
    last e =
        let at : i ≡ length (below m) + 0 = e ∙ sym (below_length m) ∙ sym (add-zero (length (below m))) in
        ap (λ n. get_or (below m ++ (m ∷ [])) n 0) at ∙ get_or-append-add (below m) (m ∷ []) 0 0 ∙ sym e

    before : i < m → get_or (below m ++ (m ∷ [])) i 0 ≡ get_or (below m) i 0
    before l = get_or-append (below m) (m ∷ []) 0 i (subst (λ n. i < n) (sym (below_length m)) l)

pub below_front : (m d : ℕ) → m ≤ d → take m (below d) ≡ below m
unfolding below
below_front zero zero h = refl
below_front (suc m) zero h = absurd (not-suc-le-zero h)
below_front m (suc d) h =
    ⊎_elim (λ e. take_all m (below (suc d)) (omega (arith, e, below_length (suc d))) ∙ ap below (sym e))
    (λ l. take-append-le m (below d) (d ∷ []) (omega (arith, l, below_length d)) ∙ below_front m d (le_of_suc-le-suc l)) (eq-or-lt_of_le h)

-- ---- one row more

over_from_none : (k : ℕ) (out : List ℕ) → over_from k [] out ≡ out
unfolding over_from
over_from_none zero out = over_nil out
over_from_none (suc k) [] = over_nil []
over_from_none (suc k) (w ∷ out) = ap (λ l. w ∷ l) (over_from_none k out)

over_from_more : (k : ℕ) (rows out : List ℕ) (i : ℕ) → i < length rows → set (over_from k (take i rows) out) (k + i) (get_or rows i 0) ≡ over_from k (take (suc i) rows) out
unfolding over_from
over_from_more zero rows out i h = ap (λ n. set (over (take i rows) out) n (get_or rows i 0)) (zero-add i) ∙ over_put rows out i h
over_from_more (suc k) rows [] i h = ap (λ l. set l (suc k + i) (get_or rows i 0)) (over_no_room (take i rows)) ∙ sym (over_no_room (take (suc i) rows))
over_from_more (suc k) rows (w ∷ out) i h =
    ap (λ n. set (w ∷ over_from k (take i rows) out) n (get_or rows i 0)) (suc-add k i) ∙ ap (λ l. w ∷ l) (over_from_more k rows out i h)

-- ---- the rows before

pub from_front : (k : ℕ) (rows out : List ℕ) (n : ℕ) → n ≤ k → take n (over_from k rows out) ≡ take n out
unfolding over_from
from_front k rows out zero h = refl
from_front zero rows out (suc n) h = absurd (not-suc-le-zero h)
from_front (suc k) rows [] (suc n) h = ap (take (suc n)) (over_no_room rows)
from_front (suc k) rows (w ∷ out) (suc n) h = ap (λ l. w ∷ l) (from_front k rows out n (le_of_suc-le-suc h))

pub from_before : (k : ℕ) (rows out : List ℕ) (i : ℕ) → i < k → get_or (over_from k rows out) i 0 ≡ get_or out i 0
from_before k rows out i h = sym (get_or-take k (over_from k rows out) i 0 h) ∙ ap (λ l. get_or l i 0) (from_front k rows out k (le_refl k)) ∙ get_or-take k out i 0 h

over_from_at : (k : ℕ) (rows out : List ℕ) → k + length rows ≤ length out → (i : ℕ) → i < length rows → get_or (over_from k rows out) (k + i) 0 ≡ get_or rows i 0
unfolding over_from
over_from_at zero rows out room i h = ap (λ n. get_or (over rows out) n 0) (zero-add i) ∙ over_at rows out (omega arith) i h
over_from_at (suc k) rows [] room i h = absurd (omega arith)
over_from_at (suc k) rows (w ∷ out) room i h = ap (λ n. get_or (w ∷ over_from k rows out) n 0) (suc-add k i) ∙ over_from_at k rows out (omega arith) i h

-- ---- rows that f gives, put from row k on

module _ (k : ℕ) (f : ℕ → ℕ) (m : ℕ) (out : List ℕ) where
  listed : List ℕ
  listed = map f (below m)

  listed_length : length listed ≡ m
  unfolding listed
  listed_length = length-map (below m) f ∙ below_length m

  listed_at : (i : ℕ) → i < m → get_or listed i 0 ≡ f i
  unfolding listed
  listed_at i h = map_get f (below m) i 0 0 (subst (λ n. i < n) (sym (below_length m)) h) ∙ ap f (below_at m i h)

  pub from_start : out ≡ over_from k (take 0 (map f (below m))) out
  from_start = sym (over_from_none k out)

  pub from_next : (x : List ℕ) (i v : ℕ) → i < m → x ≡ over_from k (take i (map f (below m))) out → v ≡ f i → set x (k + i) v ≡ over_from k (take (i + 1) (map f (below m))) out
  unfolding listed
  from_next x i v h is e =
      ap₂ (λ l u. set l (k + i) u) is (e ∙ sym (listed_at i h)) ∙ over_from_more k (map f (below m)) out i (subst (λ n. i < n) (sym listed_length) h)
      ∙ ap (λ n. over_from k (take n (map f (below m))) out) (sym (add-one i))

  pub from_end : (i : ℕ) → m ≤ i → over_from k (take i (map f (below m))) out ≡ over_from k (map f (below m)) out
  unfolding listed
  from_end i h = ap (λ l. over_from k l out) (take_all i (map f (below m)) (subst (λ n. n ≤ i) (sym listed_length) h))

  -- as they are then, where there is room
  pub from_at : k + m ≤ length out → (i : ℕ) → i < m → get_or (over_from k (map f (below m)) out) (k + i) 0 ≡ f i
  unfolding listed
  from_at room i h = over_from_at k (map f (below m)) out (subst (λ n. k + n ≤ length out) (sym listed_length) room) i (subst (λ n. i < n) (sym listed_length) h) ∙ listed_at i h
