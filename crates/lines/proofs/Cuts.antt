-- Lists cut to the room of a line, and bytes written behind those that a line has.
-- Assumes nothing.
use mathlib.Core.Path.{◌≡◌, refl, sym, ap, ◌∙◌}
use mathlib.Core.List.{List, [], ◌∷◌, ◌++◌, append-nil, append_assoc}
use Prim.Native.Nat.{ℕ, zero, suc, ◌+◌, ◌-◌, ◌≤◌, ◌<◌, min}
use native.Mathlib.Numerals.{add-one}
use native.Mathlib.Omega.{arith}
use lib.ListN.{length, get_or, set, take, length-append, length-take}
use lib.Seq.{take-take, take_all, take_at, take-suc, length-take-le}
use Rattle.blocks.proofs.Values.{take_counted, set_next}
use Rattle.lines.specs.declared.Line.{Line}
use Rattle.lines.specs.Bytes.{line_room, bytes_of}

-- ---- cut lists

-- what a first cut takes away, a second one would have
pub cut_cut : (r : ℕ) (a b : List ℕ) → take r (take r a ++ b) ≡ take r (a ++ b)
cut_cut zero a b = refl
cut_cut (suc r) [] b = refl
cut_cut (suc r) (x ∷ a) b = ap (λ (l : List ℕ). x ∷ l) (cut_cut r a b)

-- a list behind a cut one; a list behind two
pub cut_next : (r : ℕ) (x y z b : List ℕ) → y ≡ take r x → z ≡ take r (y ++ b) → z ≡ take r (x ++ b)
cut_next r x y z b p q = q ∙ ap (λ (l : List ℕ). take r (l ++ b)) p ∙ cut_cut r x b

pub cut_then : (r : ℕ) (x y z a b : List ℕ) → y ≡ take r (x ++ a) → z ≡ take r (y ++ b) → z ≡ take r (x ++ (a ++ b))
cut_then r x y z a b p q = cut_next r (x ++ a) y z b p q ∙ ap (take r) (append_assoc x a b)

pub cut_four : (r : ℕ) (x y z a b c d : List ℕ) → y ≡ take r x → z ≡ take r (y ++ a ++ b ++ c ++ d) → z ≡ take r (x ++ a ++ b ++ c ++ d)
cut_four r x y z a b c d p q = cut_next r x y z (a ++ b ++ c ++ d) p (q ∙ ap (take r) (sym (regroup y))) ∙ ap (take r) (regroup x)
  where
    regroup : (w : List ℕ) → w ++ (a ++ b ++ c ++ d) ≡ w ++ a ++ b ++ c ++ d
    regroup w = simp append_assoc

-- what a list has past the room is lost behind another too
pub cut_late : (r m : ℕ) (a b : List ℕ) → r ≤ length a + m → take r (a ++ take m b) ≡ take r (a ++ b)
cut_late r m [] b h = take-take r m b (omega arith)
cut_late zero m (x ∷ a) b h = refl
cut_late (suc r) m (x ∷ a) b h = ap (λ (l : List ℕ). x ∷ l) (cut_late r m a b (omega arith))

-- so as many bytes of a text as have room behind it are enough
pub cut_fit : (a text : List ℕ) (m : ℕ) → m ≡ min (length text) (line_room - length a) → take line_room (a ++ take m text) ≡ take line_room (a ++ text)
cut_fit a text m e =
    let left = line_room - length a in
    let counted : m ≡ length (take left text) = omega (arith, length-take left text) in
    ap (λ (l : List ℕ). take line_room (a ++ l)) (ap (λ (k : ℕ). take k text) counted ∙ take_counted left text) ∙ cut_late line_room left a text (omega arith)

-- ---- the bytes of a line

pub bytes_length : (l : Line) → length l.bytes ≡ line_room → length (bytes_of l) ≡ min l.count line_room
unfolding bytes_of
bytes_length l h = length-take l.count l.bytes ∙ ap (min l.count) h

-- shown by their count
pub bytes_shown : (l : Line) (k : ℕ) → k ≡ length (bytes_of l) → take k l.bytes ≡ bytes_of l
unfolding bytes_of
bytes_shown l k e = ap (λ (j : ℕ). take j l.bytes) e ∙ take_counted l.count l.bytes

-- ---- a byte more

-- before the first one
pub none_more : (now : List ℕ) → length now ≤ line_room → now ≡ take line_room (now ++ [])
none_more now h = sym (ap (take line_room) (append-nil now) ∙ take_all line_room now h)

pub next_taken : (text : List ℕ) (i : ℕ) → i < length text → take (i + 1) text ≡ take i text ++ (get_or text i 0 ∷ [])
next_taken text i h = ap (λ (k : ℕ). take k text) (add-one i) ∙ take-suc text i 0 h

-- where there is room and where there is none
pub push_more : (l : List ℕ) (k b : ℕ) → length l ≡ line_room → k < line_room → take (k + 1) (set l k b) ≡ take line_room (take k l ++ (b ∷ []))
push_more l k b h g =
    set_next l k b (omega arith)
    ∙ sym (take_all line_room (take k l ++ (b ∷ [])) (omega (arith, length-append (take k l) (b ∷ []), length-take-le k l (omega arith))))

pub push_full : (l : List ℕ) (k b : ℕ) → length l ≡ line_room → line_room ≤ k → take k l ≡ take line_room (take k l ++ (b ∷ []))
push_full l k b h g = sym (take_at (take k l) (b ∷ []) line_room (ap length (take_all k l (omega arith)) ∙ h))
