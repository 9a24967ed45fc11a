-- A page as it is filled, line by line.
-- Assumes nothing.
use mathlib.Core.Path.{◌≡◌, refl, sym, ap, ap₂, ◌∙◌, subst}
use mathlib.Core.Bool.{Bool}
use mathlib.Core.List.{List, [], ◌∷◌, ◌++◌, append_assoc, append-nil, flatten}
use Prim.Native.Nat.{ℕ, suc, ◌+◌, ◌-◌, ◌≤◌, ◌<◌}
use native.Mathlib.Omega.{arith}
use native.Mathlib.Numerals.{add-one}
use lib.ListN.{length, get_or, take, drop, length-append, length-drop, drop_of_length-le, take-append-drop}
use lib.Seq.{take_all, drop-cons, drop-drop, take_at, drop_at, length-take-le}
use borrow.Author.Tests.{le-leb, lt-leb}
use Rattle.lines.specs.Bytes.{laid_bytes}
use Rattle.lines.proofs.Laid.{laid_bytes_lem}
use Rattle.printout.specs.Pages.{fitting_if, fitting, PageAnswer, page, paged, page_of}

-- ---- lines that fit

pub fitting_none : (room : ℕ) → fitting room [] ≡ []
unfolding fitting
fitting_none room = refl

pub fitting_line : (room : ℕ) (l : List ℕ) (ls : List (List ℕ)) → length l ≤ room → fitting room (l ∷ ls) ≡ l ∷ fitting (room - length l) ls
unfolding fitting
fitting_line room l ls h = ap (λ (b : Bool). fitting_if b l (fitting (room - length l) ls)) (le-leb (length l) room h)

pub fitting_full : (room : ℕ) (l : List ℕ) (ls : List (List ℕ)) → room < length l → fitting room (l ∷ ls) ≡ []
unfolding fitting
fitting_full room l ls h = ap (λ (b : Bool). fitting_if b l (fitting (room - length l) ls)) (lt-leb (length l) room h)

flatten_line : (l : List ℕ) (ls : List (List ℕ)) → flatten (l ∷ ls) ≡ l ++ flatten ls
unfolding flatten
flatten_line l ls = refl

flatten_none : flatten {A = ℕ} [] ≡ []
unfolding flatten
flatten_none = refl

-- ---- a page of the lines from `from` on, filled up to line k

module _ (ls : List (List ℕ)) (from : ℕ) (lent : List ℕ) where
  -- the lines that are still to fit, once the first bytes are in use
  abbrev pub rest : ℕ → ℕ → List (List ℕ)
  rest k used = fitting (length lent - used) (drop k ls)

  pub record Filled (k used : ℕ) (out : List ℕ) : Type 0 where
    pub begun : from ≤ k
    pub within : used ≤ length lent
    pub long : length out ≡ length lent
    pub behind : drop used out ≡ drop used lent
    pub counted : length (rest from 0) ≡ (k - from) + length (rest k used)
    pub text : flatten (rest from 0) ≡ take used out ++ flatten (rest k used)

  pub filled_none : Filled from 0 lent
  filled_none = record { begun = omega arith; within = omega arith; long = refl; behind = refl; counted = omega arith; text = refl }

  module _ (k used : ℕ) (out : List ℕ) (f : Filled k used out) where
    -- line k behind those that stand
    pub filled_more : k < length ls → (l after : List ℕ) → l ≡ get_or ls k [] → length l ≤ length out - used
        → after ≡ take used out ++ (l ++ drop (length l) (drop used out)) → Filled (k + 1) (used + length l) after
    filled_more there l after is fits e =
        record {
          begun = omega (arith, f.begun);
          within = omega (arith, f.within, f.long);
          long = ap length front ∙ omega (arith, length-append (take used out ++ l) left, front_length, length-drop (length l) (drop used out), length-drop used out, f.within, f.long);
          behind = ap (drop (used + length l)) front ∙ drop_at (take used out ++ l) left (used + length l) front_length ∙ ap (drop (length l)) f.behind ∙ drop-drop (length l) used lent;
          counted = omega (arith, f.begun, f.counted, ap length next);
          text =
              f.text ∙ ap (λ (r : List (List ℕ)). take used out ++ flatten r) next ∙ ap (λ (x : List ℕ). take used out ++ x) (flatten_line l more)
              ∙ sym (append_assoc (take used out) l (flatten more))
              ∙ ap (λ (x : List ℕ). x ++ flatten more) (sym (ap (take (used + length l)) front ∙ take_at (take used out ++ l) left (used + length l) front_length));
        }
      where
        -- what is behind line k, in the lent bytes and among the lines
        left : List ℕ
        left = drop (length l) (drop used out)

        more : List (List ℕ)
        more = rest (k + 1) (used + length l)

        front : after ≡ take used out ++ l ++ left
        front = e ∙ sym (append_assoc (take used out) l left)

        front_length : length (take used out ++ l) ≡ used + length l
        front_length = length-append (take used out) l ∙ ap (λ (n : ℕ). n + length l) (length-take-le used out (omega (arith, f.within, f.long)))

        next : rest k used ≡ l ∷ more
        next =
            let room = length lent - used in
            let less : room - length l ≡ length lent - (used + length l) = omega arith in
            ap (fitting room) (drop-cons ls k [] there ∙ ap (λ (x : List ℕ). x ∷ drop (suc k) ls) (sym is)) ∙ fitting_line room l (drop (suc k) ls) (omega (arith, f.long))
            ∙ ap (λ (x : List (List ℕ)). l ∷ x) (ap₂ fitting less (ap (λ (j : ℕ). drop j ls) (sym (add-one k))))

    -- the same, as the code lays line k into the part of the lent bytes that is left
    pub filled_laid : k < length ls → (l part : List ℕ) (size : ℕ) → l ≡ get_or ls k [] → size ≡ length l → size ≤ length out - used
        → part ≡ laid_bytes l (take (length out - used) (drop used out)) → Filled (k + 1) (used + size) (take used out ++ (part ++ drop (length out - used) (drop used out)))
    filled_laid there l part size is sized fits laid =
        subst (λ (n : ℕ). Filled (k + 1) (used + n) after) (sym sized) (filled_more there l after is (omega arith) laid_whole)
      where
        after : List ℕ
        after = take used out ++ (part ++ drop (length out - used) (drop used out))

        left : length (drop used out) ≤ length out - used
        left = omega (arith, length-drop used out)

        part_is : part ≡ l ++ drop (length l) (drop used out)
        part_is =
            laid ∙ ap (laid_bytes l) (take_all (length out - used) (drop used out) left) ∙ laid_bytes_lem l (drop used out) (omega (arith, length-drop used out))

        laid_whole : after ≡ take used out ++ (l ++ drop (length l) (drop used out))
        laid_whole = ap (λ (x : List ℕ). take used out ++ x) (ap₂ (λ (x y : List ℕ). x ++ y) part_is (drop_of_length-le (drop used out) left) ∙ append-nil (l ++ drop (length l) (drop used out)))

    -- no line more
    pub filled_whole : from < length ls → rest k used ≡ [] → page_of (drop from ls) lent ≡ record { answer = page (k - from) used; bytes = out }
    filled_whole there none =
        begun ∙ ap₂ (λ (a : PageAnswer) (b : List ℕ). record { answer = a; bytes = b }) (ap₂ page (omega (arith, f.counted, ap length none)) size)
        (ap₂ (λ (x : List ℕ) (n : ℕ). x ++ drop n lent) text size ∙ ap (λ (x : List ℕ). take used out ++ x) (sym f.behind) ∙ take-append-drop used out)
      where
        text : flatten (rest from 0) ≡ take used out
        text = f.text ∙ ap (λ (r : List (List ℕ)). take used out ++ flatten r) none ∙ ap (λ (x : List ℕ). take used out ++ x) flatten_none ∙ append-nil (take used out)

        size : length (flatten (rest from 0)) ≡ used
        size = ap length text ∙ length-take-le used out (omega (arith, f.within, f.long))

        begun : page_of (drop from ls) lent ≡ paged (rest from 0) lent
        begun =
            let d = drop-cons ls from [] there in
            let whole : length lent ≡ length lent - 0 = omega arith in
            ap (λ (x : List (List ℕ)). page_of x lent) d ∙ ap₂ (λ (n : ℕ) (x : List (List ℕ)). paged (fitting n x) lent) whole (sym d)

    pub filled_last : length ls ≤ k → rest k used ≡ []
    filled_last h = ap (fitting (length lent - used)) (drop_of_length-le ls h) ∙ fitting_none (length lent - used)

    pub filled_full : k < length ls → (l : List ℕ) → l ≡ get_or ls k [] → length out - used < length l → rest k used ≡ []
    filled_full there l is h =
        ap (fitting (length lent - used)) (drop-cons ls k [] there) ∙ fitting_full (length lent - used) (get_or ls k []) (drop (suc k) ls) (omega (arith, ap length is, f.long))
