-- Every member of a list: from member to member, through maps, through joined lists and by an index.
-- Assumes nothing.
use mathlib.Core.List.{List, [], ◌∷◌, ◌++◌, map}
use Prim.Native.Nat.{ℕ, zero, suc, ◌<◌}
use native.Mathlib.Nat.{le_of_suc-le-suc, not-suc-le-zero}
use native.Mathlib.Omega.{arith}
use lib.ListN.{length, get_or}
use Rattle.blocks.specs.Matrices.{All}

pub All-map : {A : Type 0} {P Q : A → Type 0} → ((x : A) → P x → Q x) → (xs : List A) → All P xs → All Q xs
All-map f [] h = tt
All-map f (x ∷ xs) h = (f x h.0, All-map f xs h.1)

pub All-map₂ : {A : Type 0} {P Q R : A → Type 0} → ((x : A) → P x → Q x → R x) → (xs : List A) → All P xs → All Q xs → All R xs
All-map₂ f [] h k = tt
All-map₂ f (x ∷ xs) h k = (f x h.0 k.0, All-map₂ f xs h.1 k.1)

pub All-any : {A : Type 0} {P : A → Type 0} → ((x : A) → P x) → (xs : List A) → All P xs
All-any f [] = tt
All-any f (x ∷ xs) = (f x, All-any f xs)

-- of a map's results, and of what they come from
pub All-of_map : {A B : Type 0} (f : A → B) (P : B → Type 0) (xs : List A) → All P (map f xs) → All (λ x. P (f x)) xs
All-of_map f P [] h = tt
All-of_map f P (x ∷ xs) h = (h.0, All-of_map f P xs h.1)

pub All-to_map : {A B : Type 0} (f : A → B) (P : B → Type 0) (xs : List A) → All (λ x. P (f x)) xs → All P (map f xs)
All-to_map f P [] h = tt
All-to_map f P (x ∷ xs) h = (h.0, All-to_map f P xs h.1)

module _ {A : Type 0} (P : A → Type 0) where
  pub All-append : (xs ys : List A) → All P xs → All P ys → All P (xs ++ ys)
  All-append [] ys h k = k
  All-append (x ∷ xs) ys h k = (h.0, All-append xs ys h.1 k)

  pub All-left : (xs ys : List A) → All P (xs ++ ys) → All P xs
  All-left [] ys h = tt
  All-left (x ∷ xs) ys h = (h.0, All-left xs ys h.1)

  pub All-right : (xs ys : List A) → All P (xs ++ ys) → All P ys
  All-right [] ys h = h
  All-right (x ∷ xs) ys h = All-right xs ys h.1

pub All-at : {A : Type 0} (P : A → Type 0) (xs : List A) → All P xs → (i : ℕ) (d : A) → i < length xs → P (get_or xs i d)
All-at P [] a i d l = absurd (not-suc-le-zero l)
All-at P (x ∷ xs) a zero d l = a.0
All-at P (x ∷ xs) a (suc i) d l = All-at P xs a.1 i d (le_of_suc-le-suc l)

-- by any index, where it holds of the default
pub All-get_or : {A : Type 0} (P : A → Type 0) (xs : List A) → All P xs → (d : A) → P d → (i : ℕ) → P (get_or xs i d)
All-get_or P [] a d h i = h
All-get_or P (x ∷ xs) a d h zero = a.0
All-get_or P (x ∷ xs) a d h (suc i) = All-get_or P xs a.1 d h i

-- from what holds at each index
pub All-by_index : {A : Type 0} (P : A → Type 0) (xs : List A) (d : A) → ((i : ℕ) → i < length xs → P (get_or xs i d)) → All P xs
All-by_index P [] d h = tt
All-by_index P (x ∷ xs) d h = (h 0 (omega arith), All-by_index P xs d (λ i l. h (suc i) (omega arith)))
