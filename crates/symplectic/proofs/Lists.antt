-- Maps that agree member by member, tests of all members, and lists beside their maps.
-- Assumes nothing.
use mathlib.Core.Path.{◌≡◌, refl, ap, ap₂}
use mathlib.Core.Bool.{Bool, true, ◌&&◌, and-eq-true_iff}
use mathlib.Core.List.{List, [], ◌∷◌, map, zip, zip_with, tail, head_d}
use Prim.Native.Nat.{ℕ, ◌<◌}
use Rattle.blocks.specs.Matrices.{All}
use Rattle.std.specs.List.{list_all}

pub map_eq : {A B : Type 0} (f g : A → B) (xs : List A) → All (λ x. f x ≡ g x) xs → map f xs ≡ map g xs
map_eq f g [] a = refl
map_eq f g (x ∷ xs) a = ap₂ ◌∷◌ a.0 (map_eq f g xs a.1)

pub eq_map : {A B : Type 0} (f g : A → B) (xs : List A) → map f xs ≡ map g xs → All (λ x. f x ≡ g x) xs
unfolding head_d
eq_map f g [] e = tt
eq_map f g (x ∷ xs) e = (ap (λ l. head_d l (f x)) e, eq_map f g xs (ap tail e))

pub all_true : {A : Type 0} (f : A → Bool) (xs : List A) → list_all f xs ≡ true → All (λ x. f x ≡ true) xs
all_true f [] e = tt
all_true f (x ∷ xs) e = let k = (and-eq-true_iff (f x) (list_all f xs)).0 e in (k.0, all_true f xs k.1)

pub true_all : {A : Type 0} (f : A → Bool) (xs : List A) → All (λ x. f x ≡ true) xs → list_all f xs ≡ true
true_all f [] a = refl
true_all f (x ∷ xs) a = ap₂ ◌&&◌ a.0 (true_all f xs a.1)

-- what holds of every member for each k below m
pub All-each : {A : Type 0} (P : ℕ → A → Type 0) (m : ℕ) (xs : List A) → ((k : ℕ) → k < m → All (P k) xs) → All (λ x. (k : ℕ) → k < m → P k x) xs
All-each P m [] f = tt
All-each P m (x ∷ xs) f = (λ k l. (f k l).0, All-each P m xs (λ k l. (f k l).1))

pub zip_with_map : {A B C : Type 0} (h : B → A → C) (g : A → B) (xs : List A) → zip_with h (map g xs) xs ≡ map (λ x. h (g x) x) xs
unfolding zip_with
zip_with_map h g [] = refl
zip_with_map h g (x ∷ xs) = ap (λ l. h (g x) x ∷ l) (zip_with_map h g xs)

pub zip_map : {A B : Type 0} (g : A → B) (xs : List A) → zip (map g xs) xs ≡ map (λ x. (g x, x)) xs
unfolding zip
zip_map g xs = zip_with_map (λ a b. (a, b)) g xs

-- a list with its map behind it
pub zip_beside : {A B : Type 0} (g : A → B) (xs : List A) → zip xs (map g xs) ≡ map (λ x. (x, g x)) xs
unfolding zip zip_with
zip_beside g [] = refl
zip_beside g (x ∷ xs) = ap (λ l. (x, g x) ∷ l) (zip_beside g xs)
