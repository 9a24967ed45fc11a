-- Every code of a symplectic action is in the book: four loops over the rows, each with the pairings known so far, give the codes of the book
-- in order, and a loop misses nothing.
-- Assumes nothing.
use mathlib.Core.Path.{◌≡◌, refl, sym, ap, ap₂, ◌∙◌, subst}
use mathlib.Core.Bool.{Bool, true, false, not, ◌&&◌, and-eq-true_iff}
use mathlib.Core.List.{List, [], ◌∷◌, ◌++◌, map}
use mathlib.Core.Logic.{inl, inr, ⊎_elim}
use Prim.Native.Nat.{ℕ, zero, suc, ◌+◌, ◌^◌, ◌≤◌, ◌<◌}
use native.Mathlib.Omega.{arith}
use native.Mathlib.Nat.{eq-or-lt_of_le}
use lib.ListN.{length, get_or}
use Rattle.blocks.specs.Matrices.{All}
use Rattle.blocks.proofs.Products.{times_unit}
use Rattle.symplectic.specs.Turns.{pairing, symplectic}
use Rattle.symplectic.proofs.Layers.{keeps_times}
use Rattle.two_qubits.specs.declared.Entry.{Entry}
use Rattle.two_qubits.specs.Codes.{code_of}
use Rattle.two_qubits.specs.Book.{book}
use Rattle.two_qubits.specs.inner.Rules.{taken, loop, from_row0, from_row1, from_row2, symplectic_codes}
use Rattle.two_qubits.proofs.Lookups.{In}
use Rattle.two_qubits.proofs.Codes.{four_rows}
use Rattle.two_qubits.proofs.Computed.{same_codes, basis_pairs}

-- ---- a loop misses nothing

in_left : (z : ℕ) (xs ys : List ℕ) → In z xs → In z (xs ++ ys)
in_left z [] ys h = absurd h
in_left z (x ∷ xs) ys h = ⊎_elim (λ e. inl e) (λ k. inr (in_left z xs ys k)) h

in_right : (z : ℕ) (xs ys : List ℕ) → In z ys → In z (xs ++ ys)
in_right z [] ys h = h
in_right z (x ∷ xs) ys h = inr (in_right z xs ys h)

in_loop : (test : ℕ → Bool) (go : ℕ → List ℕ) (k x y z : ℕ) → x ≤ y → y < x + k → test y ≡ true → In z (go y) → In z (loop test go k x)
unfolding loop
in_loop test go zero x y z l u t h = absurd (omega arith)
in_loop test go (suc k) x y z l u t h = ⊎_elim (λ e. here e) (λ m. later (test x) (in_loop test go k (suc x) y z m (omega arith) t h)) (eq-or-lt_of_le l)
  where
    later : (b : Bool) → In z (loop test go k (suc x)) → In z (taken b go x (loop test go k (suc x)))
    later true m = in_right z (go x) (loop test go k (suc x)) m
    later false m = m

    here : x ≡ y → In z (taken (test x) go x (loop test go k (suc x)))
    here e =
        subst (λ b. In z (taken b go x (loop test go k (suc x)))) (sym (ap test e ∙ t))
        (in_left z (go x) (loop test go k (suc x)) (subst (λ w. In z (go w)) (sym e) h))

-- ---- of four rows

both : (a b : Bool) → a ≡ true → b ≡ true → a && b ≡ true
both a b e f = (and-eq-true_iff a b).1 (e, f)

module _ (a b c d : ℕ) (la : a < 16) (lb : b < 16) (lc : c < 16) (ld : d < 16) (symp : symplectic 2 (a ∷ b ∷ c ∷ d ∷ []) ≡ true) where
  abbrev F : List ℕ
  F = a ∷ b ∷ c ∷ d ∷ []

  -- rows i and j pair as their basis vectors do
  pair_is : (i j : ℕ) → pairing 2 (get_or F i 0) (get_or F j 0) ≡ pairing 2 (2 ^ i) (2 ^ j)
  pair_is i j = sym (ap₂ (pairing 2) (times_unit i F) (times_unit j F)) ∙ keeps_times 2 F refl symp (2 ^ i) (2 ^ j)

  pub in_codes : In (code_of (a ∷ b ∷ c ∷ d ∷ [])) symplectic_codes
  unfolding symplectic_codes code_of
  in_codes =
      in_loop (λ d. true) from_row2 16 0 d z (omega arith) (omega arith) refl
      (in_loop (λ c. not (pairing 2 c d)) (λ c. from_row1 c d) 16 0 c z (omega arith) (omega arith) (ap not (pair_is 2 3 ∙ basis_pairs.5))
      (in_loop (λ b. not (pairing 2 b c) && pairing 2 b d) (λ b. from_row0 b c d) 16 0 b z (omega arith) (omega arith)
      (both (not (pairing 2 b c)) (pairing 2 b d) (ap not (pair_is 1 2 ∙ basis_pairs.3)) (pair_is 1 3 ∙ basis_pairs.4))
      (in_loop (λ a. not (pairing 2 a b) && (pairing 2 a c && not (pairing 2 a d))) (λ a. code_of (a ∷ b ∷ c ∷ d ∷ []) ∷ []) 16 0 a z (omega arith) (omega arith)
      (both (not (pairing 2 a b)) (pairing 2 a c && not (pairing 2 a d)) (ap not (pair_is 0 1 ∙ basis_pairs.0))
      (both (pairing 2 a c) (not (pairing 2 a d)) (pair_is 0 2 ∙ basis_pairs.1) (ap not (pair_is 0 3 ∙ basis_pairs.2)))) (inl refl))))
    where
      z : ℕ
      z = code_of (a ∷ b ∷ c ∷ d ∷ [])

-- ---- of any rows

pub in_book : (F : List ℕ) → length F ≡ 4 → All (λ f. f < 16) F → symplectic 2 F ≡ true → In (code_of F) (map (λ (e : Entry). e.code) book)
in_book =
    four_rows (λ F. symplectic 2 F ≡ true → In (code_of F) (map (λ (e : Entry). e.code) book))
    (λ a b c d la lb lc ld symp. subst (In (code_of (a ∷ b ∷ c ∷ d ∷ []))) same_codes (in_codes a b c d la lb lc ld symp))
