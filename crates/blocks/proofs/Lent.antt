-- Words lent for work: the rows of a part of them, and of the whole once a part comes back.
-- Assumes nothing.
use mathlib.Core.Path.{◌≡◌, refl, sym, ap, ap₂, ◌∙◌}
use mathlib.Core.List.{List, [], ◌∷◌, ◌++◌, append-nil}
use Prim.Native.Nat.{ℕ, zero, suc, ◌+◌, ◌-◌, ◌≤◌, min}
use native.Mathlib.Nat.{le_refl}
use native.Mathlib.Omega.{arith}
use lib.ListN.{length, take, drop, length-drop, length-take, drop_of_length-le}
use lib.Seq.{take_all}
use Rattle.blocks.specs.Words.{rows_of_words, rows_in_lem, words_for}
use Rattle.blocks.proofs.Values.{take_counted}

-- ---- parts: `to` is where row k begins

take_within : (k : ℕ) (l : List ℕ) → take (min k (length l)) l ≡ take k l
take_within k l = ap (λ (n : ℕ). take n l) (sym (length-take k l)) ∙ take_counted k l

drop_counted : (k : ℕ) (l : List ℕ) → drop (length (take k l)) l ≡ drop k l
drop_counted zero l = refl
drop_counted (suc k) [] = refl
drop_counted (suc k) (x ∷ l) = drop_counted k l

drop_within : (k : ℕ) (l : List ℕ) → drop (min k (length l)) l ≡ drop k l
drop_within k l = ap (λ (n : ℕ). drop n l) (sym (length-take k l)) ∙ drop_counted k l

module _ (k to : ℕ) (ws : List ℕ) (at : to ≡ min (words_for k) (length ws)) where
  pub lent_within : to ≤ length ws
  lent_within = omega arith

  pub lent_front : rows_in_lem (take to ws) ≡ take k (rows_in_lem ws)
  unfolding rows_of_words words_for
  lent_front = ap (λ (n : ℕ). take n ws) at ∙ take_within k ws

  module _ (n : ℕ) (whole : n ≡ length ws - to) where
    pub lent_rest : rows_in_lem (take n (drop to ws)) ≡ drop k (rows_in_lem ws)
    unfolding rows_of_words words_for
    lent_rest = take_all n (drop to ws) (omega (arith, length-drop to ws)) ∙ ap (λ (m : ℕ). drop m ws) at ∙ drop_within k ws

    -- what came back from the rest
    pub lent_back : (ys : List ℕ) → rows_in_lem (take to ws ++ (ys ++ drop n (drop to ws))) ≡ take k (rows_in_lem ws) ++ rows_in_lem ys
    unfolding rows_of_words words_for
    lent_back ys =
        ap₂ (λ (x y : List ℕ). x ++ (ys ++ y)) (ap (λ (m : ℕ). take m ws) at ∙ take_within k ws) (drop_of_length-le (drop to ws) {i = n} (omega (arith, length-drop to ws)))
        ∙ ap (λ (y : List ℕ). take k ws ++ y) (append-nil ys)

-- k rows from row i on
pub lent_part : (i k from to : ℕ) (ws : List ℕ) → from ≡ min (words_for i) (length ws) → to ≡ min (words_for (i + k)) (length ws)
    → rows_in_lem (take (to - from) (drop from ws)) ≡ take k (drop i (rows_in_lem ws))
unfolding rows_of_words words_for
lent_part i k from to ws f t =
    let e : to - from ≡ min k (length (drop from ws)) = omega (arith, length-drop from ws) in
    ap (λ (n : ℕ). take n (drop from ws)) e ∙ take_within k (drop from ws) ∙ ap (take k) (ap (λ (n : ℕ). drop n ws) f ∙ drop_within i ws)

-- a part ends where it begins, or behind
pub words_mono : (i j : ℕ) → i ≤ j → words_for i ≤ words_for j
unfolding words_for
words_mono i j h = h

-- no more rows than words
pub lent_few : (ws : List ℕ) → length (rows_in_lem ws) ≤ length ws
unfolding rows_of_words
lent_few ws = le_refl (length ws)

-- as many rows in as many words
pub lent_same : (a b : List ℕ) → length a ≡ length b → length (rows_in_lem a) ≡ length (rows_in_lem b)
unfolding rows_of_words
lent_same a b e = e
