-- The form of a matrix: additive in each argument; and that of a product with a transposed matrix.
-- Assumes nothing.
use mathlib.Core.Path.{◌≡◌, refl, sym, ap, ap₂, ◌∙◌}
use mathlib.Core.List.{List, [], ◌∷◌, map}
use Prim.Native.Nat.{ℕ, ◌*◌, ◌+◌, ◌<◌}
use lib.ListN.{length, get_or, length-map}
use Rattle.binar.specs.Bits.{◌⊻◌, ◌⊕◌, digit, dot}
use Rattle.binar.proofs.Dots.{dot_sum, sum_dot}
use Rattle.blocks.specs.Matrices.{times, dots}
use Rattle.blocks.proofs.Products.{times_sum, dots_nil, dots_cons, dot_times}
use Rattle.blocks.proofs.Values.{map_get}
use Rattle.linear.specs.Maps.{Form}
use Rattle.linear.proofs.Instances.{𝕎}
use Rattle.residue.specs.Residue.{times_transposed, form}

pub form_is : (E : List ℕ) (p q : ℕ) → form E p q ≡ dot (times p E) q
unfolding form
form_is E p q = refl

pub form_left : (E : List ℕ) (q a b : ℕ) → form E (a ⊕ b) q ≡ form E a q ⊻ form E b q
unfolding form
form_left E q a b = ap (λ t. dot t q) (times_sum E a b) ∙ sum_dot (times a E) (times b E) q

pub form_right : (E : List ℕ) (p a b : ℕ) → form E p (a ⊕ b) ≡ form E p a ⊻ form E p b
unfolding form
form_right E p a b = dot_sum (times p E) a b

abbrev pub form_of : List ℕ → Form 𝕎
form_of E = record { at = form E; left = form_left E; right = form_right E }

dots_transposed : (B R : List ℕ) (q : ℕ) → dots (map (dots R) B) q ≡ dots B (times q R)
dots_transposed [] R q = dots_nil q ∙ sym (dots_nil (times q R))
dots_transposed (v ∷ B) R q =
    dots_cons (dots R v) (map (dots R) B) q ∙ ap₂ (λ s t. s * 2 + digit t) (dots_transposed B R q) (sym (dot_times R q v)) ∙ sym (dots_cons v B (times q R))

-- p times B times R transposed, with q
pub form_transposed : (B R : List ℕ) (p q : ℕ) → form (times_transposed B R) p q ≡ dot (times p B) (times q R)
unfolding form times_transposed
form_transposed B R p q = dot_times (map (dots R) B) p q ∙ ap (dot p) (dots_transposed B R q) ∙ sym (dot_times B p (times q R))

pub transposed_length : (B R : List ℕ) → length (times_transposed B R) ≡ length B
unfolding times_transposed
transposed_length B R = length-map B (dots R)

pub transposed_at : (B R : List ℕ) (i : ℕ) → i < length B → get_or (times_transposed B R) i 0 ≡ dots R (get_or B i 0)
unfolding times_transposed
transposed_at B R i h = map_get (dots R) B i 0 0 h
