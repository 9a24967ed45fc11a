-- What `pick` picks of any space with a form: a member of the span with form one with itself; where nothing is picked the form is alternating on the span.
-- Assumes nothing.
use mathlib.Core.Path.{◌≡◌, refl, sym, ap, ap₂, ◌∙◌}
use mathlib.Core.Bool.{Bool, true, false}
use mathlib.Core.List.{List, [], ◌∷◌}
use mathlib.Core.Option.{Option, none, some}
use Rattle.binar.specs.Bits.{◌⊻◌}
use Rattle.binar.proofs.Sums.{bxor_comm}
use Rattle.blocks.specs.Matrices.{All}
use Rattle.linear.specs.VectorSpace.{VectorSpace, scale}
use Rattle.linear.specs.Span.{InSpan}
use Rattle.linear.specs.Maps.{Additive, Form}
use Rattle.linear.proofs.Sums.{add-zero, cancel_right, swap4, scale_o}
use Rattle.linear.proofs.Instances.{𝔹}
use Rattle.linear.proofs.Exchange.{span_add, span_head, span_skip}
use Rattle.linear.proofs.Maps.{map_o, map_scale, span_kernel}
use Rattle.symplectic.specs.Picks.{or_if, or_else, first_one_lem, uneven_with_lem, first_uneven_lem, pick}

module _ (S : VectorSpace) (F : Form S) where
  open S use {Car, add as ◌⊕◌, o}

  infixl 60 ◌⊕◌
  abbrev pub E : Car → Car → Bool
  E = F.at

  -- the form is alternating on the span
  abbrev pub Even : List Car → Type 0
  Even bs = (x : Car) → InSpan S bs x → E x x ≡ false

  abbrev pub Picked : List Car → Type 0 → Option Car → Type 0
  Picked bs otherwise none = otherwise
  Picked bs otherwise (some p) = (E p p ≡ true) × InSpan S bs p

  -- ---- the first member with form one with itself

  abbrev pub Zeros : List Car → Type 0
  Zeros bs = All (λ b. E b b ≡ false) bs

  more : (b : Car) (bs : List Car) (A B : Type 0) (out : Option Car) → (A → B) → Picked bs A out → Picked (b ∷ bs) B out
  more b bs A B none k h = k h
  more b bs A B (some p) k h = (h.0, span_skip S b bs p h.1)

  pub one_picked : (bs : List Car) → Picked bs (Zeros bs) (first_one_lem ◌⊕◌ E bs)
  unfolding first_one_lem
  one_picked [] = tt
  one_picked (b ∷ bs) = go (E b b) refl (one_picked bs)
    where
      go : (c : Bool) → E b b ≡ c → Picked bs (Zeros bs) (first_one_lem ◌⊕◌ E bs) → Picked (b ∷ bs) (Zeros (b ∷ bs)) (or_if c b (first_one_lem ◌⊕◌ E bs))
      go true e h = (e, span_head S b bs)
      go false e h = more b bs (Zeros bs) (Zeros (b ∷ bs)) (first_one_lem ◌⊕◌ E bs) (λ z. (e, z)) h

  -- ---- the first two members whose forms differ

  pub square : (u v : Car) → E u u ≡ false → E v v ≡ false → E (u ⊕ v) (u ⊕ v) ≡ E u v ⊻ E v u
  square u v e f =
      F.right (u ⊕ v) u v ∙ ap₂ ◌⊻◌ (F.left u u v) (F.left v u v)
      ∙ ap₂ (λ s t. (s ⊻ E v u) ⊻ (E u v ⊻ t)) e f ∙ bxor_comm (E v u) (E u v ⊻ false) ∙ ap (λ t. t ⊻ E v u) (add-zero 𝔹 (E u v))

  abbrev pub Level : Car → List Car → Type 0
  Level b ys = All (λ y. E b y ⊻ E y b ≡ false) ys

  uneven_picked : (b : Car) (ys : List Car) → E b b ≡ false → Zeros ys → Picked (b ∷ ys) (Level b ys) (uneven_with_lem ◌⊕◌ E b ys)
  unfolding uneven_with_lem
  uneven_picked b [] e z = tt
  uneven_picked b (y ∷ ys) e z = go (E b y ⊻ E y b) refl (uneven_picked b ys e z.1)
    where
      over : (out : Option Car) → E b y ⊻ E y b ≡ false → Picked (b ∷ ys) (Level b ys) out → Picked (b ∷ y ∷ ys) (Level b (y ∷ ys)) out
      over none f h = (f, h)
      over (some p) f h = (h.0, (h.1.0, span_skip S y ys (p ⊕ scale S h.1.0 b) h.1.1))

      go : (c : Bool) → E b y ⊻ E y b ≡ c → Picked (b ∷ ys) (Level b ys) (uneven_with_lem ◌⊕◌ E b ys)
          → Picked (b ∷ y ∷ ys) (Level b (y ∷ ys)) (or_if c (b ⊕ y) (uneven_with_lem ◌⊕◌ E b ys))
      go true f h = (
        square b y e z.0 ∙ f,
        span_add S (b ∷ y ∷ ys) b y (span_head S b (y ∷ ys)) (span_skip S b (y ∷ ys) y (span_head S y ys)),
      )
      go false f h = over (uneven_with_lem ◌⊕◌ E b ys) f h

  abbrev pub Levels : List Car → Type 0
  Levels [] = Unit {0}
  Levels (b ∷ bs) = Level b bs × Levels bs

  pub two_picked : (bs : List Car) → Zeros bs → Picked bs (Levels bs) (first_uneven_lem ◌⊕◌ E bs)
  unfolding first_uneven_lem
  two_picked [] z = tt
  two_picked (b ∷ bs) z = go (uneven_with_lem ◌⊕◌ E b bs) (uneven_picked b bs z.0 z.1) (two_picked bs z.1)
    where
      go : (out : Option Car) → Picked (b ∷ bs) (Level b bs) out → Picked bs (Levels bs) (first_uneven_lem ◌⊕◌ E bs)
          → Picked (b ∷ bs) (Levels (b ∷ bs)) (or_else out (first_uneven_lem ◌⊕◌ E bs))
      go none h ih = more b bs (Levels bs) (Levels (b ∷ bs)) (first_uneven_lem ◌⊕◌ E bs) (λ l. (h, l)) ih
      go (some p) h ih = h

  -- ---- nothing picked: the form is alternating

  swaps_add : (b : Car) → Additive S 𝔹 (λ y. E b y ⊻ E y b)
  swaps_add b x y = ap₂ ◌⊻◌ (F.right b x y) (F.left b x y) ∙ swap4 𝔹 (E b x) (E b y) (E x b) (E y b)

  diag_scale : (c : Bool) (b : Car) → E b b ≡ false → E (scale S c b) (scale S c b) ≡ false
  diag_scale true b e = e
  diag_scale false b e = map_o S 𝔹 (E o) (F.right o)

  pub even_of : (bs : List Car) → Zeros bs → Levels bs → Even bs
  even_of [] z l x h = ap (E x) h ∙ map_o S 𝔹 (E x) (F.right x)
  even_of (b ∷ bs) z l x (c, h) =
      ap (λ t. E t t) (sym (cancel_right S x (scale S c b)))
      ∙ square u (scale S c b) (even_of bs z.1 l.1 u h) (diag_scale c b z.0)
      ∙ map_scale S 𝔹 (λ y. E u y ⊻ E y u) (swaps_add u) c b
      ∙ ap (scale 𝔹 c) (bxor_comm (E u b) (E b u) ∙ span_kernel S 𝔹 (λ y. E b y ⊻ E y b) (swaps_add b) bs l.0 u h) ∙ scale_o 𝔹 c
    where
      u : Car
      u = x ⊕ scale S c b

  pub picked : (bs : List Car) → Picked bs (Even bs) (pick ◌⊕◌ E bs)
  unfolding pick
  picked bs = go (first_one_lem ◌⊕◌ E bs) (one_picked bs)
    where
      also : (out : Option Car) → Zeros bs → Picked bs (Levels bs) out → Picked bs (Even bs) out
      also none z l = even_of bs z l
      also (some p) z l = l

      go : (out : Option Car) → Picked bs (Zeros bs) out → Picked bs (Even bs) (or_else out (first_uneven_lem ◌⊕◌ E bs))
      go none z = also (first_uneven_lem ◌⊕◌ E bs) z (two_picked bs z)
      go (some p) h = h
