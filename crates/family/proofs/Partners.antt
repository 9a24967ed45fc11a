-- A first member and its first partner in an alternating space, and the rest that is cleared of both: it has form zero with them, is
-- independent, and no vector of it but zero has form zero with all.
-- Assumes nothing.
use mathlib.Core.Path.{◌≡◌, refl, sym, ap, ap₂, ◌∙◌}
use mathlib.Core.Bool.{Bool, true, false}
use mathlib.Core.List.{List, [], ◌∷◌, map}
use mathlib.Core.Option.{Option, none, some}
use Prim.Native.Nat.{ℕ, suc}
use lib.ListN.{length, length-map}
use Rattle.binar.specs.Bits.{◌⊻◌, select, ◌⊕◌}
use Rattle.binar.proofs.Sums.{bxor_self}
use Rattle.blocks.specs.Matrices.{All}
use Rattle.blocks.proofs.All.{All-map, All-any, All-of_map, All-to_map}
use Rattle.linear.specs.VectorSpace.{scale}
use Rattle.linear.specs.Span.{InSpan, Indep}
use Rattle.linear.specs.Maps.{Form}
use Rattle.linear.proofs.Sums.{add-zero, eq_of_sum, scale_o}
use Rattle.linear.proofs.Exchange.{span_add, span_scale, span_head, span_skip, span_members, span_trans, steinitz_indep}
use Rattle.linear.proofs.Instances.{𝔹, 𝕎, scale_true}
use Rattle.linear.proofs.Maps.{map_at, span_kernel}
use Rattle.symplectic.specs.Picks.{or_if, map_some}
use Rattle.symplectic.proofs.Picked.{Even, square}
use Rattle.family.specs.Family.{Split, kept_before, split_at, cleared_of_pair}
use Rattle.family.proofs.Whole.{Whole}

module _ (F : Form 𝕎) where
  -- on an alternating space the form is symmetric
  pub symmetric : (bs : List ℕ) → Even 𝕎 F bs → (x y : ℕ) → InSpan 𝕎 bs x → InSpan 𝕎 bs y → F.at x y ≡ F.at y x
  symmetric bs a x y h k =
      eq_of_sum 𝔹 (F.at x y) (F.at y x) (sym (square 𝕎 F x y (a x h) (a y k)) ∙ a (x ⊕ y) (span_add 𝕎 bs x y h k))

  -- ---- the partner: what holds of all members holds of it and of the others, and back

  abbrev pub Parted : ℕ → (ℕ → Type 0) → List ℕ → Option Split → Type 0
  Parted f P bs none = All (λ y. F.at f y ≡ false) bs
  Parted f P bs (some t) =
      (F.at f t.partner ≡ true) × (All P bs → P t.partner × All P t.others) × (P t.partner → All P t.others → All P bs)
      × (length bs ≡ suc (length t.others))

  pub parted : (f : ℕ) (P : ℕ → Type 0) (bs : List ℕ) → Parted f P bs (split_at F.at f bs)
  unfolding split_at
  parted f P [] = tt
  parted f P (y ∷ ys) = go (F.at f y) refl (parted f P ys)
    where
      over : (out : Option Split) → F.at f y ≡ false → Parted f P ys out → Parted f P (y ∷ ys) (map_some (kept_before y) out)
      over none e h = (e, h)
      over (some t) e h = (
        h.0,
        λ a. let k = h.1 a.1 in (k.0, (a.0, k.1)),
        λ p a. (a.0, h.2 p a.1),
        ap suc h.3,
      )

      go : (b : Bool) → F.at f y ≡ b → Parted f P ys (split_at F.at f ys)
          → Parted f P (y ∷ ys) (or_if b (record { partner = y; others = ys }) (map_some (kept_before y) (split_at F.at f ys)))
      go true e h = (e, λ a. a, λ p a. (p, a), refl)
      go false e h = over (split_at F.at f ys) e h

  -- ---- the rest beside a pair

  module _ (f : ℕ) (bs : List ℕ) (t : Split) (r : (P : ℕ → Type 0) → Parted f P bs (some t))
      (a : Even 𝕎 F (f ∷ bs)) where
    abbrev s : ℕ
    s = t.partner

    abbrev os : List ℕ
    os = t.others

    abbrev clear : ℕ → ℕ
    clear = cleared_of_pair F.at f s

    abbrev rest : List ℕ
    rest = map clear os

    first_partner : F.at f s ≡ true
    first_partner = (r (λ _. Unit {0})).0

    pub rest_less : length bs ≡ suc (length (map (cleared_of_pair F.at f t.partner) t.others))
    rest_less = (r (λ _. Unit {0})).3 ∙ ap suc (sym (length-map os clear))

    members : All (InSpan 𝕎 (f ∷ bs)) bs
    members = All-map (λ y h. span_skip 𝕎 f bs y h) bs (span_members 𝕎 bs)

    pub first_in : InSpan 𝕎 (f ∷ bs) f
    first_in = span_head 𝕎 f bs

    pub partner_in : InSpan 𝕎 (f ∷ bs) t.partner
    partner_in = ((r (InSpan 𝕎 (f ∷ bs))).1 members).0

    pub partner_first : F.at t.partner f ≡ true
    partner_first = symmetric (f ∷ bs) a s f partner_in first_in ∙ first_partner

    at_cleared : (x y : ℕ) → F.at x (clear y) ≡ (F.at x y ⊻ scale 𝔹 (F.at s y) (F.at x f)) ⊻ scale 𝔹 (F.at f y) (F.at x s)
    at_cleared x y =
        map_at 𝕎 𝔹 (F.at x) (F.right x) (y ⊕ select 0 (F.at s y) f) (F.at f y) s
        ∙ ap (λ u. u ⊻ scale 𝔹 (F.at f y) (F.at x s)) (map_at 𝕎 𝔹 (F.at x) (F.right x) y (F.at s y) f)

    first_cleared : (y : ℕ) → F.at f (clear y) ≡ false
    first_cleared y =
        at_cleared f y ∙ ap₂ (λ p q. (F.at f y ⊻ scale 𝔹 (F.at s y) p) ⊻ scale 𝔹 (F.at f y) q) (a f first_in) first_partner
        ∙ ap₂ (λ p q. (F.at f y ⊻ p) ⊻ q) (scale_o 𝔹 (F.at s y)) (scale_true (F.at f y))
        ∙ ap (λ p. p ⊻ F.at f y) (add-zero 𝔹 (F.at f y)) ∙ bxor_self (F.at f y)

    partner_cleared : (y : ℕ) → F.at s (clear y) ≡ false
    partner_cleared y =
        at_cleared s y ∙ ap₂ (λ p q. (F.at s y ⊻ scale 𝔹 (F.at s y) p) ⊻ scale 𝔹 (F.at f y) q) partner_first (a s partner_in)
        ∙ ap₂ (λ p q. (F.at s y ⊻ p) ⊻ q) (scale_true (F.at s y)) (scale_o 𝔹 (F.at f y))
        ∙ add-zero 𝔹 (F.at s y ⊻ F.at s y) ∙ bxor_self (F.at s y)

    cleared_in : (y : ℕ) → InSpan 𝕎 (f ∷ bs) y → InSpan 𝕎 (f ∷ bs) (clear y)
    cleared_in y h =
        span_add 𝕎 (f ∷ bs) (y ⊕ select 0 (F.at s y) f) (select 0 (F.at f y) s)
        (span_add 𝕎 (f ∷ bs) y (select 0 (F.at s y) f) h (span_scale 𝕎 (f ∷ bs) (F.at s y) f first_in)) (span_scale 𝕎 (f ∷ bs) (F.at f y) s partner_in)

    -- f, s and the rest span the space, and are as many
    all_in : All (InSpan 𝕎 (f ∷ s ∷ rest)) (f ∷ bs)
    all_in = (
      span_head 𝕎 f (s ∷ rest),
      (r (InSpan 𝕎 (f ∷ s ∷ rest))).2 (span_skip 𝕎 f (s ∷ rest) s (span_head 𝕎 s rest))
          (All-map (λ y h. (F.at s y, (F.at f y, h))) os (All-of_map clear (InSpan 𝕎 rest) os (span_members 𝕎 rest))),
    )

    pub rest_indep : Indep 𝕎 (f ∷ bs) → Indep 𝕎 (map (cleared_of_pair F.at f t.partner) t.others)
    rest_indep i = (steinitz_indep 𝕎 (f ∷ s ∷ rest) (f ∷ bs) i all_in (ap suc rest_less)).1.1

    pub rest_in : (x : ℕ) → InSpan 𝕎 (map (cleared_of_pair F.at f t.partner) t.others) x → InSpan 𝕎 (f ∷ bs) x
    rest_in x h = span_trans 𝕎 rest (f ∷ bs) x (All-to_map clear (InSpan 𝕎 (f ∷ bs)) os (All-map cleared_in os ((r (InSpan 𝕎 (f ∷ bs))).1 members).1)) h

    pub first_zero : (x : ℕ) → InSpan 𝕎 (map (cleared_of_pair F.at f t.partner) t.others) x → F.at f x ≡ false
    first_zero x h = span_kernel 𝕎 𝔹 (F.at f) (F.right f) rest (All-to_map clear (λ y. F.at f y ≡ false) os (All-any first_cleared os)) x h

    pub partner_zero : (x : ℕ) → InSpan 𝕎 (map (cleared_of_pair F.at f t.partner) t.others) x → F.at t.partner x ≡ false
    partner_zero x h = span_kernel 𝕎 𝔹 (F.at s) (F.right s) rest (All-to_map clear (λ y. F.at s y ≡ false) os (All-any partner_cleared os)) x h

    pub rest_whole : Whole F (f ∷ bs) → Whole F (map (cleared_of_pair F.at f t.partner) t.others)
    rest_whole w x h k =
        w x (rest_in x h)
        (λ y m. span_kernel 𝕎 𝔹 (F.at x) (F.right x) (f ∷ s ∷ rest)
        (symmetric (f ∷ bs) a x f (rest_in x h) first_in ∙ first_zero x h, (symmetric (f ∷ bs) a x s (rest_in x h) partner_in ∙ partner_zero x h, All-map (λ z l. k z l) rest (span_members 𝕎 rest)))
        y (span_trans 𝕎 (f ∷ bs) (f ∷ s ∷ rest) y all_in m))
