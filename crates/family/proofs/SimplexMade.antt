-- The simplex of an alternating space on which no vector but zero has form zero with all: it is made, in the space, and each of its
-- vectors has form one with every later one.
-- Assumes nothing.
use mathlib.Core.Path.{◌≡◌, refl, ap₂, ◌∙◌}
use mathlib.Core.Bool.{true, false}
use mathlib.Core.List.{List, [], ◌∷◌, map}
use mathlib.Core.Option.{Option, none, some}
use Prim.Native.Nat.{ℕ, zero, suc, ◌≤◌, ◌<◌}
use native.Mathlib.Omega.{arith}
use lib.ListN.{length}
use Rattle.binar.specs.Bits.{◌⊻◌, ◌⊕◌}
use Rattle.blocks.specs.Matrices.{All}
use Rattle.blocks.proofs.All.{All-map, All-map₂, All-to_map}
use Rattle.linear.specs.Span.{InSpan, Indep}
use Rattle.linear.specs.Maps.{Form}
use Rattle.linear.proofs.Exchange.{span_zero, span_head, span_add}
use Rattle.linear.proofs.Instances.{𝔹, 𝕎}
use Rattle.linear.proofs.Maps.{span_kernel}
use Rattle.symplectic.specs.Picks.{map_some}
use Rattle.symplectic.proofs.Picked.{Even}
use Rattle.family.specs.Family.{Split, split_at, cleared_of_pair, extended, with_partner, from_first, symplectic_simplex_lem}
use Rattle.family.proofs.Whole.{Whole}
use Rattle.family.proofs.Partners.{symmetric, Parted, parted, rest_less, first_in, partner_in, partner_first, rest_indep, rest_in, first_zero, partner_zero, rest_whole}

module _ (F : Form 𝕎) where
  abbrev pub Ones : List ℕ → Type 0
  Ones [] = Unit {0}
  Ones (v ∷ vs) = All (λ w. F.at v w ≡ true) vs × Ones vs

  abbrev pub Simplex : List ℕ → Option (List ℕ) → Type 0
  Simplex bs none = ⊥
  Simplex bs (some vs) = All (InSpan 𝕎 bs) vs × Ones vs

  -- ---- a pair before the simplex of the rest

  module _ (f : ℕ) (bs : List ℕ) (t : Split) (r : (P : ℕ → Type 0) → Parted F f P bs (some t))
      (a : Even 𝕎 F (f ∷ bs)) where
    abbrev s : ℕ
    s = t.partner

    abbrev rest : List ℕ
    rest = map (cleared_of_pair F.at f s) t.others

    abbrev in_f : InSpan 𝕎 (f ∷ bs) f
    in_f = first_in F f bs t r a

    abbrev in_s : InSpan 𝕎 (f ∷ bs) s
    in_s = partner_in F f bs t r a

    abbrev e_sf : F.at s f ≡ true
    e_sf = partner_first F f bs t r a

    abbrev in_rest : (x : ℕ) → InSpan 𝕎 rest x → InSpan 𝕎 (f ∷ bs) x
    in_rest = rest_in F f bs t r a

    abbrev zero_f : (x : ℕ) → InSpan 𝕎 rest x → F.at f x ≡ false
    zero_f = first_zero F f bs t r a

    partner_plus : (v : ℕ) → InSpan 𝕎 rest v → F.at s (v ⊕ f) ≡ true
    partner_plus v h = F.right s v f ∙ ap₂ ◌⊻◌ (partner_zero F f bs t r a v h) e_sf

    first_plus : (v : ℕ) → InSpan 𝕎 rest v → F.at f (v ⊕ f) ≡ false
    first_plus v h = F.right f v f ∙ ap₂ ◌⊻◌ (zero_f v h) (a f in_f)

    plus_plus : (v x : ℕ) → InSpan 𝕎 rest v → InSpan 𝕎 rest x → F.at v x ≡ true → F.at (v ⊕ f) (x ⊕ f) ≡ true
    plus_plus v x h k e =
        F.left (x ⊕ f) v f
        ∙ ap₂ ◌⊻◌ (F.right v x f ∙ ap₂ ◌⊻◌ e (symmetric F (f ∷ bs) a v f (in_rest v h) in_f ∙ zero_f v h)) (first_plus x k)

    ones_plus : (vs : List ℕ) → All (InSpan 𝕎 rest) vs → Ones vs → Ones (map (λ v. v ⊕ f) vs)
    ones_plus [] h o = tt
    ones_plus (v ∷ vs) h o = (
      All-to_map (λ v. v ⊕ f) (λ x. F.at (v ⊕ f) x ≡ true) vs (All-map₂ (λ x k e. plus_plus v x h.0 k e) vs h.1 o.0),
      ones_plus vs h.1 o.1,
    )

    pair_before : (out : Option (List ℕ)) → Simplex rest out → Simplex (f ∷ bs) (map_some (extended F.at f s) out)
    pair_before none h = h
    pair_before (some vs) h = (
      (in_s, (span_add 𝕎 (f ∷ bs) f s in_f in_s, All-to_map (λ v. v ⊕ f) (InSpan 𝕎 (f ∷ bs)) vs (All-map (λ v k. span_add 𝕎 (f ∷ bs) v f (in_rest v k) in_f) vs h.0))),
      (
        (F.right s f s ∙ ap₂ ◌⊻◌ e_sf (a s in_s), All-to_map (λ v. v ⊕ f) (λ x. F.at s x ≡ true) vs (All-map partner_plus vs h.0)),
        (
          All-to_map (λ v. v ⊕ f) (λ x. F.at (f ⊕ s) x ≡ true) vs
              (All-map (λ v k. F.left (v ⊕ f) f s ∙ ap₂ ◌⊻◌ (first_plus v k) (partner_plus v k)) vs h.0),
          ones_plus vs h.0 h.1,
        ),
      ),
    )

  -- ---- the simplex

  from_first_lem : (bs : List ℕ) (go : List ℕ → Option (List ℕ)) → ((cs : List ℕ) → length cs < length bs → Even 𝕎 F cs → Indep 𝕎 cs → Whole F cs → Simplex cs (go cs))
      → Even 𝕎 F bs → Indep 𝕎 bs → Whole F bs → Simplex bs (from_first F.at bs go)
  unfolding from_first with_partner
  from_first_lem [] go ih a i w = ((refl, tt), (tt, tt))
  from_first_lem (f ∷ bs) go ih a i w = by (split_at F.at f bs) (λ P. parted F f P bs)
    where
      -- a first member with no partner has form zero with all
      by : (out : Option Split) → ((P : ℕ → Type 0) → Parted F f P bs out) → Simplex (f ∷ bs) (with_partner F.at f go out)
      by none r =
          let e : f ≡ 0 = w f (span_head 𝕎 f bs) (λ y h. span_kernel 𝕎 𝔹 (F.at f) (F.right f) (f ∷ bs) (a f (span_head 𝕎 f bs), r (λ _. Unit {0})) y h) in
          absurd (i.0 (rw e (span_zero 𝕎 bs)))
      by (some t) r =
          let cs = map (cleared_of_pair F.at f t.partner) t.others in
          pair_before f bs t r a (go cs)
          (ih cs (omega (arith, rest_less F f bs t r a)) (λ x h. a x (rest_in F f bs t r a x h)) (rest_indep F f bs t r a i) (rest_whole F f bs t r a w))

  pub simplex_made : (d : ℕ) (bs : List ℕ) → length bs ≤ d → Even 𝕎 F bs → Indep 𝕎 bs → Whole F bs → Simplex bs (symplectic_simplex_lem F.at d bs)
  unfolding symplectic_simplex_lem
  simplex_made zero bs l a i w = from_first_lem bs (λ _. none) (λ cs m. absurd (omega arith)) a i w
  simplex_made (suc d) bs l a i w = from_first_lem bs (symplectic_simplex_lem F.at d) (λ cs m. simplex_made d cs (omega arith)) a i w
