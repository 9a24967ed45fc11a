-- The Wall form of an action, and the lists of turns that are as short as the rank.
-- Assumes nothing.
use mathlib.Core.Path.{◌≡◌, refl, sym, ap, ap₂, ◌∙◌}
use mathlib.Core.Bool.{Bool, true, false, true≢false}
use mathlib.Core.List.{List, [], ◌∷◌, map}
use Prim.Native.Nat.{◌≤◌}
use lib.ListN.{length, length-map}
use Rattle.linear.specs.VectorSpace.{VectorSpace, scale}
use Rattle.binar.specs.Bits.{◌⊻◌}
use Rattle.linear.proofs.Sums.{add-zero, left_comm, self_left, cancel_right, eq_of_sum, solve4}
use Rattle.blocks.specs.Matrices.{All}
use Rattle.blocks.proofs.All.{All-map, All-map₂, All-of_map, All-to_map, All-any}
use Rattle.linear.proofs.Exchange.{span_members, span_add, steinitz, steinitz_span, steinitz_indep}
use Rattle.linear.specs.Span.{InSpan, Indep}
use Rattle.linear.proofs.Instances.{𝔹, scale_true}
use Rattle.linear.specs.Maps.{Additive, Pairing}
use Rattle.linear.specs.Triangular.{Tri, Good}
use Rattle.binar.proofs.Sums.{bxor_comm}
use Rattle.linear.proofs.Maps.{pairing_left, map_at, map_o, span_map, span_unmap, span_kernel}
use Rattle.symplectic.proofs.Transvections.{transvection, turn_is, act, act_span, act_tail, turn_none}

-- what an action adds to a vector: additive, and the action keeps the pairing
pub record Residue (S : VectorSpace) (ω : Pairing S) : Type 0 where
  pub of : S.Car → S.Car
  pub of_add : Additive S S of
  pub pairs : (x y : S.Car) → ω.at (of x) (of y) ≡ ω.at (of x) y ⊻ ω.at x (of y)

-- an action that keeps the pairing
pub pairs_of : (S : VectorSpace) (ω : Pairing S) (f : S.Car → S.Car)
    → ((x y : S.Car) → ω.at (S.add x (f x)) (S.add y (f y)) ≡ ω.at x y) → (x y : S.Car) → ω.at (f x) (f y) ≡ ω.at (f x) y ⊻ ω.at x (f y)
pairs_of S ω f k x y =
    solve4 𝔹 (ω.at x y) (ω.at x (f y)) (ω.at (f x) y) (ω.at (f x) (f y))
    (sym (pairing_left S ω (S.add y (f y)) x (f x) ∙ ap₂ ◌⊻◌ (ω.right x y (f y)) (ω.right (f x) y (f y))) ∙ k x y)

-- and back: the action of a residue keeps the pairing
pub kept : (S : VectorSpace) (ω : Pairing S) (N : Residue S ω) (x y : S.Car) → ω.at (S.add x (N.of x)) (S.add y (N.of y)) ≡ ω.at x y
kept S ω N x y =
    pairing_left S ω (S.add y (N.of y)) x (N.of x) ∙ ap₂ ◌⊻◌ (ω.right x y (N.of y)) (ω.right (N.of x) y (N.of y))
    ∙ ap (λ t. (ω.at x y ⊻ ω.at x (N.of y)) ⊻ (ω.at (N.of x) y ⊻ t)) (N.pairs x y)
    ∙ ap (λ t. (ω.at x y ⊻ ω.at x (N.of y)) ⊻ t) (self_left 𝔹 (ω.at (N.of x) y) (ω.at x (N.of y)))
    ∙ cancel_right 𝔹 (ω.at x y) (ω.at x (N.of y))

-- the product of the turns of a triangular list, where the pairing of the images is the form and its opposite together
module _ (S : VectorSpace) (ω : Pairing S) (Q : VectorSpace) (f : Q.Car → S.Car) (f-add : Additive Q S f) (K : Q.Car → Q.Car → Bool)
    (K-right : (p : Q.Car) → Additive Q 𝔹 (K p)) (K-sum : (p q : Q.Car) → ω.at (f p) (f q) ≡ K p q ⊻ K q p) where
  open S use {Car, add as ◌⊕◌, o, add_assoc, add_comm, add_self, zero-add}

  infixl 60 ◌⊕◌
  pub act_of_tri : (ps : List Q.Car) → Tri K ps → (q : Q.Car) → InSpan Q ps q → (y : Car)
      → All (λ p. ω.at (f p) y ≡ K p q) ps → act S ω (map f ps) y ≡ y ⊕ f q
  act_of_tri [] t q h y a = sym (rw (h, map_o Q S f f-add) (add-zero S y))
  act_of_tri (p ∷ ps) t q (c, h) y a =
      ap (act S ω (map f ps)) step
      ∙ act_of_tri ps t.2 q' h y' (All-map₂ later ps a.1 t.1)
      ∙ ap (λ t. y' ⊕ t) (map_at Q S f f-add q c p)
      ∙ simp (add_assoc, left_comm S, add_self, add-zero S)
    where
      q' : Q.Car
      q' = Q.add q (scale Q c p)

      y' : Car
      y' = y ⊕ scale S c (f p)

      is_c : ω.at y (f p) ≡ c
      is_c =
          ω.comm y (f p) ∙ a.0
          ∙ eq_of_sum 𝔹 (K p q) c (
          ap (λ t. K p q ⊻ t) (sym (scale_true c) ∙ ap (scale 𝔹 c) (sym t.0)) ∙ sym (map_at Q 𝔹 (K p) (K-right p) q c p)
          ∙ span_kernel Q 𝔹 (K p) (K-right p) ps t.1 q' h)

      step : transvection S ω (f p) y ≡ y'
      step = turn_is S ω (f p) y ∙ ap (λ t. y ⊕ scale S t (f p)) is_c

      later : (r : Q.Car) → ω.at (f r) y ≡ K r q → K p r ≡ false → ω.at (f r) y' ≡ K r q'
      later r e g =
          map_at S 𝔹 (ω.at (f r)) (ω.right (f r)) y c (f p)
          ∙ ap₂ (λ s t. s ⊻ scale 𝔹 c t) e (K-sum r p ∙ bxor_comm (K r p) (K p r) ∙ ap (λ t. t ⊻ K r p) g)
          ∙ sym (map_at Q 𝔹 (K r) (K-right r) q c p)

module _ (S : VectorSpace) (ω : Pairing S) (N : Residue S ω) (P : VectorSpace) (ψ : P.Car → S.Car) (ψ-add : Additive P S ψ) where
  open S use {Car, add as ◌⊕◌, o, add_assoc, add_comm, add_self, zero-add}

  infixl 60 ◌⊕◌
  abbrev pub φ : P.Car → Car
  φ p = N.of (ψ p)

  abbrev pub core : P.Car → P.Car → Bool
  core p q = ω.at (φ p) (ψ q)

  -- ---- a list as short as the rank is triangular

  not_taken : (v : Car) (vs : List Car) (x : Car) (c : Bool) → (InSpan S vs v → ⊥) → InSpan S vs x → InSpan S vs (x ⊕ scale S c v) → c ≡ false
  not_taken v vs x false i h k = refl
  not_taken v vs x true i h k = absurd (i (rw self_left at (span_add S vs x (x ⊕ v) h k)))

  taken : (v : Car) (vs : List Car) (c : Bool) → (InSpan S vs v → ⊥) → InSpan S vs (v ⊕ scale S c v) → c ≡ true
  taken v vs true i k = refl
  taken v vs false i k = absurd (i (rw add-zero at k))

  -- the product of the turns of the φ ps takes each ψ p of the list to itself plus φ p
  abbrev Hits : List Car → P.Car → Type 0
  Hits vs p = ψ p ⊕ act S ω vs (ψ p) ≡ φ p

  pub tri_of_hits : (ps : List P.Car) → Indep S (map φ ps) → All (Hits (map φ ps)) ps → Tri core ps
  tri_of_hits [] i a = tt
  tri_of_hits (p ∷ ps) i a = (
    ω.comm (φ p) (ψ p) ∙ taken (φ p) vs (ω.at (ψ p) (φ p)) i.0 (rw a.0 at (act_tail S ω (φ p) vs (ψ p))),
    All-map (λ q e. ω.comm (φ p) (ψ q) ∙ e.0) ps later,
    tri_of_hits ps i.1 (All-map (λ q e. e.1) ps later),
  )
    where
      vs : List Car
      vs = map φ ps

      later_at : (q : P.Car) → Hits (φ p ∷ vs) q → InSpan S vs (φ q) → (ω.at (ψ q) (φ p) ≡ false) × Hits vs q
      later_at q h k =
          let e = not_taken (φ p) vs (φ q) (ω.at (ψ q) (φ p)) i.0 k (rw h at (act_tail S ω (φ p) vs (ψ q))) in
          (e, ap (λ t. ψ q ⊕ act S ω vs t) (sym (turn_none S ω (φ p) (ψ q) e)) ∙ h)

      later : All (λ q. (ω.at (ψ q) (φ p) ≡ false) × Hits vs q) ps
      later = All-map₂ later_at ps a.1 (All-of_map φ (InSpan S vs) ps (span_members S vs))

  -- the list of a product that adds what N adds
  abbrev pub Adds : List Car → Type 0
  Adds vs = (z : Car) → act S ω vs z ≡ z ⊕ N.of z

  pub φ_add : Additive P S φ
  φ_add x y = ap N.of (ψ-add x y) ∙ N.of_add (ψ x) (ψ y)

  record Chosen (In : P.Car → Type 0) (vs : List Car) : Type 0 where
    list : List P.Car
    each : All In list
    is : map φ list ≡ vs

  choose : {In : P.Car → Type 0} (vs : List Car) → All (λ v. (p : P.Car) × In p × (φ p ≡ v)) vs → Chosen In vs
  choose [] a = record { list = []; each = tt; is = refl }
  choose (v ∷ vs) a =
      let r = choose vs a.1 in
      record { list = a.0.0 ∷ r.list; each = (a.0.1, r.each); is = ap₂ ◌∷◌ a.0.2 r.is }

  module _ (bs : List P.Car) (indep : Indep S (map φ bs)) (vs : List Car) (adds : Adds vs) where
    added : (z : Car) → z ⊕ act S ω vs z ≡ N.of z
    added z = ap (λ t. z ⊕ t) (adds z) ∙ self_left S z (N.of z)

    bs_in : All (InSpan S vs) (map φ bs)
    bs_in = All-to_map φ (InSpan S vs) bs (All-any (λ b. rw (added (ψ b)) at (act_span S ω vs (ψ b))) bs)

    pub at_least : length bs ≤ length vs
    at_least = rw length-map at (steinitz S vs (map φ bs) indep bs_in)

    pub good_of_shortest : length bs ≡ length vs → Good core (InSpan P bs) (length bs)
    good_of_shortest e =
        let c = choose vs (All-map (λ v h. span_unmap P S φ φ_add bs v h) vs spans) in
        record {
          list = c.list;
          tri = tri_of_hits c.list (rw c.is (steinitz_indep S vs (map φ bs) indep bs_in e')) (rw c.is (All-any (λ p. added (ψ p)) c.list));
          within = c.each;
          size = sym (length-map c.list φ) ∙ ap length c.is ∙ sym e;
        }
      where
        e' : length (map φ bs) ≡ length vs
        e' = length-map bs φ ∙ e

        spans : All (InSpan S (map φ bs)) vs
        spans = All-map (λ v h. steinitz_span S vs (map φ bs) indep bs_in e' v h) vs (span_members S vs)

  -- ---- a triangular list whose images span what N adds has N's product

  -- the form of the images is that of the residue: it does not depend on which vector gave the residue
  form_by : (x y : Car) → ω.at (N.of x) y ≡ ω.at (N.of x) (N.of y) ⊻ ω.at x (N.of y)
  form_by x y = sym (ap (λ t. t ⊻ ω.at x (N.of y)) (N.pairs x y) ∙ cancel_right 𝔹 (ω.at (N.of x) y) (ω.at x (N.of y)))

  pub same_form : (x y z : Car) → N.of y ≡ N.of z → ω.at (N.of x) y ≡ ω.at (N.of x) z
  same_form x y z e = form_by x y ∙ ap (λ t. ω.at (N.of x) t ⊻ ω.at x t) e ∙ sym (form_by x z)

  pub core_sum : (p q : P.Car) → ω.at (φ p) (φ q) ≡ core p q ⊻ core q p
  core_sum p q = N.pairs (ψ p) (ψ q) ∙ ap (λ t. core p q ⊻ t) (ω.comm (ψ p) (φ q))

  pub core_right : (p : P.Car) → Additive P 𝔹 (core p)
  core_right p x y = ap (ω.at (φ p)) (ψ-add x y) ∙ ω.right (φ p) (ψ x) (ψ y)

  pub indep_of_core : (ps : List P.Car) → Tri core ps → Indep S (map φ ps)
  indep_of_core [] t = tt
  indep_of_core (p ∷ ps) t = (
    λ h. let q = span_unmap P S φ φ_add ps (φ p) h in
        true≢false (sym t.0 ∙ same_form (ψ p) (ψ p) (ψ q.0) (sym q.2) ∙ span_kernel P 𝔹 (core p) (core_right p) ps t.1 q.0 q.1),
    indep_of_core ps t.2,
  )

  -- a good list of a space whose images span all that N adds
  pub product_of_good : (bs : List P.Car) → ((z : Car) → InSpan S (map φ bs) (N.of z))
      → (g : Good core (InSpan P bs) (length bs)) → Adds (map φ g.list)
  product_of_good bs full g z =
      let q = span_unmap P S φ φ_add g.list (N.of z) spans in
      act_of_tri S ω P φ φ_add core core_right core_sum g.list g.tri q.0 q.1 z (All-any (λ p. same_form (ψ p) z (ψ q.0) (sym q.2)) g.list) ∙ ap (λ t. z ⊕ t) q.2
    where
      spans : InSpan S (map φ g.list) (N.of z)
      spans =
          steinitz_span S (map φ bs) (map φ g.list) (indep_of_core g.list g.tri)
          (All-to_map φ (InSpan S (map φ bs)) g.list (All-map (λ p h. span_map P S φ φ_add bs p h) g.list g.within))
          (length-map g.list φ ∙ g.size ∙ sym (length-map bs φ)) (N.of z) (full z)
