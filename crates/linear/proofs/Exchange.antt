-- Spans: what lies in them, the exchange of members, and that an independent list in a span is no longer than a list that spans it.
-- Assumes nothing.
use mathlib.Core.Path.{◌≡◌, refl, ap, ◌∙◌}
use mathlib.Core.Bool.{Bool, true, false}
use mathlib.Core.List.{List, [], ◌∷◌, ◌++◌, append-nil, append_assoc}
use Prim.Native.Nat.{suc, ◌+◌, ◌≤◌}
use native.Mathlib.Omega.{arith}
use lib.ListN.{length, length-append}
use Rattle.binar.specs.Bits.{◌⊻◌}
use Rattle.blocks.specs.Matrices.{All}
use Rattle.blocks.proofs.All.{All-map}
use Rattle.linear.specs.VectorSpace.{VectorSpace, scale}
use Rattle.linear.specs.Span.{InSpan, Indep}
use Rattle.linear.proofs.Sums.{add-zero, left_comm, self_left, cancel_right, swap4, scale_xor}

module _ (S : VectorSpace) where
  open S use {Car, add as ◌⊕◌, o, add_assoc, add_comm, add_self, zero-add}

  infixl 60 ◌⊕◌
  pub span_zero : (vs : List Car) → InSpan S vs o
  span_zero [] = refl
  span_zero (v ∷ vs) = (false, rw add-zero (span_zero vs))

  pub span_skip : (v : Car) (vs : List Car) (x : Car) → InSpan S vs x → InSpan S (v ∷ vs) x
  span_skip v vs x h = (false, rw add-zero h)

  pub span_head : (v : Car) (vs : List Car) → InSpan S (v ∷ vs) v
  span_head v vs = (true, rw add_self (span_zero vs))

  pub span_add : (vs : List Car) (x y : Car) → InSpan S vs x → InSpan S vs y → InSpan S vs (x ⊕ y)
  span_add [] x y h k = rw (h, k, zero-add)
  span_add (v ∷ vs) x y (c, h) (d, k) = (
    c ⊻ d,
    rw (scale_xor, swap4) (span_add vs (x ⊕ scale S c v) (y ⊕ scale S d v) h k),
  )

  pub span_scale : (vs : List Car) (c : Bool) (x : Car) → InSpan S vs x → InSpan S vs (scale S c x)
  span_scale vs true x h = h
  span_scale vs false x h = span_zero vs

  -- a list all of whose members lie in a span has its span there
  pub span_trans : (us vs : List Car) (x : Car) → All (InSpan S vs) us → InSpan S us x → InSpan S vs x
  span_trans [] vs x a h = rw h (span_zero vs)
  span_trans (u ∷ us) vs x a (c, h) =
      rw cancel_right at (span_add vs (x ⊕ scale S c u) (scale S c u) (span_trans us vs (x ⊕ scale S c u) a.1 h) (span_scale vs c u a.0))

  pub span_members : (vs : List Car) → All (InSpan S vs) vs
  span_members [] = tt
  span_members (v ∷ vs) = (span_head v vs, All-map (λ x h. span_skip v vs x h) vs (span_members vs))

  -- a member in the middle
  pub span_mid : (us : List Car) (v : Car) (vs : List Car) (x : Car) → InSpan S (us ++ vs) x → InSpan S (us ++ v ∷ vs) x
  span_mid [] v vs x h = span_skip v vs x h
  span_mid (u ∷ us) v vs x (c, h) = (c, span_mid us v vs (x ⊕ scale S c u) h)

  pub span_mid_self : (us : List Car) (v : Car) (vs : List Car) → InSpan S (us ++ v ∷ vs) v
  span_mid_self [] v vs = span_head v vs
  span_mid_self (u ∷ us) v vs = span_skip u (us ++ v ∷ vs) v (span_mid_self us v vs)

  -- a member that those behind it span can go
  pub span_drop : (us : List Car) (v : Car) (vs : List Car) (x : Car) → InSpan S vs v → InSpan S (us ++ v ∷ vs) x → InSpan S (us ++ vs) x
  span_drop [] v vs x h k = span_trans (v ∷ vs) vs x (h, span_members vs) k
  span_drop (u ∷ us) v vs x h (c, k) = (c, span_drop us v vs (x ⊕ scale S c u) h k)

  -- ---- exchange: of a list over us, a member can make way for a w that us does not span
  pub record Exchanged (vs us : List Car) (w : Car) : Type 0 where
    pub rest : List Car
    pub less : length vs ≡ suc (length rest)
    pub holds : (x : Car) → InSpan S (vs ++ us) x → InSpan S (rest ++ w ∷ us) x

  put_in : (vs us : List Car) (v w x : Car) (c : Bool) → InSpan S (vs ++ us) (w ⊕ v) → InSpan S (vs ++ us) (x ⊕ scale S c v) → InSpan S (vs ++ w ∷ us) x
  put_in vs us v w x false h k = span_mid vs w us x (rw add-zero at k)
  put_in vs us v w x true h k =
      rw both at (span_add (vs ++ w ∷ us) ((w ⊕ v) ⊕ (x ⊕ v)) w (span_mid vs w us ((w ⊕ v) ⊕ (x ⊕ v)) (span_add (vs ++ us) (w ⊕ v) (x ⊕ v) h k)) (span_mid_self vs w us))
    where
      both : ((w ⊕ v) ⊕ (x ⊕ v)) ⊕ w ≡ x
      both = simp (add_assoc, add_comm, left_comm S, self_left S)

  pub exchange : (vs us : List Car) (w : Car) → InSpan S (vs ++ us) w → (InSpan S us w → ⊥) → Exchanged vs us w
  exchange [] us w h no-w = absurd (no-w h)
  exchange (v ∷ vs) us w (true, h) no-w = record {
    rest = vs;
    less = refl;
    holds = λ x k. put_in vs us v w x k.0 h k.1;
  }
  exchange (v ∷ vs) us w (false, h) no-w =
      let e = exchange vs us w (rw add-zero at h) no-w in record {
        rest = v ∷ e.rest;
        less = ap suc e.less;
        holds = λ x k. (k.0, e.holds (x ⊕ scale S k.0 v) k.1);
      }

  -- ---- Steinitz: the members of an independent list that lies in a span can take the place of as many of the members that span it
  pub record Placed (vs ws : List Car) : Type 0 where
    pub rest : List Car
    pub count : length vs ≡ length rest + length ws
    pub holds : (x : Car) → InSpan S vs x → InSpan S (rest ++ ws) x

  pub place : (vs ws : List Car) → Indep S ws → All (InSpan S vs) ws → Placed vs ws
  place vs [] i a = record { rest = vs; count = omega arith; holds = λ x h. rw append-nil h }
  place vs (w ∷ ws) i a =
      let p = place vs ws i.1 a.1 in
      let e = exchange p.rest ws w (p.holds w a.0) i.0 in
      record {
        rest = e.rest;
        count = omega (arith, p.count, e.less);
        holds = λ x h. e.holds x (p.holds x h);
      }

  pub steinitz : (vs ws : List Car) → Indep S ws → All (InSpan S vs) ws → length ws ≤ length vs
  steinitz vs ws i a = let p = place vs ws i a in omega (arith, p.count)

  -- as many as that: they span it too
  pub steinitz_span : (vs ws : List Car) → Indep S ws → All (InSpan S vs) ws → length ws ≡ length vs → (x : Car) → InSpan S vs x → InSpan S ws x
  steinitz_span vs ws i a e x h = go p.rest (omega (arith, p.count)) (p.holds x h)
    where
      p : Placed vs ws
      p = place vs ws i a

      go : (r : List Car) → length r ≡ 0 → InSpan S (r ++ ws) x → InSpan S ws x
      go [] z k = k
      go (u ∷ us) z k = absurd (omega arith)

  -- and the members that span it are independent
  pub steinitz_indep : (vs ws : List Car) → Indep S ws → All (InSpan S vs) ws → length ws ≡ length vs → Indep S vs
  steinitz_indep vs ws i a e = go [] vs e a
    where
      go : (us xs : List Car) → length ws ≡ length (us ++ xs) → All (InSpan S (us ++ xs)) ws → Indep S xs
      go us [] e a = tt
      go us (x ∷ xs) e a = (
        λ h. let l = steinitz (us ++ xs) ws i (All-map (λ y k. span_drop us x xs y h k) ws a) in
            let m : length ws ≡ length us + suc (length xs) = e ∙ length-append us (x ∷ xs) in
            omega (arith, length-append us xs),
        go (us ++ (x ∷ [])) xs (rw append_assoc e) (rw append_assoc a),
      )

  -- the members behind others
  pub indep_right : (us vs : List Car) → Indep S (us ++ vs) → Indep S vs
  indep_right [] vs i = i
  indep_right (u ∷ us) vs i = indep_right us vs i.1
