-- The search with a memory finds document 01's basis, or none where that finds none, with no more looks; with no room it is that search.
-- Assumes nothing.
use mathlib.Core.Path.{◌≡◌, refl, sym, ap, ◌∙◌, subst}
use mathlib.Core.Bool.{Bool, true, false, ◌||◌, true≢false, and-eq-true_iff}
use mathlib.Core.List.{List, [], ◌∷◌, map}
use Prim.Native.Nat.{ℕ, zero, suc, ◌-◌, ◌^◌, ◌≤◌, ◌<◌}
use native.Mathlib.Omega.{arith}
use native.Mathlib.Nat.{le_refl, le_trans}
use lib.Dec.{eqb}
use lib.ListN.{length}
use borrow.Author.Tests.{eqb-true}
use Rattle.blocks.specs.Matrices.{times, All}
use Rattle.blocks.proofs.All.{All-map}
use Rattle.linear.specs.Span.{InSpan}
use Rattle.linear.specs.Maps.{Form}
use Rattle.linear.proofs.Exchange.{span_trans}
use Rattle.linear.proofs.Instances.{𝕎, Prod}
use Rattle.linear.proofs.Maps.{span_map}
use Rattle.linear.proofs.Rows.{times_in, drawn, span_lt}
use Rattle.symplectic.specs.Matches.{same_rows}
use Rattle.symplectic.proofs.Matches.{rows_equal}
use Rattle.reduction.specs.Columns.{rows, row_reduce_with_transform_lem}
use Rattle.reduction.proofs.Transform.{beside_in}
use Rattle.triangular.specs.Spaces.{complement, is_alternating_lem}
use Rattle.triangular.specs.Search.{Outcome, found, failed, unless_alternating, after_rest, draw, draws, search, looks_of}
use Rattle.triangular.specs.Memory.{Entry, entry_basis, is_space, holds, enter, Remembered, unless_fails, noted, after_rest_with, draw_with, draws_with, search_with}
use Rattle.triangular.proofs.Complements.{complement_in, complement_length}
use Rattle.triangular.proofs.Complete.{None, Right, search_right}
use Rattle.triangular.proofs.Looks.{search_up}
use Rattle.triangular.proofs.Entries.{enter_all, reduced_is, reduced_spans, reduced_size, reduced_within}

-- ---- the reduced basis spans what the members span

span_out : (m : ℕ) (bs : List ℕ) (x : ℕ) → InSpan 𝕎 bs x → InSpan 𝕎 (entry_basis m bs) x
span_out m bs x h =
    let c = drawn bs x h in
    subst (λ (l : List ℕ). InSpan 𝕎 l x) (sym (reduced_is m bs))
    (subst (InSpan 𝕎 (map (λ a. a.0) (rows (row_reduce_with_transform_lem m bs)))) c.2
    (span_map (Prod 𝕎 𝕎) 𝕎 (λ a. a.0) (λ a b. refl) (rows (row_reduce_with_transform_lem m bs)) (times c.0 bs, c.0) (beside_in m bs c.0 c.1)))

-- a space that is held is one of the entries
held_all : (P : ℕ → List ℕ → Type 0) (d : ℕ) (rs : List ℕ) (M : List Entry) → holds d rs M ≡ true → All (λ e. P e.dimension e.basis) M → P d rs
unfolding holds is_space
held_all P d rs [] h a = absurd (true≢false (sym h))
held_all P d rs (e ∷ M) h a = go (is_space d rs e) refl h (λ k. held_all P d rs M k a.1)
  where
    go : (b : Bool) → is_space d rs e ≡ b → b || holds d rs M ≡ true → (holds d rs M ≡ true → P d rs) → P d rs
    go true s k ih =
        let t = (and-eq-true_iff (eqb e.dimension d) (same_rows e.basis rs)).0 s in
        subst (P d) (rows_equal e.basis rs t.1) (subst (λ c. P c e.basis) (eqb-true e.dimension d t.0) a.0)
    go false s k ih = ih k

-- two searches found the same basis, or both found none
abbrev pub Alike : Outcome → Outcome → Type 0
Alike (found ps l) (found qs n) = ps ≡ qs
Alike (found ps l) (failed n) = ⊥
Alike (failed l) (found qs n) = ⊥
Alike (failed l) (failed n) = Unit {0}

module _ (E : Form 𝕎) (m : ℕ) where
  -- an entry is a space without a good basis: as many members as its dimension, of m columns
  abbrev pub Dead : Entry → Type 0
  Dead e = None E e.dimension e.basis × (length e.basis ≡ e.dimension) × All (λ v. v < 2 ^ m) e.basis

  -- the outcome and the memory of this search, and document 01's outcome: the same basis or both none, no more looks, and every entry is dead
  abbrev pub Follows : Outcome → List Entry → Outcome → Type 0
  Follows out M other = Alike out other × (looks_of out ≤ looks_of other) × All Dead M

  abbrev Goes : Remembered → Outcome → Type 0
  Goes r out = Follows r.outcome r.memory out

  abbrev Along : (ℕ → List Entry → Remembered) → (ℕ → Outcome) → Type 0
  Along go go' = (l n : ℕ) (M : List Entry) → l ≤ n → All Dead M → Goes (go l M) (go' n)

  after_follows : (p : ℕ) (next : ℕ → List Entry → Remembered) (next' : ℕ → Outcome) → Along next next' → (out : Outcome) (M : List Entry) (other : Outcome)
      → Follows out M other → Goes (after_rest_with p next out M) (after_rest p next' other)
  after_follows p next next' h (found ps l) M (found qs n) f = (ap (λ t. p ∷ t) f.0, f.1, f.2)
  after_follows p next next' h (found ps l) M (failed n) f = absurd f.0
  after_follows p next next' h (failed l) M (found qs n) f = absurd f.0
  after_follows p next next' h (failed l) M (failed n) f = h l n M f.1 f.2

  draw_follows : (b : Bool) (p : ℕ) (rest next : ℕ → List Entry → Remembered) (rest' next' : ℕ → Outcome) → (b ≡ true → Along rest rest') → Along next next'
      → Along (draw_with b p rest next) (draw b p rest' next')
  draw_follows true p rest next rest' next' h k l n M u a =
      let r = rest (suc l) M in after_follows p next next' k r.outcome r.memory (rest' (suc n)) (h refl (suc l) (suc n) M (omega arith) a)
  draw_follows false p rest next rest' next' h k l n M u a = k (suc l) (suc n) M (omega arith) a

  draws_follow : (room d : ℕ) (sub : List ℕ → ℕ → List Entry → Remembered) (sub' : List ℕ → ℕ → Outcome)
      → ((bs : List ℕ) → length bs ≡ d → All (λ v. v < 2 ^ m) bs → Along (sub bs) (sub' bs))
      → (bs : List ℕ) → length bs ≡ suc d → All (λ v. v < 2 ^ m) bs → (k c : ℕ) → Along (draws_with E.at m room sub bs k c) (draws E.at sub' bs k c)
  unfolding draws_with draws
  draws_follow room d sub sub' h bs size small zero c l n M u a = (tt, u, a)
  draws_follow room d sub sub' h bs size small (suc k) c l n M u a =
      let p = times c bs in
      let rest = complement (E.at p) bs in
      draw_follows (E.at p p) p (sub rest) (draws_with E.at m room sub bs k (suc c)) (sub' rest) (draws E.at sub' bs k (suc c))
      (λ e. h rest (let s = complement_length (E.at p) (E.right p) bs p e (times_in c bs) in omega arith)
      (All-map (λ y i. span_lt m bs small y i.0) rest (complement_in (E.at p) (E.right p) bs)))
      (draws_follow room d sub sub' h bs size small k (suc c)) l n M u a

  unless_follows : (b : Bool) (go : ℕ → List Entry → Remembered) (go' : ℕ → Outcome) → Along go go' → Along (unless_fails b go) (unless_alternating b go')
  unless_follows true go go' h l n M u a = (tt, u, a)
  unless_follows false go go' h l n M u a = h l n M u a

  none_of : (d : ℕ) (xs ys : List ℕ) → ((x : ℕ) → InSpan 𝕎 ys x → InSpan 𝕎 xs x) → None E d xs → None E d ys
  none_of d xs ys h k ps i = k ps (i.0, All-map h ps i.1, i.2)

  module _ (room d : ℕ) (bs : List ℕ) (size : length bs ≡ d) (small : All (λ v. v < 2 ^ m) bs) where
    -- a space is entered where document 01's search has just failed
    noted_follows : (out : Outcome) (M : List Entry) (other : Outcome) → Right E d bs other → Follows out M other → Goes (noted room d (entry_basis m bs) out M) other
    noted_follows (found ps l) M other w f = f
    noted_follows (failed l) M (found qs n) w f = absurd f.0
    noted_follows (failed l) M (failed n) w f = (
      tt,
      f.1,
      enter_all Dead room (record { dimension = d; basis = entry_basis m bs; looks = l }) M (
        none_of d bs (entry_basis m bs) (λ x h. span_trans 𝕎 (entry_basis m bs) bs x (reduced_spans m bs) h) w,
        reduced_size m bs ∙ size,
        reduced_within m bs m small,
      ) f.2,
    )

    -- where a space is held, that search fails too
    held_follows : (l n : ℕ) (M : List Entry) → l ≤ n → All Dead M → holds d (entry_basis m bs) M ≡ true → (other : Outcome) → Right E d bs other → n ≤ looks_of other
        → Follows (failed l) M other
    held_follows l n M u a h (found qs k) w g =
        absurd (none_of d (entry_basis m bs) bs (span_out m bs) (held_all (None E) d (entry_basis m bs) M h (All-map (λ e i. i.0) M a)) qs w)
    held_follows l n M u a h (failed k) w g = (tt, le_trans u g, a)

    either_follows : (go : ℕ → List Entry → Remembered) (l n : ℕ) (M : List Entry) → l ≤ n → All Dead M → (other : Outcome) → Right E d bs other → n ≤ looks_of other
        → Goes (go l M) other → (b : Bool) → holds d (entry_basis m bs) M ≡ b
        → Goes (unless_fails b (λ k N. let r = go k N in noted room d (entry_basis m bs) r.outcome r.memory) l M) other
    either_follows go l n M u a other w g f true e = held_follows l n M u a e other w g
    either_follows go l n M u a other w g f false e = noted_follows (go l M).outcome (go l M).memory other w f

  search_follows : (room d : ℕ) (bs : List ℕ) → length bs ≡ d → All (λ v. v < 2 ^ m) bs → Along (search_with E.at m room d bs) (search E.at d bs)
  unfolding search_with search
  search_follows room zero bs size small l n M u a = (refl, u, a)
  search_follows room (suc d) bs size small l n M u a =
      let b = is_alternating_lem E.at bs in
      let all = draws_with E.at m room (search_with E.at m room d) bs (2 ^ suc d - 1) 1 in
      let all' = draws E.at (search E.at d) bs (2 ^ suc d - 1) 1 in
      either_follows room (suc d) bs size small (unless_fails b all) l n M u a (search E.at (suc d) bs n)
      (search_right E (suc d) bs n size) (search_up E.at (suc d) bs n)
      (unless_follows b all all' (draws_follow room d (search_with E.at m room d) (search E.at d) (search_follows room d) bs size small (2 ^ suc d - 1) 1) l n M u a)
      (holds (suc d) (entry_basis m bs) M) refl

-- the search with a memory, begun with none, beside document 01's
pub remembers : (E : Form 𝕎) (room m d : ℕ) (bs : List ℕ) → length bs ≡ d → All (λ v. v < 2 ^ m) bs
    → let r = search_with E.at m room d bs 0 [] in Follows E m r.outcome r.memory (search E.at d bs 0)
remembers E room m d bs size small = search_follows E m room d bs size small 0 0 [] (le_refl 0) tt

-- ---- with no room

module _ (E : ℕ → ℕ → Bool) (m : ℕ) where
  abbrev plainly : Outcome → Remembered
  plainly out = record { outcome = out; memory = [] }

  -- with nothing in memory it does as document 01's, and enters nothing
  abbrev Plain : (ℕ → List Entry → Remembered) → (ℕ → Outcome) → Type 0
  Plain go go' = (n : ℕ) → go n [] ≡ plainly (go' n)

  plain_after : (p : ℕ) (next : ℕ → List Entry → Remembered) (next' : ℕ → Outcome) → Plain next next'
      → (out : Outcome) → after_rest_with p next out [] ≡ plainly (after_rest p next' out)
  plain_after p next next' h (found ps n) = refl
  plain_after p next next' h (failed n) = h n

  plain_draw : (b : Bool) (p : ℕ) (rest next : ℕ → List Entry → Remembered) (rest' next' : ℕ → Outcome) → Plain rest rest' → Plain next next'
      → Plain (draw_with b p rest next) (draw b p rest' next')
  plain_draw true p rest next rest' next' h k n =
      ap (λ r. after_rest_with p next r.outcome r.memory) (h (suc n)) ∙ plain_after p next next' k (rest' (suc n))
  plain_draw false p rest next rest' next' h k n = k (suc n)

  plain_draws : (sub : List ℕ → ℕ → List Entry → Remembered) (sub' : List ℕ → ℕ → Outcome) → ((bs : List ℕ) → Plain (sub bs) (sub' bs))
      → (bs : List ℕ) (k c : ℕ) → Plain (draws_with E m 0 sub bs k c) (draws E sub' bs k c)
  unfolding draws_with draws
  plain_draws sub sub' h bs zero c n = refl
  plain_draws sub sub' h bs (suc k) c n =
      let p = times c bs in
      let rest = complement (E p) bs in
      plain_draw (E p p) p (sub rest) (draws_with E m 0 sub bs k (suc c)) (sub' rest) (draws E sub' bs k (suc c)) (h rest) (plain_draws sub sub' h bs k (suc c)) n

  plain_noted : (d : ℕ) (rs : List ℕ) (out : Outcome) → noted 0 d rs out [] ≡ plainly out
  unfolding enter
  plain_noted d rs (found ps n) = refl
  plain_noted d rs (failed n) = refl

  plain_unless : (b : Bool) (go : ℕ → List Entry → Remembered) (go' : ℕ → Outcome) → Plain go go' → Plain (unless_fails b go) (unless_alternating b go')
  plain_unless true go go' h n = refl
  plain_unless false go go' h n = h n

  -- the memory stays empty, and it is document 01's search
  pub plain_search : (d : ℕ) (bs : List ℕ) (looks : ℕ) → search_with E m 0 d bs looks [] ≡ record { outcome = search E d bs looks; memory = [] }
  unfolding search_with search holds
  plain_search zero bs looks = refl
  plain_search (suc d) bs looks =
      let all = draws_with E m 0 (search_with E m 0 d) bs (2 ^ suc d - 1) 1 in
      let all' = draws E (search E d) bs (2 ^ suc d - 1) 1 in
      ap (λ r. noted 0 (suc d) (entry_basis m bs) r.outcome r.memory)
      (plain_unless (is_alternating_lem E bs) all all' (plain_draws (search_with E m 0 d) (search E d) (plain_search d) bs (2 ^ suc d - 1) 1) looks)
      ∙ plain_noted (suc d) (entry_basis m bs) (search E (suc d) bs looks)
