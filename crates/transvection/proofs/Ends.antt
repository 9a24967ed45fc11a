-- The greedy list ends by itself after at most two turns for each unit of the rank, and its product is the action.
-- Assumes nothing.
use mathlib.Core.Path.{◌≡◌, refl, sym, ap, ap₂, ◌∙◌, subst}
use mathlib.Core.Bool.{Bool, true, false}
use mathlib.Core.List.{List, [], ◌∷◌, reverse, reverse-cons}
use mathlib.Core.Option.{Option, none, some}
use mathlib.Core.Logic.{⊎_elim}
use Prim.Native.Nat.{ℕ, zero, suc, ◌+◌, ◌*◌, ◌/◌, ◌^◌, ◌≤◌, ◌<◌, zero-le, suc-le-suc}
use native.Mathlib.Omega.{arith}
use native.Mathlib.Nat.{le_refl, le_trans}
use lib.Dec.{ltb}
use lib.ListN.{length, length-reverse}
use borrow.Author.Tests.{ltb-true, ltb-false}
use Rattle.binar.specs.Bits.{◌⊻◌, select, ◌⊕◌}
use Rattle.binar.proofs.Sums.{sum_assoc}
use Rattle.blocks.specs.Matrices.{times, units, All}
use Rattle.blocks.proofs.All.{All-append}
use Rattle.blocks.proofs.Units.{units_length}
use Rattle.linear.proofs.Sums.{self_left}
use Rattle.linear.proofs.Instances.{𝕎}
use Rattle.symplectic.specs.Turns.{pairing, followed, followed_by, product}
use Rattle.symplectic.proofs.Pairings.{𝕡, pairing_sum, pairing_comm, pair_over, nondegenerate}
use Rattle.symplectic.proofs.Products.{turn_is_transvection, followed_times, product_reverse}
use Rattle.symplectic.proofs.Transvections.{turn_is}
use Rattle.symplectic.proofs.Wall.{Residue}
use Rattle.symplectic.proofs.Layers.{added, added_sum, added_lt, image_parts, residue_map}
use Rattle.transvection.specs.Greedy.{next_transvection_lem, record_next, recorded, greedy_list}
use Rattle.transvection.proofs.Ranks.{Full, Flat, full_keeps, full_drops, flat_twice}
use Rattle.transvection.proofs.Taken.{Taken, taken, units_taken, units_of_none, full_units}
use Rattle.transvection.proofs.Records.{Action, followed_rows, recorded_none, recorded_lt}

-- ---- what one turn more adds

pub added_followed : (n : ℕ) (F : List ℕ) (v z : ℕ) → added n (followed n F v) z ≡ added n F z ⊕ select 0 (pairing n (z ⊕ added n F z) v) v
added_followed n F v z =
    sym (self_left 𝕎 z (added n (followed n F v) z))
    ∙ ap (λ t. z ⊕ t) (image_parts n (followed n F v) z ∙ ap (λ t. high ⊕ t) turned ∙ sym (sum_assoc high (times z F) step) ∙ ap (λ t. t ⊕ step) (sym (image_parts n F z)))
    ∙ sym (sum_assoc z (z ⊕ added n F z) step)
    ∙ ap₂ (λ s t. s ⊕ select 0 t v) (self_left 𝕎 z (added n F z)) (pairing_comm n (times z F) v ∙ sym image ∙ pairing_comm n v (z ⊕ added n F z))
  where
    high : ℕ
    high = z / 2 ^ (n + n) * 2 ^ (n + n)

    -- what the turn adds
    step : ℕ
    step = select 0 (pairing n (times z F) v) v

    turned : times z (followed n F v) ≡ times z F ⊕ step
    turned = followed_times n F v z ∙ turn_is_transvection n v (times z F) ∙ turn_is 𝕎 (𝕡 n) v (times z F)

    image : pairing n v (z ⊕ added n F z) ≡ pairing n v (times z F)
    image = ap (pairing n v) (image_parts n F z) ∙ pairing_sum n v high (times z F) ∙ ap (λ t. t ⊻ pairing n v (times z F)) (pair_over n v (z / 2 ^ (n + n)))

-- a record of at most k turns that takes F to the identity
abbrev pub Undone : ℕ → List ℕ → ℕ → List ℕ → Type 0
Undone n F k vs = (followed_by n F vs ≡ units (n + n)) × (length vs ≤ k)

module _ (n : ℕ) where
  -- what a record has to do, for actions of rank j
  abbrev Rest : ℕ → ℕ → Type 0
  Rest j steps = (F : List ℕ) → Action n F → (zs : List ℕ) → length zs ≤ j → Full 𝕎 (added n F) zs → Undone n F (j + j) (recorded n steps F)

  module _ (F : List ℕ) (a : Action n F) where
    abbrev N : Residue 𝕎 (𝕡 n)
    N = residue_map n F a.0 a.2

    weaken : (j k : ℕ) (vs : List ℕ) → j ≤ k → Undone n F j vs → Undone n F k vs
    weaken j k vs l h = (h.0, le_trans h.1 l)

    nothing_left : (k : ℕ) → ((z : ℕ) → added n F z ≡ 0) → Undone n F k []
    nothing_left k h = (units_of_none n F a.0 h, zero-le)

    after : ℕ → List ℕ
    after x = followed n F (added n F x)

    after_rows : (x : ℕ) → Action n (after x)
    unfolding after
    after_rows x = followed_rows n F (added n F x) a (added_lt n F a.1 x)

    -- a turn, and then the rest
    step_on : (steps k v x : ℕ) → v ≡ added n F x → Undone n (after x) k (recorded n steps (after x))
        → Undone n F (suc k) (record_next n (recorded n steps) F (some v))
    unfolding after
    step_on steps k v x e h =
        subst (λ w. Undone n F (suc k) (w ∷ recorded n steps (followed n F w))) (sym e) (h.0, suc-le-suc h.1)

    lower : (steps j : ℕ) → Rest j steps → (zs : List ℕ) → length zs ≤ suc j → Full 𝕎 (added n F) zs
        → (v x : ℕ) → v ≡ added n F x → pairing n (added n F x) x ≡ true → Undone n F (suc (j + j)) (record_next n (recorded n steps) F (some v))
    unfolding after
    lower steps j ih zs l r v x e p =
        let d = full_drops 𝕎 (𝕡 n) N x (added n (after x)) (added_sum n (after x)) (added_followed n F (added n F x)) zs p r in
        let m = d.less in
        step_on steps (j + j) v x e (ih (after x) (after_rows x) d.rest (omega arith) d.full)

    -- after the turn of a vector that a flat action adds, the action is not flat
    not_flat : (x : ℕ) → (added n F x ≡ 0 → ⊥) → Flat 𝕎 (𝕡 n) (added n F) → Flat 𝕎 (𝕡 n) (added n (after x)) → ⊥
    unfolding after
    not_flat x nz f g =
        nz (nondegenerate n (added n F x) (added_lt n F a.1 x) (λ z h.
        flat_twice 𝕎 (𝕡 n) N x (added n (after x)) (added_sum n (after x)) (added_followed n F (added n F x)) f g z))

    -- an action that is not flat
    second : (steps j : ℕ) → Rest j steps → (zs : List ℕ) → length zs ≤ suc j → Full 𝕎 (added n F) zs → (Flat 𝕎 (𝕡 n) (added n F) → ⊥)
        → (out : Option ℕ) → Taken n F out → Undone n F (suc (j + j)) (record_next n (recorded n steps) F out)
    second steps j ih zs l r uneven none t = nothing_left (suc (j + j)) t
    second steps j ih zs l r uneven (some v) t =
        ⊎_elim (λ p. lower steps j ih zs l r v t.0 t.1 p) (λ w. absurd (uneven w.0)) t.2

    -- any action
    first : (steps j : ℕ) → Rest j (suc steps) → (zs : List ℕ) → length zs ≤ suc j → Full 𝕎 (added n F) zs
        → ((G : List ℕ) → Action n G → (Flat 𝕎 (𝕡 n) (added n G) → ⊥) → Full 𝕎 (added n G) zs → Undone n G (suc (j + j)) (recorded n (suc steps) G))
        → (out : Option ℕ) → Taken n F out → Undone n F (suc j + suc j) (record_next n (recorded n (suc steps)) F out)
    unfolding after
    first steps j ih zs l r then none t = nothing_left (suc j + suc j) t
    first steps j ih zs l r then (some v) t =
        ⊎_elim
        (λ p. weaken (suc (j + j)) (suc j + suc j) (record_next n (recorded n (suc steps)) F (some v)) (omega arith) (lower (suc steps) j ih zs l r v t.0 t.1 p))
        (λ w. weaken (suc (suc (j + j))) (suc j + suc j) (record_next n (recorded n (suc steps)) F (some v)) (omega arith)
        (step_on (suc steps) (suc (j + j)) v t.0 t.1 (then (after t.0) (after_rows t.0) (not_flat t.0 w.1 w.0)
        (full_keeps 𝕎 (𝕡 n) N t.0 (added n (after t.0)) (added_sum n (after t.0)) (added_followed n F (added n F t.0)) zs r))))
        t.2

  zero_rank : (steps : ℕ) → Rest 0 steps
  zero_rank steps F a [] l r =
      let e = units_of_none n F a.0 r in
      subst (Undone n F (0 + 0)) (sym (recorded_none n steps F (ap (next_transvection_lem n) e ∙ units_taken n))) (e, zero-le)
  zero_rank steps F a (z ∷ zs) l r = absurd (omega arith)

  ends : (j steps : ℕ) → j + j ≤ steps → Rest j steps
  unfolding recorded
  ends zero steps f F a zs l r = zero_rank steps F a zs l r
  ends (suc j) zero f F a zs l r = absurd (omega arith)
  ends (suc j) (suc zero) f F a zs l r = absurd (omega arith)
  ends (suc j) (suc (suc steps)) f F a zs l r =
      first F a steps j (ends j (suc steps) (omega arith)) zs l r
      (λ G b uneven s. second G b steps j (ends j steps (omega arith)) zs l s uneven (next_transvection_lem n G) (taken n G b.0))
      (next_transvection_lem n F) (taken n F a.0)

-- ---- the greedy list

All-reverse : {A : Type 0} (P : A → Type 0) (xs : List A) → All P xs → All P (reverse xs)
All-reverse P [] a = tt
All-reverse P (x ∷ xs) a = subst (All P) (sym (reverse-cons x xs)) (All-append P (reverse xs) (x ∷ []) (All-reverse P xs a.1) (a.0, tt))

module _ (n : ℕ) (F : List ℕ) (a : Action n F) where
  -- with zs any vectors whose images span all that F adds, as many as its rank
  pub recorded_ends : (steps : ℕ) (zs : List ℕ) → Full 𝕎 (added n F) zs → length zs + length zs ≤ steps
      → Undone n F (length zs + length zs) (recorded n steps F)
  recorded_ends steps zs r l = ends n (length zs) steps l F a zs (le_refl (length zs)) r

  pub recorded_undoes : (steps : ℕ) → 4 * n ≤ steps → Undone n F (4 * n) (recorded n steps F)
  recorded_undoes steps l =
      let k = units_length (n + n) in
      let h = recorded_ends steps (units (n + n)) (full_units n F a.0) (omega arith) in
      (h.0, let m = h.1 in omega arith)

  enough : 4 * n ≤ 4 * n + 2
  enough = omega arith

  pub greedy_product : product n (greedy_list n F) ≡ F
  unfolding greedy_list
  greedy_product = product_reverse n F (recorded n (4 * n + 2) F) (recorded_undoes (4 * n + 2) enough).0

  pub greedy_length : length (greedy_list n F) ≤ 4 * n
  unfolding greedy_list
  greedy_length = subst (λ m. m ≤ 4 * n) (sym (length-reverse (recorded n (4 * n + 2) F))) (recorded_undoes (4 * n + 2) enough).1

  pub greedy_lt : All (λ v. v < 2 ^ (n + n)) (greedy_list n F)
  unfolding greedy_list
  greedy_lt = All-reverse (λ v. v < 2 ^ (n + n)) (recorded n (4 * n + 2) F) (recorded_lt n (4 * n + 2) F a)

  -- at most twice the rank
  pub greedy_at_most : (zs : List ℕ) → Full 𝕎 (added n F) zs → length (greedy_list n F) ≤ length zs + length zs
  unfolding greedy_list
  greedy_at_most zs r = go (ltb (n + n) (length zs)) refl
    where
      go : (b : Bool) → ltb (n + n) (length zs) ≡ b → length (greedy_list n F) ≤ length zs + length zs
      go true e = let m = greedy_length in let l = ltb-true (n + n) (length zs) e in omega arith
      go false e =
          subst (λ m. m ≤ length zs + length zs) (sym (length-reverse (recorded n (4 * n + 2) F)))
          (recorded_ends (4 * n + 2) zs r (let l = ltb-false (n + n) (length zs) e in omega arith)).1
