-- The looks of a search with a memory only grow, and so does its memory: what is entered comes behind what it holds, with the looks of the time.
-- Assumes nothing.
use mathlib.Core.Path.{◌≡◌, refl, sym, ap, ◌∙◌, subst}
use mathlib.Core.Bool.{Bool, true, false}
use mathlib.Core.List.{List, [], ◌∷◌, ◌++◌, append-nil, append_assoc}
use Prim.Native.Nat.{ℕ, zero, suc, ◌-◌, ◌^◌, ◌≤◌}
use native.Mathlib.Nat.{le_refl, le_trans, le-suc}
use lib.Dec.{ltb}
use lib.ListN.{length}
use Rattle.blocks.specs.Matrices.{times, All}
use Rattle.blocks.proofs.All.{All-map, All-append}
use Rattle.triangular.specs.Spaces.{complement, is_alternating_lem}
use Rattle.triangular.specs.Search.{Outcome, found, failed, looks_of}
use Rattle.triangular.specs.Memory.{Entry, entry_basis, holds, enter_if, enter, Remembered, unless_fails, noted, after_rest_with, draw_with, draws_with, search_with}

-- from looks and M on to an outcome and N
pub record Grown (looks : ℕ) (M : List Entry) (o : Outcome) (N : List Entry) : Type 0 where
  pub more : looks ≤ looks_of o
  pub new : List Entry
  pub is : M ++ new ≡ N
  pub when : All (λ e. (looks ≤ e.looks) × (e.looks ≤ looks_of o)) new

abbrev pub Grows : (ℕ → List Entry → Remembered) → Type 0
Grows go = (looks : ℕ) (M : List Entry) → let r = go looks M in Grown looks M r.outcome r.memory

grown_same : (looks : ℕ) (M : List Entry) (o : Outcome) → looks ≤ looks_of o → Grown looks M o M
grown_same looks M o h = record { more = h; new = []; is = append-nil M; when = tt }

grown_trans : (looks : ℕ) (M : List Entry) (o : Outcome) (N : List Entry) (o' : Outcome) (N' : List Entry) → Grown looks M o N → Grown (looks_of o) N o' N' → Grown looks M o' N'
grown_trans looks M o N o' N' g h =
    record {
      more = le_trans g.more h.more;
      new = g.new ++ h.new;
      is = sym (append_assoc M g.new h.new) ∙ ap (λ (l : List Entry). l ++ h.new) g.is ∙ h.is;
      when = All-append (λ e. (looks ≤ e.looks) × (e.looks ≤ looks_of o')) g.new h.new
          (All-map (λ e k. (k.0, le_trans k.1 h.more)) g.new g.when) (All-map (λ e k. (le_trans g.more k.0, k.1)) h.new h.when);
    }

pub grown_less : (l looks : ℕ) (M : List Entry) (o : Outcome) (N : List Entry) → l ≤ looks → Grown looks M o N → Grown l M o N
grown_less l looks M o N h g =
    record { more = le_trans h g.more; new = g.new; is = g.is; when = All-map (λ e k. (le_trans h k.0, k.1)) g.new g.when }

-- what comes after the rest of a draw
pub after_grows : (p : ℕ) (next : ℕ → List Entry → Remembered) → Grows next → (o : Outcome) (N : List Entry)
    → let r = after_rest_with p next o N in Grown (looks_of o) N r.outcome r.memory
after_grows p next h (found ps k) N = grown_same k N (found (p ∷ ps) k) (le_refl k)
after_grows p next h (failed k) N = h k N

pub draw_grows : (b : Bool) (p : ℕ) (rest next : ℕ → List Entry → Remembered) → Grows rest → Grows next → (looks : ℕ) (M : List Entry)
    → let r = draw_with b p rest next looks M in Grown (suc looks) M r.outcome r.memory
draw_grows true p rest next h k looks M =
    let r = rest (suc looks) M in
    let a = after_rest_with p next r.outcome r.memory in
    grown_trans (suc looks) M r.outcome r.memory a.outcome a.memory (h (suc looks) M) (after_grows p next k r.outcome r.memory)
draw_grows false p rest next h k looks M = k (suc looks) M

-- a failure that is entered
entered_grows : (b : Bool) (looks : ℕ) (M : List Entry) (o : Outcome) (N : List Entry) (e : Entry) → e.looks ≡ looks_of o → Grown looks M o N → Grown looks M o (enter_if b e N)
entered_grows false looks M o N e at g = g
entered_grows true looks M o N e at g =
    record {
      more = g.more;
      new = g.new ++ (e ∷ []);
      is = sym (append_assoc M g.new (e ∷ [])) ∙ ap (λ (l : List Entry). l ++ (e ∷ [])) g.is;
      when = All-append (λ e. (looks ≤ e.looks) × (e.looks ≤ looks_of o)) g.new (e ∷ []) g.when
          ((subst (λ n. looks ≤ n) (sym at) g.more, subst (λ n. n ≤ looks_of o) (sym at) (le_refl (looks_of o))), tt);
    }

noted_grows : (room d : ℕ) (rs : List ℕ) (looks : ℕ) (M : List Entry) (o : Outcome) (N : List Entry) → Grown looks M o N
    → let r = noted room d rs o N in Grown looks M r.outcome r.memory
unfolding enter
noted_grows room d rs looks M (found ps k) N g = g
noted_grows room d rs looks M (failed k) N g = entered_grows (ltb (length N) room) looks M (failed k) N (record { dimension = d; basis = rs; looks = k }) refl g

pub noted_after : (room d : ℕ) (rs : List ℕ) (o : Outcome) (N : List Entry) → let r = noted room d rs o N in Grown (looks_of o) N r.outcome r.memory
noted_after room d rs o N = noted_grows room d rs (looks_of o) N o N (grown_same (looks_of o) N o (le_refl (looks_of o)))

module _ (E : ℕ → ℕ → Bool) (m room : ℕ) where
  pub draws_grow : (sub : List ℕ → ℕ → List Entry → Remembered) → ((bs : List ℕ) → Grows (sub bs)) → (bs : List ℕ) (k c : ℕ) → Grows (draws_with E m room sub bs k c)
  unfolding draws_with
  draws_grow sub h bs zero c looks M = grown_same looks M (failed looks) (le_refl looks)
  draws_grow sub h bs (suc k) c looks M =
      let p = times c bs in
      let rest = complement (E p) bs in
      let r = draw_with (E p p) p (sub rest) (draws_with E m room sub bs k (suc c)) looks M in
      grown_less looks (suc looks) M r.outcome r.memory (le-suc looks) (draw_grows (E p p) p (sub rest) (draws_with E m room sub bs k (suc c)) (h rest) (draws_grow sub h bs k (suc c)) looks M)

  unless_grows : (b : Bool) (go : ℕ → List Entry → Remembered) → Grows go → Grows (unless_fails b go)
  unless_grows true go h looks M = grown_same looks M (failed looks) (le_refl looks)
  unless_grows false go h looks M = h looks M

  pub search_grows : (d : ℕ) (bs : List ℕ) → Grows (search_with E m room d bs)
  unfolding search_with
  search_grows zero bs looks M = grown_same looks M (found [] looks) (le_refl looks)
  search_grows (suc d) bs looks M =
      let rs = entry_basis m bs in
      let all = draws_with E m room (search_with E m room d) bs (2 ^ suc d - 1) 1 in
      let go = unless_fails (is_alternating_lem E bs) all in
      unless_grows (holds (suc d) rs M) (λ n N. let r = go n N in noted room (suc d) rs r.outcome r.memory)
      (λ n N. noted_grows room (suc d) rs n N (go n N).outcome (go n N).memory
      (unless_grows (is_alternating_lem E bs) all (draws_grow (search_with E m room d) (search_grows d) bs (2 ^ suc d - 1) 1) n N)) looks M
