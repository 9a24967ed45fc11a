-- The laws of a memory in lent words, for users who never open its definitions.
-- Assumes nothing.
use mathlib.Core.Path.{◌≡◌, refl, sym, ap, ap₂, subst, ◌∙◌}
use mathlib.Core.Bool.{Bool, true, false, ◌&&◌, ◌||◌}
use mathlib.Core.List.{List, [], ◌∷◌, ◌++◌, append-nil, append_assoc}
use Prim.Native.Nat.{ℕ, suc, ◌+◌, ◌*◌, ◌/◌, ◌≤◌, ◌<◌, min}
use native.Mathlib.Nat.{div-eq_of_lt}
use native.Mathlib.Omega.{arith}
use lib.Dec.{eqb, leb}
use lib.ListN.{length, take, drop, replicate, length-append, length-take, length-drop, length-replicate, take-append-drop}
use lib.Seq.{take_all, take_at, drop_at, drop-drop}
use borrow.Author.Tests.{leb-true, leb-false, le-leb, lt-leb, lt-ltb, le-ltb, eqb-true}
use Rattle.binar.specs.Rows.{width}
use Rattle.blocks.specs.Matrices.{All}
use Rattle.blocks.specs.Words.{words_of_rows, laid, rows_in_lem, over}
use Rattle.blocks.proofs.All.{All-append}
use Rattle.blocks.proofs.Values.{words_length, laid_end, laid_front}
use Rattle.blocks.proofs.Overs.{over_end, over_length}
use Rattle.symplectic.specs.Matches.{same_rows}
use Rattle.triangular.specs.Memory.{Entry, holds, enter, enter_if}
use Rattle.triangular.proofs.Entries.{holds_none, holds_first, enter_is}
use Rattle.memory.specs.Entries.{entry_size, entry_words, memory_words, room_in, held_in, entered_if, entered, taken_if, taken}
use Rattle.memory.specs.inner.Kept.{Fits, Kept}

-- ---- lengths

laid_length : (n : ℕ) (rows out : List ℕ) → length (laid n rows out) ≡ length out
laid_length n rows out =
    let k = min (length rows) (length out) in
    let e : k ≡ min (length (words_of_rows n rows)) (length out) = ap (λ (m : ℕ). min m (length out)) (sym (words_length n rows)) in
    ap length (sym (laid_end n rows out k refl) ∙ over_end (words_of_rows n rows) out k e) ∙ over_length (words_of_rows n rows) out

-- the rows of an entry take as many words whatever they are
rows_length : (rs : List ℕ) → length (laid (width / 2) rs (replicate 64 0)) ≡ 64
rows_length rs = laid_length (width / 2) rs (replicate 64 0) ∙ length-replicate {A = ℕ} 64 0

entry_length : (d : ℕ) (rs : List ℕ) → length (entry_words d rs) ≡ entry_size
unfolding entry_words
entry_length d rs = ap suc (rows_length rs)

pub memory_length : (M : List Entry) → length (memory_words M) ≡ length M * entry_size
unfolding memory_words
memory_length [] = refl
memory_length (e ∷ M) =
    length-append (entry_words e.dimension e.basis) (memory_words M)
    ∙ omega (arith, entry_length e.dimension e.basis, memory_length M)

-- ---- one entry put at the start of words

pub taken_none : (ws : List ℕ) → length ws < entry_size → taken ws ≡ 0
unfolding taken
taken_none ws h = ap taken_if (lt-leb entry_size (length ws) h)

pub taken_some : (ws : List ℕ) → entry_size ≤ length ws → taken ws ≡ entry_size
unfolding taken
taken_some ws h = ap taken_if (le-leb entry_size (length ws) h)

pub entered_none : (rs ws : List ℕ) → length ws < entry_size → entered rs ws ≡ ws
unfolding entered
entered_none rs ws h = ap (λ (b : Bool). entered_if b rs ws) (lt-leb entry_size (length ws) h)

pub entered_some : (rs ws : List ℕ) → entry_size ≤ length ws → entered rs ws ≡ entry_words (length rs) rs ++ drop entry_size ws
unfolding entered
entered_some rs ws h = ap (λ (b : Bool). entered_if b rs ws) (le-leb entry_size (length ws) h)

-- ---- nothing entered

pub kept_none : (ws : List ℕ) → Kept ws 0 []
unfolding memory_words
kept_none ws = (refl, refl, tt)

pub kept_within : (ws : List ℕ) (used : ℕ) (M : List Entry) → Kept ws used M → used ≤ length ws
kept_within ws used M k = omega (arith, k.1, ap length k.0, length-take used ws)

-- ---- what the words hold

-- the words of one entry are compared as its rows are
compared : (rs : List ℕ) (d : ℕ) (b : List ℕ) → d ≡ length b → Fits b
    → eqb d (length rs) && same_rows (take (length rs) (rows_in_lem (laid (width / 2) b (replicate 64 0)))) rs ≡ eqb d (length rs) && same_rows b rs
compared rs d b n f = go (eqb d (length rs)) refl
  where
    go : (t : Bool) → eqb d (length rs) ≡ t → t && same_rows (take (length rs) (rows_in_lem (laid (width / 2) b (replicate 64 0)))) rs ≡ t && same_rows b rs
    go true e =
        let same : length rs ≡ length b = sym (eqb-true d (length rs) e) ∙ n in
        ap (λ (l : List ℕ). same_rows l rs)
        (ap (λ (m : ℕ). take m (rows_in_lem (laid (width / 2) b (replicate 64 0)))) same
        ∙ laid_front (width / 2) (omega arith) b (replicate 64 0) f.1 (omega (arith, f.0, length-replicate {A = ℕ} 64 0)))
    go false e = refl

held_all : (rs : List ℕ) (M : List Entry) → All (λ e. (e.dimension ≡ length e.basis) × Fits e.basis) M → held_in (length M) rs (memory_words M) ≡ holds (length rs) rs M
unfolding held_in memory_words entry_words
held_all rs [] a = sym (holds_none (length rs) rs)
held_all rs (e ∷ M) a =
    let w = laid (width / 2) e.basis (replicate 64 0) in
    ap₂ (λ (b r : Bool). b || r)
    (ap (λ (l : List ℕ). eqb e.dimension (length rs) && same_rows (take (length rs) (rows_in_lem l)) rs) (take_at w (memory_words M) 64 (rows_length e.basis))
    ∙ compared rs e.dimension e.basis a.0.0 a.0.1)
    (ap (held_in (length M) rs) (drop_at w (memory_words M) 64 (rows_length e.basis)) ∙ held_all rs M a.1)
    ∙ sym (holds_first (length rs) rs e M)

-- as many entries as there are have room in their words
room_all : (M : List Entry) → room_in (memory_words M) ≡ length M
unfolding room_in
room_all M = omega (arith, memory_length M)

pub kept_held : (ws : List ℕ) (used : ℕ) (M : List Entry) (rs : List ℕ) → Kept ws used M
    → held_in (room_in (take used ws)) rs (take used ws) ≡ holds (length rs) rs M
kept_held ws used M rs k =
    ap (λ (l : List ℕ). held_in (room_in l) rs l) k.0 ∙ ap (λ (n : ℕ). held_in n rs (memory_words M)) (room_all M) ∙ held_all rs M k.2

-- ---- one entry more

memory_more : (M : List Entry) (e : Entry) → memory_words (M ++ (e ∷ [])) ≡ memory_words M ++ entry_words e.dimension e.basis
unfolding memory_words
memory_more [] e = append-nil (entry_words e.dimension e.basis)
memory_more (x ∷ M) e =
    ap (λ (l : List ℕ). entry_words x.dimension x.basis ++ l) (memory_more M e)
    ∙ sym (append_assoc (entry_words x.dimension x.basis) (memory_words M) (entry_words e.dimension e.basis))

-- there is room for it just where a whole entry has room behind the others
enter_room : (ws : List ℕ) (used : ℕ) (M : List Entry) (e : Entry) → Kept ws used M → entry_size ≤ length (drop used ws) → enter (room_in ws) e M ≡ M ++ (e ∷ [])
unfolding room_in
enter_room ws used M e k h =
    enter_is (room_in ws) e M ∙ ap (λ (b : Bool). enter_if b e M) (lt-ltb (length M) (length ws / entry_size) (omega (arith, h, length-drop used ws, k.1, memory_length M)))

enter_none : (ws : List ℕ) (used : ℕ) (M : List Entry) (e : Entry) → Kept ws used M → length (drop used ws) < entry_size → enter (room_in ws) e M ≡ M
unfolding room_in
enter_none ws used M e k h =
    enter_is (room_in ws) e M ∙ ap (λ (b : Bool). enter_if b e M) (le-ltb (length M) (length ws / entry_size) (omega (arith, h, length-drop used ws, k.1, memory_length M)))

module _ (ws : List ℕ) (used : ℕ) (rs : List ℕ) where
  abbrev after : List ℕ
  after = take used ws ++ entered rs (drop used ws)

  abbrev behind : ℕ
  behind = used + taken (drop used ws)

  abbrev Rest : Type 0
  Rest = (used ≤ behind) × (behind ≤ length ws) × (drop behind after ≡ drop behind ws) × (length after ≡ length ws)

  module _ (h : entry_size ≤ length (drop used ws)) where
    after_room : after ≡ (take used ws ++ entry_words (length rs) rs) ++ drop entry_size (drop used ws)
    after_room =
        ap (λ (l : List ℕ). take used ws ++ l) (entered_some rs (drop used ws) h)
        ∙ sym (append_assoc (take used ws) (entry_words (length rs) rs) (drop entry_size (drop used ws)))

    front_length : length (take used ws ++ entry_words (length rs) rs) ≡ used + entry_size
    front_length =
        length-append (take used ws) (entry_words (length rs) rs)
        ∙ omega (arith, h, length-drop used ws, length-take used ws, entry_length (length rs) rs)

  after_none : length (drop used ws) < entry_size → after ≡ ws
  after_none h = ap (λ (l : List ℕ). take used ws ++ l) (entered_none rs (drop used ws) h) ∙ take-append-drop used ws

  abbrev more : ℕ → Entry
  more looks = record { dimension = length rs; basis = rs; looks = looks }

  module _ (M : List Entry) (looks : ℕ) (k : Kept ws used M) (f : Fits rs) where
    kept_more : entry_size ≤ length (drop used ws) → Kept after (used + entry_size) (M ++ (more looks ∷ []))
    kept_more h =
        let words : memory_words (M ++ (more looks ∷ [])) ≡ take used ws ++ entry_words (length rs) rs =
        memory_more M (more looks) ∙ ap (λ (l : List ℕ). l ++ entry_words (length rs) rs) (sym k.0) in (
          ap (take (used + entry_size)) (after_room h) ∙ take_at (take used ws ++ entry_words (length rs) rs) (drop entry_size (drop used ws)) (used + entry_size) (front_length h) ∙ sym words,
          sym (ap length words ∙ front_length h),
          All-append (λ (e : Entry). (e.dimension ≡ length e.basis) × Fits e.basis) M (more looks ∷ []) k.2 ((refl, f), tt),
        )

pub kept_entered : (ws : List ℕ) (used : ℕ) (M : List Entry) (rs : List ℕ) (looks : ℕ) → Kept ws used M → Fits rs
    → let e : Entry = record { dimension = length rs; basis = rs; looks = looks } in
    Kept (take used ws ++ entered rs (drop used ws)) (used + taken (drop used ws)) (enter (room_in ws) e M)
kept_entered ws used M rs looks k f = go (leb entry_size (length (drop used ws))) refl
  where
    go : (b : Bool) → leb entry_size (length (drop used ws)) ≡ b → Kept (after ws used rs) (behind ws used rs) (enter (room_in ws) (more ws used rs looks) M)
    go true t =
        let e = more ws used rs looks in
        let h = leb-true entry_size (length (drop used ws)) t in
        subst (λ (n : ℕ). Kept (after ws used rs) (used + n) (enter (room_in ws) e M)) (sym (taken_some (drop used ws) h))
        (subst (λ (N : List Entry). Kept (after ws used rs) (used + entry_size) N) (sym (enter_room ws used M e k h)) (kept_more ws used rs M looks k f h))
    go false t =
        let e = more ws used rs looks in
        let h = leb-false entry_size (length (drop used ws)) t in
        let none : used ≡ used + taken (drop used ws) = omega (arith, taken_none (drop used ws) h) in
        subst (λ (n : ℕ). Kept (after ws used rs) n (enter (room_in ws) e M)) none
        (subst (λ (N : List Entry). Kept (after ws used rs) used N) (sym (enter_none ws used M e k h)) (subst (λ (l : List ℕ). Kept l used M) (sym (after_none ws used rs h)) k))

pub entered_rest : (ws : List ℕ) (used : ℕ) (rs : List ℕ) → used ≤ length ws
    → let n = used + taken (drop used ws) in
    (used ≤ n) × (n ≤ length ws) × (drop n (take used ws ++ entered rs (drop used ws)) ≡ drop n ws) × (length (take used ws ++ entered rs (drop used ws)) ≡ length ws)
entered_rest ws used rs u = go (leb entry_size (length (drop used ws))) refl
  where
    go : (b : Bool) → leb entry_size (length (drop used ws)) ≡ b → Rest ws used rs
    go true t =
        let h = leb-true entry_size (length (drop used ws)) t in
        let e = taken_some (drop used ws) h in
        let l = length-drop used ws in
        let front = take used ws ++ entry_words (length rs) rs in
        let at : behind ws used rs ≡ used + entry_size = ap (λ (m : ℕ). used + m) e in (
          omega arith,
          omega (arith, e, h, l),
          ap₂ (λ (m : ℕ) (x : List ℕ). drop m x) at (after_room ws used rs h)
              ∙ drop_at front (drop entry_size (drop used ws)) (used + entry_size) (front_length ws used rs h)
              ∙ drop-drop entry_size used ws ∙ sym (ap (λ (m : ℕ). drop m ws) at),
          ap length (after_room ws used rs h) ∙ length-append front (drop entry_size (drop used ws))
              ∙ omega (arith, front_length ws used rs h, h, l, length-drop entry_size (drop used ws)),
        )
    go false t =
        let h = leb-false entry_size (length (drop used ws)) t in
        let same = after_none ws used rs h in
        (omega arith, omega (arith, u, taken_none (drop used ws) h), ap (drop (behind ws used rs)) same, ap length same)

-- ---- all that was written

pub kept_over : (ws left : List ℕ) (used : ℕ) (M : List Entry) → Kept left used M → length left ≡ length ws → drop used left ≡ drop used ws
    → left ≡ over (memory_words M) ws
kept_over ws left used M k n e =
    sym (take-append-drop used left) ∙ ap₂ (λ (x y : List ℕ). x ++ y) (k.0 ∙ sym (take_all used (memory_words M) (omega (arith, k.1)))) e
    ∙ over_end (memory_words M) ws used (omega (arith, k.1, n, kept_within left used M k))

-- ---- no room for an entry

pub room_none : (ws : List ℕ) → length ws < entry_size → room_in ws ≡ 0
unfolding room_in
room_none ws h = div-eq_of_lt h

pub kept_no_room : (ws : List ℕ) (used : ℕ) (M : List Entry) → Kept ws used M → length ws < entry_size → (M ≡ []) × (used ≡ 0) × (room_in ws ≡ 0)
kept_no_room ws used [] k h = (refl, omega (arith, k.1, memory_length []), room_none ws h)
kept_no_room ws used (e ∷ M) k h = absurd (omega (arith, kept_within ws used (e ∷ M) k, k.1, memory_length (e ∷ M), h))

pub kept_no_room_enter : (ws : List ℕ) → length ws < entry_size → (e : Entry) (M : List Entry) → enter (room_in ws) e M ≡ M
kept_no_room_enter ws h e M = enter_is (room_in ws) e M ∙ ap (λ (b : Bool). enter_if b e M) (le-ltb (length M) (room_in ws) (omega (arith, room_none ws h)))

-- as many entries in as many words
pub room_same : (a b : List ℕ) → length a ≡ length b → room_in a ≡ room_in b
unfolding room_in
room_same a b e = ap (λ (n : ℕ). n / entry_size) e

pub words_none : memory_words [] ≡ []
unfolding memory_words
words_none = refl
