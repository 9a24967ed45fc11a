-- The entries of a memory: a space as it is entered, those that it holds, one more, and those that are known within a budget.
-- Assumes nothing.
use mathlib.Core.Path.{◌≡◌, refl, sym, ap, ap₂, ◌∙◌, subst}
use mathlib.Core.Bool.{Bool, true, false, ◌&&◌, ◌||◌}
use mathlib.Core.List.{List, [], ◌∷◌, ◌++◌, map, append-nil}
use Prim.Native.Nat.{ℕ, ◌^◌, ◌≤◌, ◌<◌}
use native.Mathlib.Nat.{le_trans, lt_of_lt_of_le}
use borrow.Author.Tests.{lt-leb, le-leb}
use lib.Dec.{eqb, leb, ltb}
use lib.ListN.{length, length-map}
use Rattle.blocks.specs.Matrices.{All}
use Rattle.blocks.proofs.All.{All-map, All-to_map, All-append}
use Rattle.linear.specs.Span.{InSpan}
use Rattle.linear.proofs.Instances.{𝕎}
use Rattle.linear.proofs.Rows.{times_in, span_lt}
use Rattle.symplectic.specs.Matches.{same_rows}
use Rattle.reduction.specs.Columns.{rows, row_reduce_with_transform_lem}
use Rattle.reduction.proofs.Transform.{row_is, transform_length}
use Rattle.triangular.specs.Search.{Outcome, looks_of}
use Rattle.triangular.specs.Memory.{Entry, entry_basis, is_space, holds, enter_if, enter, keep_if, known_within}
use Rattle.triangular.proofs.Grows.{Grown}

-- ---- a space as it is entered

module _ (m : ℕ) (bs : List ℕ) where
  pub reduced_is : entry_basis m bs ≡ map (λ a. a.0) (rows (row_reduce_with_transform_lem m bs))
  unfolding entry_basis
  reduced_is = refl

  -- each row is a sum of members
  pub reduced_spans : All (InSpan 𝕎 bs) (entry_basis m bs)
  reduced_spans =
      let rs = rows (row_reduce_with_transform_lem m bs) in
      subst (All (InSpan 𝕎 bs)) (sym reduced_is)
      (All-to_map (λ a. a.0) (InSpan 𝕎 bs) rs (All-map (λ a e. subst (InSpan 𝕎 bs) (sym e) (times_in a.1 bs)) rs (row_is m bs)))

  -- as many rows as members
  pub reduced_size : length (entry_basis m bs) ≡ length bs
  reduced_size = ap length reduced_is ∙ length-map (rows (row_reduce_with_transform_lem m bs)) (λ a. a.0) ∙ transform_length m bs

  -- of the same columns
  pub reduced_within : (k : ℕ) → All (λ v. v < 2 ^ k) bs → All (λ v. v < 2 ^ k) (entry_basis m bs)
  reduced_within k small = All-map (λ x h. span_lt k bs small x h) (entry_basis m bs) reduced_spans

-- ---- those that it holds, and one more

pub holds_none : (d : ℕ) (rs : List ℕ) → holds d rs [] ≡ false
unfolding holds
holds_none d rs = refl

pub holds_first : (d : ℕ) (rs : List ℕ) (e : Entry) (M : List Entry) → holds d rs (e ∷ M) ≡ (eqb e.dimension d && same_rows e.basis rs) || holds d rs M
unfolding holds is_space
holds_first d rs e M = refl

-- what holds of the entries and of one more
pub enter_all : (P : Entry → Type 0) (room : ℕ) (e : Entry) (M : List Entry) → P e → All P M → All P (enter room e M)
unfolding enter
enter_all P room e M h a = go (ltb (length M) room)
  where
    go : (b : Bool) → All P (enter_if b e M)
    go true = All-append P M (e ∷ []) a (h, tt)
    go false = a

pub enter_is : (room : ℕ) (e : Entry) (M : List Entry) → enter room e M ≡ enter_if (ltb (length M) room) e M
unfolding enter
enter_is room e M = refl

-- ---- those that are known within a budget

-- entries made after no more looks than these
abbrev pub Stamped : ℕ → List Entry → Type 0
Stamped looks M = All (λ e. e.looks ≤ looks) M

pub known_nil : (budget : ℕ) → known_within budget [] ≡ []
unfolding known_within
known_nil budget = refl

module _ (budget : ℕ) where
  pub known_all : (M : List Entry) → Stamped budget M → known_within budget M ≡ M
  unfolding known_within
  known_all [] h = refl
  known_all (e ∷ M) h = ap₂ (λ b l. keep_if b e l) (le-leb e.looks budget h.0) (known_all M h.1)

  known_none : (M : List Entry) → All (λ e. budget < e.looks) M → known_within budget M ≡ []
  unfolding known_within
  known_none [] h = refl
  known_none (e ∷ M) h = ap₂ (λ b l. keep_if b e l) (lt-leb e.looks budget h.0) (known_none M h.1)

  known_append : (M N : List Entry) → known_within budget (M ++ N) ≡ known_within budget M ++ known_within budget N
  unfolding known_within
  known_append [] N = refl
  known_append (e ∷ M) N = ap (keep_if (leb e.looks budget) e) (known_append M N) ∙ kept (leb e.looks budget)
    where
      kept : (b : Bool) → keep_if b e (known_within budget M ++ known_within budget N) ≡ keep_if b e (known_within budget M) ++ known_within budget N
      kept true = refl
      kept false = refl

  -- what is entered with more looks than the budget has is not known
  pub known_past : (looks : ℕ) (M : List Entry) (o : Outcome) (N : List Entry) → budget < looks → Grown looks M o N → known_within budget N ≡ known_within budget M
  known_past looks M o N h g =
      ap (known_within budget) (sym g.is) ∙ known_append M g.new
      ∙ ap (λ (l : List Entry). known_within budget M ++ l) (known_none g.new (All-map (λ e k. lt_of_lt_of_le h k.0) g.new g.when))
      ∙ append-nil (known_within budget M)

-- the memory of a search is as old as its looks
pub stamped_on : (looks : ℕ) (M : List Entry) (o : Outcome) (N : List Entry) → Stamped looks M → Grown looks M o N → Stamped (looks_of o) N
stamped_on looks M o N h g =
    subst (Stamped (looks_of o)) g.is
    (All-append (λ e. e.looks ≤ looks_of o) M g.new (All-map (λ e k. le_trans k g.more) M h) (All-map (λ e k. k.1) g.new g.when))
