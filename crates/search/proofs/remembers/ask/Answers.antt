-- `ask` looks the space up by its reduced basis, then tests its Gram rows.
use mathlib.Core.Path.{◌≡◌, sym, ap, ◌∙◌}
use mathlib.Core.Bool.{Bool, ◌&&◌}
use mathlib.Core.List.{List}
use Prim.Native.Nat.{ℕ, ◌+◌, ◌-◌, ◌≤◌}
use native.Mathlib.Omega.{arith}
use lib.Dec.{ltb}
use lib.ListN.{length, take, drop}
use lib.Seq.{length-take-le}
use Rattle.binar.specs.Rows.{width}
use Rattle.blocks.specs.Words.{rows_in_lem}
use Rattle.blocks.proofs.Lent.{lent_same, lent_part, words_mono}
use Rattle.residue.specs.Residue.{form}
use Rattle.triangular.specs.Spaces.{is_alternating_lem}
use Rattle.triangular.specs.Memory.{Entry, entry_basis, holds}
use Rattle.triangular.proofs.Entries.{reduced_size}
use Rattle.memory.specs.Entries.{room_in, held_in}
use Rattle.memory.specs.inner.Kept.{Kept}
use Rattle.memory.proofs.Kept.{kept_held}
use Rattle.spaces.specs.Levels.{below, gram_of, form_in}
use Rattle.spaces.proofs.Grams.{tested_form}
use Rattle.search.proofs.remembers.ask.Goals as goal
use Rattle.search.proofs.remembers.ask.Goals.{After-holds}

-- where the memory has been asked
module _ (c : goal.After-holds) where
  abbrev d : ℕ
  d = c.args.d

  abbrev put : List ℕ
  put = c.put_reduced.new.basis

  abbrev members : List ℕ
  members = take c.args.d (rows_in_lem c.args.basis.now)

  -- the rows that were lent are the reduced basis
  lent : rows_in_lem (take (c.start-c.result - c.start-b.result) (drop c.start-b.result put)) ≡ entry_basis width members
  lent = lent_part d d c.start-b.result c.start-c.result put c.start-b.ensures c.start-c.ensures ∙ c.put_reduced.ensures.2

  size : length (entry_basis width members) ≡ d
  size = reduced_size width members ∙ length-take-le d (rows_in_lem c.args.basis.now) (omega (arith, c.requires.2))

  looked_up : (M : List Entry) → Kept c.args.memory.now c.args.used M → c.holds.result ≡ holds d (entry_basis width members) M
  looked_up M k =
      let w = take c.args.used c.args.memory.now in
      c.holds.ensures ∙ ap (λ rs. held_in (room_in w) rs w) lent ∙ kept_held c.args.memory.now c.args.used M (entry_basis width members) k
      ∙ ap (λ n. holds n (entry_basis width members) M) size

  -- the Gram rows that are tested
  gram_same : (E : List ℕ) → gram_of E members ≡ take d (rows_in_lem c.args.gram.now) → gram_of E members ≡ take d (rows_in_lem c.put_reduced.new.gram)
  gram_same E e = e ∙ sym c.put_reduced.ensures.1

  gram_long : d ≤ length (rows_in_lem c.put_reduced.new.gram)
  gram_long = omega (arith, lent_same c.put_reduced.new.gram c.args.gram.now c.put_reduced.auto.gram, c.requires.3)

  -- the test tells
  tells : (E : List ℕ) → gram_of E members ≡ take d (rows_in_lem c.args.gram.now) → (t : Bool)
      → t ≡ (is_alternating_lem (form_in (rows_in_lem c.put_reduced.new.gram)) (below d) && ltb 0 d) → is_alternating_lem (form E) members ≡ t
  tells E e = tested_form d (rows_in_lem c.put_reduced.new.gram) gram_long E members (gram_same E e) c.requires.0

pub slice_bounds-holds-count : goal.slice_bounds-holds-count
slice_bounds-holds-count c = omega (arith, c.start-c.ensures, c.start-b.ensures, words_mono c.args.d (c.args.d + c.args.d) (omega arith))

pub slice_bounds-holds-start : goal.slice_bounds-holds-start
slice_bounds-holds-start c = omega (arith, c.start-c.ensures, c.start-b.ensures, words_mono c.args.d (c.args.d + c.args.d) (omega arith))

pub returns-then-holds : goal.returns-then-holds
returns-then-holds c =
    let e = c.put_reduced.ensures in
    (e.0, e.1, e.2, λ E M g k. sym (looked_up (goal.at.returns-then-holds c).After-holds M k) ∙ c.if-holds.true)

pub returns-then-is_alternating : goal.returns-then-is_alternating
returns-then-is_alternating c =
    let e = c.put_reduced.ensures in (
      e.0,
      e.1,
      e.2,
      λ E M g k. (
        sym (looked_up (goal.at.returns-then-is_alternating c).After-holds M k) ∙ c.if-holds.false,
        tells (goal.at.returns-then-is_alternating c).After-holds E g c.is_alternating.result c.is_alternating.ensures ∙ c.if-is_alternating.true,
      ),
    )

pub returns : goal.returns
returns c =
    let e = c.put_reduced.ensures in (
      e.0,
      e.1,
      e.2,
      λ E M g k. (
        sym (looked_up (goal.at.returns c).After-holds M k) ∙ c.if-holds.false,
        tells (goal.at.returns c).After-holds E g c.is_alternating.result c.is_alternating.ensures ∙ c.if-is_alternating.false,
      ),
    )
