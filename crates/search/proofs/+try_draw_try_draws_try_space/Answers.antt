-- `try_draw`, `try_space` and `try_draws` tell of the search with a memory, cut at the budget: a draw by its steps, a space by its questions, its draws by their invariant.
mod Places
mod Turns
mod Passed
mod Spaces
use mathlib.Core.Path.{◌≡◌, refl, sym, ap, ◌∙◌, subst}
use mathlib.Core.List.{List, ◌++◌, ◌∷◌}
use Prim.Native.Nat.{ℕ, ◌+◌, ◌-◌, ◌≤◌, ◌<◌, ◌^◌, min, suc}
use lib.ListN.{length, take, drop}
use Rattle.binar.specs.Rows.{val, width, lowest}
use Rattle.blocks.specs.Matrices.{times, All}
use Rattle.blocks.specs.Words.{rows_in_lem, words_for}
use Rattle.triangular.specs.Memory.{Entry, Remembered, search_with, entry_basis, holds, enter, draws_with, known_within}
use Rattle.memory.specs.Entries.{room_in, entry_size, entered}
use Rattle.search.specs.inner.Reports.{Space, Carries, Grew, Reports}
use Rattle.search.proofs.Going.{going_begun, going_end, going_stop, all, going_left, going_found, going_spent, going_failed}
use mathlib.Core.Bool.{true}
use native.Mathlib.Omega.{arith}
use Rattle.binar.specs.Bits.{dot, ◌⊕◌}
use Rattle.blocks.proofs.Lent.{lent_same, lent_within, lent_rest, lent_back}
use Rattle.residue.specs.Residue.{form}
use Rattle.triangular.specs.Spaces.{complement, is_alternating_lem}
use Rattle.memory.proofs.Kept.{kept_no_room, kept_no_room_enter, room_same}
use Rattle.spaces.specs.Levels.{counted, gram_of, members_passed}
use Rattle.spaces.proofs.Grams.{tested_form, gram_self}
use Rattle.search.specs.inner.Levels.{levels, found_in}
use Rattle.triangular.specs.declared.Ending.{Ending}
use Rattle.search.proofs.LentLevels.{levels_least, found_none, back_rest, front_get, behind_front, front_less, found_kept}
use Rattle.search.proofs.Draws.{Drawn, Moved, room_g, gram_front_kept, gram_kept, rest, rest_gram, rest_small, room_b, basis_kept, within_b, child}
use Rattle.search.proofs.Reported.{grew_none, empty_reports, plain_alternating, plain_reports, grew_on, noted_grew, noted_kept, held_reports, alternating_reports, kept_reports, failed_reports, found_not_failed, is_failed, not_failed}
use borrow.Author.Rules.{rules}
use borrow.Author.Tests.{ltb-true, ltb-false, not-true, not-false}
use Rattle.blocks.proofs.Products.{times_zero}
use Rattle.spaces.proofs.Levels.{sums_front, sums_at}
use Rattle.binar.proofs.Orders.{rows_lt}
use Rattle.search.proofs.Drawing.{ones_last, next_is, next_column, next_drawn}
use mathlib.Core.Logic.{◌⊎◌, inl, inr}
use lib.Seq.{length-take-le}
use Rattle.triangular.specs.declared.Ending.TheVariants.{Found, Failed, Spent}
use Rattle.triangular.proofs.Entries.{reduced_size, reduced_within}
use Rattle.memory.specs.inner.Kept.{Fits, Kept}
use Rattle.search.specs.declared.Asked.{Asked}
use Rattle.search.specs.declared.Asked.TheVariants.{Held, Alternating, Open}
use Rattle.search.specs.inner.Asked.{Known}
use Rattle.search.proofs.+try_draw_try_draws_try_space.Goals as goal
use Rattle.search.proofs.+try_draw_try_draws_try_space.Goals.{try_draw-After-is_alternating, try_draw-After-start-b, try_draws-After-dot, try_draws-After-low_ones-last, try_draws-After-next-c, try_draws-After-bitxor_assign, try_draws-After-try_draw-o, try_space-After-ask, try_space-After-try_draws-o}
use Rattle.search.proofs.+try_draw_try_draws_try_space.Answers.Places.{before, ahead, next_value, column, members, summed, space_in, summed_long, sum_is, tested}
use Rattle.search.proofs.+try_draw_try_draws_try_space.Answers.Turns.{x, accepted, draws_came, grown, basis_still}
use Rattle.search.proofs.+try_draw_try_draws_try_space.Answers.Passed.{draw_drawn, rest_g, back_g, more, tail_b, back_b, rooms, left, draw_stands, told, short, tests}
use Rattle.search.proofs.+try_draw_try_draws_try_space.Answers.Spaces.{space_d, B, known, size, fits, in_basis, open_is, space_came, in_draws}

-- ---- before the draws, and behind them

pub try_draws-loop-last-init : goal.try_draws-loop-last-init
try_draws-loop-last-init t c =
    let z = c.zero-c.ensures in
    let ws = c.args.memory.now in
    let G = take c.args.d (summed t (goal.at.try_draws-loop-last-init t c).After-low_ones-last) in (
      omega (arith, z),
      c.requires.4,
      refl,
      refl,
      refl,
      refl,
      refl,
      z ∙ sym (ap (λ x. times x G) z ∙ times_zero G),
      grew_none ws c.args.used c.requires.5,
      λ E M sp ca.
          going_begun E (room_in ws) c.args.budget c.args.d (members t (goal.at.try_draws-loop-last-init t c).After-low_ones-last) c.args.looks M (val c.low_ones-last.result) (val c.zero-c.result) ws c.args.used
          (ones_last c.args.d (val c.low_ones-last.result) c.requires.1 c.low_ones-last.ensures) z ca,
    )

pub try_draws-returns : goal.try_draws-returns
try_draws-returns t c =
    let at = c.loop-last in
    let s = c.args in (
      at.invariant.1,
      at.invariant.8,
      λ e. at.invariant.5,
      λ E M sp ca.
          going_end E (room_in s.memory.now) s.budget s.d (members t (goal.at.try_draws-returns t c).After-low_ones-last) s.looks M (val c.low_ones-last.result) (val at.c) at.spent at.memory at.kept (at.invariant.9 E M (space_in t (goal.at.try_draws-returns t c).After-low_ones-last E sp) ca)
          (ltb-false (val at.c) (val c.low_ones-last.result) (sym (c.lt.ensures ∙ rows_lt at.c c.low_ones-last.result) ∙ c.loop-last-test.false)) at.invariant.1 _,
    )

pub try_draws-returns-then-spent-budget : goal.try_draws-returns-then-spent-budget
try_draws-returns-then-spent-budget t c =
    let at = c.loop-last in
    let s = c.args in (
      at.invariant.1,
      at.invariant.8,
      λ e. at.invariant.5,
      λ E M sp ca.
          going_stop E (room_in s.memory.now) s.budget s.d (members t (goal.at.try_draws-returns-then-spent-budget t c).After-low_ones-last) s.looks M (val c.low_ones-last.result) (val at.c) at.spent at.memory at.kept (at.invariant.9 E M (space_in t (goal.at.try_draws-returns-then-spent-budget t c).After-low_ones-last E sp) ca)
          (ahead t (goal.at.try_draws-returns-then-spent-budget t c).After-next-c) c.if-spent-budget.true _,
    )

pub try_draws-try_draw-o-requires : goal.try_draws-try_draw-o-requires
try_draws-try_draw-o-requires t c =
    let at = c.loop-last in
    let b_same = lent_same at.basis c.args.basis.now at.invariant.2 in
    let g_same = lent_same at.gram c.args.gram.now (at.invariant.3 ∙ summed_long t (goal.at.try_draws-try_draw-o-requires t c).After-low_ones-last) in (
      omega (arith, c.decreases),
      (
        c.requires.0,
        c.requires.1,
        omega (arith, b_same, c.requires.2),
        omega (arith, g_same, c.requires.3),
        omega (arith, at.invariant.1, c.if-spent-budget.false),
        at.invariant.8.1,
      ),
    )

pub try_draws-loop-last-preserved-in-Failed : goal.try_draws-loop-last-preserved-in-Failed
try_draws-loop-last-preserved-in-Failed t c =
    let at = c.loop-last in
    let s = c.args in
    let o = c.try_draw-o in (
      omega (arith, ahead t (goal.at.try_draws-loop-last-preserved-in-Failed t c).After-next-c, next_value t (goal.at.try_draws-loop-last-preserved-in-Failed t c).After-next-c),
      o.ensures.0,
      o.auto.basis ∙ at.invariant.2,
      o.auto.gram ∙ at.invariant.3,
      o.auto.memory ∙ at.invariant.4,
      basis_still t (goal.at.try_draws-loop-last-preserved-in-Failed t c).After-try_draw-o,
      o.ensures.3 ∙ at.invariant.6,
      sum_is t (goal.at.try_draws-loop-last-preserved-in-Failed t c).After-bitxor_assign,
      grown t (goal.at.try_draws-loop-last-preserved-in-Failed t c).After-try_draw-o,
      λ E M sp ca.
          going_failed E (room_in s.memory.now) s.budget s.d (members t (goal.at.try_draws-loop-last-preserved-in-Failed t c).After-low_ones-last) s.looks M (val c.low_ones-last.result) (val at.c) at.spent at.memory at.kept (at.invariant.9 E M sp ca) (ahead t (goal.at.try_draws-loop-last-preserved-in-Failed t c).After-next-c) (val c.next-c.result) (next_value t (goal.at.try_draws-loop-last-preserved-in-Failed t c).After-next-c)
          (accepted t (goal.at.try_draws-loop-last-preserved-in-Failed t c).After-try_draw-o E sp) o.result.ending o.result.looks (found_in (s.d - 1) (drop (s.d + s.d) (rows_in_lem o.new.basis))) o.new.memory o.result.used (draws_came t (goal.at.try_draws-loop-last-preserved-in-Failed t c).After-try_draw-o E sp) (search (rules, c.in-Failed.is)),
    )

-- found: the draw is kept behind the members
pub try_draws-returns-in-Found : goal.try_draws-returns-in-Found
try_draws-returns-in-Found t c =
    let at = c.loop-last in
    let s = c.args in
    let o = c.try_draw-o in
    let put = c.put in
    let told : o.result.ending ≡ Found = search (rules, c.in-Found.is) in
    let rows = rows_in_lem o.new.basis in
    let long : s.d + s.d ≤ length rows = omega (arith, lent_same o.new.basis s.basis.now (o.auto.basis ∙ at.invariant.2), levels_least s.d, c.requires.2) in (
      o.ensures.0,
      grown t (goal.at.try_draws-returns-in-Found t c).After-try_draw-o,
      λ e. absurd (found_not_failed (sym told ∙ e)),
      λ E M sp₀ ca.
          let sp = space_in t (goal.at.try_draws-returns-in-Found t c).After-low_ones-last E sp₀ in
          subst (λ (l : List ℕ). Reports s.budget (all E (room_in s.memory.now) s.budget s.d (members t (goal.at.try_draws-returns-in-Found t c).After-low_ones-last) s.looks M) o.result.ending o.result.looks l o.new.memory o.result.used)
          (sym (found_kept s.d (val c.next-c.result) rows (rows_in_lem put.new.w) c.requires.0 long put.ensures
          ∙ ap (λ l. times (val c.next-c.result) l ∷ found_in (s.d - 1) (drop (s.d + s.d) rows)) (front_less s.d (s.d + s.d) rows (rows_in_lem s.basis.now) (omega arith) (basis_still t (goal.at.try_draws-returns-in-Found t c).After-try_draw-o))))
          (going_found E (room_in s.memory.now) s.budget s.d (members t (goal.at.try_draws-returns-in-Found t c).After-low_ones-last) s.looks M (val c.low_ones-last.result) (val at.c) at.spent at.memory at.kept (at.invariant.9 E M sp ca) (ahead t (goal.at.try_draws-returns-in-Found t c).After-next-c) (val c.next-c.result) (next_value t (goal.at.try_draws-returns-in-Found t c).After-next-c)
          (accepted t (goal.at.try_draws-returns-in-Found t c).After-try_draw-o E sp) o.result.ending o.result.looks (found_in (s.d - 1) (drop (s.d + s.d) rows)) o.new.memory o.result.used (draws_came t (goal.at.try_draws-returns-in-Found t c).After-try_draw-o E sp) told),
    )

pub try_draws-returns-in-Spent : goal.try_draws-returns-in-Spent
try_draws-returns-in-Spent t c =
    let at = c.loop-last in
    let s = c.args in
    let o = c.try_draw-o in
    let told : o.result.ending ≡ Spent = search (rules, c.in-Spent.is) in (
      o.ensures.0,
      grown t (goal.at.try_draws-returns-in-Spent t c).After-try_draw-o,
      λ e. basis_still t (goal.at.try_draws-returns-in-Spent t c).After-try_draw-o,
      λ E M sp₀ ca.
          let sp = space_in t (goal.at.try_draws-returns-in-Spent t c).After-low_ones-last E sp₀ in
          going_spent E (room_in s.memory.now) s.budget s.d (members t (goal.at.try_draws-returns-in-Spent t c).After-low_ones-last) s.looks M (val c.low_ones-last.result) (val at.c) at.spent at.memory at.kept (at.invariant.9 E M sp ca) (ahead t (goal.at.try_draws-returns-in-Spent t c).After-next-c) (val c.next-c.result) (next_value t (goal.at.try_draws-returns-in-Spent t c).After-next-c)
          (accepted t (goal.at.try_draws-returns-in-Spent t c).After-try_draw-o E sp) o.result.ending o.result.looks (found_in (s.d - 1) (drop (s.d + s.d) (rows_in_lem o.new.basis))) o.new.memory o.result.used (draws_came t (goal.at.try_draws-returns-in-Spent t c).After-try_draw-o E sp) told (found_in s.d (rows_in_lem o.new.basis)),
    )

pub try_draws-loop-last-preserved : goal.try_draws-loop-last-preserved
try_draws-loop-last-preserved t c =
    let at = c.loop-last in
    let s = c.args in (
      omega (arith, ahead t (goal.at.try_draws-loop-last-preserved t c).After-next-c, next_value t (goal.at.try_draws-loop-last-preserved t c).After-next-c),
      omega (arith, at.invariant.1, c.if-spent-budget.false),
      at.invariant.2,
      at.invariant.3,
      at.invariant.4,
      at.invariant.5,
      at.invariant.6,
      sum_is t (goal.at.try_draws-loop-last-preserved t c).After-bitxor_assign,
      at.invariant.8,
      λ E M sp ca.
          going_left E (room_in s.memory.now) s.budget s.d (members t (goal.at.try_draws-loop-last-preserved t c).After-low_ones-last) s.looks M (val c.low_ones-last.result) (val at.c) at.spent at.memory at.kept (at.invariant.9 E M sp ca) (ahead t (goal.at.try_draws-loop-last-preserved t c).After-next-c) (val c.next-c.result) (next_value t (goal.at.try_draws-loop-last-preserved t c).After-next-c)
          (tested t (goal.at.try_draws-loop-last-preserved t c).After-dot E sp.0 ∙ c.if-dot.false),
    )

pub try_draws-overflow_add-d : goal.try_draws-overflow_add-d
try_draws-overflow_add-d t c = omega (arith, column t (goal.at.try_draws-overflow_add-d t c).After-next-c c.lowest.result c.lowest.ensures, c.requires.1)

pub try_draws-loop-last-smaller-in-Failed : goal.try_draws-loop-last-smaller-in-Failed
try_draws-loop-last-smaller-in-Failed t c = omega (arith, next_value t (goal.at.try_draws-loop-last-smaller-in-Failed t c).After-next-c, ahead t (goal.at.try_draws-loop-last-smaller-in-Failed t c).After-next-c)

pub try_draws-loop-last-smaller : goal.try_draws-loop-last-smaller
try_draws-loop-last-smaller t c = omega (arith, next_value t (goal.at.try_draws-loop-last-smaller t c).After-next-c, ahead t (goal.at.try_draws-loop-last-smaller t c).After-next-c)

-- nothing is left
pub try_draw-returns-then-d-eq1 : goal.try_draw-returns-then-d-eq1
try_draw-returns-then-d-eq1 t c =
    let ws = c.args.memory.now in
    let e : c.args.d - 1 ≡ 0 = omega (arith, c.if-d-eq1.true) in (
      c.requires.4,
      grew_none ws c.args.used c.requires.5,
      refl,
      refl,
      λ E M x sp ca sum on.
          empty_reports (form E) (room_in ws) c.args.budget c.args.looks (complement (form E (times x (take c.args.d (rows_in_lem c.args.basis.now)))) (take c.args.d (rows_in_lem c.args.basis.now))) M ca.1 c.requires.4 (c.args.d - 1) e
          (found_in (c.args.d - 1) (drop (c.args.d + c.args.d) (rows_in_lem c.args.basis.now))) ws c.args.used (found_none (c.args.d - 1) (drop (c.args.d + c.args.d) (rows_in_lem c.args.basis.now)) e) ca.0,
    )

-- ---- a memory is lent

pub try_draw-try_space-requires : goal.try_draw-try_space-requires
try_draw-try_space-requires t c = (omega (arith, c.decreases, c.requires.0), rooms t (goal.at.try_draw-try_space-requires t c).After-start-b c.pass_members.new.basis c.pass_members.auto.basis c.pass_members.ensures)

pub try_draw-returns-then-memory-ge-ENTRY : goal.try_draw-returns-then-memory-ge-ENTRY
try_draw-returns-then-memory-ge-ENTRY t c =
    let s = c.args in
    let a = c.try_space in (
      a.ensures.0,
      a.ensures.1,
      back_b t (goal.at.try_draw-returns-then-memory-ge-ENTRY t c).After-start-b c.pass_members.new.basis c.pass_members.auto.basis c.pass_members.ensures a.new.basis,
      back_g t (goal.at.try_draw-returns-then-memory-ge-ENTRY t c).After-start-b a.new.gram,
      λ E M x sp ca sum on.
          told t (goal.at.try_draw-returns-then-memory-ge-ENTRY t c).After-start-b c.pass_members.new.basis c.pass_members.auto.basis c.pass_members.ensures E x sp sum on (λ l. search_with (form E) width (room_in s.memory.now) (s.d - 1) l s.looks M) a.result.ending a.result.looks a.new.basis a.new.memory a.result.used
          (a.ensures.2 E M (draw_stands t (goal.at.try_draw-returns-then-memory-ge-ENTRY t c).After-start-b c.pass_members.new.basis c.pass_members.auto.basis c.pass_members.ensures E x sp sum on) ca),
    )

-- ---- none is lent

-- it fails by its Gram rows alone
pub try_draw-returns-then-is_alternating : goal.try_draw-returns-then-is_alternating
try_draw-returns-then-is_alternating t c =
    let ws = c.args.memory.now in
    let p = draw_drawn t (goal.at.try_draw-returns-then-is_alternating t c).After-start-b in (
      c.requires.4,
      grew_none ws c.args.used c.requires.5,
      refl,
      gram_front_kept _ _ _ _ _ _ p,
      λ E M x sp ca sum on.
          let X = rest _ _ _ _ _ _ p E x sp.0 sum on in
          plain_alternating (form E) (room_in ws) c.args.budget c.args.looks X M ca.1 c.requires.4 (c.args.d - 1) (more t (goal.at.try_draw-returns-then-is_alternating t c).After-start-b)
          (kept_no_room ws c.args.used M ca.0 (short t (goal.at.try_draw-returns-then-is_alternating t c).After-is_alternating)).0 (kept_no_room_enter ws (short t (goal.at.try_draw-returns-then-is_alternating t c).After-is_alternating))
          (tests t (goal.at.try_draw-returns-then-is_alternating t c).After-is_alternating E X (rest_gram _ _ _ _ _ _ p E x sp.0 sum on ∙ sym (ap (take (c.args.d - 1)) (rest_g t (goal.at.try_draw-returns-then-is_alternating t c).After-start-b))) ∙ c.if-is_alternating.true)
          (found_in (c.args.d - 1) (drop (c.args.d + c.args.d) (rows_in_lem c.args.basis.now))) ws c.args.used ca.0,
    )

pub try_draw-try_draws-requires : goal.try_draw-try_draws-requires
try_draw-try_draws-requires t c = (omega (arith, c.decreases, c.requires.0), rooms t (goal.at.try_draw-try_draws-requires t c).After-start-b c.pass_members-2.new.basis c.pass_members-2.auto.basis c.pass_members-2.ensures)

-- its draws are all that there is to tell
pub try_draw-returns : goal.try_draw-returns
try_draw-returns t c =
    let s = c.args in
    let ws = s.memory.now in
    let a = c.try_draws in (
      a.ensures.0,
      a.ensures.1,
      back_b t (goal.at.try_draw-returns t c).After-start-b c.pass_members-2.new.basis c.pass_members-2.auto.basis c.pass_members-2.ensures a.new.basis,
      back_g t (goal.at.try_draw-returns t c).After-start-b a.new.gram,
      λ E M x sp ca sum on.
          let sp' = draw_stands t (goal.at.try_draw-returns t c).After-start-b c.pass_members-2.new.basis c.pass_members-2.auto.basis c.pass_members-2.ensures E x sp sum on in
          told t (goal.at.try_draw-returns t c).After-start-b c.pass_members-2.new.basis c.pass_members-2.auto.basis c.pass_members-2.ensures E x sp sum on (λ l. search_with (form E) width (room_in ws) (s.d - 1) l s.looks M) a.result.ending a.result.looks a.new.basis a.new.memory a.result.used
          (plain_reports (form E) (room_in ws) s.budget s.looks (take (s.d - 1) (rows_in_lem (tail_b t (goal.at.try_draw-returns t c).After-start-b c.pass_members-2.new.basis c.pass_members-2.auto.basis c.pass_members-2.ensures))) M ca.1 c.requires.4 (s.d - 1) (more t (goal.at.try_draw-returns t c).After-start-b)
          (kept_no_room ws s.used M ca.0 (short t (goal.at.try_draw-returns t c).After-is_alternating)).0 (kept_no_room_enter ws (short t (goal.at.try_draw-returns t c).After-is_alternating)) (tests t (goal.at.try_draw-returns t c).After-is_alternating E (take (s.d - 1) (rows_in_lem (tail_b t (goal.at.try_draw-returns t c).After-start-b c.pass_members-2.new.basis c.pass_members-2.auto.basis c.pass_members-2.ensures))) sp'.0 ∙ c.if-is_alternating.false)
          a.result.ending a.result.looks (found_in (s.d - 1) (rows_in_lem a.new.basis)) a.new.memory a.result.used (a.ensures.3 E M sp' ca)),
    )

pub try_space-ask-requires : goal.try_space-ask-requires
try_space-ask-requires t c =
    (c.requires.0, c.requires.1, omega (arith, levels_least c.args.d, c.requires.2), omega (arith, levels_least c.args.d, c.requires.3), c.requires.5)

-- it is held
pub try_space-returns-in-Held : goal.try_space-returns-in-Held
try_space-returns-in-Held t c =
    let ws = c.args.memory.now in
    let told : c.ask.result ≡ Held = search (rules, c.in-Held.is) in (
      c.requires.4,
      grew_none ws c.args.used c.requires.5,
      λ E M sp ca.
          held_reports (form E) (room_in ws) c.args.budget c.args.looks (B t (goal.at.try_space-returns-in-Held t c).After-ask) M ca.1 c.requires.4 c.args.d c.requires.0 (known t (goal.at.try_space-returns-in-Held t c).After-ask Held told E M sp ca)
          (found_in c.args.d (rows_in_lem c.ask.new.basis)) ws c.args.used ca.0,
    )

pub try_space-note-requires : goal.try_space-note-requires
try_space-note-requires t c = (c.requires.5, c.requires.1, in_basis t (goal.at.try_space-note-requires t c).After-ask)

-- it is alternating
pub try_space-returns-in-Alternating : goal.try_space-returns-in-Alternating
try_space-returns-in-Alternating t c =
    let ws = c.args.memory.now in
    let o = c.note in
    let told : c.ask.result ≡ Alternating = search (rules, c.in-Alternating.is) in
    let rs = entry_basis width (B t (goal.at.try_space-returns-in-Alternating t c).After-ask) in
    let put = o.ensures.1 ∙ ap (λ l. take c.args.used ws ++ entered l (drop c.args.used ws)) c.ask.ensures.2 in (
      c.requires.4,
      noted_grew ws c.args.used c.args.d rs o.new.memory o.result c.requires.5 put o.ensures.0,
      λ E M sp ca.
          let k = known t (goal.at.try_space-returns-in-Alternating t c).After-ask Alternating told E M sp ca in
          alternating_reports (form E) (room_in ws) c.args.budget c.args.looks (B t (goal.at.try_space-returns-in-Alternating t c).After-ask) M ca.1 c.requires.4 c.args.d c.requires.0 k.0 k.1
          (found_in c.args.d (rows_in_lem c.ask.new.basis)) o.new.memory o.result
          (noted_kept ws c.args.used c.args.d rs o.new.memory o.result c.requires.5 put o.ensures.0 M c.args.looks ca.0 (size t (goal.at.try_space-returns-in-Alternating t c).After-ask) (fits t (goal.at.try_space-returns-in-Alternating t c).After-ask sp.1)),
    )

pub try_space-try_draws-o-requires : goal.try_space-try_draws-o-requires
try_space-try_draws-o-requires t c =
    let o = c.ask in
    let b_same = lent_same o.new.basis c.args.basis.now o.auto.basis in
    let g_same = lent_same o.new.gram c.args.gram.now o.auto.gram in
    (omega (arith, c.decreases), (c.requires.0, c.requires.1, omega (arith, b_same, c.requires.2), omega (arith, g_same, c.requires.3), c.requires.4, c.requires.5))

pub try_space-note-requires-2 : goal.try_space-note-requires-2
try_space-note-requires-2 t c = (c.try_draws-o.ensures.1.1, c.requires.1, in_draws t (goal.at.try_space-note-requires-2 t c).After-try_draws-o)

-- they failed: it is entered then
pub try_space-returns : goal.try_space-returns
try_space-returns t c =
    let a = c.try_draws-o in
    let o = c.note-2 in
    let ws = a.new.memory in
    let used = a.result.used in
    let space_d = c.args.d in
    let rs = entry_basis width (B t (goal.at.try_space-returns t c).After-ask) in
    let fails : a.result.ending ≡ Failed = is_failed a.result.ending (not-false _ (sym c.ne.ensures ∙ c.if-ne.false)) in
    let still = behind_front space_d space_d (rows_in_lem a.new.basis) (rows_in_lem c.ask.new.basis) (omega (arith, in_draws t (goal.at.try_space-returns t c).After-try_draws-o)) (omega (arith, in_basis t (goal.at.try_space-returns t c).After-ask)) (a.ensures.2 fails) ∙ c.ask.ensures.2 in
    let put = o.ensures.1 ∙ ap (λ l. take used ws ++ entered l (drop used ws)) still in
    let rooms : room_in ws ≡ room_in c.args.memory.now = room_same ws c.args.memory.now a.auto.memory in (
      a.ensures.0,
      grew_on c.args.memory.now c.args.used ws used o.new.memory o.result a.ensures.1 (noted_grew ws used space_d rs o.new.memory o.result a.ensures.1.1 put o.ensures.0),
      λ E M sp ca.
          let k = known t (goal.at.try_space-returns t c).After-ask Open (open_is t (goal.at.try_space-returns t c).After-try_draws-o) E M sp ca in
          let N = known_within c.args.budget (draws_with (form E) width (room_in c.args.memory.now) (search_with (form E) width (room_in c.args.memory.now) (space_d - 1)) (B t (goal.at.try_space-returns t c).After-ask) (2 ^ space_d - 1) 1 c.args.looks M).memory in
          subst (λ v. Reports c.args.budget (search_with (form E) width (room_in c.args.memory.now) space_d (B t (goal.at.try_space-returns t c).After-ask) c.args.looks M) v a.result.looks (found_in space_d (rows_in_lem a.new.basis)) o.new.memory o.result) (sym fails)
          (failed_reports (form E) (room_in c.args.memory.now) c.args.budget c.args.looks (B t (goal.at.try_space-returns t c).After-ask) M ca.1 c.requires.4 space_d c.requires.0 k.0 k.1
          a.result.ending a.result.looks (found_in space_d (rows_in_lem a.new.basis)) ws used (space_came t (goal.at.try_space-returns t c).After-try_draws-o E M sp ca) fails (found_in space_d (rows_in_lem a.new.basis)) o.new.memory o.result
          (subst (λ n. Kept o.new.memory o.result (enter n (record { dimension = space_d; basis = rs; looks = a.result.looks }) N)) rooms
          (noted_kept ws used space_d rs o.new.memory o.result a.ensures.1.1 put o.ensures.0 N a.result.looks (space_came t (goal.at.try_space-returns t c).After-try_draws-o E M sp ca).1 (size t (goal.at.try_space-returns t c).After-ask) (fits t (goal.at.try_space-returns t c).After-ask sp.1)))),
    )

-- found or spent
pub try_space-returns-then-ne : goal.try_space-returns-then-ne
try_space-returns-then-ne t c =
    let a = c.try_draws-o in (
      a.ensures.0,
      a.ensures.1,
      λ E M sp ca.
          let k = known t (goal.at.try_space-returns-then-ne t c).After-ask Open (open_is t (goal.at.try_space-returns-then-ne t c).After-try_draws-o) E M sp ca in
          kept_reports (form E) (room_in c.args.memory.now) c.args.budget c.args.looks (B t (goal.at.try_space-returns-then-ne t c).After-ask) M ca.1 c.requires.4 c.args.d c.requires.0 k.0 k.1
          a.result.ending a.result.looks (found_in c.args.d (rows_in_lem a.new.basis)) a.new.memory a.result.used (space_came t (goal.at.try_space-returns-then-ne t c).After-try_draws-o E M sp ca) (not_failed a.result.ending (not-true _ (sym c.ne.ensures ∙ c.if-ne.true))),
    )
