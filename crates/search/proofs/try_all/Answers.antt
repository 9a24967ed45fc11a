-- `try_all` begins with no entry: with a memory a space is looked up, without one its Gram rows are tested first.
use mathlib.Core.List.{[]}
use mathlib.Core.Path.{refl, ◌∙◌}
use Prim.Native.Nat.{◌<◌, zero-le}
use native.Mathlib.Omega.{arith}
use lib.ListN.{length, take}
use Rattle.blocks.specs.Words.{rows_in_lem}
use Rattle.residue.specs.Residue.{form}
use Rattle.memory.specs.Entries.{entry_size, room_in}
use Rattle.memory.proofs.Kept.{kept_none, kept_no_room_enter}
use Rattle.spaces.proofs.Grams.{tested_form}
use Rattle.search.specs.inner.Levels.{found_in}
use Rattle.search.proofs.LentLevels.{levels_least}
use Rattle.search.proofs.Reported.{grew_none, plain_alternating, plain_reports}
use Rattle.search.proofs.try_all.Goals as goal

pub returns-then-memory-ge-ENTRY : goal.returns-then-memory-ge-ENTRY
returns-then-memory-ge-ENTRY c =
    let a = c.try_space in
    (a.ensures.1, λ E sp. a.ensures.2 E [] sp (kept_none c.args.memory.now, tt))

pub returns-then-is_alternating : goal.returns-then-is_alternating
returns-then-is_alternating c =
    let ws = c.args.memory.now in
    let o = c.is_alternating in
    let short : length ws < entry_size = omega (arith, c.if-memory-ge-ENTRY.false) in
    let B = take c.args.k (rows_in_lem c.args.basis.now) in (
      grew_none ws 0 zero-le,
      λ E sp.
          plain_alternating (form E) (room_in ws) c.args.budget 0 B [] tt zero-le c.args.k c.requires.0 refl (kept_no_room_enter ws short)
          (tested_form c.args.k (rows_in_lem c.args.gram.now) (omega (arith, levels_least c.args.k, c.requires.3)) E B sp.0 c.requires.0 o.result o.ensures ∙ c.if-is_alternating.true) (found_in c.args.k (rows_in_lem c.args.basis.now)) ws 0 (kept_none ws),
    )

pub returns : goal.returns
returns c =
    let ws = c.args.memory.now in
    let o = c.is_alternating in
    let a = c.try_draws in
    let short : length ws < entry_size = omega (arith, c.if-memory-ge-ENTRY.false) in
    let B = take c.args.k (rows_in_lem c.args.basis.now) in (
      a.ensures.1,
      λ E sp.
          plain_reports (form E) (room_in ws) c.args.budget 0 B [] tt zero-le c.args.k c.requires.0 refl (kept_no_room_enter ws short)
          (tested_form c.args.k (rows_in_lem c.args.gram.now) (omega (arith, levels_least c.args.k, c.requires.3)) E B sp.0 c.requires.0 o.result o.ensures ∙ c.if-is_alternating.false)
          a.result.ending a.result.looks (found_in c.args.k (rows_in_lem a.new.basis)) a.new.memory a.result.used (a.ensures.3 E [] sp (kept_none ws, tt)),
    )
