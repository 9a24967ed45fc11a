-- `searched` begins with all rows, fails or searches, and collects what was found.
use mathlib.Core.Path.{◌≡◌, refl, sym, ap, ◌∙◌, subst}
use mathlib.Core.Logic.{◌⊎◌}
use mathlib.Core.List.{List, []}
use Prim.Native.Nat.{ℕ, ◌^◌, ◌<◌, zero-le}
use native.Mathlib.Nat.{pos_of_ne-zero, lt_of_lt_of_le}
use native.Mathlib.Omega.{arith}
use lib.ListN.{length, take}
use lib.Pow.{pow_mono}
use Rattle.binar.specs.Rows.{width}
use Rattle.blocks.specs.Matrices.{units, All}
use Rattle.blocks.specs.Words.{rows_in_lem, over}
use Rattle.blocks.proofs.All.{All-map}
use Rattle.blocks.proofs.Lent.{lent_same}
use Rattle.blocks.proofs.Overs.{over_nil}
use Rattle.blocks.proofs.Units.{units_lt}
use Rattle.residue.specs.Residue.{form}
use Rattle.triangular.specs.declared.Ending.{Ending}
use Rattle.triangular.specs.declared.Ending.TheVariants.{Found, Failed, Spent}
use Rattle.triangular.specs.Search.{Verdict, budgeted}
use Rattle.triangular.specs.Memory.{Entry, Remembered, search_with, searched_core, known_within}
use Rattle.triangular.specs.Readings.{core_in, verdict_of, basis_found}
use Rattle.residue.proofs.Forms.{form_of}
use Rattle.triangular.proofs.Narrow.{narrow_search}
use Rattle.triangular.proofs.Verdicts.{found_basis, no_basis, verdict_own}
use Rattle.memory.specs.Entries.{memory_words, room_in}
use Rattle.memory.proofs.Kept.{kept_none, kept_over}
use Rattle.spaces.specs.Levels.{gram_of}
use Rattle.search.specs.inner.Levels.{found_in}
use Rattle.search.specs.inner.Reports.{Space, Grew, Reports}
use Rattle.search.proofs.LentLevels.{found_none}
use Rattle.search.proofs.Reported.{grew_none, empty_reports, is_found, not_found}
use Rattle.search.proofs.searched.Goals as goal
use Rattle.search.proofs.searched.Goals.{After-begin, After-try_all-o}

-- what is told of the whole space: the verdict, the list and the memory
module _ (budget : ℕ) (r : Remembered) (v : Ending) (k : ℕ) (l ws left : List ℕ) (used : ℕ) (told : Reports budget r v k l left used)
    (long : length left ≡ length ws) (grew : Grew ws 0 left used) where
  abbrev wanted : Verdict
  wanted = budgeted budget r.outcome

  own : verdict_of v k (basis_found wanted) ≡ wanted
  own = verdict_own k l wanted v told.0

  laid_over : left ≡ over (memory_words (known_within budget r.memory)) ws
  laid_over = kept_over ws left used (known_within budget r.memory) told.1 long grew.2

  none_put : (v ≡ Failed) ⊎ (v ≡ Spent) → (list : List ℕ) → list ≡ over (basis_found (budgeted budget r.outcome)) list
  none_put is list = sym (ap (λ x. over x list) (no_basis k l wanted v told.0 is) ∙ over_nil list)

-- the space as it begins
module _ (c : goal.After-begin) where
  abbrev E : List ℕ
  E = core_in c.args.core.now

  abbrev room : ℕ
  room = room_in c.args.memory.now

  abbrev members : List ℕ
  members = take c.args.k (rows_in_lem c.begin.new.basis)

  space : Space E c.args.k (rows_in_lem c.begin.new.basis) (rows_in_lem c.begin.new.gram)
  space = (
    ap (gram_of E) c.begin.ensures.0 ∙ c.begin.ensures.1,
    subst (All (λ v. v < 2 ^ width)) (sym c.begin.ensures.0) (All-map (λ v h. lt_of_lt_of_le h (pow_mono c.requires.0)) (units c.args.k) (units_lt c.args.k)),
  )

  whole : search_with (form E) width room c.args.k members 0 [] ≡ searched_core E room
  whole =
      ap (λ (M : List ℕ). search_with (form E) width room c.args.k M 0 []) c.begin.ensures.0
      ∙ ap (λ (go : ℕ → List Entry → Remembered). go 0 []) (narrow_search (form_of E) c.args.k width room c.requires.0 c.args.k (units c.args.k) (units_lt c.args.k))
      ∙ ap (λ n. search_with (form E) n room n (units n) 0 []) c.requires.1

  told_whole : (v : Ending) (k : ℕ) (l ws : List ℕ) (used : ℕ) → Reports c.args.budget (search_with (form E) width room c.args.k members 0 []) v k l ws used → Reports c.args.budget (searched_core E room) v k l ws used
  told_whole v k l ws used t = subst (λ r. Reports c.args.budget r v k l ws used) whole t

-- what the search told of it
came : (c : goal.After-try_all-o) → Reports c.args.budget (searched_core (E (goal.at.After-try_all-o c).After-begin) (room (goal.at.After-try_all-o c).After-begin)) c.try_all-o.result.ending c.try_all-o.result.looks (found_in c.args.k (rows_in_lem c.try_all-o.new.basis)) c.try_all-o.new.memory c.try_all-o.result.used
came c =
    let o = c.try_all-o in
    told_whole (goal.at.After-try_all-o c).After-begin o.result.ending o.result.looks (found_in c.args.k (rows_in_lem o.new.basis)) o.new.memory o.result.used (o.ensures.1 (E (goal.at.After-try_all-o c).After-begin) (space (goal.at.After-try_all-o c).After-begin))

-- no rows: the empty space
pub returns-then-k-eq0 : goal.returns-then-k-eq0
returns-then-k-eq0 c =
    let s = c.args in
    let ws = s.memory.now in
    let l = found_in s.k (rows_in_lem c.begin.new.basis) in
    let none = found_none s.k (rows_in_lem c.begin.new.basis) c.if-k-eq0.true in
    let told = told_whole (goal.at.returns-then-k-eq0 c).After-begin Found 0 l ws 0 (empty_reports (form (E (goal.at.returns-then-k-eq0 c).After-begin)) (room (goal.at.returns-then-k-eq0 c).After-begin) s.budget 0 (members (goal.at.returns-then-k-eq0 c).After-begin) [] tt zero-le s.k c.if-k-eq0.true l ws 0 none (kept_none ws)) in
    let r = searched_core (E (goal.at.returns-then-k-eq0 c).After-begin) (room (goal.at.returns-then-k-eq0 c).After-begin) in record {
      answered = own s.budget r Found 0 l ws ws 0 told refl (grew_none ws 0 zero-le);
      left = sym (ap (λ x. over x (rows_in_lem s.list.now)) (found_basis 0 l (budgeted s.budget r.outcome) Found told.0 refl ∙ none) ∙ over_nil (rows_in_lem s.list.now));
      remembered = laid_over s.budget r Found 0 l ws ws 0 told refl (grew_none ws 0 zero-le);
    }

pub try_all-o-requires : goal.try_all-o-requires
try_all-o-requires c =
    let b = c.begin in
    let b-same = lent_same b.new.basis c.args.basis.now b.auto.basis in
    let g-same = lent_same b.new.gram c.args.gram.now b.auto.gram in
    (pos_of_ne-zero c.if-k-eq0.false, c.requires.0, omega (arith, b-same, c.requires.2), omega (arith, g-same, c.requires.3))

pub collected-requires : goal.collected-requires
collected-requires c =
    let o = c.try_all-o in
    let b = c.begin in
    (c.requires.0, omega (arith, lent_same o.new.basis c.args.basis.now (o.auto.basis ∙ b.auto.basis), c.requires.2))

pub returns-then-eq : goal.returns-then-eq
returns-then-eq c =
    let s = c.args in
    let o = c.try_all-o in
    let told : o.result.ending ≡ Found = is_found o.result.ending (sym c.eq.ensures ∙ c.if-eq.true) in
    let l = found_in s.k (rows_in_lem o.new.basis) in
    let r = searched_core (E (goal.at.returns-then-eq c).After-begin) (room (goal.at.returns-then-eq c).After-begin) in
    let t = came (goal.at.returns-then-eq c).After-try_all-o in record {
      answered = own s.budget r o.result.ending o.result.looks l s.memory.now o.new.memory o.result.used t o.auto.memory o.ensures.0;
      left = c.collected.ensures ∙ ap (λ x. over x (rows_in_lem s.list.now)) (sym (found_basis o.result.looks l (budgeted s.budget r.outcome) o.result.ending t.0 told));
      remembered = laid_over s.budget r o.result.ending o.result.looks l s.memory.now o.new.memory o.result.used t o.auto.memory o.ensures.0;
    }

pub returns-else-eq : goal.returns-else-eq
returns-else-eq c =
    let s = c.args in
    let o = c.try_all-o in
    let told = not_found o.result.ending (sym c.eq.ensures ∙ c.if-eq.false) in
    let l = found_in s.k (rows_in_lem o.new.basis) in
    let r = searched_core (E (goal.at.returns-else-eq c).After-begin) (room (goal.at.returns-else-eq c).After-begin) in
    let t = came (goal.at.returns-else-eq c).After-try_all-o in record {
      answered = own s.budget r o.result.ending o.result.looks l s.memory.now o.new.memory o.result.used t o.auto.memory o.ensures.0;
      left = none_put s.budget r o.result.ending o.result.looks l s.memory.now o.new.memory o.result.used t o.auto.memory o.ensures.0 told (rows_in_lem s.list.now);
      remembered = laid_over s.budget r o.result.ending o.result.looks l s.memory.now o.new.memory o.result.used t o.auto.memory o.ensures.0;
    }
