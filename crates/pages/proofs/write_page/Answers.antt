-- `write_page` is safe: the page lies within the lent bytes, and has no more lines than a file has bytes, by `page_answered`. It has one, since the
-- longest line has room.
use Rattle.std.proofs.Common.{List, ℕ, ◌≡◌, refl, ap, ◌∙◌, subst, ◌+◌, ◌<◌, ◌≤◌, sym, length, arith, rules}
use Rattle.std.proofs.Math.Seq.{length-take-le}
use Rattle.job.specs.Files.{longest_file}
use Rattle.printout.specs.Pages.{PageAnswer, page_reply, answer_of, Onward}
use Rattle.pages.specs.Counts.{Counted}
use Rattle.std.specs.Prelude.{Result, Ok, Err, Some, None, Option}
use Rattle.job.specs.declared.FileError.{FileError}
use Rattle.printout.specs.declared.Page.{Page}
use Rattle.printout.proofs.Whole.{page_answered}
use Rattle.printout.proofs.Paging.{page_alike}
use Rattle.pages.proofs.write_page.Goals as goal

-- what is known of a page, also once the bytes are lent back
known : (file : List ℕ) (from : ℕ) (out left : List ℕ) (answer : Result (Option Page) FileError) (p : Page)
    → answer_of answer ≡ (page_reply file from out).answer → answer ≡ Ok (Some p) → length left ≡ length out
    → (p.bytes ≤ length left) × (from + p.count ≤ longest_file)
known file from out left answer p answered is kept =
    let w = page_answered file from out answer p answered is in
    (omega (arith, w.0, kept), w.1)

-- what is known of a page's count is known of it in any bytes
counted : {E : Type 0} (file : List ℕ) (from : ℕ) (a : List ℕ) (answer : Result (Option Page) FileError) (r : Result (Option ℕ) E)
    → answer_of answer ≡ (page_reply file from a).answer → 65536 ≡ length a → Counted (answer_of answer) r
    → (b : List ℕ) → length b ≡ 65536 → Counted (page_reply file from b).answer r
counted file from a answer r answered room told b same =
    subst (λ (x : PageAnswer). Counted x r) (answered ∙ page_alike file from a b (sym room ∙ sym same)) told

pub slice_bounds-out-end : goal.slice_bounds-out-end
slice_bounds-out-end g c =
    let s = c.args in
    let p = c.print_page in
    let l = c.in-Ok-Some in
    (known s.file.now s.from _ p.new.out p.result l.page p.ensures.answered (l.is ∙ ap Ok l.field-0-is) p.auto.out).0

pub slice_bounds-write_all-end : goal.slice_bounds-write_all-end
slice_bounds-write_all-end g c =
    let s = c.args in
    let p = c.print_page in
    let l = c.in-Ok-Some in
    sym (length-take-le l.page.bytes p.new.out (known s.file.now s.from _ p.new.out p.result l.page p.ensures.answered (l.is ∙ ap Ok l.field-0-is) p.auto.out).0)

pub returns-in_ok-write_all-in-Ok-Some-clause-few : goal.returns-in_ok-write_all-in-Ok-Some-clause-few
returns-in_ok-write_all-in-Ok-Some-clause-few g c =
    let s = c.args in
    let p = c.print_page in
    let l = c.in-Ok-Some in
    let w = known s.file.now s.from _ p.new.out p.result l.page p.ensures.answered (l.is ∙ ap Ok l.field-0-is) p.auto.out in
    let some : 0 < l.page.count = subst (λ (r : Option Page). Onward (answer_of (Ok r))) l.field-0-is (l.ensures.onward (omega arith)) in
    search (rules, arith, some, w.1)

pub returns-in_ok-write_all-in-Ok-Some-clause-counted : goal.returns-in_ok-write_all-in-Ok-Some-clause-counted
returns-in_ok-write_all-in-Ok-Some-clause-counted g c = counted _ _ _ (Ok (Some c.in-Ok-Some.page)) _ (search rules) c.page_room-out.ensures refl

pub returns-in_err-write_all-in-Ok-Some-clause-counted : goal.returns-in_err-write_all-in-Ok-Some-clause-counted
returns-in_err-write_all-in-Ok-Some-clause-counted g c = counted _ _ _ (Ok (Some c.in-Ok-Some.page)) _ (search rules) c.page_room-out.ensures (search rules)

pub returns-in_err-write_all-in-Err-clause-counted : goal.returns-in_err-write_all-in-Err-clause-counted
returns-in_err-write_all-in-Err-clause-counted g c = counted _ _ _ (Err c.in-Err.refused) _ (search rules) c.page_room-out.ensures (search rules)

pub returns-in-Ok-None-clause-counted : goal.returns-in-Ok-None-clause-counted
returns-in-Ok-None-clause-counted g c = counted _ _ _ (Ok None) _ (search rules) c.page_room-out.ensures refl

pub returns-in_ok-write_all-in-Err-clause-counted : goal.returns-in_ok-write_all-in-Err-clause-counted
returns-in_ok-write_all-in-Err-clause-counted g c = counted _ _ _ (Err c.in-Err.refused) _ (search rules) c.page_room-out.ensures refl
