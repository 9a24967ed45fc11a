-- The whole printout of a file, and its pages, which written one after the other are the printout.
-- Assumes nothing.
use mathlib.Core.Path.{◌≡◌, refl, sym, ap, ap₂, ◌∙◌}
use mathlib.Core.Bool.{Bool, true, false}
use mathlib.Core.List.{List, [], ◌∷◌, ◌++◌, append_assoc, flatten}
use Prim.Native.Nat.{ℕ, zero, suc, ◌+◌, ◌-◌, ◌≤◌, ◌<◌}
use native.Mathlib.Omega.{arith}
use lib.Dec.{leb}
use lib.ListN.{length, take, drop, length-append, length-drop}
use lib.Seq.{drop-drop, take_at}
use borrow.Author.Tests.{leb-true}
use Rattle.std.specs.Prelude.{Option, Some, Result, Ok}
use Rattle.lines.specs.Lines.{file_line_lem}
use Rattle.job.specs.declared.FileError.{FileError}
use Rattle.job.specs.Files.{longest_file, file_questions_lem}
use Rattle.job.proofs.Checks.{passed_length}
use Rattle.printout.specs.Printout.{file_lines, printed, printout}
use Rattle.printout.specs.Pages.{fitting_if, fitting, page, file_refused, PageReply, paged, page_of, page_reply, answer_of}
use Rattle.printout.specs.declared.Page.{Page}
use Rattle.printout.proofs.Numbered.{file_lines_lem}
use Rattle.printout.proofs.Paging.{page_passed, page_refused}

-- ---- the printout

module _ (file : List ℕ) where
  pub whole_passed : file_questions_lem file ≡ 0 → printout file ≡ flatten (file_lines file)
  unfolding printout
  whole_passed e = ap (λ (q : ℕ). printed q file) e

  pub whole_refused : (k : ℕ) → file_questions_lem file ≡ suc k → printout file ≡ file_line_lem (suc k)
  unfolding printout
  whole_refused k e = ap (λ (q : ℕ). printed q file) e

  -- no more lines than a file has bytes
  pub lines_few : file_questions_lem file ≡ 0 → length (file_lines file) ≤ longest_file
  lines_few e = omega (arith, file_lines_lem file, (passed_length file e).0, (passed_length file e).1)

-- ---- the lines that fit

-- they and the lines behind them are all the lines
pub pages_join : (room : ℕ) (ls : List (List ℕ)) → flatten (fitting room ls) ++ flatten (drop (length (fitting room ls)) ls) ≡ flatten ls
unfolding fitting flatten
pages_join room [] = refl
pages_join room (l ∷ ls) = go (leb (length l) room) (fitting (room - length l) ls) (pages_join (room - length l) ls)
  where
    go : (b : Bool) (more : List (List ℕ)) → flatten more ++ flatten (drop (length more) ls) ≡ flatten ls
        → flatten (fitting_if b l more) ++ flatten (drop (length (fitting_if b l more)) (l ∷ ls)) ≡ l ++ flatten ls
    go true more h = append_assoc l (flatten more) (flatten (drop (length more) ls)) ∙ ap (λ (x : List ℕ). l ++ x) h
    go false more h = refl

-- their bytes have room, and they are not more than there are
pub fitting_within : (room : ℕ) (ls : List (List ℕ)) → (length (flatten (fitting room ls)) ≤ room) × (length (fitting room ls) ≤ length ls)
unfolding fitting flatten
fitting_within room [] = (omega arith, omega arith)
fitting_within room (l ∷ ls) = go (leb (length l) room) refl (fitting (room - length l) ls) (fitting_within (room - length l) ls)
  where
    go : (b : Bool) → leb (length l) room ≡ b → (more : List (List ℕ)) → (length (flatten more) ≤ room - length l) × (length more ≤ length ls)
        → (length (flatten (fitting_if b l more)) ≤ room) × (length (fitting_if b l more) ≤ suc (length ls))
    go true e more h = (omega (arith, h.0, length-append l (flatten more), leb-true (length l) room e), omega (arith, h.1))
    go false e more h = (omega arith, omega arith)

-- ---- a page

lines_of : (ls : List (List ℕ)) (out : List ℕ) (count bytes : ℕ) → (page_of ls out).answer ≡ page count bytes
    → (0 < length ls) × (page_of ls out ≡ paged (fitting (length out) ls) out)
lines_of [] out count bytes e = let z : ◌≡◌ {A = ℕ} 0 1 = cc in absurd (omega arith)
lines_of (l ∷ ls) out count bytes e = (omega arith, refl)

module _ (file : List ℕ) (from : ℕ) (out : List ℕ) (count bytes : ℕ) (answered : (page_reply file from out).answer ≡ page count bytes) where
  passed : file_questions_lem file ≡ 0
  passed = go (file_questions_lem file) refl
    where
      go : (q : ℕ) → file_questions_lem file ≡ q → file_questions_lem file ≡ 0
      go zero e = e
      go (suc k) e =
          let p : file_refused (suc k) ≡ page count bytes = sym (ap (λ (r : PageReply). r.answer) (page_refused file from out k e)) ∙ answered in
          let z : ◌≡◌ {A = ℕ} 0 1 = cc in absurd (omega arith)

  abbrev left : List (List ℕ)
  left = drop from (file_lines file)

  abbrev standing : List (List ℕ)
  standing = fitting (length out) left

  known : (0 < length left) × (page_of left out ≡ paged standing out)
  known = lines_of left out count bytes (sym (ap (λ (r : PageReply). r.answer) (page_passed file from out passed)) ∙ answered)

  is : page_reply file from out ≡ paged standing out
  is = page_passed file from out passed ∙ known.1

  figures : page (length standing) (length (flatten standing)) ≡ page count bytes
  figures = sym (ap (λ (r : PageReply). r.answer) is) ∙ answered

  counted : length standing ≡ count
  counted = let p = figures in cc

  sized : length (flatten standing) ≡ bytes
  sized = let p = figures in cc

  -- its bytes stand in those that were lent, and no file has more lines than bytes
  pub page_within : (bytes ≤ length out) × (from + count ≤ longest_file)
  page_within =
      let w = fitting_within (length out) left in
      (omega (arith, w.0, sized), omega (arith, w.1, counted, known.0, length-drop from (file_lines file), lines_few file passed))

  -- its bytes, and the lines behind it, are the lines from `from` on
  pub page_joins : take bytes (page_reply file from out).bytes ++ flatten (drop (from + count) (file_lines file)) ≡ flatten (drop from (file_lines file))
  page_joins =
      ap₂ (λ (x y : List ℕ). x ++ y)
      (ap (λ (r : PageReply). take bytes r.bytes) is ∙ take_at (flatten standing) (drop (length (flatten standing)) out) bytes sized)
      (ap flatten (sym (drop-drop count from (file_lines file)) ∙ ap (λ (k : ℕ). drop k left) (sym counted)))
      ∙ pages_join (length out) left

-- of the code's answer
pub page_answered : (file : List ℕ) (from : ℕ) (out : List ℕ) (answer : Result (Option Page) FileError) (p : Page) → answer_of answer ≡ (page_reply file from out).answer → answer ≡ Ok (Some p)
    → (p.bytes ≤ length out) × (from + p.count ≤ longest_file)
page_answered file from out answer p e is = page_within file from out p.count p.bytes (sym e ∙ ap answer_of is)
