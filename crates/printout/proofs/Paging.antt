-- What a call for a page replies, by the file's questions.
-- Assumes nothing.
use mathlib.Core.Path.{◌≡◌, refl, sym, ap, ◌∙◌}
use mathlib.Core.List.{List, [], ◌∷◌, flatten}
use Prim.Native.Nat.{ℕ, zero, suc, ◌-◌, ◌≤◌, ◌<◌}
use lib.ListN.{length, drop, drop_of_length-le}
use Rattle.job.specs.Answers.{file_number}
use Rattle.job.specs.Files.{file_questions_lem}
use Rattle.job.specs.declared.FileError.{FileError}
use Rattle.job.specs.declared.FileError.TheVariants.{BadLength, TooManyQubits, BadEntry}
use Rattle.printout.specs.Printout.{file_lines}
use Rattle.printout.proofs.Filling.{rest, Filled, filled_whole}
use Rattle.printout.specs.Pages.{PageAnswer, page, no_such_line, file_refused, PageReply, fitting, page_of, page_by, page_reply}

-- what a contract says of an answer that leaves `left`
replies : (reply : PageReply) (answer : PageAnswer) (left : List ℕ) → reply ≡ record { answer = answer; bytes = left } → (answer ≡ reply.answer) × (left ≡ reply.bytes)
replies reply answer left e = (sym (ap (λ (r : PageReply). r.answer) e), sym (ap (λ (r : PageReply). r.bytes) e))

module _ (file : List ℕ) (from : ℕ) (out : List ℕ) where
  pub page_passed : file_questions_lem file ≡ 0 → page_reply file from out ≡ page_of (drop from (file_lines file)) out
  unfolding page_reply
  page_passed e = ap (λ (q : ℕ). page_by q file from out) e

  pub page_refused : (number : ℕ) → file_questions_lem file ≡ suc number → page_reply file from out ≡ record { answer = file_refused (suc number); bytes = out }
  unfolding page_reply
  page_refused number e = ap (λ (q : ℕ). page_by q file from out) e

  -- by the code's answer
  pub page_error : (e : FileError) → file_number e ≡ file_questions_lem file → (file_refused (file_number e) ≡ (page_reply file from out).answer) × (out ≡ (page_reply file from out).bytes)
  page_error e a = replies (page_reply file from out) (file_refused (file_number e)) out (go e a)
    where
      go : (f : FileError) → file_number f ≡ file_questions_lem file → page_reply file from out ≡ record { answer = file_refused (file_number f); bytes = out }
      go BadLength b = page_refused 11 (sym b)
      go TooManyQubits b = page_refused 0 (sym b)
      go BadEntry b = page_refused 12 (sym b)

  pub page_past : file_questions_lem file ≡ 0 → length (file_lines file) ≤ from → (no_such_line ≡ (page_reply file from out).answer) × (out ≡ (page_reply file from out).bytes)
  page_past e h =
      replies (page_reply file from out) no_such_line out (page_passed e ∙ ap (λ (ls : List (List ℕ)). page_of ls out) (drop_of_length-le (file_lines file) h))

  -- a page that is filled up to line k, where no line more fits
  pub page_filled : file_questions_lem file ≡ 0 → from < length (file_lines file) → (k used : ℕ) (left : List ℕ) → Filled (file_lines file) from out k used left
      → rest (file_lines file) from out k used ≡ [] → (page (k - from) used ≡ (page_reply file from out).answer) × (left ≡ (page_reply file from out).bytes)
  page_filled e there k used left f none =
      replies (page_reply file from out) (page (k - from) used) left (page_passed e ∙ filled_whole (file_lines file) from out k used left f there none)

-- what a page answers is the same in any lent bytes of one length
pub page_alike : (file : List ℕ) (from : ℕ) (a b : List ℕ) → length a ≡ length b → (page_reply file from a).answer ≡ (page_reply file from b).answer
unfolding page_reply
page_alike file from a b e = by_questions (file_questions_lem file)
  where
    by_lines : (ls : List (List ℕ)) → (page_of ls a).answer ≡ (page_of ls b).answer
    by_lines [] = refl
    by_lines (l ∷ ls) = ap (λ (room : ℕ). page (length (fitting room (l ∷ ls))) (length (flatten (fitting room (l ∷ ls))))) e

    by_questions : (q : ℕ) → (page_by q file from a).answer ≡ (page_by q file from b).answer
    by_questions zero = by_lines (drop from (file_lines file))
    by_questions (suc k) = refl
