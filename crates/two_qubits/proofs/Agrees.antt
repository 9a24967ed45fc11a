-- Each answered minimal call on two qubits has the book's length as its count.
-- Assumes nothing.
use mathlib.Core.Path.{◌≡◌}
use mathlib.Core.List.{List}
use mathlib.Core.Option.{some}
use Prim.Native.Nat.{ℕ}
use Rattle.blocks.specs.Words.{rows_of_words}
use Rattle.transvection_exact.specs.Minimal.{minimal_reply, remembering_reply}
use Rattle.transvection_exact.proofs.Replies.{minimal_least}
use Rattle.transvection_exact.proofs.Remembering.{remembering_least}
use Rattle.two_qubits.specs.Codes.{code_of}
use Rattle.two_qubits.specs.Book.{book}
use Rattle.two_qubits.specs.Lookups.{length_in}
use Rattle.two_qubits.proofs.Right.{least_in_book}

module _ (words : List ℕ) (budget : ℕ) (out : List ℕ) where
  pub minimal_agrees : (minimal_reply 2 words budget out).figures.number ≡ 0
      → length_in book (code_of (rows_of_words 2 words)) ≡ some (minimal_reply 2 words budget out).figures.count
  minimal_agrees z = least_in_book (rows_of_words 2 words) (minimal_reply 2 words budget out).figures.count (minimal_least 2 words budget out z)

  -- and with a lent memory
  pub remembering_agrees : (memory : List ℕ) → (remembering_reply 2 words budget memory out).figures.number ≡ 0
      → length_in book (code_of (rows_of_words 2 words)) ≡ some (remembering_reply 2 words budget memory out).figures.count
  remembering_agrees memory z =
      least_in_book (rows_of_words 2 words) (remembering_reply 2 words budget memory out).figures.count (remembering_least 2 words budget memory out z)
