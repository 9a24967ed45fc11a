-- What a search of a core has come to, as the reply of question 6.
-- Assumes nothing.
use mathlib.Core.Path.{◌≡◌, sym, ap, ◌∙◌, subst}
use mathlib.Core.List.{List}
use Prim.Native.Nat.{ℕ, ◌+◌, ◌≤◌}
use native.Mathlib.Omega.{arith}
use lib.ListN.{length}
use lib.Seq.{take_all}
use Rattle.binar.specs.Rows.{width}
use Rattle.blocks.specs.Words.{rows_in_lem}
use Rattle.blocks.specs.Matrices.{matmul}
use Rattle.blocks.proofs.Products.{matmul_is}
use Rattle.symplectic.specs.Sizes.{max_qubits}
use Rattle.questions.specs.Replies.{refused, listed}
use Rattle.residue.specs.Residue.{basis, core}
use Rattle.residue.proofs.Core.{core_length, core_within}
use Rattle.search.specs.declared.Ended.{Ended}
use Rattle.triangular.specs.declared.Ending.TheVariants.{Found, Failed, Spent}
use Rattle.triangular.specs.Search.{Outcome, found, failed, Verdict, ended, spent, budgeted}
use Rattle.triangular.specs.Readings.{core_in, verdict_of, basis_found}
use Rattle.triangular.proofs.Budgets.{of_ended, says_found, says_failed, says_spent}
use Rattle.triangular.proofs.Cores.{core_in_lem}
use Rattle.family.specs.Family.{core_family, vectors_of}
use Rattle.family.proofs.Passes.{bordered_is}
use Rattle.transvection_exact.specs.Minimal.{searched_reply}
use Rattle.transvection_exact.proofs.Shortest.{RightOf}

-- ---- the core in the code's words

module _ (n : ℕ) (F : List ℕ) (size : length F ≡ n + n) (small : n ≤ max_qubits) (w : List ℕ) (is : rows_in_lem w ≡ core n F) where
  -- no row of the core is left out
  pub core_fits : core_in w ≡ core n F
  core_fits = core_in_lem w ∙ take_all width (rows_in_lem w) (omega (arith, ap length is, core_within n F size)) ∙ is

  -- what is made of the rows of the core and their count is made of the core and the rank
  pub of_core : {A : Type 0} (f : List ℕ → ℕ → A) → f (core_in w) (length (core_in w)) ≡ f (core n F) (length (basis n F))
  of_core f = ap (λ (E : List ℕ). f E (length E)) core_fits ∙ ap (f (core n F)) (core_length n F)

-- what a search of the code has come to, of the outcome that it has without a budget
abbrev pub Came : Ended → ℕ → Outcome → Type 0
Came o budget x = let v = budgeted budget x in verdict_of o.ending o.looks (basis_found v) ≡ v

-- ---- the replies

module _ (n : ℕ) (F : List ℕ) (budget : ℕ) (out : List ℕ) (x : Outcome) (o : Ended) (came : Came o budget x) where
  abbrev verdict : Verdict
  verdict = budgeted budget x

  by_verdict : (v : Verdict) → verdict ≡ v → searched_reply n F verdict out ≡ searched_reply n F v out
  by_verdict v e = ap (λ (w : Verdict). searched_reply n F w out) e

  pub searched_spent : o.ending ≡ Spent → searched_reply n F (budgeted budget x) out ≡ refused 6 o.looks out
  searched_spent e = by_verdict (spent o.looks) (sym came ∙ says_spent o.ending o.looks (basis_found verdict) e)

  found_is : o.ending ≡ Found → verdict ≡ ended (found (basis_found verdict) o.looks)
  found_is e = sym came ∙ says_found o.ending o.looks (basis_found verdict) e

  pub searched_found : (vs : List ℕ) → o.ending ≡ Found → vs ≡ matmul (basis_found (budgeted budget x)) (basis n F)
      → searched_reply n F (budgeted budget x) out ≡ listed n vs o.looks out
  searched_found vs e l =
      by_verdict (ended (found (basis_found verdict) o.looks)) (found_is e)
      ∙ ap (λ (m : List ℕ). listed n m o.looks out) (sym (l ∙ matmul_is (basis_found verdict) (basis n F)))

  -- a right search finds as many draws as the core has rows
  pub found_size : RightOf n F x → o.ending ≡ Found → (w : List ℕ) → rows_in_lem w ≡ core n F
      → length (basis_found (budgeted budget x)) ≡ length (rows_in_lem w)
  found_size right e w is =
      (subst (RightOf n F) (sym (of_ended budget x (found (basis_found verdict) o.looks) (sym (found_is e))).0) right).2
      ∙ sym (ap length is ∙ core_length n F)

  -- the search fails: the family's vectors
  pub searched_failed : (vs : List ℕ) → o.ending ≡ Failed → vs ≡ matmul (vectors_of (core_family (core n F))) (basis n F)
      → searched_reply n F (budgeted budget x) out ≡ listed n vs o.looks out
  searched_failed vs e l =
      by_verdict (ended (failed o.looks)) (sym came ∙ says_failed o.ending o.looks (basis_found verdict) e)
      ∙ ap (λ (m : List ℕ). listed n m o.looks out) (bordered_is n F ∙ sym (l ∙ matmul_is (vectors_of (core_family (core n F))) (basis n F)))
