-- The book is right: of every code of 16 bits it says the least length where the action is symplectic, and nothing where it is not.
-- Assumes nothing.
use mathlib.Core.Path.{◌≡◌, refl, sym, ap, ◌∙◌, subst}
use mathlib.Core.Bool.{Bool, true, false, true≢false, and-eq-true_iff}
use mathlib.Core.List.{List, map}
use mathlib.Core.Option.{Option, none, some}
use Prim.Native.Nat.{ℕ, ◌+◌, ◌^◌, ◌<◌}
use lib.Dec.{eqb}
use lib.ListN.{length, length-map}
use borrow.Author.Tests.{eqb-true}
use Rattle.blocks.specs.Matrices.{times, All}
use Rattle.blocks.proofs.All.{All-map}
use Rattle.symplectic.specs.Turns.{symplectic}
use Rattle.symplectic.specs.NoneShorter.{LeastLength}
use Rattle.symplectic.proofs.Lists.{all_true}
use Rattle.symplectic.proofs.Least.{least_same, least_size, least_bounded, least_symplectic}
use Rattle.residue.specs.Residue.{basis}
use Rattle.triangular.specs.Search.{Outcome, found, failed}
use Rattle.family.proofs.Passes.{bordered_list_lem}
use Rattle.transvection_exact.specs.Minimal.{core_search, list_after}
use Rattle.transvection_exact.proofs.Shortest.{least_of, RightOf, core_right, shortest_after}
use Rattle.two_qubits.specs.declared.Entry.{Entry}
use Rattle.two_qubits.specs.Codes.{code_count, rows_of_code, code_of}
use Rattle.two_qubits.specs.Book.{book}
use Rattle.two_qubits.specs.Lookups.{length_in, Says}
use Rattle.two_qubits.specs.inner.Rules.{Ascending, length_after, is_right}
use Rattle.two_qubits.proofs.Codes.{rows_count, rows_lt, code_of_rows, code_lt, rows_of_code_lem, four_rows}
use Rattle.two_qubits.proofs.Lookups.{In, beside, in_some, ascending}
use Rattle.two_qubits.proofs.Computed.{codes_ascend, all_right}
use Rattle.two_qubits.proofs.Complete.{in_book}

pub book_ascends : Ascending book
book_ascends = ascending book codes_ascend

-- ---- an entry that passes the test

module _ (n : ℕ) (F : List ℕ) (size : length F ≡ n + n) (bounded : All (λ f. f < 2 ^ (n + n)) F) (symp : symplectic n F ≡ true) where
  after_length : (o : Outcome) → RightOf n F o → length (list_after n F o) ≡ length_after (length (basis n F)) o
  after_length (found ps looks) h = length-map ps (λ p. times p (basis n F)) ∙ h.2
  after_length (failed looks) h = (bordered_list_lem n F size bounded symp).size

  -- the least length, by the search
  least_after : LeastLength n F (length_after (length (basis n F)) (core_search n F))
  least_after =
      subst (LeastLength n F) (after_length (core_search n F) (core_right n F))
      (least_of n F (list_after n F (core_search n F)) (shortest_after n F size bounded symp (core_search n F) (core_right n F)))

abbrev Entered : Entry → Type 0
Entered e = (symplectic 2 (rows_of_code e.code) ≡ true) × LeastLength 2 (rows_of_code e.code) e.length

entered : (e : Entry) → is_right e ≡ true → Entered e
unfolding is_right
entered e t =
    let F = rows_of_code e.code in
    let after = length_after (length (basis 2 F)) (core_search 2 F) in
    let k = (and-eq-true_iff (symplectic 2 F) (eqb after e.length)).0 t in
    (k.0, subst (LeastLength 2 F) (eqb-true after e.length k.1) (least_after 2 F (rows_count e.code) (rows_lt e.code) k.0))

all_entered : All Entered book
all_entered = All-map entered book (all_true is_right book all_right)

-- ---- a code

pub book_says : (code : ℕ) → code < code_count → Says code (length_in book code)
book_says code l = go (length_in book code) refl
  where
    F : List ℕ
    F = rows_of_code code

    absent : length_in book code ≡ none → (b : Bool) → symplectic 2 F ≡ b → symplectic 2 F ≡ false
    absent e true s = absurd (in_some book code (subst (λ z. In z (map (λ (x : Entry). x.code) book)) (code_of_rows code l) (in_book F (rows_count code) (rows_lt code) s)) e)
    absent e false s = s

    go : (found : Option ℕ) → length_in book code ≡ found → Says code found
    go none e = absent e (symplectic 2 F) refl
    go (some k) e =
        let h = beside Entered book all_entered code k e in
        let s : Entered h.entry = h.holds in
        let at = ap rows_of_code h.code_is in
        (ap (symplectic 2) (sym at) ∙ s.0, subst (LeastLength 2 (rows_of_code code)) h.length_is (subst (λ G. LeastLength 2 G h.entry.length) at s.1))

-- ---- an action with a least length

pub least_in_book : (F : List ℕ) (k : ℕ) → LeastLength 2 F k → length_in book (code_of F) ≡ some k
least_in_book F k least =
    four_rows (λ G. LeastLength 2 G k → length_in book (code_of G) ≡ some k)
    (λ a b c d la lb lc ld. of_rows (code_of _) (code_lt a b c d la lb lc ld) _ (rows_of_code_lem a b c d la lb lc ld))
    F (least_size 2 F k least) (least_bounded 2 F k least) least
  where
    of_rows : (code : ℕ) → code < code_count → (G : List ℕ) → rows_of_code code ≡ G → LeastLength 2 G k → length_in book code ≡ some k
    of_rows code l G e h = go (length_in book code) refl (book_says code l)
      where
        go : (found : Option ℕ) → length_in book code ≡ found → Says code found → length_in book code ≡ some k
        go none f s = absurd (true≢false (sym (least_symplectic 2 G k h) ∙ ap (symplectic 2) (sym e) ∙ s))
        go (some j) f s = f ∙ ap some (least_same 2 G j k (subst (λ H. LeastLength 2 H j) e s.1) h)
