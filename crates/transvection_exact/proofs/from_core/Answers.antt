-- `from_core` replies to question 6 at each of its three ends.
use mathlib.Core.Path.{◌≡◌, sym, ap, ap₂, ◌∙◌, subst}
use mathlib.Core.List.{List}
use Prim.Native.Nat.{ℕ, suc, ◌+◌, ◌≤◌}
use native.Mathlib.Omega.{arith}
use lib.ListN.{length, take, replicate}
use Rattle.binar.specs.Rows.{width}
use Rattle.blocks.specs.Matrices.{matmul}
use Rattle.blocks.specs.Words.{laid, rows_in_lem, over}
use Rattle.blocks.proofs.Values.{unmapped}
use Rattle.blocks.proofs.Lent.{lent_front}
use Rattle.blocks.proofs.Overs.{over_front, over_length}
use Rattle.symplectic.specs.Sizes.{most_rows, most_vectors}
use Rattle.actions.specs.Actions.{qubits, matrix}
use Rattle.questions.specs.Replies.{Reply}
use Rattle.actions.proofs.Arrays.{qubits_le, matrix_length, qubits_capped}
use Rattle.symplectic.proofs.Work.{room_in_lem}
use Rattle.residue.proofs.Core.{core_length, core_within}
use Rattle.triangular.specs.declared.Ending.TheVariants.{Found, Failed}
use Rattle.family.specs.Family.{core_family, vectors_of}
use Rattle.family.proofs.Passes.{vectors_size}
use Rattle.questions.proofs.Questions.{passed_rows, passed_symplectic}
use Rattle.residue.specs.Residue.{core}
use Rattle.triangular.specs.Search.{Outcome, budgeted}
use Rattle.triangular.specs.Memory.{Remembered, searched_core, known_within}
use Rattle.memory.specs.Entries.{memory_words, room_in}
use Rattle.triangular.specs.Readings.{core_in, basis_found}
use Rattle.transvection_exact.specs.Minimal.{core_search_with}
use Rattle.transvection_exact.proofs.Outcomes.{core_fits, Came, found_size, searched_spent, searched_found, searched_failed}
use Rattle.transvection_exact.proofs.Remembering.{remembered_right, same_core}
use borrow.Author.Rules.{rules}
use Rattle.transvection_exact.proofs.from_core.Goals as goal
use Rattle.transvection_exact.proofs.from_core.Goals.{After-capped-n, After-congruence_triangularize-o, Start}

qubits_is : (c : goal.After-capped-n) → c.capped-n.result ≡ qubits c.args.a
qubits_is c = c.capped-n.ensures ∙ sym (qubits_capped c.args.a)

size : (c : goal.Start) → length (matrix c.args.a) ≡ qubits c.args.a + qubits c.args.a
size c = let long : length c.args.a.rows ≡ most_rows = search (rules, unmapped) in matrix_length c.args.a long

pub rows_few : (c : goal.Start) → length (rows_in_lem c.args.core.now) ≤ width
rows_few c = let few = core_within (qubits c.args.a) (matrix c.args.a) (size c) in omega (arith, ap length c.requires.1, few, qubits_le c.args.a)

-- the search without a budget, with the room of the lent memory
abbrev sought : goal.Start → Remembered
sought c = core_search_with (qubits c.args.a) (matrix c.args.a) (room_in c.args.memory.now)

abbrev outcome : goal.Start → Outcome
outcome c = (sought c).outcome

same : (c : goal.Start) → searched_core (core_in c.args.core.now) (room_in c.args.memory.now) ≡ sought c
same c = same_core (qubits c.args.a) (matrix c.args.a) (size c) (qubits_le c.args.a) c.args.core.now c.requires.1 (room_in c.args.memory.now)

came : (c : goal.After-congruence_triangularize-o) → Came c.congruence_triangularize-o.result c.args.budget (outcome (goal.at.After-congruence_triangularize-o c).Start)
came c =
    subst (Came c.congruence_triangularize-o.result c.args.budget) (ap (λ (s : Remembered). s.outcome) (same (goal.at.After-congruence_triangularize-o c).Start)) c.congruence_triangularize-o.ensures.answered

-- the entries of the search are put over the memory
entered : (c : goal.After-congruence_triangularize-o)
    → c.congruence_triangularize-o.new.memory ≡ over (memory_words (known_within c.args.budget (sought (goal.at.After-congruence_triangularize-o c).Start).memory)) c.args.memory.now
entered c =
    let s = c.args in
    c.congruence_triangularize-o.ensures.remembered ∙ ap (λ (x : Remembered). over (memory_words (known_within s.budget x.memory)) s.memory.now) (same (goal.at.After-congruence_triangularize-o c).Start)

-- the vectors of the core's family
abbrev family_of : goal.Start → List ℕ
family_of c = vectors_of (core_family (core (qubits c.args.a) (matrix c.args.a)))

family_size : (c : goal.Start) → length (family_of c) ≡ suc (length (rows_in_lem c.args.core.now))
family_size c =
    let n = qubits c.args.a in
    let F = matrix c.args.a in
    let q = c.requires.2 in
    vectors_size n F (size c) (passed_rows n F q) (passed_symplectic n F q) ∙ ap suc (sym (ap length c.requires.1 ∙ core_length n F))

pub returns-in-Spent : goal.returns-in-Spent
returns-in-Spent c =
    let s = c.args in
    let o = c.congruence_triangularize-o in
    let w = searched_spent (qubits s.a) (matrix s.a) s.budget s.out.now (outcome (goal.at.returns-in-Spent c).Start) o.result (came (goal.at.returns-in-Spent c).After-congruence_triangularize-o) (search (rules, c.in-Spent.is)) in record {
      answered = sym (ap (λ (x : Reply). x.figures) w);
      left = sym (ap (λ (x : Reply). x.words) w);
      remembered = entered (goal.at.returns-in-Spent c).After-congruence_triangularize-o;
    }

pub returns-in-Found : goal.returns-in-Found
returns-in-Found c =
    let s = c.args in
    let pre = c.requires in
    let o = c.congruence_triangularize-o in
    let q = qubits_is (goal.at.returns-in-Found c).After-capped-n in
    let told : o.result.ending ≡ Found = search (rules, c.in-Found.is) in
    let e = c.multiplied.ensures in
    let zeros = rows_in_lem (replicate most_vectors 0) in
    let n = c.rows_in.ensures in
    let few = rows_few (goal.at.returns-in-Found c).Start in
    let many = found_size (qubits s.a) (matrix s.a) s.budget s.out.now (outcome (goal.at.returns-in-Found c).Start) o.result (came (goal.at.returns-in-Found c).After-congruence_triangularize-o) (remembered_right (qubits s.a) (matrix s.a) (room_in s.memory.now)) told s.core.now pre.1 in
    let list : rows_in_lem (take c.start-to.result o.new.list) ≡ basis_found _ =
    lent_front c.rows_in.result c.start-to.result o.new.list c.start-to.ensures
    ∙ ap₂ take (n ∙ sym many) (o.ensures.left ∙ ap (λ (x : Remembered). over (basis_found (budgeted s.budget x.outcome)) zeros) (same (goal.at.returns-in-Found c).Start))
    ∙ over_front _ zeros (room_in_lem most_vectors _ (omega (arith, many, few))) in
    let vs = matmul (rows_in_lem (take c.start-to.result o.new.list)) (rows_in_lem s.basis.now) in
    let w = searched_found (qubits s.a) (matrix s.a) s.budget s.out.now (outcome (goal.at.returns-in-Found c).Start) o.result (came (goal.at.returns-in-Found c).After-congruence_triangularize-o) vs told (ap₂ matmul list pre.0) in record {
      answered = e.answered ∙ sym (ap (λ (x : Reply). x.figures) w);
      left = e.left ∙ ap (λ (m : ℕ). laid m vs s.out.now) q ∙ sym (ap (λ (x : Reply). x.words) w);
      remembered = entered (goal.at.returns-in-Found c).After-congruence_triangularize-o;
    }

pub returns-in-Failed : goal.returns-in-Failed
returns-in-Failed c =
    let s = c.args in
    let pre = c.requires in
    let o = c.congruence_triangularize-o in
    let q = qubits_is (goal.at.returns-in-Failed c).After-capped-n in
    let l = c.bordered_family in
    let k = c.rows_in-in-Failed in
    let to = c.start-to-in-Failed in
    let fails : o.result.ending ≡ Failed = search (rules, c.in-Failed.is) in
    let count = family_size (goal.at.returns-in-Failed c).Start in
    let few = rows_few (goal.at.returns-in-Failed c).Start in
    let one : k.result + 1 ≡ length (family_of (goal.at.returns-in-Failed c).Start) = omega (arith, count, k.ensures) in
    let room : length (family_of (goal.at.returns-in-Failed c).Start) ≤ length (rows_in_lem o.new.list) =
    subst (λ (m : ℕ). length (family_of (goal.at.returns-in-Failed c).Start) ≤ m) (sym (ap length o.ensures.left ∙ over_length _ (rows_in_lem (replicate most_vectors 0)))) (room_in_lem most_vectors (length (family_of (goal.at.returns-in-Failed c).Start)) (omega (arith, count, few))) in
    let list : rows_in_lem (take to.result l.new.list) ≡ family_of (goal.at.returns-in-Failed c).Start =
    lent_front (k.result + 1) to.result l.new.list to.ensures
    ∙ ap₂ take one (l.ensures ∙ ap (λ (E : List ℕ). over (vectors_of (core_family E)) (rows_in_lem o.new.list)) (core_fits (qubits s.a) (matrix s.a) (size (goal.at.returns-in-Failed c).Start) (qubits_le s.a) s.core.now pre.1))
    ∙ over_front (family_of (goal.at.returns-in-Failed c).Start) (rows_in_lem o.new.list) room in
    let vs = matmul (rows_in_lem (take to.result l.new.list)) (rows_in_lem s.basis.now) in
    let e = c.multiplied-in-Failed.ensures in
    let w = searched_failed (qubits s.a) (matrix s.a) s.budget s.out.now (outcome (goal.at.returns-in-Failed c).Start) o.result (came (goal.at.returns-in-Failed c).After-congruence_triangularize-o) vs fails (ap₂ matmul list pre.0) in record {
      answered = e.answered ∙ sym (ap (λ (x : Reply). x.figures) w);
      left = e.left ∙ ap (λ (m : ℕ). laid m vs s.out.now) q ∙ sym (ap (λ (x : Reply). x.words) w);
      remembered = entered (goal.at.returns-in-Failed c).After-congruence_triangularize-o;
    }

pub overflow_add-rows_in : goal.overflow_add-rows_in
overflow_add-rows_in c = omega (arith, c.rows_in-in-Failed.ensures, rows_few (goal.at.overflow_add-rows_in c).Start)
