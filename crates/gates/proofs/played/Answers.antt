-- `played` refuses by the first gate that is refused, else it lays the product of the turns, gate by gate by `upto_next`.
use mathlib.Core.Path.{◌≡◌, sym, ap, ap₂, ◌∙◌, subst}
use mathlib.Core.List.{List, [], map}
use Prim.Native.Nat.{ℕ, ◌+◌, ◌*◌, ◌<◌}
use native.Mathlib.Omega.{arith}
use lib.Dec.{ltb, eqb}
use lib.ListN.{length, get_or}
use Rattle.blocks.specs.Words.{laid, rows_in_lem, over}
use Rattle.blocks.specs.Matrices.{units}
use Rattle.actions.specs.Actions.{padded}
use Rattle.symplectic.specs.Turns.{followed_by, product}
use Rattle.symplectic.proofs.Sizes.{capped_is}
use Rattle.actions.proofs.Arrays.{padded_is}
use Rattle.questions.proofs.Answered.{Meets}
use Rattle.symplectic.proofs.Products.{product_length}
use Rattle.symplectic.proofs.Work.{identity_whole}
use Rattle.sheets.specs.declared.SheetLine.{SheetLine}
use Rattle.sheets.specs.Sheets.{gates_of}
use Rattle.gates.specs.declared.GateError.{GateError}
use Rattle.gates.specs.declared.GateActionError.TheVariants.{Gate as Asked}
use Rattle.std.specs.Prelude.{Err}
use Rattle.std.proofs.lemmas.Result.{err_from_is_err_and}
use Rattle.gates.specs.Sequences.{turn_vector_lem, gate_questions, sequence_turns, gates_reply}
use Rattle.gates.specs.Answers.{gate_number, figures_of_lem}
use Rattle.gates.specs.inner.Readings.{number_of}
use Rattle.gates.proofs.Asked.{asked_of, turns_of, of_chunk, asked_at, Upto, upto_none, upto_all, upto_first, upto_next}
use Rattle.gates.proofs.Lined.{line_asked, line_turns, line_passed}
use Rattle.gates.proofs.Replied.{Promised, gate_refusal, gate_refused, gates_listed}
use borrow.Author.Rules.{rules}
use Rattle.gates.proofs.played.Goals as goal
use Rattle.gates.proofs.played.Goals.{After-question, At-loop-gate, In_ok-question, Start}

pub loop-gate-init : goal.loop-gate-init
loop-gate-init c =
    let s = c.args in
    let l = rows_in_lem s.w.now in (
      search rules,
      upto_none s.n (gates_of s.sheet.now) s.bytes.now _
          (c.put_identity.ensures ∙ ap (λ (k : ℕ). over (units (k + k)) l) (capped_is s.n c.requires.0) ∙ identity_whole s.n l c.requires.1),
    )

-- the bytes of the gate that is asked of are there
inside : (c : goal.After-question) → c.loop-gate.gate-index * 3 + 2 < length c.args.bytes.now
inside c = omega (arith, c.as_chunks.ensures.front_len)

-- the number of the gate and its qubits, as the code reads them
abbrev byte : goal.After-question → ℕ → ℕ
byte c k = get_or (get_or c.as_chunks.result.0.now c.loop-gate.gate-index []) k 0

-- what is computed from them
read : {A : Type 0} (c : goal.After-question) (f : ℕ → ℕ → ℕ → A) → let bytes = c.args.bytes.now in let j = c.loop-gate.gate-index * 3 in
    f (byte c 0) (byte c 1) (byte c 2) ≡ f (get_or bytes j 0) (get_or bytes (j + 1) 0) (get_or bytes (j + 2) 0)
read c f = of_chunk f c.as_chunks.result.0.now c.args.bytes.now c.loop-gate.gate-index c.as_chunks.ensures.front (omega (arith, c.as_chunks.ensures.front_len))

-- the code's answer is that of the gate
code_answered : (c : goal.After-question) → let s = c.args in number_of c.question.result ≡ asked_of s.n (gates_of s.sheet.now) (byte c 0) (byte c 1) (byte c 2)
code_answered c =
    let s = c.args in
    c.question.ensures
    ∙ ap₂ (λ (k : ℕ) (l : SheetLine). gate_questions s.n (ltb (byte c 0) k) (eqb l.qubits 2) (byte c 1) (byte c 2)) c.gate_count-known.ensures c.line_at-l.ensures
    ∙ line_asked s.sheet.now (byte c 0) s.n (byte c 1) (byte c 2)

answered : (c : goal.After-question) → let s = c.args in number_of c.question.result ≡ asked_at s.n (gates_of s.sheet.now) s.bytes.now (c.loop-gate.gate-index * 3)
answered c = code_answered c ∙ read c (asked_of c.args.n (gates_of c.args.sheet.now))

-- the gate is passed
passed : (c : goal.In_ok-question) → let s = c.args in let d = (goal.at.In_ok-question c).After-question in asked_of s.n (gates_of s.sheet.now) (byte d 0) (byte d 1) (byte d 2) ≡ 0
passed c = sym (code_answered (goal.at.In_ok-question c).After-question) ∙ ap number_of c.in_ok-question.was

pub loop-gate-preserved : goal.loop-gate-preserved
loop-gate-preserved c =
    let s = c.args in
    let at = c.loop-gate in
    let d = (goal.at.loop-gate-preserved c).After-question in
    let gates = gates_of s.sheet.now in
    let F = rows_in_lem at.w in
    let G = rows_in_lem c.follow_gate.new.w in
    let line = c.line_at-l in
    let pass = passed (goal.at.loop-gate-preserved c).In_ok-question in
    let turns = line_turns s.sheet.now (byte d 0) s.n (byte d 1) (byte d 2) line.result line.ensures c.requires.3 pass in
    let made = c.follow_gate.ensures ∙ ap (λ (x : List ℕ). followed_by s.n F (map (turn_vector_lem s.n (byte d 1) (byte d 2)) x)) turns
    ∙ read d (λ g a b. followed_by s.n F (turns_of s.n gates g a b)) in
    let more = upto_next s.n gates s.bytes.now (at.gate-index * 3) F at.invariant.1 (inside d) G (sym (read d (asked_of s.n gates)) ∙ pass) made in
    let next : at.gate-index * 3 + 3 ≡ (at.gate-index + 1) * 3 = omega arith in
    (search rules, subst (λ (j : ℕ). Upto s.n gates s.bytes.now j G) next more)

pub returns : goal.returns
returns c =
    let s = c.args in
    let pre = c.requires in
    let at = c.loop-gate in
    let gates = gates_of s.sheet.now in
    let made = c.from_rows.ensures in
    let e = capped_is s.n pre.0 in
    let vs = sequence_turns s.n gates s.bytes.now in
    let all = upto_all s.n gates s.bytes.now (at.gate-index * 3) (rows_in_lem at.w) at.invariant.1 (omega (arith, c.as_chunks.ensures.front_len)) in
    let rows = made.1 ∙ ap₂ (λ (k : ℕ) (l : List ℕ). padded (k + k) l) e all.1 ∙ padded_is (s.n + s.n) (product s.n vs) (product_length s.n vs) in
    let told = gates_listed s.n s.sheet.now s.bytes.now s.out.now pre.0 pre.2 pre.3 c.store.new.out all.0
    (c.store.ensures ∙ ap₂ (λ (k : ℕ) (l : List ℕ). laid k l s.out.now) (made.0 ∙ e) rows) in record {
      answered = told.0;
      left = told.1.0;
      replays = told.1.1;
    }

pub follow_gate-requires : goal.follow_gate-requires
follow_gate-requires c =
    let s = c.args in
    let pre = c.requires in
    let line = c.line_at-l in
    let d = (goal.at.follow_gate-requires c).After-question in
    let known = line_passed s.sheet.now (byte d 0) s.n (byte d 1) (byte d 2) line.result line.ensures pre.3 (passed (goal.at.follow_gate-requires c).In_ok-question) in
    (pre.0, known.0, known.1, known.2)

-- a refusal of the gate is one of the sequence, and leaves the words as they are
refuses : (c : goal.After-question) (e : GateError) → c.question.result ≡ Err e → let s = c.args in
    Meets (Promised s.n s.sheet.now s.bytes.now s.out.now) (gates_reply s.n s.sheet.now s.bytes.now s.out.now) s.out.now (figures_of_lem (Err (Asked e)))
refuses c e same =
    let s = c.args in
    let pre = c.requires in
    let at = c.loop-gate in
    let k = gate_refusal e in
    gate_refused s.n s.sheet.now s.bytes.now s.out.now pre.0 pre.2 pre.3 e
    (upto_first s.n (gates_of s.sheet.now) s.bytes.now (at.gate-index * 3) (rows_in_lem at.w) at.invariant.1 (inside c) (gate_number e) k.0 k.1 (sym (ap number_of same) ∙ answered c))

pub returns-in_err-question-clause-answered : goal.returns-in_err-question-clause-answered
returns-in_err-question-clause-answered c =
    let p = err_from_is_err_and c.from_residual.result c.from_residual.ensures.1 in
    rw (p.1, p.2) (refuses (goal.at.returns-in_err-question-clause-answered c).After-question _ c.in_err-question.was).0

pub returns-in_err-question-clause-left : goal.returns-in_err-question-clause-left
returns-in_err-question-clause-left c = (refuses (goal.at.returns-in_err-question-clause-left c).After-question _ c.in_err-question.was).1.0
