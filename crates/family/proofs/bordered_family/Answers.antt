-- `bordered_family` peels the space of all rows as wide as the core, whose form rows are the core, and puts what was made over the list.
use mathlib.Core.Path.{◌≡◌, refl, sym, ap, ◌∙◌}
use mathlib.Core.Bool.{Bool, true, false}
use mathlib.Core.List.{List, []}
use mathlib.Core.Option.{Option, none, some, get_or}
use Prim.Native.Nat.{ℕ, ◌+◌, ◌/◌, min}
use lib.ListN.{length, take, replicate, length-take}
use Rattle.binar.specs.Rows.{width}
use Rattle.blocks.specs.Matrices.{matmul, units}
use Rattle.blocks.specs.Words.{rows_in_lem, over}
use Rattle.blocks.proofs.Overs.{over_nil}
use Rattle.blocks.proofs.Units.{matmul_units}
use Rattle.blocks.proofs.Values.{rows_count, take_counted}
use Rattle.residue.specs.Residue.{form}
use Rattle.symplectic.specs.Picks.{map_some}
use Rattle.triangular.specs.Readings.{core_in}
use Rattle.triangular.proofs.Cores.{core_in_lem}
use Rattle.std.specs.Prelude.{Option as Answer, Some, None, is_some}
use Rattle.family.specs.Family.{bordered_family_lem, core_family, vectors, vectors_of}
use Rattle.symplectic.specs.Sizes.{most_vectors}
use Rattle.family.specs.inner.Parts.{members, if_made}
use native.Mathlib.Omega.{arith}
use Rattle.family.proofs.bordered_family.Goals as goal
use Rattle.family.proofs.bordered_family.Goals.{After-peel}

-- the rows of a core, of which d count
core_taken : (ws : List ℕ) (d : ℕ) → d ≡ min width (length (rows_in_lem ws)) → (take d (rows_in_lem ws) ≡ core_in ws) × (d ≡ length (core_in ws))
core_taken ws d e =
    let size : d ≡ length (take width (rows_in_lem ws)) = e ∙ sym (length-take width (rows_in_lem ws)) in
    (ap (λ n. take n (rows_in_lem ws)) size ∙ take_counted width (rows_in_lem ws) ∙ sym (core_in_lem ws), size ∙ ap length (sym (core_in_lem ws)))

-- as many rows as a local array has most_vectors for
many : length (rows_in_lem (replicate width 0)) ≡ width
many = rows_count (width / 2) (replicate width 0)

one_more : length (rows_in_lem (replicate most_vectors 0)) ≡ most_vectors
one_more = rows_count (width / 2) (replicate most_vectors 0)

pub invariant_of-space : goal.invariant_of-space
invariant_of-space c =
    let d = c.min-d.ensures in
    record { narrow = omega arith; within = omega (arith, many); beside = omega (arith, many) }

pub peel-requires : goal.peel-requires
peel-requires c =
    let d = c.min-d.ensures in
    omega (arith, one_more, c.put_whole.ensures.0)

-- the family of the core, in the words that it was made in
made : (c : goal.After-peel) → let d = c.min-d.result in let core = c.args.core.now in
    if_made c.peel.result (take (d + 1) (rows_in_lem c.peel.new.list)) ≡ map_some vectors (core_family (core_in core))
made c =
    let core = c.args.core.now in
    let d = c.min-d in
    let put = c.put_whole.ensures in
    let space = c.put_whole.new.self in
    let is = core_taken core d.result (omega (arith, d.ensures, c.rows_in.ensures)) in
    let E = core_in core in
    let forms = ap (λ (n : ℕ). take n (rows_in_lem space.forms)) put.0 ∙ put.2 ∙ is.0 in
    ap (λ (n : ℕ). if_made c.peel.result (take (n + 1) (rows_in_lem c.peel.new.list))) (sym put.0)
    ∙ c.peel.ensures E (ap (λ (l : List ℕ). matmul l E) (put.1 ∙ ap units is.1) ∙ matmul_units E ∙ sym forms)
    ∙ ap (λ (n : ℕ). map_some vectors (bordered_family_lem (form E) n (members space))) put.0
    ∙ ap (λ (l : List ℕ). map_some vectors (bordered_family_lem (form E) d.result l)) put.1 ∙ ap (λ (n : ℕ). map_some vectors (bordered_family_lem (form E) n (units n))) is.1

-- its vectors, by whether it was made
left : {B : Type 0} (o : Answer B) (v : Option (List (ℕ × Bool))) (vs : List ℕ) → if_made o vs ≡ map_some vectors v → vectors_of v ≡ get_or (if_made o vs) []
unfolding vectors_of
left o v vs is = by v ∙ ap (λ (w : Option (List ℕ)). get_or w []) (sym is)
  where
    by : (v : Option (List (ℕ × Bool))) → vectors_of v ≡ get_or (map_some vectors v) []
    by none = refl
    by (some l) = refl

all_left : {B : Type 0} (o : Answer B) (vs : List ℕ) → is_some o ≡ true → get_or (if_made o vs) [] ≡ vs
all_left (Some u) vs e = refl
all_left None vs e = let z : ◌≡◌ {A = ℕ} 0 1 = cc in absurd (omega arith)

none_left : {B : Type 0} (o : Answer B) (vs : List ℕ) → is_some o ≡ false → get_or (if_made o vs) [] ≡ []
none_left (Some u) vs e = let z : ◌≡◌ {A = ℕ} 0 1 = cc in absurd (omega arith)
none_left None vs e = refl

pub returns-then-is_some : goal.returns-then-is_some
returns-then-is_some c =
    let m = made (goal.at.returns-then-is_some c).After-peel in
    c.put_front.ensures ∙ ap (λ (l : List ℕ). over l (rows_in_lem c.args.list.now)) (sym (left _ _ _ m ∙ all_left c.peel.result _ (sym c.is_some.ensures ∙ c.if-is_some.true)))

pub returns-else-is_some : goal.returns-else-is_some
returns-else-is_some c =
    let out = rows_in_lem c.args.list.now in
    let m = made (goal.at.returns-else-is_some c).After-peel in
    sym (ap (λ (l : List ℕ). over l out) (left _ _ _ m ∙ none_left c.peel.result _ (sym c.is_some.ensures ∙ c.if-is_some.false)) ∙ over_nil out)
