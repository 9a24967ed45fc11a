-- A `find_map` over a range finds what a search finds that opens number by number.
-- Assumes nothing.
use mathlib.Core.Path.{◌≡◌, refl, sym, ap, ◌∙◌, subst}
use mathlib.Core.Bool.{Bool, true, false}
use mathlib.Core.Option.{Option, none, some}
use Prim.Native.Nat.{ℕ, zero, suc, ◌+◌, ◌-◌, ◌≤◌, ◌<◌}
use native.Mathlib.Omega.{arith}
use lib.Dec.{ltb}
use borrow.Author.Tests.{ltb-true, ltb-false}
use denote.Param.Members.{Mut, Called}
use Rattle.std.specs.declared.ops.Range.{Range}
use Rattle.std.specs.Iterator.Runs.{SomeRun, AllItemsGive, IsFirstToGive}
use Rattle.std.proofs.iter.Yields.{nat_range_steps}
use Rattle.std.proofs.iter.runs.Sources.{range_runs}
use Rattle.std.specs.Prelude.{Option as Answer, Some, None, IsTrue, IfSome, IsSomeAnd, MatchOption}
use Rattle.std.specs.Option.{option_map}
use Rattle.binar.specs.declared.Row.{Row}
use Rattle.binar.specs.Rows.{val}
use Rattle.symplectic.specs.Picks.{or_if, or_else}
use Rattle.transvection.specs.inner.Searches.{chosen}

-- G i is what is found from number i on: at i, or else behind it; nothing from m on
pub record Search (G at : ℕ → Option ℕ) (m : ℕ) : Type 0 where
  pub opens : (i : ℕ) → i < m → G i ≡ or_else (at i) (G (i + 1))
  pub ends : (i : ℕ) → m ≤ i → G i ≡ none

pub or_else_if : (b : Bool) (v : ℕ) (later : Option ℕ) → or_else (or_if b v none) later ≡ or_if b v later
or_else_if true v later = refl
or_else_if false v later = refl

module _ {G at : ℕ → Option ℕ} {m : ℕ} (by : Search G at m) where
  pub passed : (n a : ℕ) → a + n ≤ m → ((k : ℕ) → k < n → at (a + k) ≡ none) → G a ≡ G (a + n)
  passed zero a l f = ap G (omega arith)
  passed (suc n) a l f =
      let here : at a ≡ none = ap at (omega arith) ∙ f 0 (omega arith) in
      by.opens a (omega arith) ∙ ap (λ (o : Option ℕ). or_else o (G (a + 1))) here
      ∙ passed n (a + 1) (omega arith) (λ k j. ap at (omega arith) ∙ f (k + 1) (omega arith)) ∙ ap G (omega arith)

  pub nothing : (n a : ℕ) → n ≡ m - a → ((k : ℕ) → k < n → at (a + k) ≡ none) → G a ≡ none
  nothing n a e f = go (ltb m a) refl
    where
      go : (b : Bool) → ltb m a ≡ b → G a ≡ none
      go true t = let l = ltb-true m a in by.ends a (omega arith)
      go false t = let l = ltb-false m a in passed n a (omega arith) f ∙ by.ends (a + n) (omega arith)

-- the item at a place whose number is known
read_if : (P : ℕ → Type 0) (o : Answer ℕ) (x : ℕ) → option_map (λ y. y) o ≡ Some x → IfSome o P → P x
read_if P None x e h = absurd cc
read_if P (Some y) x e h = let k : y ≡ x = cc in subst P k h

read_and : (P : ℕ → Type 0) (o : Answer ℕ) (x : ℕ) → option_map (λ y. y) o ≡ Some x → IsSomeAnd o P → P x
read_and P None x e h = absurd cc
read_and P (Some y) x e h = let k : y ≡ x = cc in subst P k h

module _ {F : Type 0} {g : Mut F (ℕ × Unit {0}) (Answer Row)} (s : Range ℕ) (f : F) {G at : ℕ → Option ℕ} (by : Search G at s.end) where
  module _ (stays : (x : ℕ × Unit {0}) (o : Answer Row) (q : F) → Called g f x o q → q ≡ f) (answers : (x : ℕ) (o : Answer Row) → x < s.end → Called g f (x, tt) o f → chosen o ≡ at x) where
    pub found : (r : Answer Row)
        → SomeRun nat_range_steps s (λ p. MatchOption r (IsTrue p.whole × AllItemsGive p g f None) (λ y. (i : ℕ) × (i < p.len) × (p.len ≡ i + 1) × IsFirstToGive p g f (Some y) None i))
        → chosen r ≡ G s.start
    found None w =
        let p = w.0 in
        let up = range_runs p p.seen in
        let size : p.len ≡ s.end - s.start = up.1 w.2.0 ∙ ap (λ (t : Range ℕ). t.end - t.start) w.1 in
        let each : (k : ℕ) → k < p.len → at (s.start + k) ≡ none =
        λ k l. sym (answers (s.start + k) None (omega arith) (read_if (λ x. Called g f (x, tt) None f) (p.at k) (s.start + k) (up.3 k l ∙ ap (λ (t : Range ℕ). Some (t.start + k)) w.1) (w.2.1 stays k))) in
        sym (nothing by p.len s.start (omega arith) each)
    found (Some y) w =
        let p = w.0 in
        let up = range_runs p p.seen in
        let i = w.2.0 in
        let first = w.2.3 stays in
        let within : s.start + i < s.end = omega (arith, up.0, ap (λ (t : Range ℕ). t.end - t.start) w.1) in
        let here : some (val y) ≡ at (s.start + i) =
        answers (s.start + i) (Some y) within (read_and (λ x. Called g f (x, tt) (Some y) f) (p.at i) (s.start + i) (up.3 i (omega arith) ∙ ap (λ (t : Range ℕ). Some (t.start + i)) w.1) first.0) in
        let before : (k : ℕ) → k < i → at (s.start + k) ≡ none =
        λ k l. sym (answers (s.start + k) None (omega arith) (read_and (λ x. Called g f (x, tt) None f) (p.at k) (s.start + k) (up.3 k (omega arith) ∙ ap (λ (t : Range ℕ). Some (t.start + k)) w.1) (first.1 k l))) in
        ap (λ (o : Option ℕ). or_else o (G (s.start + i + 1))) here ∙ sym (by.opens (s.start + i) within) ∙ sym (passed by i s.start (omega arith) before)
