-- What `try_draw` passes on, and its test of the Gram rows.
use mathlib.Core.Path.{◌≡◌, refl, sym, ap, ◌∙◌, subst}
use mathlib.Core.List.{List, ◌++◌}
use Prim.Native.Nat.{ℕ, ◌+◌, ◌-◌, ◌≤◌, ◌<◌, ◌^◌, min}
use lib.ListN.{length, take, drop}
use Rattle.binar.specs.Rows.{val, width}
use Rattle.blocks.specs.Matrices.{times, All}
use Rattle.blocks.specs.Words.{rows_in_lem, words_for}
use Rattle.triangular.specs.Memory.{Remembered}
use Rattle.memory.specs.Entries.{entry_size}
use Rattle.search.specs.inner.Reports.{Space, Reports}
use mathlib.Core.Bool.{true}
use native.Mathlib.Omega.{arith}
use Rattle.binar.specs.Bits.{dot}
use Rattle.blocks.proofs.Lent.{lent_same, lent_within, lent_rest, lent_back}
use Rattle.residue.specs.Residue.{form}
use Rattle.triangular.specs.Spaces.{complement, is_alternating_lem}
use Rattle.spaces.specs.Levels.{counted, gram_of, members_passed}
use Rattle.spaces.proofs.Grams.{tested_form}
use Rattle.search.specs.inner.Levels.{levels, found_in}
use Rattle.triangular.specs.declared.Ending.{Ending}
use Rattle.search.proofs.LentLevels.{levels_least, back_rest}
use Rattle.search.proofs.Draws.{Drawn, Moved, room_g, gram_kept, rest_gram, rest_small, room_b, basis_kept, within_b, child}
use Rattle.search.proofs.+try_draw_try_draws_try_space.Goals as goal
use Rattle.search.proofs.+try_draw_try_draws_try_space.Goals.{try_draw-After-is_alternating, try_draw-After-start-b, try_draws-After-dot, try_draws-After-low_ones-last, try_draws-After-next-c, try_draws-After-bitxor_assign, try_draws-After-try_draw-o, try_space-After-ask, try_space-After-try_draws-o}

-- where the Gram rows are passed on, and both starts are known
module _ (t : ℕ) (c : goal.try_draw-After-start-b t) where
  abbrev pub draw_d : ℕ
  draw_d = c.args.d

  abbrev pub gram : List ℕ
  gram = c.pass_gram.new.gram

  abbrev pub j : ℕ
  j = c.lowest-j.result

  pub draw_drawn : Drawn draw_d (rows_in_lem c.args.basis.now) (rows_in_lem c.args.gram.now) (val c.args.g) j (rows_in_lem gram)
  draw_drawn = record {
    some = c.requires.0;
    fits = c.requires.1;
    b_room = c.requires.2;
    g_room = c.requires.3;
    column = c.lowest-j.ensures;
    g₂_long = lent_same gram c.args.gram.now c.pass_gram.auto.gram;
    g₂_is = c.pass_gram.ensures;
  }

  -- the Gram rows behind, and once they have come back
  abbrev pub tail_g : List ℕ
  tail_g = take (length gram - c.start-s.result) (drop c.start-s.result gram)

  pub rest_g : rows_in_lem tail_g ≡ drop (draw_d + draw_d) (rows_in_lem gram)
  rest_g = lent_rest (draw_d + draw_d) c.start-s.result gram c.start-s.ensures (length gram - c.start-s.result) refl

  pub back_g : (ys : List ℕ) → take (draw_d + draw_d) (rows_in_lem (take c.start-s.result gram ++ (ys ++ drop (length gram - c.start-s.result) (drop c.start-s.result gram)))) ≡ take (draw_d + draw_d) (rows_in_lem c.args.gram.now)
  back_g ys =
      ap (take (draw_d + draw_d)) (lent_back (draw_d + draw_d) c.start-s.result gram c.start-s.ensures (length gram - c.start-s.result) refl ys)
      ∙ gram_kept _ _ _ _ _ _ draw_drawn (rows_in_lem ys)

  -- the rest is not empty
  pub more : 0 < c.args.d - 1
  more = omega (arith, c.requires.0, c.if-d-eq1.false)

  -- where the members are passed on too
  module _ (words : List ℕ) (long : length words ≡ length c.args.basis.now)
      (is : rows_in_lem words ≡ members_passed (val c.args.g) j (counted draw_d) (rows_in_lem c.args.basis.now)) where
    pub moved : Moved draw_d (rows_in_lem c.args.basis.now) (val c.args.g) j (rows_in_lem words)
    moved = record { b₁_long = lent_same words c.args.basis.now long; b₁_is = is }

    pub at_b : c.start-b.result ≡ min (words_for (draw_d + draw_d)) (length words)
    at_b = c.start-b.ensures ∙ ap (min (words_for (draw_d + draw_d))) (sym long)

    pub starts_b : c.start-b.result ≤ length words
    starts_b = lent_within (draw_d + draw_d) c.start-b.result words at_b

    -- the members behind, and once they have come back
    abbrev pub tail_b : List ℕ
    tail_b = take (length words - c.start-b.result) (drop c.start-b.result words)

    pub rest_b : rows_in_lem tail_b ≡ drop (draw_d + draw_d) (rows_in_lem words)
    rest_b = lent_rest (draw_d + draw_d) c.start-b.result words at_b (length words - c.start-b.result) refl

    abbrev pub whole_b : List ℕ → List ℕ
    whole_b ys = take c.start-b.result words ++ (ys ++ drop (length words - c.start-b.result) (drop c.start-b.result words))

    pub comes_b : (ys : List ℕ) → rows_in_lem (whole_b ys) ≡ take (draw_d + draw_d) (rows_in_lem words) ++ rows_in_lem ys
    comes_b ys = lent_back (draw_d + draw_d) c.start-b.result words at_b (length words - c.start-b.result) refl ys

    pub back_b : (ys : List ℕ) → take (draw_d + draw_d) (rows_in_lem (whole_b ys)) ≡ take (draw_d + draw_d) (rows_in_lem c.args.basis.now)
    back_b ys = ap (take (draw_d + draw_d)) (comes_b ys) ∙ basis_kept _ _ _ _ _ _ draw_drawn _ moved (rows_in_lem ys)

    pub rooms : (0 < draw_d - 1) × (draw_d - 1 ≤ width) × (levels (draw_d - 1) ≤ length (rows_in_lem tail_b)) × (levels (draw_d - 1) ≤ length (rows_in_lem tail_g)) × (c.args.looks ≤ c.args.budget) × (c.args.used ≤ length c.args.memory.now)
    rooms = (
      more,
      omega (arith, c.requires.1),
      subst (λ l. levels (draw_d - 1) ≤ length l) (sym rest_b) (room_b _ _ _ _ _ _ draw_drawn _ moved),
      subst (λ l. levels (draw_d - 1) ≤ length l) (sym rest_g) (room_g _ _ _ _ _ _ draw_drawn),
      c.requires.4,
      c.requires.5,
    )

    -- they are the rest of a draw by its coefficients x
    module _ (E : List ℕ) (x : ℕ) (sp : Space E draw_d (rows_in_lem c.args.basis.now) (rows_in_lem c.args.gram.now))
        (sum : val c.args.g ≡ times x (take draw_d (rows_in_lem c.args.gram.now))) (on : dot x (val c.args.g) ≡ true) where
      abbrev pub left : List ℕ
      left = complement (form E (times x (take draw_d (rows_in_lem c.args.basis.now)))) (take draw_d (rows_in_lem c.args.basis.now))

      pub same : take (draw_d - 1) (rows_in_lem tail_b) ≡ left
      same = ap (take (draw_d - 1)) rest_b ∙ child _ _ _ _ _ _ draw_drawn _ moved E x sp.0 sum on

      pub draw_stands : Space E (draw_d - 1) (rows_in_lem tail_b) (rows_in_lem tail_g)
      draw_stands = (
        ap (gram_of E) same ∙ rest_gram _ _ _ _ _ _ draw_drawn E x sp.0 sum on ∙ sym (ap (take (draw_d - 1)) rest_g),
        subst (All (λ v. v < 2 ^ width)) (sym same) (rest_small _ _ _ _ _ _ draw_drawn E x sp.0 sum on sp.1),
      )

      -- what is told of them is told of the rest
      pub told : (f : List ℕ → Remembered) (v : Ending) (k : ℕ) (ys ws : List ℕ) (used : ℕ)
          → Reports c.args.budget (f (take (draw_d - 1) (rows_in_lem tail_b))) v k (found_in (draw_d - 1) (rows_in_lem ys)) ws used
          → Reports c.args.budget (f left) v k (found_in (draw_d - 1) (drop (draw_d + draw_d) (rows_in_lem (whole_b ys)))) ws used
      told f v k ys ws used came =
          subst (λ (l : List ℕ). Reports c.args.budget (f left) v k (found_in (draw_d - 1) l) ws used)
          (sym (ap (drop (draw_d + draw_d)) (comes_b ys) ∙ back_rest (draw_d + draw_d) (rows_in_lem words) (rows_in_lem ys) (within_b _ _ _ _ _ _ draw_drawn _ moved)))
          (subst (λ (l : List ℕ). Reports c.args.budget (f l) v k (found_in (draw_d - 1) (rows_in_lem ys)) ws used) same came)

-- the test of the Gram rows, which tells of every space that has them
module _ (t : ℕ) (c : goal.try_draw-After-is_alternating t) where
  pub short : length c.args.memory.now < entry_size
  short = omega (arith, c.if-memory-ge-ENTRY.false)

  pub tests : (E X : List ℕ) → gram_of E X ≡ take (draw_d t (goal.at.try_draw-After-is_alternating t c).After-start-b - 1) (rows_in_lem (tail_g t (goal.at.try_draw-After-is_alternating t c).After-start-b)) → is_alternating_lem (form E) X ≡ c.is_alternating.result
  tests E X e = tested_form (draw_d t (goal.at.try_draw-After-is_alternating t c).After-start-b - 1) (rows_in_lem (tail_g t (goal.at.try_draw-After-is_alternating t c).After-start-b)) behind E X e (more t (goal.at.try_draw-After-is_alternating t c).After-start-b) c.is_alternating.result c.is_alternating.ensures
    where
      behind : draw_d t (goal.at.try_draw-After-is_alternating t c).After-start-b - 1 ≤ length (rows_in_lem (tail_g t (goal.at.try_draw-After-is_alternating t c).After-start-b))
      behind = subst (λ l. draw_d t (goal.at.try_draw-After-is_alternating t c).After-start-b - 1 ≤ length l) (sym (rest_g t (goal.at.try_draw-After-is_alternating t c).After-start-b)) (omega (arith, levels_least (draw_d t (goal.at.try_draw-After-is_alternating t c).After-start-b - 1), room_g _ _ _ _ _ _ (draw_drawn t (goal.at.try_draw-After-is_alternating t c).After-start-b)))
