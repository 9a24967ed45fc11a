-- One draw of a search in lent rows: what its steps leave behind the level is the rest that the draw passes on.
-- Assumes nothing.
use mathlib.Core.Path.{◌≡◌, refl, sym, ◌∙◌}
use mathlib.Core.Bool.{true}
use mathlib.Core.List.{List, ◌++◌}
use Prim.Native.Nat.{ℕ, ◌+◌, ◌-◌, ◌^◌, ◌≤◌, ◌<◌}
use native.Mathlib.Nat.{le_refl}
use native.Mathlib.Omega.{arith}
use lib.ListN.{length, take, drop, length-drop}
use lib.Seq.{length-take-le}
use Rattle.binar.specs.Bits.{dot}
use Rattle.binar.specs.Rows.{width, lowest}
use Rattle.blocks.specs.Matrices.{times, All}
use Rattle.blocks.proofs.All.{All-map}
use Rattle.linear.proofs.Rows.{span_lt}
use Rattle.residue.specs.Residue.{form}
use Rattle.residue.proofs.Forms.{form_right}
use Rattle.triangular.specs.Spaces.{complement}
use Rattle.triangular.proofs.Complements.{complement_in}
use Rattle.spaces.specs.Levels.{counted, gram_of, members_passed, gram_passed}
use Rattle.search.specs.inner.Levels.{levels}
use Rattle.spaces.proofs.Grams.{gram_length}
use Rattle.spaces.proofs.Levels.{members_front, members_at, gram_front, gram_at_lem}
use Rattle.search.proofs.LentLevels.{levels_step, levels_least, levels_behind, level_rows, back_front}
use Rattle.spaces.proofs.Passing.{rest_length, passed_rest, passed_gram}

-- what is known once the Gram rows are passed on (g₂)
pub record Drawn (d : ℕ) (b₀ g₀ : List ℕ) (g j : ℕ) (g₂ : List ℕ) : Type 0 where
  pub some : 0 < d
  pub fits : d ≤ width
  pub b_room : levels d ≤ length b₀
  pub g_room : levels d ≤ length g₀
  pub column : j ≡ lowest g
  pub g₂_long : length g₂ ≡ length g₀
  pub g₂_is : g₂ ≡ gram_passed g j (counted d) g₀

-- the members are passed on too (b₁)
pub record Moved (d : ℕ) (b₀ : List ℕ) (g j : ℕ) (b₁ : List ℕ) : Type 0 where
  pub b₁_long : length b₁ ≡ length b₀
  pub b₁_is : b₁ ≡ members_passed g j (counted d) b₀

module _ (d : ℕ) (b₀ g₀ : List ℕ) (g j : ℕ) (g₂ : List ℕ) (s : Drawn d b₀ g₀ g j g₂) where
  behind_g : d + d + (d - 1) ≤ length g₂
  behind_g = omega (arith, levels_behind d s.some, s.g_room, s.g₂_long)

  pub room_g : levels (d - 1) ≤ length (drop (d + d) g₂)
  room_g = omega (arith, length-drop (d + d) g₂, levels_step d s.some, s.g₂_long, s.g_room)

  pub gram_front_kept : take (d + d) g₂ ≡ take (d + d) g₀
  gram_front_kept = gram_front d g₀ g₂ s.fits g j s.g₂_is

  -- the level's own rows stay, whatever comes back behind it
  pub gram_kept : (ys : List ℕ) → take (d + d) (take (d + d) g₂ ++ ys) ≡ take (d + d) g₀
  gram_kept ys = back_front (d + d) g₂ ys (omega (arith, behind_g)) (d + d) (le_refl (d + d)) ∙ gram_front_kept

  -- the draw by its coefficients c
  module _ (E : List ℕ) (c : ℕ) (is : gram_of E (take d b₀) ≡ take d g₀) (sum : g ≡ times c (take d g₀)) (on : dot c g ≡ true) where
    abbrev pub rest : List ℕ
    rest = complement (form E (times c (take d b₀))) (take d b₀)

    size : length (take d b₀) ≡ d
    size = length-take-le d b₀ (omega (arith, levels_least d, s.b_room))

    short : length rest ≡ d - 1
    short = rest_length d s.fits E (take d b₀) (take d g₀) size is c g j sum on s.column

    pub rest_gram : gram_of E rest ≡ take (d - 1) (drop (d + d) g₂)
    rest_gram =
        sym (level_rows (d - 1) (d + d) g₂ (gram_of E rest) behind_g (gram_length E rest (gram_of E rest) refl ∙ short)
        (λ i l. gram_at_lem d g₀ g₂ s.fits g j s.g₂_is (omega (arith, levels_behind d s.some, s.g_room)) i l ∙ passed_gram d s.fits E (take d b₀) (take d g₀) size is c g j sum on s.column i l))

    pub rest_small : All (λ v. v < 2 ^ width) (take d b₀) → All (λ v. v < 2 ^ width) rest
    rest_small small =
        let p = times c (take d b₀) in
        All-map (λ y k. span_lt width (take d b₀) small y k.0) rest (complement_in (form E p) (form_right E p) (take d b₀))

  module _ (b₁ : List ℕ) (m : Moved d b₀ g j b₁) where
    behind_b : d + d + (d - 1) ≤ length b₁
    behind_b = omega (arith, levels_behind d s.some, s.b_room, m.b₁_long)

    pub room_b : levels (d - 1) ≤ length (drop (d + d) b₁)
    room_b = omega (arith, length-drop (d + d) b₁, levels_step d s.some, m.b₁_long, s.b_room)

    pub basis_kept : (ys : List ℕ) → take (d + d) (take (d + d) b₁ ++ ys) ≡ take (d + d) b₀
    basis_kept ys = back_front (d + d) b₁ ys (omega (arith, behind_b)) (d + d) (le_refl (d + d)) ∙ members_front d b₀ b₁ s.fits g j m.b₁_is

    pub within_b : d + d ≤ length b₁
    within_b = omega (arith, behind_b)

    module _ (E : List ℕ) (c : ℕ) (is : gram_of E (take d b₀) ≡ take d g₀) (sum : g ≡ times c (take d g₀)) (on : dot c g ≡ true) where
      pub child : take (d - 1) (drop (d + d) b₁) ≡ rest E c is sum on
      child =
          level_rows (d - 1) (d + d) b₁ (rest E c is sum on) behind_b (short E c is sum on)
          (λ i l. members_at d b₀ b₁ s.fits g j m.b₁_is (omega (arith, levels_behind d s.some, s.b_room)) i l
          ∙ passed_rest d s.fits E (take d b₀) (take d g₀) (size E c is sum on) is c g j sum on s.column i l)
