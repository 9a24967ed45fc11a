-- A member dropped in place: member j is the first that f has a dot with, each later one moves up by one place and is changed, and its form row with it.
-- Assumes nothing.
use mathlib.Core.Path.{◌≡◌, refl, sym, ap, ap₂, ◌∙◌}
use mathlib.Core.Bool.{Bool, true, false}
use mathlib.Core.List.{List, ◌++◌, map}
use Prim.Native.Nat.{ℕ, suc, ◌+◌, ◌-◌, ◌≤◌, ◌<◌, zero-le}
use native.Mathlib.Omega.{arith}
use lib.ListN.{length, get_or, take, drop, length-append, length-map, length-drop, take-append-drop}
use lib.Seq.{get_or-take, get_or-drop, get_or-append-add, length-take-le, take-take, take-append-le, take_all}
use Rattle.binar.specs.Bits.{select, ◌⊕◌, dot}
use Rattle.blocks.specs.Matrices.{times, matmul}
use Rattle.blocks.proofs.Firsts.{First}
use Rattle.blocks.proofs.Products.{times_sum, matmul_is, row_times}
use Rattle.blocks.proofs.Units.{take_map}
use Rattle.blocks.proofs.Values.{map_get}
use Rattle.linear.proofs.Instances.{𝕎}
use Rattle.linear.proofs.Maps.{map_at}
use Rattle.triangular.specs.Spaces.{complement}
use Rattle.triangular.proofs.Complements.{complement_at}
use Rattle.triangular.proofs.Cores.{core_row}

take_matmul : (n : ℕ) (A E : List ℕ) → take n (matmul A E) ≡ matmul (take n A) E
take_matmul n A E = ap (take n) (matmul_is A E) ∙ take_map (λ a. times a E) n A ∙ sym (matmul_is (take n A) E)

module _ (f d j : ℕ) (b : List ℕ) (long : d ≤ length b) (inside : j < d) (before : (i : ℕ) → i < j → dot f (get_or b i 0) ≡ false) (at : dot f (get_or b j 0) ≡ true) where
  size : length (take d b) ≡ d
  size = length-take-le d b long

  first : First (dot f) 0 (take d b) 0 j
  first = record {
    from = zero-le;
    inside = omega (arith, size);
    before = λ i a l. ap (dot f) (get_or-take d b i 0 (omega arith)) ∙ before i l;
    at = ap (dot f) (get_or-take d b j 0 inside) ∙ at;
  }

  change : ℕ → ℕ
  change y = y ⊕ select 0 (dot f y) (get_or (take d b) j 0)

  left : complement (dot f) (take d b) ≡ take j (take d b) ++ map change (drop (suc j) (take d b))
  unfolding change
  left = complement_at (dot f) (take d b) j first

  front : length (take j (take d b)) ≡ j
  front = length-take-le j (take d b) (omega (arith, size))

  -- one member fewer
  pub drop_length : suc (length (complement (dot f) (take d b))) ≡ d
  drop_length =
      let B = take d b in
      omega (arith, size, front, ap length left, length-append (take j B) (map change (drop (suc j) B)), length-map (drop (suc j) B) change, length-drop (suc j) B)

  drop_front : take j (complement (dot f) (take d b)) ≡ take j b
  drop_front =
      let B = take d b in
      ap (take j) left ∙ take-append-le j (take j B) (map change (drop (suc j) B)) (omega (arith, front))
      ∙ take_all j (take j B) (omega (arith, front)) ∙ take-take j d b (omega arith)

  -- those before it stay
  pub drop_begun : b ≡ take j (complement (dot f) (take d b)) ++ drop j b
  drop_begun = sym (ap (λ l. l ++ drop j b) drop_front ∙ take-append-drop j b)

  module _ (n : ℕ) (behind : j ≤ n) (more : n + 1 < d) where
    drop_at : get_or (complement (dot f) (take d b)) n 0 ≡ change (get_or b (n + 1) 0)
    drop_at =
        let B = take d b in
        let e : n ≡ length (take j B) + (n - j) = omega (arith, front) in
        let place : suc j + (n - j) ≡ n + 1 = omega arith in
        ap₂ (λ l i. get_or l i 0) left e ∙ get_or-append-add (take j B) (map change (drop (suc j) B)) (n - j) 0
        ∙ map_get change (drop (suc j) B) (n - j) 0 0 (omega (arith, length-drop (suc j) B, size))
        ∙ ap change (get_or-drop (suc j) B (n - j) 0 ∙ ap (λ i. get_or B i 0) place ∙ get_or-take d b (n + 1) 0 more)

    module _ (y m : ℕ) (hit : Bool) (y-is : y ≡ get_or b (n + 1) 0) (m-is : m ≡ get_or b j 0) (hits : hit ≡ dot f y) where
      -- the member put at n
      pub drop-member : (v : ℕ) → v ≡ y ⊕ select 0 hit m → v ≡ get_or (complement (dot f) (take d b)) n 0
      unfolding change
      drop-member v new =
          new ∙ ap₂ (λ t x. y ⊕ select 0 t x) hits (m-is ∙ sym (get_or-take d b j 0 inside)) ∙ ap change y-is ∙ sym drop_at

      -- its form row
      pub drop_row : (g E : List ℕ) → matmul (take d b) E ≡ take d g → (yf mf w : ℕ) → yf ≡ get_or g (n + 1) 0 → mf ≡ get_or g j 0 → w ≡ yf ⊕ select 0 hit mf
          → w ≡ get_or (matmul (complement (dot f) (take d b)) E) n 0
      drop_row g E fit yf mf w yf-is mf-is new =
          let row : (i : ℕ) → i < d → get_or g i 0 ≡ times (get_or b i 0) E =
          λ i l. sym (get_or-take d g i 0 l) ∙ core_row (take d b) (take d g) E fit i ∙ ap (λ x. times x E) (get_or-take d b i 0 l) in
          new ∙ ap₂ (λ s t. s ⊕ select 0 hit t) (yf-is ∙ row (n + 1) more ∙ ap (λ x. times x E) (sym y-is)) (mf-is ∙ row j inside ∙ ap (λ x. times x E) (sym m-is))
          ∙ sym (map_at 𝕎 𝕎 (λ a. times a E) (times_sum E) y hit m) ∙ ap (λ x. times x E) (drop-member (y ⊕ select 0 hit m) refl)
          ∙ sym (row_times (complement (dot f) (take d b)) E n)

  pub drop_rows_begun : (g E : List ℕ) → matmul (take d b) E ≡ take d g → g ≡ take j (matmul (complement (dot f) (take d b)) E) ++ drop j g
  drop_rows_begun g E fit =
      let C = complement (dot f) (take d b) in
      sym (ap (λ l. l ++ drop j g) (take_matmul j C E ∙ ap (λ l. matmul l E) (drop_front ∙ sym (take-take j d b (omega arith)))
      ∙ sym (take_matmul j (take d b) E) ∙ ap (take j) fit ∙ take-take j d g (omega arith)) ∙ take-append-drop j g)
