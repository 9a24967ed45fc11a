-- A search of spaces of m columns enters the same where it reduces by more columns.
-- Assumes nothing.
use mathlib.Core.Path.{◌≡◌, refl, sym, ap₂, ◌∙◌, fun_ext}
use mathlib.Core.List.{List}
use Prim.Native.Nat.{ℕ, zero, suc, ◌-◌, ◌^◌, ◌≤◌, ◌<◌}
use Rattle.blocks.specs.Matrices.{times, All}
use Rattle.blocks.proofs.All.{All-map}
use Rattle.linear.specs.Maps.{Form}
use Rattle.linear.proofs.Instances.{𝕎}
use Rattle.linear.proofs.Rows.{span_lt}
use Rattle.reduction.proofs.Narrow.{narrow_rows}
use Rattle.triangular.specs.Spaces.{complement, is_alternating_lem}
use Rattle.triangular.specs.Memory.{Entry, entry_basis, holds, Remembered, unless_fails, noted, draw_with, draws_with, search_with}
use Rattle.triangular.proofs.Complements.{complement_in}
use Rattle.triangular.proofs.Entries.{reduced_is}

module _ (E : Form 𝕎) (m k room : ℕ) (more : m ≤ k) where
  narrow_basis : (bs : List ℕ) → All (λ v. v < 2 ^ m) bs → entry_basis k bs ≡ entry_basis m bs
  narrow_basis bs small = reduced_is k bs ∙ narrow_rows m k bs more small ∙ sym (reduced_is m bs)

  narrow_draws : (sub sub' : List ℕ → ℕ → List Entry → Remembered) → ((bs : List ℕ) → All (λ v. v < 2 ^ m) bs → ◌≡◌ {A = ℕ → List Entry → Remembered} (sub bs) (sub' bs))
      → (bs : List ℕ) → All (λ v. v < 2 ^ m) bs → (j c : ℕ) → ◌≡◌ {A = ℕ → List Entry → Remembered} (draws_with E.at k room sub bs j c) (draws_with E.at m room sub' bs j c)
  unfolding draws_with
  narrow_draws sub sub' same bs small zero c = fun_ext (λ n. fun_ext (λ N. refl))
  narrow_draws sub sub' same bs small (suc j) c =
      let p = times c bs in
      let rest = complement (E.at p) bs in
      fun_ext (λ n. fun_ext (λ N. ap₂ (λ (r next : ℕ → List Entry → Remembered). draw_with (E.at p p) p r next n N)
      (same rest (All-map (λ y h. span_lt m bs small y h.0) rest (complement_in (E.at p) (E.right p) bs))) (narrow_draws sub sub' same bs small j (suc c))))

  pub narrow_search : (d : ℕ) (bs : List ℕ) → All (λ v. v < 2 ^ m) bs → ◌≡◌ {A = ℕ → List Entry → Remembered} (search_with E.at k room d bs) (search_with E.at m room d bs)
  unfolding search_with
  narrow_search zero bs small = fun_ext (λ n. fun_ext (λ N. refl))
  narrow_search (suc d) bs small =
      fun_ext (λ n. fun_ext (λ N. ap₂ (λ (rs : List ℕ) (all : ℕ → List Entry → Remembered). let go = unless_fails (is_alternating_lem E.at bs) all in
      unless_fails (holds (suc d) rs N) (λ i L. let r = go i L in noted room (suc d) rs r.outcome r.memory) n N)
      (narrow_basis bs small) (narrow_draws (search_with E.at k room d) (search_with E.at m room d) (narrow_search d) bs small (2 ^ suc d - 1) 1)))
