-- What a search has come to: its basis where it found one, by its ending.
-- Assumes nothing.
use mathlib.Core.Path.{◌≡◌, sym, ap, ◌∙◌}
use mathlib.Core.Logic.{◌⊎◌, ⊎_elim}
use mathlib.Core.List.{List, []}
use Prim.Native.Nat.{ℕ}
use Rattle.triangular.specs.declared.Ending.{Ending}
use Rattle.triangular.specs.declared.Ending.TheVariants.{Found, Failed, Spent}
use Rattle.triangular.specs.Search.{Verdict}
use Rattle.triangular.specs.Readings.{verdict_of, basis_found}

-- the list of an ending that found one is the verdict's; of another it makes no difference
module _ (k : ℕ) (l : List ℕ) (v : Verdict) where
  pub found_basis : (e : Ending) → verdict_of e k l ≡ v → e ≡ Found → basis_found v ≡ l
  unfolding verdict_of basis_found
  found_basis e is f = ap basis_found (sym is ∙ ap (λ x. verdict_of x k l) f)

  pub no_basis : (e : Ending) → verdict_of e k l ≡ v → (e ≡ Failed) ⊎ (e ≡ Spent) → basis_found v ≡ []
  unfolding verdict_of basis_found
  no_basis e is f = ap basis_found (sym is) ∙ ⊎_elim (λ g. ap (λ x. basis_found (verdict_of x k l)) g) (λ g. ap (λ x. basis_found (verdict_of x k l)) g) f

  pub verdict_own : (e : Ending) → verdict_of e k l ≡ v → verdict_of e k (basis_found v) ≡ v
  unfolding verdict_of basis_found
  verdict_own Found is = ap (λ x. verdict_of Found k (basis_found x)) (sym is) ∙ is
  verdict_own Failed is = is
  verdict_own Spent is = is
