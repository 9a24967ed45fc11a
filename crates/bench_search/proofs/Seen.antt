-- The looks of a search, from its ending.
-- Assumes nothing.
use mathlib.Core.Path.{◌≡◌, refl, sym, ap, ◌∙◌}
use mathlib.Core.List.{List}
use Prim.Native.Nat.{ℕ}
use Rattle.triangular.specs.declared.Ending.{Ending}
use Rattle.triangular.specs.declared.Ending.TheVariants.{Found, Failed, Spent}
use Rattle.triangular.specs.Search.{Verdict}
use Rattle.triangular.specs.Readings.{verdict_of}
use Rattle.triangular.proofs.Budgets.{says_found, says_failed, says_spent}
use Rattle.bench_search.specs.Looks.{looks_at}

pub seen_looks : (e : Ending) (k : ℕ) (l : List ℕ) (v : Verdict) → verdict_of e k l ≡ v → k ≡ looks_at v
seen_looks Found k l v is = ap looks_at (sym (says_found Found k l refl) ∙ is)
seen_looks Failed k l v is = ap looks_at (sym (says_failed Failed k l refl) ∙ is)
seen_looks Spent k l v is = ap looks_at (sym (says_spent Spent k l refl) ∙ is)
