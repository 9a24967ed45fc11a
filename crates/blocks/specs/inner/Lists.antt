-- A list with a member taken out.
-- Assumes nothing.
use Rattle.std.specs.Prelude.{List, ◌++◌, ℕ, suc, take, drop}

-- a list with its member i taken out, the order kept
unfoldable pub without : {A : Type 0} → ℕ → List A → List A
without i l = take i l ++ drop (suc i) l
