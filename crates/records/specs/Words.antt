-- What each lent word holds before a call: 8 bytes 165.
-- Assumes nothing.
use Rattle.std.specs.Prelude.{ℕ}

abbrev pub fill : ℕ
fill = 11936128518282651045
