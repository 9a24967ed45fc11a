-- Parts of an input, one behind the other.
-- Assumes nothing.
use Rattle.std.proofs.Common.{ℕ, ◌+◌, ◌≤◌, List, [], ◌++◌, take, Option, arith, length-take, length-append}
use Rattle.std.specs.Io.KnownBytes.{Consumes}
use Rattle.std.proofs.KnownBytes.{Consumes-nil, Consumes-trans}
use Rattle.reading.specs.Parts.{TakesUpTo}

-- nothing was read
pub takes_none : (a : Option (List ℕ)) (most : ℕ) → TakesUpTo a a most
takes_none a most = ([], Consumes-nil a, omega arith)

-- the bytes that a read put at the start of lent ones
pub takes_read : (a b : Option (List ℕ)) (buf : List ℕ) (n most : ℕ) → Consumes a b (take n buf) → n ≤ most → TakesUpTo a b most
takes_read a b buf n most taken few = (take n buf, taken, simp length-take (omega (arith, few)))

-- one part, and then another
pub takes_more : (a b c : Option (List ℕ)) (m n most : ℕ) → TakesUpTo a b m → TakesUpTo b c n → m + n ≤ most → TakesUpTo a c most
takes_more a b c m n most first second few =
    (first.0 ++ second.0, Consumes-trans a b c first.0 second.0 first.1 second.1, simp length-append (omega (arith, first.2, second.2, few)))
