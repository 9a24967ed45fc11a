-- What the code's answer says of a space before its first draw: whether the memory holds it, then whether it is alternating.
-- Assumes nothing.
use Rattle.std.specs.Prelude.{◌≡◌, Bool, true, false}
use Rattle.search.specs.declared.Asked.{Asked}
use Rattle.search.specs.declared.Asked.TheVariants.{Held, Alternating, Open}

abbrev pub Known : Asked → Bool → Bool → Type 0
Known Held h a = h ≡ true
Known Alternating h a = (h ≡ false) × (a ≡ true)
Known Open h a = (h ≡ false) × (a ≡ false)
