-- A maker of patterns that was asked nothing.
use Rattle.std.proofs.Common.{ℕ, List, Option, refl}
use Rattle.query_terms.specs.Making.{Stays}

pub unasked : (count : ℕ) (last : Option (List ℕ)) → Stays count count last last
unasked count last = record { count = refl; told = refl }
