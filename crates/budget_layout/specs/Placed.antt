-- The places that are kept.
use Rattle.std.specs.Prelude.{ℕ, List, Option}
use Rattle.std.specs.HashMap.{get_by_text}
use Rattle.budget_layout.specs.declared.places.Places.{Places}

-- the place of an account
abbrev pub place_in : Places → List ℕ → Option ℕ
place_in places name = get_by_text places.places name
