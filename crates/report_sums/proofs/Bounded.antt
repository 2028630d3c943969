-- Whether one of two bounds is there.
use Rattle.std.proofs.Common.{◌≡◌, ℕ, ◌||◌, Option, Some, None, refl}
use Rattle.std.specs.Prelude.{is_some}
use Rattle.query.specs.Matching.{least}

-- the lesser of two is there where one of them is
pub some_least : (a b : Option ℕ) → is_some (least a b) ≡ (is_some a || is_some b)
some_least None b = refl
some_least (Some x) None = refl
some_least (Some x) (Some y) = refl
