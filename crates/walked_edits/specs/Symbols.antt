-- Symbols of forms among others.
use Rattle.std.specs.Prelude.{ℕ, Bool, true, List, Option, Some, None, if◌then◌else◌}
use Rattle.std.specs.List.{list_all, list_any}
use Rattle.std.specs.Str.{bytes_eq}
use Rattle.hl_num.specs.Decimal.{units_of}
use Rattle.book.specs.Sums.{is_nonzero}
use Rattle.book.specs.declared.amount.Amount.{Amount}
use Rattle.book.specs.declared.transaction.Posting.{Posting}

abbrev pub is_known : List (List ℕ) → Option Amount → Bool
is_known symbols None = true
is_known symbols (Some a) = if is_nonzero (units_of a.value) then list_any (λ other. bytes_eq other a.symbol) symbols else true

-- the symbol of each amount that isn't zero is one of them
abbrev pub are_known : List (List ℕ) → List Posting → Bool
are_known symbols ps = list_all (λ p. is_known symbols p.amount) ps
