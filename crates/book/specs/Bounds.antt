-- How large sums can get.
use Rattle.std.specs.Prelude.{ℕ, ◌+◌, ◌-◌, ◌*◌, ◌^◌, ◌<◌, List, [], ◌∷◌, Option, Some, None, max, if◌then◌else◌, unsigned_abs}
use Rattle.std.specs.Str.{bytes_eq}
use Rattle.book.specs.declared.amount.Amount.{Amount}
use Rattle.book.specs.declared.transaction.Posting.{Posting}
use Rattle.book.specs.Sums.{share}

-- the sum of the absolute amounts in a symbol
abbrev pub turnover : List ℕ → List Posting → ℕ
turnover symbol [] = 0
turnover symbol (p ∷ ps) = unsigned_abs (share symbol p.amount) + turnover symbol ps

-- how many decimals an amount in a symbol has
abbrev pub places_in : List ℕ → Option Amount → ℕ
places_in symbol None = 0
places_in symbol (Some a) = if bytes_eq a.symbol symbol then a.value.places else 0

-- the greatest number of decimals in a symbol
abbrev pub places_of : List ℕ → List Posting → ℕ
places_of symbol [] = 0
places_of symbol (p ∷ ps) = max (places_in symbol p.amount) (places_of symbol ps)

-- In each symbol the absolute amounts, in units of the greatest number of decimals, sum to less than 2^127.
abbrev pub TurnoverFits : List Posting → Type 0
TurnoverFits ps = (symbol : List ℕ) → turnover symbol ps < 2 ^ 127 * 10 ^ (36 - places_of symbol ps)
