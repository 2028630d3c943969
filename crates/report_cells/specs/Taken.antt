-- What postings bring to a report, and its sums.
use Rattle.std.specs.Prelude.{ℕ, ℤ, pos, ◌+ℤ◌, List, [], ◌∷◌, Option, Some, None, map, filter, if◌then◌else◌}
use Rattle.std.specs.List.{flat_map}
use Rattle.std.specs.Ordering.{nat_cmp}
use Rattle.std.specs.Str.{bytes_eq}
use Rattle.std.specs.Cmp.Lexicographic.{slice_cmp}
use Rattle.hl_num.specs.Decimal.{Decimal, units_of}
use Rattle.book.specs.Order.{each_once}
use Rattle.book.specs.Sums.{is_nonzero}

-- a value in a symbol
abbrev pub Shared : Type 0
Shared = List ℕ × Decimal

-- the account as it is shown, the number of the day, and the amount, if there is one
pub record Taken : Type 0 where
  pub account : List ℕ
  pub day : ℕ
  pub amount : Option (List ℕ × Decimal)

-- what an amount counts for in a symbol, in units of 10^-36
abbrev pub share_in : List ℕ → Option Shared → ℤ
share_in symbol None = pos 0
share_in symbol (Some share) = if bytes_eq share.0 symbol then units_of share.1 else pos 0

-- the plain sum in a symbol
abbrev pub sum_in : List ℕ → List Taken → ℤ
sum_in symbol [] = pos 0
sum_in symbol (t ∷ ts) = share_in symbol t.amount +ℤ sum_in symbol ts

-- the symbol of an amount
abbrev pub symbol_of : Option Shared → List (List ℕ)
symbol_of None = []
symbol_of (Some share) = share.0 ∷ []

-- the symbols of all amounts, in the order of their bytes, each once
abbrev pub symbols_in : List Taken → List (List ℕ)
symbols_in ts = each_once (slice_cmp nat_cmp) (flat_map (λ t. symbol_of t.amount) ts)

-- the sums that aren't zero, each with its symbol, in the order of the symbols
abbrev pub mixed_in : List Taken → List (List ℕ × ℤ)
mixed_in ts = filter (λ sum. is_nonzero sum.1) (map (λ symbol. (symbol, sum_in symbol ts)) (symbols_in ts))
