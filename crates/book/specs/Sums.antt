-- Sums of amounts, exact, in units of 10^-36.
use Rattle.std.specs.Prelude.{ℕ, ℤ, pos, ◌+ℤ◌, Bool, not, List, [], ◌∷◌, Option, Some, None, map, filter, if◌then◌else◌, unsigned_abs, ◌==◌}
use Rattle.std.specs.List.{flat_map}
use Rattle.std.specs.Str.{bytes_eq}
use Rattle.std.specs.Ordering.{nat_cmp}
use Rattle.std.specs.Cmp.Lexicographic.{slice_cmp}
use Rattle.hl_num.specs.Decimal.{units_of}
use Rattle.book.specs.declared.amount.Amount.{Amount}
use Rattle.book.specs.declared.transaction.Posting.{Posting}
use Rattle.book.specs.Order.{each_once}

-- what an amount counts for in a symbol
abbrev pub share : List ℕ → Option Amount → ℤ
share symbol None = pos 0
share symbol (Some a) = if bytes_eq a.symbol symbol then units_of a.value else pos 0

-- the plain sum in a symbol over some postings
abbrev pub sum_of : List ℕ → List Posting → ℤ
sum_of symbol [] = pos 0
sum_of symbol (p ∷ ps) = share symbol p.amount +ℤ sum_of symbol ps

-- the postings of an account
abbrev pub of_account : List ℕ → List Posting → List Posting
of_account account ps = filter (λ p. bytes_eq p.account account) ps

-- the symbol that is written in an amount
abbrev pub symbol_in : Option Amount → List (List ℕ)
symbol_in None = []
symbol_in (Some a) = a.symbol ∷ []

-- the symbols of some postings, in the order of their bytes, each once
abbrev pub symbols_of : List Posting → List (List ℕ)
symbols_of ps = each_once (slice_cmp nat_cmp) (flat_map (λ p. symbol_in p.amount) ps)

-- it isn't zero
abbrev pub is_nonzero : ℤ → Bool
is_nonzero z = not (unsigned_abs z == 0)

-- the sums of some postings that aren't zero, each with its symbol, in the order of the symbols
abbrev pub mixed_of : List Posting → List (List ℕ × ℤ)
mixed_of ps = filter (λ sum. is_nonzero sum.1) (map (λ symbol. (symbol, sum_of symbol ps)) (symbols_of ps))
