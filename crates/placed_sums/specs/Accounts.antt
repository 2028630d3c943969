-- Symbols that are asked for.
use Rattle.std.specs.Prelude.{◌≡◌, ℕ, ◌*◌, ℤ, Bool, true, not, ◌&&◌, List, [], ◌∷◌, length, filter, Option, Some, None, if◌then◌else◌}
use Rattle.std.specs.List.{flat_map, list_any}
use Rattle.std.specs.Ordering.{nat_cmp, eq_by_cmp}
use Rattle.std.specs.Cmp.Lexicographic.{slice_cmp}
use Rattle.std.specs.Str.{bytes_eq}
use Rattle.book.specs.Order.{each_once}
use Rattle.book.specs.Postings.{postings_of}
use Rattle.book.specs.Sums.{is_nonzero, symbol_in}
use Rattle.hl_num.specs.Decimal.{units_of}
use Rattle.book.specs.declared.amount.Amount.{Amount}
use Rattle.book.specs.declared.transaction.Posting.{Posting}
use Rattle.book.specs.declared.transaction.Txn.{Txn}

-- a symbol is one of some
abbrev pub is_among : List ℕ → List (List ℕ) → Bool
is_among symbol symbols = list_any (eq_by_cmp (slice_cmp nat_cmp) symbol) symbols

-- a symbol is that of an amount of some postings
abbrev pub is_named : List ℕ → List Posting → Bool
is_named symbol ps = is_among symbol (flat_map (λ p. symbol_in p.amount) ps)

-- the symbol of an amount that isn't zero
abbrev pub symbol_moved : Option Amount → List (List ℕ)
symbol_moved None = []
symbol_moved (Some a) = if is_nonzero (units_of a.value) then a.symbol ∷ [] else []

-- a symbol is that of an amount of some postings that isn't zero
abbrev pub is_moved : List ℕ → List Posting → Bool
is_moved symbol ps = is_among symbol (flat_map (λ p. symbol_moved p.amount) ps)

-- Symbols in the order of their bytes, each once, among which are those of a book's amounts that
-- aren't zero. There may be others.
pub record HasSymbols (symbols : List (List ℕ)) (book : List Txn) : Type 0 where
  pub ordered : symbols ≡ each_once (slice_cmp nat_cmp) symbols
  pub all : (symbol : List ℕ) → is_moved symbol (postings_of book) ≡ true → is_among symbol symbols ≡ true

-- another symbol than one, whose sum isn't zero
abbrev pub is_beside : List ℕ → (List ℕ → ℤ) → List ℕ → Bool
is_beside symbol sum other = not (bytes_eq other symbol) && is_nonzero (sum other)

-- the first such one of some symbols
abbrev pub first_beside : List ℕ → (List ℕ → ℤ) → List (List ℕ) → Option (List ℕ)
first_beside symbol sum [] = None
first_beside symbol sum (other ∷ others) =
    if is_beside symbol sum other then Some other else first_beside symbol sum others

-- those of some symbols that are others than one
abbrev pub others_than : List ℕ → List (List ℕ) → List (List ℕ)
others_than symbol symbols = filter (λ other. not (bytes_eq other symbol)) symbols

-- at most so many nodes of an index are asked for their sums: each is up to a day
abbrev pub nodes_beside : List ℕ → List (List ℕ) → ℕ
nodes_beside symbol symbols = 22 * length (others_than symbol symbols)
