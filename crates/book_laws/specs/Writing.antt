-- Symbols that transactions write.
use Rattle.std.specs.Prelude.{◌≡◌, ℕ, List, ◌++◌, map}
use Rattle.std.specs.Cmp.Lexicographic.{slice_cmp}
use Rattle.std.specs.List.{flat_map}
use Rattle.std.specs.Option.{option_to_list}
use Rattle.std.specs.Ordering.{nat_cmp}
use Rattle.book.specs.Order.{each_once}
use Rattle.book.specs.Postings.{postings_of}
use Rattle.book.specs.Style.{cost_amount}
use Rattle.book.specs.declared.amount.Amount.{Amount}
use Rattle.book.specs.declared.transaction.Posting.{Posting}
use Rattle.book.specs.declared.transaction.Txn.{Txn}

-- the amounts that a posting writes: its own, that of its cost, and the balance that it wants
abbrev pub amounts_in : Posting → List Amount
amounts_in p = option_to_list p.amount ++ (map cost_amount (option_to_list p.cost) ++ map (λ w. w.amount) (option_to_list p.wanted))

abbrev pub symbols_in : Posting → List (List ℕ)
symbols_in p = map (λ a. a.symbol) (amounts_in p)

-- each symbol of some transactions where it is written
abbrev pub symbols_at : List Txn → List (List ℕ)
symbols_at txns = flat_map symbols_in (postings_of txns)

-- their symbols in the order of their bytes, each once
abbrev pub symbols_written : List Txn → List (List ℕ)
symbols_written txns = each_once (slice_cmp nat_cmp) (symbols_at txns)

-- just these symbols are written
abbrev pub AreSymbolsOf : List Txn → List (List ℕ) → Type 0
AreSymbolsOf txns symbols = symbols ≡ symbols_written txns
