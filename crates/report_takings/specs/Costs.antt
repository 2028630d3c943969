-- Amounts that are taken at cost.
use Rattle.std.specs.Prelude.{ℕ, Bool, true, false, not, ◌&&◌, ◌||◌, List, filter, Option, Some, None, is_some, slice_get, if◌then◌else◌}
use Rattle.std.specs.List.{flat_map}
use Rattle.std.specs.Option.{option_map}
use Rattle.std.specs.Ordering.{nat_cmp, match_ordering}
use Rattle.std.specs.Cmp.Lexicographic.{slice_cmp}
use Rattle.hl_num.specs.Decimal.{units_of}
use Rattle.book.specs.Order.{each_once}
use Rattle.book.specs.Sums.{symbol_in}
use Rattle.book.specs.declared.amount.Amount.{Amount}
use Rattle.book.specs.declared.transaction.Posting.{Posting}
use Rattle.entry_balance.specs.Entry.{amount_cost_fits}
use Rattle.entry_balance.specs.Values.{Value, value_of, at_cost, trimmed}
use Rattle.report_options.specs.declared.options.Options.{Options}
use Rattle.report_options.specs.declared.options.Valuation.{Valuation}
use Rattle.report_options.specs.declared.options.When.{When}
use Rattle.report_options.specs.declared.options.When.TheVariants as whens
use Rattle.report_takings.specs.Entries.{Entry}

abbrev pub is_cost : When → Bool
is_cost whens.Cost = true
is_cost _ = false

abbrev pub values_at_cost : Option Valuation → Bool
values_at_cost None = false
values_at_cost (Some worth) = is_cost worth.when

-- `-B`, or `--value=cost`
abbrev pub is_at_cost : Options → Bool
is_at_cost options = options.cost || values_at_cost options.value

-- balancing found what a posting moves: its cost where it moves one, else its amount
abbrev pub is_found : Bool → Posting → Bool
is_found costs posting = if costs && is_some posting.cost then posting.costed else posting.filled

-- what is written keeps its decimals; what balancing found has as few as it needs
abbrev pub told_as : Bool → Value → Value
told_as found value = if found then (value.0, trimmed (units_of value.1) 36) else value

-- what a posting moves: its amount, or what that costs
abbrev pub moved : Bool → Posting → Option Value
moved costs posting =
    option_map (λ amount. told_as (is_found costs posting) (if costs then at_cost amount posting.cost else value_of amount))
    posting.amount

-- what a posting costs is out of range
abbrev pub is_unpriced : Entry → Bool
is_unpriced entry = not (amount_cost_fits entry.0.amount entry.0.cost)

-- the symbols of the amounts whose cost is out of range
abbrev pub symbols_out : List Entry → List (List ℕ)
symbols_out entries = flat_map (λ entry. symbol_in entry.0.amount) (filter is_unpriced entries)

-- the least of them, by the order of their bytes
abbrev pub first_out : List Entry → Option (List ℕ)
first_out entries = slice_get (each_once (slice_cmp nat_cmp) (symbols_out entries)) 0

-- ---- the least symbol, gathered from the last posting on

-- the lesser of two symbols, where there are two
abbrev pub lesser : List ℕ → Option (List ℕ) → Option (List ℕ)
lesser symbol None = Some symbol
lesser symbol (Some least) = match_ordering (slice_cmp nat_cmp symbol least) (Some symbol) (Some least) (Some least)

abbrev pub lesser_in : Option Amount → Option (List ℕ) → Option (List ℕ)
lesser_in None least = least
lesser_in (Some amount) least = lesser amount.symbol least

-- with a posting more
abbrev pub with_entry : Entry → Option (List ℕ) → Option (List ℕ)
with_entry entry least = if is_unpriced entry then lesser_in entry.0.amount least else least
