-- Sums of values by their symbols.
use Rattle.std.specs.Prelude.{ℕ, pos, ◌^◌, nat_lt, Bool, List, [], ◌∷◌, map, filter, unsigned_abs, Option, Some, None}
use Rattle.std.specs.List.{fold, list_all}
use denote.Ref.{Bor}
use Rattle.std.specs.Str.{bytes_eq}
use Rattle.std.specs.FinMap.Entries.{put}
use Rattle.book.specs.Entries.{held}
use Rattle.entry_balance.specs.declared.tally.TallyFault.{TallyFault}
use Rattle.entry_balance.specs.declared.tally.TallyFault.TheVariants as fault
use Rattle.std.specs.Ordering.{nat_cmp}
use Rattle.std.specs.Cmp.Lexicographic.{slice_cmp}
use Rattle.hl_num.specs.Decimal.{Decimal}
use Rattle.book.specs.Mixed.{plus, sum_with}
use Rattle.book.specs.Order.{each_once}
use Rattle.entry_balance.specs.Values.{Value, absolute_value}

-- the numbers of a symbol among some values
abbrev pub numbers_of : List ℕ → List Value → List Decimal
numbers_of symbol values = map (λ v. v.1) (filter (λ v. bytes_eq v.0 symbol) values)

abbrev pub no_sum : Decimal
no_sum = record { mantissa = pos 0; places = 0 }

-- the exact sum of a symbol, with the greatest number of decimals that is added
abbrev pub total_of : List ℕ → List Value → Decimal
total_of symbol values = fold plus no_sum (numbers_of symbol values)

-- the symbols of some values, in the order of their bytes, each once
abbrev pub symbols_in : List Value → List (List ℕ)
symbols_in values = each_once (slice_cmp nat_cmp) (map (λ v. v.0) values)

-- the sum of each symbol, zero sums too, in the order of the symbols
abbrev pub sums_of : List Value → List Value
sums_of values = map (λ symbol. (symbol, total_of symbol values)) (symbols_in values)

abbrev pub is_within : Decimal → Bool
is_within d = nat_lt (unsigned_abs d.mantissa) (2 ^ 127)

abbrev pub are_within : List Value → Bool
are_within sums = list_all (λ sum. is_within sum.1) sums

-- in each symbol the absolute values, in units of the greatest number of decimals, sum to less than 2^127
abbrev pub turnover_fits : List Value → Bool
turnover_fits values = are_within (sums_of (map absolute_value values))

-- entries by the texts that they are named by
abbrev pub named : List (Bor (List ℕ) × Decimal) → List Value
named entries = map (λ e. (e.0.now, e.1)) entries

-- a sum that is the only one, by its symbol's bytes
abbrev pub only_sum : Option (Bor (List ℕ) × Decimal) → List Value
only_sum None = []
only_sum (Some e) = (e.0.now, e.1) ∷ []

-- the entries of a map, or the only sum where the map has none
abbrev pub all_sums : Option (Bor (List ℕ) × Decimal) → List (Bor (List ℕ) × Decimal) → List Value
all_sums only [] = only_sum only
all_sums only (e ∷ es) = named (e ∷ es)

-- sums after one more number
abbrev pub added_to : List Value → List ℕ → Decimal → List Value
added_to sums symbol value = put (slice_cmp nat_cmp) symbol (sum_with (held symbol sums) value) sums

abbrev pub IsRange : TallyFault → Type 0
IsRange fault.Range = Unit {0}
IsRange fault.Memory = ⊥
