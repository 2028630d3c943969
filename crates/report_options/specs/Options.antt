-- What the options of a report say.
use Rattle.std.specs.Prelude.{ℕ, Bool, ◌||◌, List, [], ◌∷◌, map, filter, find, reverse, Option, Some, None, Result, Ok, Err, IfSome, if◌then◌else◌}
use Rattle.std.specs.List.{list_any}
use Rattle.std.specs.Option.{option_or}
use Rattle.hl_time.specs.Periods.{IsPeriod}
use Rattle.hl_time.specs.declared.spans.Interval.{Interval}
use Rattle.hl_time.specs.declared.spans.Period.{Period}
use Rattle.report_options.specs.Names.{intervals, is_among, is_same_name, has_columns, is_sheet}
use Rattle.report_options.specs.Values.{IsWhen}
use Rattle.report_options.specs.Items.{items_of}
use Rattle.report_options.specs.Conflicts.{conflict_in}
use Rattle.report_options.specs.declared.command.Command.{Command}
use Rattle.report_options.specs.declared.fault.OptionFault.{OptionFault}
use Rattle.report_options.specs.declared.items.Item.{Item}
use Rattle.report_options.specs.declared.names.Name.{Name}
use Rattle.report_options.specs.declared.names.Name.TheVariants as names
use Rattle.report_options.specs.declared.names.Place.TheVariants as places
use Rattle.report_options.specs.declared.options.Options.{Options}
use Rattle.report_options.specs.declared.options.Start.{Start}
use Rattle.report_options.specs.declared.options.Start.TheVariants as starts
use Rattle.report_options.specs.declared.options.Valuation.{Valuation}
use Rattle.report_options.specs.declared.values.Value.TheVariants as values

-- an option is given
abbrev pub has : List Item → Name → Bool
has items name = list_any (λ item. is_same_name item.name name) items

-- the last of some options
abbrev pub latest : List Item → List Name → Option Item
latest items those = find (λ item. is_among item.name those) (reverse items)

abbrev pub days_of : Option Item → Option Period
days_of None = None
days_of (Some item) = elim item.value [ values.Days period ↦ Some period | _ ↦ None ]

abbrev pub depth_of : Option Item → Option ℕ
depth_of None = None
depth_of (Some item) = elim item.value [ values.Depth depth ↦ Some depth | _ ↦ None ]

abbrev pub worth_of : Option Item → Option Valuation
worth_of None = None
worth_of (Some item) = elim item.value [ values.Worth worth ↦ Some worth | _ ↦ None ]

-- the days of the last of some options
abbrev pub days : List Item → List Name → Option Period
days items those = days_of (latest items those)

abbrev pub from_in : Option Period → Option ℕ
from_in None = None
from_in (Some period) = period.from

abbrev pub end_in : Option Period → Option ℕ
end_in None = None
end_in (Some period) = period.end

abbrev pub interval_in : Option Period → Option Interval
interval_in None = None
interval_in (Some period) = period.interval

-- The interval of the columns, of a report that has some: that of the last of `-p` and the options of intervals, and where
-- this is a `-p` without an interval, that of the last of the latter.
abbrev pub interval : Command → List Item → Option Interval
interval command items =
    if has_columns command
    then option_or (interval_in (days items (names.Period ∷ intervals))) (interval_in (days items intervals))
    else None

-- the bounds of `-b` and `-e`, else of `-p`
abbrev pub bounds : Command → List Item → Period
bounds command items = record {
  from = option_or (from_in (days items (names.Begin ∷ []))) (from_in (days items (names.Period ∷ [])));
  end = option_or (end_in (days items (names.End ∷ []))) (end_in (days items (names.Period ∷ [])));
  interval = interval command items;
}

abbrev pub depth : List Item → Option ℕ
depth items = depth_of (latest items (names.Depth ∷ []))

abbrev pub worth : List Item → Option Valuation
worth items = worth_of (latest items (names.Market ∷ names.Exchange ∷ names.Value ∷ []))

-- a balance sheet is historical
abbrev pub start : Command → List Item → Start
start command items =
    if is_sheet command || has items names.Historical then starts.Historical
    else if has items names.Cumulative then starts.Cumulative
    else starts.Change

-- what the items say as options
abbrev pub options_of : Command → List Item → Options
options_of command items = record {
  command = command;
  bounds = bounds command items;
  unmarked = has items names.Unmarked;
  pending = has items names.Pending;
  cleared = has items names.Cleared;
  real_only = has items names.Real;
  empty = has items names.Empty;
  depth = depth items;
  cost = has items names.Cost;
  value = worth items;
  auto = has items names.Auto;
  forecast = days items (names.Forecast ∷ []);
  start = start command items;
  tree = has items names.Tree;
  average = has items names.Average;
  row_total = has items names.RowTotal;
  no_total = has items names.NoTotal;
  sort_amount = has items names.SortAmount;
  budget = has items names.Budget;
  explicit = has items names.Explicit;
}

-- the words of the query
abbrev pub query_words : List Item → List (List ℕ)
query_words items = map (λ item. item.word) (filter (λ item. is_same_name item.name names.Word) items)

abbrev pub unless_conflict : List Item → Option OptionFault → Result (List Item) OptionFault
unless_conflict items (Some fault) = Err fault
unless_conflict items None = Ok items

-- items that read, or the fault of the first two that exclude each other
abbrev pub judged : Result (List Item) OptionFault → Result (List Item) OptionFault
judged (Ok items) = unless_conflict items (conflict_in items)
judged (Err fault) = Err fault

abbrev pub reading_of : Command → Result (List Item) OptionFault → Result (Options × List (List ℕ)) OptionFault
reading_of command (Ok items) = Ok (options_of command items, query_words items)
reading_of command (Err fault) = Err fault

-- What the words of a command in a request say on a day: its options and the words of its query, or the fault of the first
-- word that is no option or no value, or else of the first two words that exclude each other.
abbrev pub reading : Command → ℕ → List (List ℕ) → Result (Options × List (List ℕ)) OptionFault
reading command day those = reading_of command (judged (items_of places.Request command day those))

-- all days are days, and an interval has a unit
pub record IsValid (options : Options) : Type 0 where
  pub bounds : IsPeriod options.bounds
  pub forecast : IfSome options.forecast IsPeriod
  pub value : IfSome options.value (λ worth. IsWhen worth.when)
