-- The options by their names, and the commands that have them.
use Rattle.std.specs.Prelude.{ℕ, Bool, true, false, not, ◌||◌, ◌==◌, List, [], ◌∷◌, codes, if◌then◌else◌}
use Rattle.std.specs.List.{list_any}
use Rattle.std.specs.Str.{bytes_eq}
use Rattle.report_options.specs.declared.command.Command.{Command}
use Rattle.report_options.specs.declared.command.Command.TheVariants as commands
use Rattle.report_options.specs.declared.names.Name.{Name}
use Rattle.report_options.specs.declared.names.Name.TheVariants as names
use Rattle.report_options.specs.declared.names.Place.{Place}
use Rattle.report_options.specs.declared.names.Place.TheVariants as places
use Rattle.report_options.specs.declared.names.Reach.{Reach}
use Rattle.report_options.specs.declared.names.Reach.TheVariants as reaches

-- a short and a long name of one option or command
abbrev pub is_either : List ℕ → List ℕ → List ℕ → Bool
is_either word short long = bytes_eq word short || bytes_eq word long

-- the options of lines, columns and totals
unfoldable pub layout_name : List ℕ → Name
layout_name word =
    if is_either word (codes "-l") (codes "--flat") then names.Flat
    else if is_either word (codes "-t") (codes "--tree") then names.Tree
    else if is_either word (codes "-A") (codes "--average") then names.Average
    else if is_either word (codes "-T") (codes "--row-total") then names.RowTotal
    else if is_either word (codes "-N") (codes "--no-total") then names.NoTotal
    else if is_either word (codes "-S") (codes "--sort-amount") then names.SortAmount
    else if is_either word (codes "-x") (codes "--explicit") then names.Explicit
    else names.Word

-- the options of amounts and sums, and those above
unfoldable pub sum_name : List ℕ → Name
sum_name word =
    if is_either word (codes "-B") (codes "--cost") then names.Cost
    else if is_either word (codes "-V") (codes "--market") then names.Market
    else if is_either word (codes "-H") (codes "--historical") then names.Historical
    else if bytes_eq word (codes "--cumulative") then names.Cumulative
    else if bytes_eq word (codes "--change") then names.Change
    else if bytes_eq word (codes "--budget") then names.Budget
    else if bytes_eq word (codes "--auto") then names.Auto
    else layout_name word

-- the options of what is shown, and those above
unfoldable pub shown_name : List ℕ → Name
shown_name word =
    if is_either word (codes "-U") (codes "--unmarked") then names.Unmarked
    else if is_either word (codes "-P") (codes "--pending") then names.Pending
    else if is_either word (codes "-C") (codes "--cleared") then names.Cleared
    else if is_either word (codes "-R") (codes "--real") then names.Real
    else if is_either word (codes "-E") (codes "--empty") then names.Empty
    else sum_name word

-- the options of intervals, and those above
unfoldable pub interval_name : List ℕ → Name
interval_name word =
    if is_either word (codes "-D") (codes "--daily") then names.Daily
    else if is_either word (codes "-W") (codes "--weekly") then names.Weekly
    else if is_either word (codes "-M") (codes "--monthly") then names.Monthly
    else if is_either word (codes "-Q") (codes "--quarterly") then names.Quarterly
    else if is_either word (codes "-Y") (codes "--yearly") then names.Yearly
    else shown_name word

-- the option that a word names, without a value behind `=`
unfoldable pub name_of : List ℕ → Name
name_of word =
    if is_either word (codes "-b") (codes "--begin") then names.Begin
    else if is_either word (codes "-e") (codes "--end") then names.End
    else if is_either word (codes "-p") (codes "--period") then names.Period
    else if bytes_eq word (codes "--depth") then names.Depth
    else if is_either word (codes "-X") (codes "--exchange") then names.Exchange
    else if bytes_eq word (codes "--value") then names.Value
    else if bytes_eq word (codes "--forecast") then names.Forecast
    else if bytes_eq word (codes "-f") then names.File
    else if bytes_eq word (codes "--store") then names.Store
    else interval_name word

abbrev pub intervals : List Name
intervals = names.Daily ∷ names.Weekly ∷ names.Monthly ∷ names.Quarterly ∷ names.Yearly ∷ []

-- a value has to be written
abbrev pub takes_value : Name → Bool
takes_value names.Begin = true
takes_value names.End = true
takes_value names.Period = true
takes_value names.Depth = true
takes_value names.Exchange = true
takes_value names.Value = true
takes_value names.File = true
takes_value names.Store = true
takes_value _ = false

-- the reports with columns
abbrev pub has_columns : Command → Bool
has_columns commands.Balance = true
has_columns commands.IncomeStatement = true
has_columns commands.BalanceSheet = true
has_columns _ = false

-- these, register and accounts
abbrev pub has_depth : Command → Bool
has_depth commands.Register = true
has_depth commands.Accounts = true
has_depth command = has_columns command

-- those with columns, and register
abbrev pub has_values : Command → Bool
has_values commands.Register = true
has_values command = has_columns command

abbrev pub has_sums : Command → Bool
has_sums commands.Balance = true
has_sums commands.Register = true
has_sums _ = false

abbrev pub is_balance : Command → Bool
is_balance commands.Balance = true
is_balance _ = false

abbrev pub is_sheet : Command → Bool
is_sheet commands.BalanceSheet = true
is_sheet _ = false

abbrev pub is_print : Command → Bool
is_print commands.Print = true
is_print _ = false

abbrev pub is_check : Command → Bool
is_check commands.Check = true
is_check _ = false

-- which commands have an option
abbrev pub reach_of : Name → Reach
reach_of names.Word = reaches.Nowhere
reach_of names.Sheet = reaches.Nowhere
reach_of names.Begin = reaches.Reports
reach_of names.End = reaches.Reports
reach_of names.Period = reaches.Reports
reach_of names.Unmarked = reaches.Reports
reach_of names.Pending = reaches.Reports
reach_of names.Cleared = reaches.Reports
reach_of names.Real = reaches.Reports
reach_of names.Auto = reaches.Reports
reach_of names.Forecast = reaches.Reports
reach_of names.Depth = reaches.Depths
reach_of names.Cost = reaches.Values
reach_of names.Market = reaches.Values
reach_of names.Exchange = reaches.Values
reach_of names.Value = reaches.Values
reach_of names.Historical = reaches.Sums
reach_of names.Cumulative = reaches.Balance
reach_of names.Change = reaches.Balance
reach_of names.Budget = reaches.Balance
reach_of names.Explicit = reaches.Print
reach_of names.File = reaches.Program
reach_of names.Store = reaches.Program
reach_of _ = reaches.Columns

-- words of the program name a journal, and those of a request don't
abbrev pub is_program : Place → Bool
is_program places.Program = true
is_program places.Request = false

abbrev pub is_reached : Place → Command → Reach → Bool
is_reached place command reaches.Nowhere = false
is_reached place command reaches.Reports = not (is_check command)
is_reached place command reaches.Columns = has_columns command
is_reached place command reaches.Depths = has_depth command
is_reached place command reaches.Values = has_values command
is_reached place command reaches.Sums = has_sums command
is_reached place command reaches.Balance = is_balance command
is_reached place command reaches.Print = is_print command
is_reached place command reaches.Program = is_program place

-- the option is one of the command's, in words that stand at a place
abbrev pub has_option : Place → Command → Name → Bool
has_option place command name = is_reached place command (reach_of name)

-- the place of a name in the table
abbrev pub number_of : Name → ℕ
number_of names.Word = 0
number_of names.Sheet = 1
number_of names.Begin = 2
number_of names.End = 3
number_of names.Period = 4
number_of names.Depth = 5
number_of names.Exchange = 6
number_of names.Value = 7
number_of names.Forecast = 8
number_of names.Daily = 9
number_of names.Weekly = 10
number_of names.Monthly = 11
number_of names.Quarterly = 12
number_of names.Yearly = 13
number_of names.Unmarked = 14
number_of names.Pending = 15
number_of names.Cleared = 16
number_of names.Real = 17
number_of names.Empty = 18
number_of names.Cost = 19
number_of names.Market = 20
number_of names.Auto = 21
number_of names.Historical = 22
number_of names.Cumulative = 23
number_of names.Change = 24
number_of names.Budget = 25
number_of names.Explicit = 26
number_of names.Flat = 27
number_of names.Tree = 28
number_of names.Average = 29
number_of names.RowTotal = 30
number_of names.NoTotal = 31
number_of names.SortAmount = 32
number_of names.File = 33
number_of names.Store = 34

abbrev pub is_same_name : Name → Name → Bool
is_same_name a b = number_of a == number_of b

abbrev pub is_among : Name → List Name → Bool
is_among name those = list_any (λ other. is_same_name name other) those
