-- How the amounts of a report are valued.
use Rattle.std.specs.Prelude.{ℕ, List, Option, Some, None}
use Rattle.report_options.specs.declared.options.Valuation.{Valuation}
use Rattle.report_options.specs.declared.options.When.{When}
use Rattle.report_options.specs.declared.options.When.TheVariants as whens
use Rattle.report_sums.specs.declared.way.Way.{Way}
use Rattle.report_sums.specs.declared.way.Way.TheVariants as ways

-- `--value=cost` alone takes amounts at cost; with a symbol it values what they cost as `-X` does
abbrev pub way_at_cost : Option (List ℕ) → Way
way_at_cost None = ways.Plain
way_at_cost (Some target) = ways.Columns whens.End

-- amounts are valued each on its own day, or all of a column on one
abbrev pub way_by : When → Option (List ℕ) → Way
way_by whens.Cost target = way_at_cost target
way_by whens.Then target = ways.Each
way_by whens.End target = ways.Columns whens.End
way_by whens.Now target = ways.Columns whens.Now
way_by (whens.On day) target = ways.Columns (whens.On day)

abbrev pub way_of : Option Valuation → Way
way_of None = ways.Plain
way_of (Some worth) = way_by worth.when worth.target

-- the symbol of all values, where one is asked for
abbrev pub target_in : Option Valuation → Option (List ℕ)
target_in None = None
target_in (Some worth) = worth.target
