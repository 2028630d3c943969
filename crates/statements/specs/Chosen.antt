-- The rows of a section and their totals, and the net of two sections.
use Rattle.std.specs.Prelude.{ℕ, Bool, List, [], ◌∷◌, map, filter, Option}
use Rattle.report_cells.specs.Report.{Sums}
use Rattle.query.specs.Types.{letter_of}
use Rattle.balance_rows.specs.declared.layout.Order.{Order}
use Rattle.balance_rows.specs.declared.layout.Order.TheVariants.{Accounts, Amounts, Tree}
use Rattle.balance_rows.specs.Rows.{Row}
use Rattle.balance_rows.specs.Trees.{column_sums, roots, tree}
use Rattle.statements.specs.declared.statement.Part.{Part}
use Rattle.statements.specs.Described.{has_account, is_turned}
use Rattle.statements.specs.Turned.{row_shown, turned}

-- the account has one of the section's letters
abbrev pub is_in : (List ℕ → Option ℕ) → Part → Row → Bool
is_in own part row = has_account part (letter_of own row.0)

-- the rows of a section, with their amounts as it shows them
abbrev pub part_rows : (List ℕ → Option ℕ) → Part → List Row → List Row
part_rows own part rows = map (row_shown (is_turned part)) (filter (is_in own part) rows)

-- the totals of a section's rows: the sums of each column, in a tree of its rows that have no parent
abbrev pub part_totals : Order → ℕ → List Row → List Sums
part_totals Accounts columns rows = column_sums columns rows
part_totals Amounts columns rows = column_sums columns rows
part_totals Tree columns rows = column_sums columns (roots (tree columns rows))

-- the first totals and the turned second ones, as rows
abbrev pub net_rows : List Sums → List Sums → List Row
net_rows first second = ([], first) ∷ ([], map turned second) ∷ []

-- the first totals less the second ones
abbrev pub net : ℕ → List Sums → List Sums → List Sums
net columns first second = column_sums columns (net_rows first second)
