-- Amounts with the other sign.
use Rattle.std.specs.Prelude.{ℕ, ℤ, neg_ℤ, Bool, List, map, if◌then◌else◌}
use Rattle.hl_num.specs.Decimal.{Decimal, negated}
use Rattle.report_cells.specs.Report.{Sums}
use Rattle.balance_rows.specs.Kept.{KeptSums}
use Rattle.balance_rows.specs.Rows.{Row}

abbrev pub turned : Sums → Sums
turned sums = map (λ sum. (sum.0, neg_ℤ sum.1)) sums

-- amounts as they are shown: turned, or as they are
abbrev pub as_shown : Bool → Sums → Sums
as_shown turn sums = if turn then turned sums else sums

-- the same of each cell of a row
abbrev pub row_shown : Bool → Row → Row
row_shown turn row = (row.0, map (as_shown turn) row.1)

-- ---- as they are kept

abbrev pub signed : Bool → Decimal → Decimal
signed turn value = if turn then negated value else value

abbrev pub kept_shown : Bool → KeptSums → KeptSums
kept_shown turn entries = map (λ entry. (entry.0, signed turn entry.1)) entries
