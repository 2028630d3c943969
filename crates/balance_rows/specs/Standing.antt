-- What rows stand by.
use Rattle.std.specs.Prelude.{◌≡◌}
use Rattle.report_cells.specs.Report.{row_seen, seen}
use Rattle.balance_rows.specs.Layouts.{amount_in}
use Rattle.balance_rows.specs.Ranks.{Rank}
use Rattle.balance_rows.specs.Rows.{Row}
use Rattle.balance_rows.specs.declared.layout.Basis.{Basis}

-- what the row says
abbrev pub ranked_row : Rank → Row
ranked_row rank = row_seen rank.1

-- it stands by what the basis asks for
abbrev pub StandsBy : Basis → Rank → Type 0
StandsBy basis rank = seen rank.0 ≡ amount_in basis (ranked_row rank)
