-- Why the sums of a report can't be made.
use Rattle.std.specs.Prelude.{◌≡◌, List, Some}
use Rattle.report_cells.specs.Taken.{Taken}
use Rattle.report_cells.specs.Bounds.{first_out}
use Rattle.report_cells.specs.declared.fault.ReportFault.{ReportFault}
use Rattle.report_cells.specs.declared.fault.ReportFault.TheVariants.{Range, TooWide, Memory}

-- the symbol is the least one whose amounts are too large; want of memory says nothing
abbrev pub IsFault : List Taken → ReportFault → Type 0
IsFault ts (Range symbol) = first_out ts ≡ Some symbol
IsFault ts (TooWide columns limit) = ⊥
IsFault ts Memory = Unit {0}
