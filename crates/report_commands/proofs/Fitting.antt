-- The sums of a report fit the layout that its options ask for.
use Rattle.std.proofs.Common.{◌≡◌, ℕ, Bool, true, ◌||◌, List, refl, sym, subst}
use Rattle.std.proofs.lemmas.Bool.{false≢true}
use Rattle.balance_layouts.specs.Balance.{CellsFit, CountsChanges}
use Rattle.balance_layouts.proofs.Promised.{asked_counts, cells_fit}
use Rattle.balance_rows.specs.Rows.{Row}
use Rattle.balance_rows.specs.declared.layout.Basis.TheVariants.{Changes}
use Rattle.report_cells.specs.Report.{Sums}
use Rattle.report_cells.specs.declared.reach.Reach.{Reach}
use Rattle.report_cells.specs.declared.reach.Reach.TheVariants.{Within}
use Rattle.report_options.specs.declared.options.Options.{Options}
use Rattle.report_options.specs.declared.options.Start.{Start}
use Rattle.report_options.specs.declared.options.Start.TheVariants as starts
use Rattle.report_sums.specs.Celled.{Celled}
use Rattle.report_sums.specs.Summed.{Summed}
use Rattle.statements.specs.Fits as statement
use Rattle.statements.proofs.Promised as statements
use Rattle.report_commands.specs.Layouts.{basis_of, layout_of, of_changes}

-- sums of changes begin with each column
begins : (start : Start) → basis_of start ≡ Changes → start ≡ starts.Change
begins starts.Change is = refl
begins starts.Cumulative is = absurd (let never : ⊥ = cc in never)
begins starts.Historical is = absurd (let never : ⊥ = cc in never)

counted : (start : Start) (rows averages : Bool) → (of_changes start rows || of_changes start averages) ≡ true → basis_of start ≡ Changes
counted starts.Change rows averages is = refl
counted starts.Cumulative rows averages is = absurd (false≢true is)
counted starts.Historical rows averages is = absurd (false≢true is)

counts : (options : Options) (reach : Reach) → (options.start ≡ starts.Change → reach ≡ Within) → CountsChanges (layout_of options) reach
counts options reach changes =
    asked_counts (layout_of options) reach (λ is. changes (begins options.start is)) (counted options.start options.row_total options.average)

pub balance_fits : (options : Options) (n : ℕ) (cells : Celled) → Summed options.start n cells
    → CellsFit (layout_of options) n cells.rows cells.totals
balance_fits options n cells s =
    subst (λ (p : List Row × List Sums). CellsFit (layout_of options) n p.0 p.1) (λ i. (sym s.rows i, sym s.totals i))
    (cells_fit (layout_of options) s.reach s.columns s.takings s.follow s.within n (counts options s.reach s.changes))

pub statement_fits : (options : Options) (n : ℕ) (cells : Celled) → Summed options.start n cells
    → statement.CellsFit (layout_of options) cells.rows
statement_fits options n cells s =
    subst (λ (rows : List Row). statement.CellsFit (layout_of options) rows) (sym s.rows)
    (statements.cells_fit (layout_of options) s.reach s.columns s.takings s.follow s.within (counts options s.reach s.changes))
