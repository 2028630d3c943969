-- The sums of a report and those of its goals fit the budget that its options ask for.
use Rattle.std.proofs.Common.{◌≡◌, ℕ, Bool, true, ◌||◌, refl}
use Rattle.std.proofs.lemmas.Bool.{false≢true}
use Rattle.balance_layouts.specs.Balance.{CountsChanges}
use Rattle.balance_layouts.specs.Totals.{TotalsFit}
use Rattle.balance_layouts.proofs.Promised.{asked_counts}
use Rattle.balance_rows.specs.declared.layout.Basis.TheVariants.{Changes}
use Rattle.budget_layout.specs.Fits.{CellsFit}
use Rattle.budget_layout.proofs.Promised.{actual_fit, goals_fit}
use Rattle.report_cells.specs.declared.reach.Reach.{Reach}
use Rattle.report_cells.specs.declared.reach.Reach.TheVariants.{Within}
use Rattle.report_options.specs.declared.options.Options.{Options}
use Rattle.report_options.specs.declared.options.Start.{Start}
use Rattle.report_options.specs.declared.options.Start.TheVariants as starts
use Rattle.report_sums.specs.Celled.{Celled}
use Rattle.report_sums.specs.Summed.{Summed}
use Rattle.report_commands.specs.Layouts.{basis_of, layout_of, of_changes}
use Rattle.plan_commands.specs.Goals.{as_budgeted}

-- sums of changes begin with each column
begins : (start : Start) → basis_of start ≡ Changes → start ≡ starts.Change
begins starts.Change is = refl
begins starts.Cumulative is = absurd (let never : ⊥ = cc in never)
begins starts.Historical is = absurd (let never : ⊥ = cc in never)

counted : (start : Start) (rows averages : Bool) → (of_changes start rows || of_changes start averages) ≡ true → basis_of start ≡ Changes
counted starts.Change rows averages is = refl
counted starts.Cumulative rows averages is = absurd (false≢true is)
counted starts.Historical rows averages is = absurd (false≢true is)

counts : (options : Options) (reach : Reach) → (options.start ≡ starts.Change → reach ≡ Within) → CountsChanges (layout_of options) reach
counts options reach changes =
    asked_counts (layout_of options) reach (λ is. changes (begins options.start is)) (counted options.start options.row_total options.average)

pub sums_fit : (options : Options) (n : ℕ) (cells : Celled) → Summed options.start n cells → CellsFit (layout_of options) (as_budgeted cells)
sums_fit options n cells s =
    actual_fit (layout_of options) s.reach s.columns s.takings s.follow s.within (counts options s.reach s.changes) (as_budgeted cells) s.rows s.totals

pub goal_sums_fit : (options : Options) (n : ℕ) (cells : Celled) → Summed options.start n cells → TotalsFit (layout_of options) cells.rows cells.totals
goal_sums_fit options n cells s =
    goals_fit (layout_of options) s.reach s.columns s.takings s.follow s.within (counts options s.reach s.changes) cells.rows cells.totals s.rows s.totals
