-- Layouts that ask for no sums.
use Rattle.std.proofs.Common.{◌≡◌, ℕ, true, false, List, sym, ◌∙◌}
use Rattle.std.proofs.lemmas.Bool.{false≢true}
use Rattle.report_cells.specs.Report.{Sums}
use Rattle.balance_rows.specs.declared.layout.Basis.{Basis}
use Rattle.balance_rows.specs.declared.layout.Layout.{Layout}
use Rattle.balance_rows.specs.declared.layout.Order.{Order}
use Rattle.balance_rows.specs.declared.layout.Order.TheVariants.{Accounts, Amounts, Tree}
use Rattle.balance_rows.specs.Fitting.{OrderFits}
use Rattle.balance_rows.specs.Rows.{Row}
use Rattle.balance_layouts.specs.Balance.{CellsFit}
use Rattle.balance_layouts.specs.Totals.{TotalsFit, asks_totals}

no_tree : Accounts ≡ Tree → ⊥
no_tree h = cc

no_amounts : Accounts ≡ Amounts → ⊥
no_amounts h = cc

-- without totals of rows nothing is owed of a table's rows and totals
pub no_totals : (layout : Layout) (rows : List Row) (totals : List Sums) → asks_totals layout ≡ false → TotalsFit layout rows totals
no_totals layout rows totals none = record {
  of_rows = λ asked. absurd (false≢true (sym none ∙ asked));
  of_totals = λ asked _. absurd (false≢true (sym none ∙ asked));
}

-- by accounts nothing is owed of the rows
pub by_accounts : (order : Order) (basis : Basis) (rows : List Row) → order ≡ Accounts → OrderFits order basis rows
by_accounts order basis rows is = record {
  tree = λ h. absurd (no_tree (sym is ∙ h));
  totals = λ h _. absurd (no_amounts (sym is ∙ h));
}

-- both together
pub plain_fits : (layout : Layout) (columns : ℕ) (rows : List Row) (totals : List Sums) → layout.order ≡ Accounts → asks_totals layout ≡ false → CellsFit layout columns rows totals
plain_fits layout columns rows totals is none = record {
  order_fits = by_accounts layout.order layout.basis rows is;
  totals_fit = λ _. no_totals layout _ totals none;
}
