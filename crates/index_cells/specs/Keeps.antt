-- What is kept of takings, row by row.
use Rattle.std.specs.Prelude.{◌≡◌, ℕ, false, List}
use Rattle.std.specs.List.{list_any}
use Rattle.live_index.specs.Net.{SameNet}
use Rattle.report_cells.specs.Bounds.{TurnoverFits, turnover_in}
use Rattle.report_cells.specs.Taken.{Taken}
use Rattle.index_cells.specs.Keys.{AreInOrder, is_in}
use Rattle.index_cells.specs.Rowed.{rowed_all}
use Rattle.index_cells.specs.Tells.{is_of}
use Rattle.index_cells.specs.declared.kept.Kept.{Kept}

-- The accounts and the symbols stand in order. All accounts are named, and all symbols in which an amount isn't zero.
pub record HasNames (ts : List Taken) (kept : Kept) : Type 0 where
  pub accounts_rise : AreInOrder kept.accounts
  pub symbols_rise : AreInOrder kept.symbols
  pub accounts : (account : List ℕ) → is_in account kept.accounts ≡ false → list_any (is_of account) ts ≡ false
  pub symbols : (symbol : List ℕ) → is_in symbol kept.symbols ≡ false → turnover_in symbol ts ≡ 0

-- Each row was put in as often, opposite ones taken off, as it stands among the rows of the takings' amounts. No symbol is
-- out of range.
pub record Keeps (ts : List Taken) (kept : Kept) : Type 0 where
  pub fits : TurnoverFits ts
  pub sums : SameNet (rowed_all ts) kept.sums
  pub names : HasNames ts kept
