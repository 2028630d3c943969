-- The names that takings have.
use Rattle.std.specs.Prelude.{◌≡◌, ℕ, List}
use Rattle.report_cells.specs.Report.{accounts_in}
use Rattle.report_cells.specs.Taken.{Taken}
use Rattle.index_cells.specs.Named.{by_symbols}
use Rattle.index_cells.specs.declared.kept.Kept.{Kept}

-- their symbols, each once and in the order of accounts
abbrev pub symbols_in : List Taken → List (List ℕ)
symbols_in ts = accounts_in (by_symbols ts)

-- Their accounts and their symbols are named, each once and in order, and no others are.
pub record NamesOf (ts : List Taken) (kept : Kept) : Type 0 where
  pub accounts : kept.accounts ≡ accounts_in ts
  pub symbols : kept.symbols ≡ symbols_in ts
