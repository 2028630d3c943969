-- How many nodes of an index are asked.
use Rattle.std.specs.Prelude.{◌≡◌, ℕ, ◌+◌, ◌*◌, ◌≤◌, List, length}
use Rattle.hl_base.specs.Counts.{Counts}
use Rattle.hl_time.specs.declared.spans.Span.{Span}
use Rattle.index_cells.specs.declared.kept.Kept.{Kept}

-- at most so many, and nothing is read or checked
pub record AsksFor (most : ℕ) (before after : Counts) : Type 0 where
  pub nodes : after.nodes ≤ before.nodes + most
  pub more : before.nodes ≤ after.nodes
  pub bytes_read : after.bytes_read ≡ before.bytes_read
  pub checked : after.checked ≡ before.checked

-- two sums up to a day for each symbol
abbrev pub nodes_of_cell : Kept → ℕ
nodes_of_cell kept = 44 * length kept.symbols

-- for each account that is named, symbol and column two sums up to a day
abbrev pub nodes_shown : Kept → List Span → ℕ
nodes_shown kept columns = nodes_of_cell kept * length columns * length kept.accounts
