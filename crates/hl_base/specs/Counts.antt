-- What a contract sees of the counters of steps.
use Rattle.std.specs.Prelude.{ℕ}

-- bytes read as items, nodes of the index of sums that were asked, transactions that were checked
pub record Counts : Type 0 where
  pub bytes_read : ℕ
  pub nodes : ℕ
  pub checked : ℕ
