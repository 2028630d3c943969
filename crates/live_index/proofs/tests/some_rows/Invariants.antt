use Rattle.std.proofs.Common.{◌≤◌, length}
use Rattle.live_index.specs.Small.{AllSmall}
use Rattle.live_index.proofs.tests.some_rows.Given as goal

abbrev pub invariant-loop-next : goal.invariant-loop-next
invariant-loop-next l = record { few : length l.rows.items ≤ l.next; small : AllSmall l.rows.items }
