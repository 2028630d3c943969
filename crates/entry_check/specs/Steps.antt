-- What is counted while one transaction is checked.
use Rattle.std.specs.Prelude.{◌+◌}
use Rattle.hl_base.specs.Counts.{Counts}
use Rattle.book.specs.SumsBefore.{OnlyAsked}

-- one more transaction was checked, and sums were asked for
abbrev pub IsOneChecked : Counts → Counts → Type 0
IsOneChecked before after = OnlyAsked (record before { checked = before.checked + 1 }) after
