use Rattle.std.proofs.Common.{◌≡◌, ◌++◌, drop}
use Rattle.std.specs.List.{join_with_byte}
use Rattle.std.specs.String.{string_bytes}
use Rattle.csv_entries.proofs.Joined.{behind_commas}
use Rattle.csv_entries.proofs.judging.joined.Given as goal

abbrev pub invariant-loop-column : goal.invariant-loop-column
invariant-loop-column l = join_with_byte 44 l.columns ≡ string_bytes l.whole ++ behind_commas (drop l.column-index l.more)
