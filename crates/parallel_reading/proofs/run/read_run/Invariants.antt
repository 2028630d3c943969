use Rattle.std.proofs.Common.{◌≡◌, drop}
use Rattle.parallel_reading.specs.Runs.{read_alike}
use Rattle.parallel_reading.proofs.Runs.{items_before}
use Rattle.parallel_reading.proofs.run.read_run.Given as goal

abbrev pub invariant-loop-piece : goal.invariant-loop-piece
invariant-loop-piece l = items_before l.items.items (read_alike l.context l.text (drop l.piece-index l.pieces)) ≡ read_alike l.context l.text l.pieces
