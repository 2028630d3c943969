use Rattle.std.proofs.Common.{◌≡◌, ◌+◌, take}
use Rattle.hl_base.specs.Pieces.{bytes_in}
use Rattle.parallel_reading.proofs.threads.count_bytes.Given as goal

abbrev pub invariant-loop-piece : goal.invariant-loop-piece
invariant-loop-piece g l = l.steps ≡ record l.fn.steps { bytes_read = l.fn.steps.bytes_read + bytes_in (take l.piece-index l.pieces) }
