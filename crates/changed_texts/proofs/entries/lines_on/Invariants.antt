use Rattle.std.proofs.Common.{◌≡◌, map, take}
use Rattle.text_ends.specs.Growth.{shifted}
use Rattle.changed_texts.proofs.entries.lines_on.Given as goal

abbrev pub invariant-loop-piece : goal.invariant-loop-piece
invariant-loop-piece l = l.moved.items ≡ map (shifted 0 l.lines) (take l.piece-index l.pieces)
