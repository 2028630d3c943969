use Rattle.std.proofs.Common.{◌≡◌, take, reverse}
use Rattle.std.specs.List.{find}
use Rattle.hl_num.specs.Reading.{is_mark}
use Rattle.hl_num.proofs.reading.last_mark.Given as goal

abbrev pub invariant-loop-byte : goal.invariant-loop-byte
invariant-loop-byte l = l.last ≡ find is_mark (reverse (take l.byte-index l.text))
