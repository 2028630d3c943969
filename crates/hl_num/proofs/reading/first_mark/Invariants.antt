use Rattle.std.proofs.Common.{◌≡◌, drop}
use Rattle.std.specs.List.{find}
use Rattle.hl_num.specs.Reading.{is_mark}
use Rattle.hl_num.proofs.reading.first_mark.Given as goal

abbrev pub invariant-loop-byte : goal.invariant-loop-byte
invariant-loop-byte l = find is_mark (drop l.byte-index l.text) ≡ find is_mark l.text
