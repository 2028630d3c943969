use Rattle.std.proofs.Common.{◌≡◌, ◌+◌, drop}
use Rattle.std.specs.List.{prefix_len}
use Rattle.hl_num.specs.Reading.{is_number_byte}
use Rattle.hl_num.proofs.reading.number_end.Given as goal

abbrev pub invariant-loop-i : goal.invariant-loop-i
invariant-loop-i l = l.i + prefix_len is_number_byte (drop l.i l.text) ≡ prefix_len is_number_byte l.text
