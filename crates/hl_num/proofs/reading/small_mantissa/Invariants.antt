use Rattle.std.proofs.Common.{◌≡◌, take}
use Rattle.hl_num.specs.Reading.{mantissa_of}
use Rattle.hl_num.proofs.reading.small_mantissa.Given as goal

abbrev pub invariant-loop-byte : goal.invariant-loop-byte
invariant-loop-byte l = l.value ≡ mantissa_of (take l.byte-index l.text)
