use Rattle.std.proofs.Common.{◌≡◌, ◌++◌, drop}
use Rattle.std.specs.String.{string_bytes}
use Rattle.hl_num.specs.Printing.{grouped}
use Rattle.hl_num.proofs.printing.push_grouped.Given as goal

abbrev pub invariant-loop-i : goal.invariant-loop-i
invariant-loop-i l = string_bytes l.text ++ grouped l.shape (drop l.i l.bytes) ≡ string_bytes l.initial.text ++ grouped l.shape l.bytes
