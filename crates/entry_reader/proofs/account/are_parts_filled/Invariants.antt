use Rattle.std.proofs.Common.{◌≡◌, drop, false}
use Rattle.entry_reader.proofs.Parts.{filled_from}
use Rattle.entry_reader.proofs.account.are_parts_filled.Given as goal

abbrev pub invariant-loop-byte : goal.invariant-loop-byte
invariant-loop-byte l = filled_from l.is_open (drop l.byte-index l.account) ≡ filled_from false l.account
