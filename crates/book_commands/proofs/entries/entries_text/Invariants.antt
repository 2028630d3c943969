use Rattle.std.proofs.Common.{◌≡◌, take}
use Rattle.std.specs.List.{flat_map}
use Rattle.book_commands.specs.Works.{entry_text}
use Rattle.book_commands.proofs.entries.entries_text.Given as goal

abbrev pub invariant-loop-txn : goal.invariant-loop-txn
invariant-loop-txn l = l.out.items ≡ flat_map (entry_text l.context) (take l.txn-index l.txns)
