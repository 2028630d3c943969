use Rattle.std.proofs.Common.{◌≡◌, take}
use Rattle.std.specs.List.{flat_map}
use Rattle.book_care.specs.Kept.{kept_in}
use Rattle.book_care.proofs.moved.named_takings.Given as goal

abbrev pub invariant-loop-txn : goal.invariant-loop-txn
invariant-loop-txn l = l.kept.items ≡ flat_map (kept_in l.names l.closing.into.now) (take l.txn-index l.txn-items)
