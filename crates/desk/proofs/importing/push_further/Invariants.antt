use Rattle.std.proofs.Common.{◌≡◌, ◌++◌, ◌∷◌, take}
use Rattle.std.specs.List.{flat_map}
use Rattle.desk.specs.Imports.{entry_text}
use Rattle.desk.proofs.importing.push_further.Given as goal

abbrev pub invariant-loop-txn : goal.invariant-loop-txn
invariant-loop-txn l = l.bytes.items ≡ l.initial.bytes.items ++ flat_map (λ next. 10 ∷ entry_text l.context next) (take l.txn-index l.txns)
