use Rattle.std.specs.Option.{option_copied}
use Rattle.counted_styles.proofs.Naming.{IsNaming, to_come}
use Rattle.counted_styles.proofs.symbols.put_symbols.Given as goal

abbrev pub invariant-loop-next : goal.invariant-loop-next
invariant-loop-next l = IsNaming l.marks (option_copied l.next) l.initial.names.items l.names.items

-- the marks whose symbols are still to come
abbrev pub decreases-loop-next : goal.decreases-loop-next
decreases-loop-next l = to_come (option_copied l.next) l.marks
