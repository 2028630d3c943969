use Rattle.std.proofs.Common.{take}
use Rattle.book.specs.Standing.{places_from}
use Rattle.book.specs.Styles.{AreOf}
use Rattle.book.proofs.style.Styles.of.Given as goal

abbrev pub invariant-loop-number : goal.invariant-loop-number
invariant-loop-number l = AreOf (places_from 0 (take l.number l.items)) l.styles
