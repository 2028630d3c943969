use Rattle.std.proofs.Common.{take}
use Rattle.book.specs.Standing.{places_from}
use Rattle.counted_styles.specs.Kept.{AreOf}
use Rattle.counted_styles.proofs.styles.CountedStyles.of.Given as goal

abbrev pub invariant-loop-number : goal.invariant-loop-number
invariant-loop-number l = AreOf (places_from 0 (take l.number l.items)) l.styles
