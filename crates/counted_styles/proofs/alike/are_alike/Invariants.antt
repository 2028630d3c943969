use Rattle.std.proofs.Common.{take}
use Rattle.book.specs.declared.item.Item.{Item}
use Rattle.book.specs.Standing.{Numbered}
use Rattle.book.specs.Styles.{style_in, style_standing}
use Rattle.counted_styles.specs.Alike.{AreAlike}
use Rattle.counted_styles.specs.Kept.{AreOf}
use Rattle.counted_styles.proofs.alike.are_alike.Given as goal

abbrev pub invariant-loop-one : goal.invariant-loop-one
invariant-loop-one l = (standing : Numbered Item) → AreOf standing l.counted → AreAlike (style_in l.styles) (style_standing standing) (take l.one-index l.said)
