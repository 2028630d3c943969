use Rattle.std.proofs.Common.{take}
use Rattle.std.specs.List.{AllByRecursion}
use Rattle.book.specs.declared.item.Item.{Item}
use Rattle.book.specs.Standing.{Numbered}
use Rattle.book.specs.Styles.{style_in, style_standing}
use Rattle.counted_styles.specs.Alike.{IsItemAlike}
use Rattle.counted_styles.specs.Kept.{AreOf}
use Rattle.counted_styles.proofs.alike.are_items_alike.Given as goal

abbrev pub invariant-loop-placed : goal.invariant-loop-placed
invariant-loop-placed l = (standing : Numbered Item) → AreOf standing l.counted → AllByRecursion (λ p. IsItemAlike (style_in l.styles) (style_standing standing) p.item) (take l.placed-index l.items)
