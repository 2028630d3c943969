use Rattle.std.proofs.Common.{◌≡◌, take}
use Rattle.book.specs.declared.item.Item.{Item}
use Rattle.book.specs.Standing.{Numbered}
use Rattle.book.specs.Styles.{style_standing}
use Rattle.counted_styles.specs.Directives.{declarations}
use Rattle.counted_styles.specs.Kept.{AreOf}
use Rattle.counted_styles.proofs.declaring.declare_all.Given as goal

abbrev pub invariant-loop-symbol : goal.invariant-loop-symbol
invariant-loop-symbol l = (standing : Numbered Item) → AreOf standing l.styles → l.items.items ≡ declarations (style_standing standing) (take l.symbol-index l.symbols)
