use Rattle.std.proofs.Common.{◌∙◌, ap}
use Rattle.book.specs.Standing.{places_from}
use Rattle.book.specs.Style.{first_class}
use Rattle.counted_styles.specs.Kept.{most_said}
use Rattle.counted_styles.proofs.Placing.{said-places}
use Rattle.counted_styles.proofs.text.TextStyles.decimals.Goals as goal

pub returns : goal.returns
returns c = λ items h. c.decimals.ensures (places_from 0 items) h.counted ∙ ap most_said (said-places first_class 0 items c.args.symbol.now)
