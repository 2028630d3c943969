use Rattle.std.proofs.Common.{◌∙◌, ap}
use Rattle.counted_styles.proofs.Reading.{decimals-are, places_of}
use Rattle.counted_styles.proofs.styles.CountedStyles.decimals.Goals as goal

pub returns-in-Some : goal.returns-in-Some
returns-in-Some c = λ standing are.
    ap places_of c.in-Some.ensures.value
    ∙ decimals-are standing c.args.self.now c.args.symbol.now c.in-Some.ensures.rises are

pub returns-in-None : goal.returns-in-None
returns-in-None c = λ standing are.
    ap places_of c.in-None.ensures.value
    ∙ decimals-are standing c.args.self.now c.args.symbol.now c.in-None.ensures.rises are
