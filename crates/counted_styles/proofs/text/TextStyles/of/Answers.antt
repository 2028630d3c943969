use Rattle.std.proofs.Common.{◌∙◌, rules}
use Rattle.book.specs.Standing.{places_from}
use Rattle.counted_styles.proofs.Placing.{standing-is}
use Rattle.counted_styles.proofs.text.TextStyles.of.Goals as goal

pub returns : goal.returns
returns c = record {
  counted = c.in_ok-counted.ensures;
  count = search rules;
  styled = λ q. c.in_ok-styles.ensures (places_from 0 c.args.items.now) c.in_ok-counted.ensures q ∙ standing-is c.args.items.now q;
}
