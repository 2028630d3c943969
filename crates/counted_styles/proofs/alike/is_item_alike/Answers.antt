use Rattle.std.proofs.Common.{◌∙◌, sym}
use Rattle.counted_styles.proofs.Comparing.{first-part, second-part}
use Rattle.counted_styles.proofs.alike.is_item_alike.Goals as goal

pub returns : goal.returns
returns c = λ standing are e. record {
  directives = c.in_ok-directives.ensures standing are (first-part c.in_ok-directives.directives c.in_ok-amounts.amounts (sym c.are_both.ensures ∙ e));
  amounts = c.in_ok-amounts.ensures standing are (second-part c.in_ok-directives.directives c.in_ok-amounts.amounts (sym c.are_both.ensures ∙ e));
}
