use Rattle.std.proofs.Common.{◌∙◌, ap}
use Rattle.book.specs.declared.style.Styles.{Styles}
use Rattle.book.specs.Styles.{style_in}
use Rattle.counted_styles.proofs.text.restyled.Goals as goal

pub returns-then-alike : goal.returns-then-alike
returns-then-alike c = λ standing are same q. ap (λ (s : Styles). style_in s q) c.in_ok-copy.ensures ∙ same c.if-alike.true q

pub returns : goal.returns
returns c = λ standing are same q. c.in_ok-new.ensures standing are q
