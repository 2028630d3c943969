use Rattle.std.proofs.Common.{◌∙◌, sym}
use Rattle.counted_styles.proofs.Comparing.{same-style}
use Rattle.counted_styles.proofs.alike.is_alike.Goals as goal

pub returns : goal.returns
returns c = λ standing are e.
    sym c.style-kept.ensures.value
    ∙ same-style c.style-kept.result c.style-now.result (sym c.is_same_style.ensures ∙ e)
    ∙ c.style-now.ensures standing are
