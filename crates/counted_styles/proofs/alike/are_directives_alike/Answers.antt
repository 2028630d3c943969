use Rattle.std.proofs.Common.{◌∙◌, ℕ, List, sym, subst}
use Rattle.book.specs.declared.style.Style.{Style}
use Rattle.book.specs.Styles.{style_in, style_standing}
use Rattle.counted_styles.specs.Alike.{AreAlike}
use Rattle.counted_styles.proofs.Comparing.{first-part, second-part}
use Rattle.counted_styles.proofs.alike.are_directives_alike.Goals as goal

pub returns : goal.returns
returns c = λ standing are e.
    let alike : List (List ℕ × Style) → Type 0 = λ l. AreAlike (style_in c.args.styles.now) (style_standing standing) l in (
      subst alike (c.as_slice-front.ensures.value ∙ c.in_ok-by_commodity.ensures) (c.are_alike-one.ensures standing are (first-part c.are_alike-one.result c.are_alike-other.result (sym c.are_both.ensures ∙ e))),
      subst alike (c.as_slice-back.ensures.value ∙ c.in_ok-by_default.ensures) (c.are_alike-other.ensures standing are (second-part c.are_alike-one.result c.are_alike-other.result (sym c.are_both.ensures ∙ e))),
    )
