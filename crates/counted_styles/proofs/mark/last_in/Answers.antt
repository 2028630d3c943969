use Rattle.std.proofs.Common.{ℕ, List, sym, ap, ◌∙◌}
use Rattle.counted_styles.specs.Marks.{last_in, style_if, style_of_mark}
use Rattle.counted_styles.proofs.mark.last_in.Goals as goal

-- the style of what was found, by the text that was looked for
pub returns-in-Some-clause-value : goal.returns-in-Some-clause-value
returns-in-Some-clause-value c =
    c.style_if.ensures
    ∙ ap (λ (q : List ℕ). style_of_mark q c.in-Some.mark.now) (c.as_bytes-in-Some.ensures ∙ sym c.as_bytes.ensures)
    ∙ ap (style_if c.as_bytes.result.now) c.in-Some.ensures.item
    ∙ ap (λ (q : List ℕ). last_in q c.args.marks.now) c.as_bytes.ensures

pub returns-in-None-clause-value : goal.returns-in-None-clause-value
returns-in-None-clause-value c =
    ap (style_if c.as_bytes.result.now) c.in-None.ensures.item
    ∙ ap (λ (q : List ℕ). last_in q c.args.marks.now) c.as_bytes.ensures
