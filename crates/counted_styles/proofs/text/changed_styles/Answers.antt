use Rattle.std.proofs.Common.{◌∙◌, sym}
use Rattle.book.specs.Styles.{style_in, style_standing}
use Rattle.counted_styles.proofs.Comparing.{first-part, item-or, second-part}
use Rattle.counted_styles.proofs.text.changed_styles.Goals as goal

pub returns : goal.returns
returns c = λ standing are f q.
    c.in_ok-next.ensures standing are
    (λ e q. item-or (style_in c.args.styles.now) (style_standing standing) q c.args.old.now
    (c.in_ok-taken.ensures standing are (first-part c.in_ok-taken.taken c.in_ok-put.put (sym c.are_both-alike.ensures ∙ e)))
    (λ so. item-or (style_in c.args.styles.now) (style_standing standing) q c.args.new.now
    (c.in_ok-put.ensures standing are (second-part c.in_ok-taken.taken c.in_ok-put.put (sym c.are_both-alike.ensures ∙ e)))
    (λ si. f q so si)))
    q
