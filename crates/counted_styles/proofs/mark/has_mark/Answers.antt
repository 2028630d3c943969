use Rattle.std.proofs.Common.{ℕ, List, is_some, ap, ◌∙◌}
use Rattle.counted_styles.specs.Marks.{mark_at}
use Rattle.counted_styles.proofs.mark.has_mark.Goals as goal

pub returns-in-Some : goal.returns-in-Some
returns-in-Some c =
    ap is_some c.in-Some.ensures.item
    ∙ ap (λ (q : List ℕ). is_some (mark_at q c.args.at c.args.marks.now)) c.as_bytes.ensures

pub returns-in-None : goal.returns-in-None
returns-in-None c =
    ap is_some c.in-None.ensures.item
    ∙ ap (λ (q : List ℕ). is_some (mark_at q c.args.at c.args.marks.now)) c.as_bytes.ensures
