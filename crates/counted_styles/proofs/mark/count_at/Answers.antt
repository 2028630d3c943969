use Rattle.std.proofs.Common.{ℕ, List, ap, ◌∙◌}
use Rattle.counted_styles.specs.Marks.{count_at, count_of}
use Rattle.counted_styles.proofs.mark.count_at.Goals as goal

pub returns-in-Some : goal.returns-in-Some
returns-in-Some c =
    ap count_of c.in-Some.ensures.item
    ∙ ap (λ (q : List ℕ). count_at q c.args.at c.args.marks.now) c.as_bytes.ensures

pub returns-in-None : goal.returns-in-None
returns-in-None c =
    ap count_of c.in-None.ensures.item
    ∙ ap (λ (q : List ℕ). count_at q c.args.at c.args.marks.now) c.as_bytes.ensures
