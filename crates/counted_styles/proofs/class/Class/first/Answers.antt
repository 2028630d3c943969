use Rattle.std.proofs.Common.{Option, ap, ◌∙◌}
use Rattle.book.specs.declared.style.Style.{Style}
use Rattle.counted_styles.specs.Marks.{first_with, last_in, with_places}
use Rattle.counted_styles.proofs.class.Class.first.Goals as goal

pub returns-in-Some-clause-value : goal.returns-in-Some-clause-value
returns-in-Some-clause-value c =
    c.with_places.ensures
    ∙ ap (with_places c.in-Some.style) c.last_in-most.ensures.value
    ∙ ap (λ (o : Option Style). first_with o (last_in c.args.symbol.now c.args.self.now.counts)) c.in-Some.ensures.value

pub returns-in-None-clause-value : goal.returns-in-None-clause-value
returns-in-None-clause-value c =
    ap (λ (o : Option Style). first_with o (last_in c.args.symbol.now c.args.self.now.counts)) c.in-None.ensures.value
