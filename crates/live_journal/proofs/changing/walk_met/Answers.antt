use Rattle.std.proofs.lemmas.Result.{err_from_is_err_and}
use Rattle.live_journal.proofs.Placing.{met_inside, refused_since}
use Rattle.live_journal.proofs.changing.walk_met.Goals as goal

pub walk_inside-requires-clause-met : goal.walk_inside-requires-clause-met
walk_inside-requires-clause-met g c =
    met_inside c.args.editing.now c.args.number c.args.loaded.now.items c.args.met c.requires.met c.requires.short c.in_ok-judge_more.ensures.good

pub returns-in_err-judge_more-clause-comes : goal.returns-in_err-judge_more-clause-comes
returns-in_err-judge_more-clause-comes g c =
    let p = err_from_is_err_and c.from_residual.result c.from_residual.ensures.1 in
    rw (p.1, p.2)
    (λ before read. refused_since c.args.editing.now c.in_err-judge_more.field-0.0 before c.args.steps.now c.requires.editing c.requires.unclosed c.in_err-judge_more.ensures.fault read)

pub returns-clause-comes : goal.returns-clause-comes
returns-clause-comes g c = c.walk_inside.ensures.comes
