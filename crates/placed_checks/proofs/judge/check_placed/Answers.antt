use Rattle.std.proofs.Common.{ap, ◌∙◌, ◌&&◌}
use Rattle.std.specs.List.{list_all}
use Rattle.balancing.specs.Solves.{is_unmarked}
use Rattle.entry_check.specs.Checked.{others_before, told_before}
use Rattle.placed_checks.specs.Unmixed.{is_unmixed}
use Rattle.placed_checks.proofs.Solved.{answer_right, judged_right, mixed_right}
use Rattle.placed_checks.proofs.judge.check_placed.Goals as goal

pub returns-in-Ok-clause-solved : goal.returns-in-Ok-clause-solved
returns-in-Ok-clause-solved g c =
    judged_right (g.S.Sums.txns c.args.sums.now) (g.S.Sums.place c.args.sums.now) c.args.written c.in-Ok.answer c.are_unmarked-unmarked.result c.as_judged.result c.in-Ok.ensures.answer (c.are_unmarked-unmarked.ensures ∙ ap (list_all is_unmarked) c.as_slice.ensures) c.as_judged.ensures

pub returns-in-Ok-clause-answer : goal.returns-in-Ok-clause-answer
returns-in-Ok-clause-answer g c =
    let told = told_before (g.S.Sums.txns c.args.sums.now) (g.S.Sums.place c.args.sums.now) in
    let others = others_before (g.S.Sums.txns c.args.sums.now) (g.S.Sums.place c.args.sums.now) in
    answer_right told others c.args.written c.in-Ok.answer (c.are_unmarked-unmarked.result && is_unmixed c.in-Ok.answer) c.as_judged.result c.in-Ok.ensures.answer c.as_judged.ensures

pub returns-in-Ok-clause-mixed : goal.returns-in-Ok-clause-mixed
returns-in-Ok-clause-mixed g c =
    mixed_right c.args.written c.in-Ok.answer c.are_unmarked-unmarked.result c.as_judged.result (c.are_unmarked-unmarked.ensures ∙ ap (list_all is_unmarked) c.as_slice.ensures) c.as_judged.ensures
