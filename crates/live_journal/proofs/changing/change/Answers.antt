use Rattle.std.proofs.Common.{◌≡◌, ◌-◌, ◌≤◌, sym, ap, subst, ◌∙◌, arith}
use Rattle.std.proofs.lemmas.Result.{err_from_is_err_and}
use Rattle.live_journal.specs.declared.fault.EditFault.TheVariants as refused
use Rattle.live_journal.proofs.Placing.{change_here, is_there, item_some, open_entry, other_entry, refused_early}
use Rattle.live_journal.proofs.changing.change.Goals as goal

pub unwalked-requires-clause-other : goal.unwalked-requires-clause-other
unwalked-requires-clause-other g c =
    other_entry c.args.editing.now c.args.item c.requires.editing c.requires.change c.requires.there c.requires.entries (c.in_ok-one.ensures.other c.if-not-one.true)

pub overflow_sub-number : goal.overflow_sub-number
overflow_sub-number g c = omega (arith, item_some c.args.editing.now c.args.item c.requires.editing c.requires.change c.requires.there c.requires.entries)

pub change_entry-requires-clause-unclosed : goal.change_entry-requires-clause-unclosed
change_entry-requires-clause-unclosed g c =
    open_entry c.args.editing.now c.args.item c.requires.editing c.requires.change c.requires.there c.requires.entries (c.in_ok-one.ensures.one c.if-not-one.false)

pub change_entry-requires-clause-change : goal.change_entry-requires-clause-change
change_entry-requires-clause-change g c = change_here c.args.editing.now c.args.item c.requires.editing c.requires.change c.requires.there c.requires.entries

pub change_entry-requires-clause-there : goal.change_entry-requires-clause-there
change_entry-requires-clause-there g c = is_there c.args.editing.now c.args.item c.requires.editing c.requires.change c.requires.there c.requires.entries

pub change_entry-requires-clause-one : goal.change_entry-requires-clause-one
change_entry-requires-clause-one g c = c.in_ok-one.ensures.one c.if-not-one.false

pub change_entry-requires-clause-short : goal.change_entry-requires-clause-short
change_entry-requires-clause-short g c = c.in_ok-judge_size.ensures.good

pub returns-in_err-one-clause-comes : goal.returns-in_err-one-clause-comes
returns-in_err-one-clause-comes g c =
    let p = err_from_is_err_and c.from_residual.result c.from_residual.ensures.1 in
    rw (p.1, p.2) (refused_early c.args.editing.now refused.Memory c.args.steps.now tt)

pub returns-in_err-judge_size-clause-comes : goal.returns-in_err-judge_size-clause-comes
returns-in_err-judge_size-clause-comes g c =
    let p = err_from_is_err_and c.from_residual-in_err-judge_size.result c.from_residual-in_err-judge_size.ensures.1 in
    rw (p.1, p.2) (refused_early c.args.editing.now c.in_err-judge_size.field-0.0 c.args.steps.now (c.in_err-judge_size.ensures.fault c.args.editing.now.year))
