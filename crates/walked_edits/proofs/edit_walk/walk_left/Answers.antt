use Rattle.std.proofs.Common.{List, sym, ap, subst, ◌∙◌}
use Rattle.std.specs.List.{AllByRecursion}
use Rattle.std.proofs.lemmas.Result.{err_from_is_err_and}
use Rattle.book.specs.declared.transaction.Txn.{Txn}
use Rattle.walked_edits.specs.Forms.{IsInside, put_back}
use Rattle.walked_edits.proofs.Going.{none_checked}
use Rattle.walked_edits.proofs.Rooming.{can_leave, left_takes, left_walked}
use Rattle.walked_edits.proofs.edit_walk.walk_left.Goals as goal

pub leave_all-requires-clause-spots : goal.leave_all-requires-clause-spots
leave_all-requires-clause-spots g c = c.spots.ensures

pub leave_all-requires-clause-ready : goal.leave_all-requires-clause-ready
leave_all-requires-clause-ready g c = can_leave c.args.edit.now c.args.book.now.items c.args.kept c.args.reach c.requires.ready

pub leave_all-requires-clause-none : goal.leave_all-requires-clause-none
leave_all-requires-clause-none g c = c.requires.none

pub walk_all-requires-clause-takes : goal.walk_all-requires-clause-takes
walk_all-requires-clause-takes g c =
    left_takes c.args.edit.now c.args.book.now.items c.leave_all.new.book.items c.args.kept (record { kept = c.leave_all.new.kept; taken = c.new.result }) c.args.reach c.requires.ready c.in_ok-leave_all.ensures.left c.new.ensures.items

pub walk_all-requires-clause-none : goal.walk_all-requires-clause-none
walk_all-requires-clause-none g c = c.new.ensures.items

pub returns-clause-walked : goal.returns-clause-walked
returns-clause-walked g c = left_walked c.args.edit.now c.args.book.now.items c.leave_all.new.book.items c.leave_all.new.kept c.walk_all.result c.in_ok-leave_all.ensures.left c.walk_all.ensures.walked

pub returns-clause-back : goal.returns-clause-back
returns-clause-back g c = ap (λ (b : List Txn). put_back b c.leave_all.new.olds.items) c.walk_all.ensures.stays ∙ c.leave_all.ensures.back

pub returns-clause-inside : goal.returns-clause-inside
returns-clause-inside g c = subst (λ (b : List Txn). AllByRecursion (IsInside b) c.leave_all.new.olds.items) (sym c.walk_all.ensures.stays) c.leave_all.ensures.inside

pub returns-clause-load : goal.returns-clause-load
returns-clause-load g c = c.walk_all.ensures.load

pub returns-in_err-leave_all-clause-back : goal.returns-in_err-leave_all-clause-back
returns-in_err-leave_all-clause-back g c = c.leave_all.ensures.back

pub returns-in_err-leave_all-clause-inside : goal.returns-in_err-leave_all-clause-inside
returns-in_err-leave_all-clause-inside g c = c.leave_all.ensures.inside

pub returns-in_err-leave_all-clause-load : goal.returns-in_err-leave_all-clause-load
returns-in_err-leave_all-clause-load g c =
    let p = err_from_is_err_and c.from_residual.result c.from_residual.ensures.1 in
    rw (p.1, p.2) tt

pub returns-clause-most : goal.returns-clause-most
returns-clause-most g c = c.walk_all.ensures.most

pub returns-in_err-leave_all-clause-most : goal.returns-in_err-leave_all-clause-most
returns-in_err-leave_all-clause-most g c = none_checked c.args.edit.now c.args.steps.now
