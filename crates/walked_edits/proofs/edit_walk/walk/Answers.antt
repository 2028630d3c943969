use Rattle.std.proofs.Common.{arith}
use Rattle.std.proofs.lemmas.Result.{err_from_is_err_and}
use Rattle.walked_edits.proofs.Going.{none_checked}
use Rattle.walked_edits.proofs.Rooming.{cut_back}
use Rattle.walked_edits.proofs.edit_walk.walk.Goals as goal

pub walk_with_room-outcome-requires-clause-edited : goal.walk_with_room-outcome-requires-clause-edited
walk_with_room-outcome-requires-clause-edited g c = c.requires.edited

pub walk_with_room-outcome-requires-clause-kept : goal.walk_with_room-outcome-requires-clause-kept
walk_with_room-outcome-requires-clause-kept g c = c.requires.kept

pub walk_with_room-outcome-requires-clause-symbols : goal.walk_with_room-outcome-requires-clause-symbols
walk_with_room-outcome-requires-clause-symbols g c = c.requires.symbols

pub walk_with_room-outcome-requires-clause-begins : goal.walk_with_room-outcome-requires-clause-begins
walk_with_room-outcome-requires-clause-begins g c = c.in_ok-reach.ensures.begins

pub returns-clause-walked : goal.returns-clause-walked
returns-clause-walked g c = c.walk_with_room-outcome.ensures.walked

pub returns-clause-stays : goal.returns-clause-stays
returns-clause-stays g c =
    cut_back c.args.book.now.items c.walk_with_room-outcome.new.book.items c.truncate.new.self.items c.len-count.result (omega arith) c.walk_with_room-outcome.ensures.back c.truncate.ensures.items

pub returns-clause-load : goal.returns-clause-load
returns-clause-load g c = c.walk_with_room-outcome.ensures.load

pub returns-in_err-reach-clause-load : goal.returns-in_err-reach-clause-load
returns-in_err-reach-clause-load g c =
    let p = err_from_is_err_and c.from_residual.result c.from_residual.ensures.1 in
    rw (p.1, p.2) c.in_err-reach.ensures.load

pub returns-clause-most : goal.returns-clause-most
returns-clause-most g c = c.walk_with_room-outcome.ensures.most

pub returns-in_err-reach-clause-most : goal.returns-in_err-reach-clause-most
returns-in_err-reach-clause-most g c = none_checked c.args.edit.now c.args.steps.now
