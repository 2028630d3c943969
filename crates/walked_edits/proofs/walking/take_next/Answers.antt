use Rattle.std.proofs.lemmas.Result.{err_from_is_err_and}
use Rattle.walked_edits.specs.Causes.{CanNot, IsDatedAt}
use Rattle.walked_edits.specs.Stepping.{IsElsewhere}
use Rattle.walked_edits.proofs.Going.{err_map, ok_map}
use Rattle.walked_edits.proofs.Putting.{cause_map}
use Rattle.walked_edits.proofs.Taking.{come_inside, dated_not, elsewhere_not, is_one_out, out_inside, takes_on}
use Rattle.walked_edits.proofs.walking.take_next.Goals as goal

pub vacate-requires-clause-inside : goal.vacate-requires-clause-inside
vacate-requires-clause-inside g c = come_inside c.args.edit.now c.args.spot c.args.book.now.items c.args.walking.now c.args.reach.now c.requires

pub vacate-requires-clause-taken : goal.vacate-requires-clause-taken
vacate-requires-clause-taken g c = out_inside c.args.book.now.items c.args.walking.now.taken.items c.requires.partly.held

pub vacate-requires-clause-sums : goal.vacate-requires-clause-sums
vacate-requires-clause-sums g c = c.requires.partly.sums

pub returns-clause-takes : goal.returns-clause-takes
returns-clause-takes g c =
    ok_map c.vacate.result (takes_on c.args.edit.now c.args.spot c.args.book.now.items c.vacate.new.book.items c.args.walking.now c.vacate.new.walking c.args.reach.now c.note.new.reach c.requires c.in_ok-note.ensures.handed) c.vacate.ensures.vacates

pub returns-clause-out : goal.returns-clause-out
returns-clause-out g c =
    ok_map c.vacate.result (is_one_out c.args.edit.now c.args.spot c.args.book.now.items c.vacate.new.book.items c.args.walking.now c.vacate.new.walking c.args.reach.now c.note.new.reach c.requires c.in_ok-note.ensures.handed) c.vacate.ensures.vacates

pub returns-clause-load : goal.returns-clause-load
returns-clause-load g c =
    err_map (IsElsewhere c.args.book.now.items c.args.spot) (CanNot c.args.edit.now) (elsewhere_not c.args.edit.now c.args.spot c.args.book.now.items c.args.walking.now c.args.reach.now c.requires) c.vacate.result c.vacate.ensures.load

pub returns-in_err-note-clause-load : goal.returns-in_err-note-clause-load
returns-in_err-note-clause-load g c =
    let p = err_from_is_err_and c.from_residual.result c.from_residual.ensures.1 in
    rw (p.1, p.2)
    (cause_map c.in_err-note.field-0.0 (IsDatedAt c.args.edit.now c.args.spot) (CanNot c.args.edit.now) (dated_not c.args.edit.now c.args.spot c.args.book.now.items c.args.walking.now c.args.reach.now c.requires) c.in_err-note.ensures.load)
