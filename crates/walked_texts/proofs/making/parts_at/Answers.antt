use Rattle.std.proofs.Common.{Ok, set}
use Rattle.std.proofs.lemmas.Result.{err_from_is_err_and}
use Rattle.book.specs.Postings.{txns_of}
use Rattle.walked_edits.proofs.Loading.{solves_size}
use Rattle.walked_texts.specs.Making.{AreParts, IsWalkFor, edit_at}
use Rattle.walked_texts.proofs.Telling.{answered, not_ended, refused}
use Rattle.walked_texts.proofs.making.parts_at.Goals as goal

pub parts_changed-requires-clause-text : goal.parts_changed-requires-clause-text
parts_changed-requires-clause-text g c = rw (c.walk_at.ensures.items, c.walk_at.ensures.book) c.requires.text

pub parts_changed-requires-clause-sums : goal.parts_changed-requires-clause-sums
parts_changed-requires-clause-sums g c = rw (c.walk_at.ensures.book) c.requires.kept.sums

pub parts_changed-requires-clause-size : goal.parts_changed-requires-clause-size
parts_changed-requires-clause-size g c = rw (c.walk_at.ensures.items, c.walk_at.ensures.book) (solves_size (txns_of c.args.open.now.items.items) c.args.open.now.book.items c.requires.solves)

pub parts_changed-requires-clause-there : goal.parts_changed-requires-clause-there
parts_changed-requires-clause-there g c = rw (c.walk_at.ensures.items) c.requires.there

pub parts_changed-requires-clause-walk : goal.parts_changed-requires-clause-walk
parts_changed-requires-clause-walk g c = rw (c.walk_at.ensures.items, c.walk_at.ensures.book) c.in_ok-walk.ensures.answers.made

pub returns-clause-answers : goal.returns-clause-answers
returns-clause-answers g c =
    let whole = set c.args.open.now.items.items c.args.at.now.number c.args.at.now.placed.now in
    let book = c.args.open.now.book.items in
    answered (edit_at c.args.open.now.items.items c.args.at.now.number c.args.at.now.placed.now) (IsWalkFor whole book) (AreParts whole book) c.args.steps.now c.walk_at.new.steps c.in_ok-walk.walk c.in_ok-parts.parts
    c.in_ok-walk.ensures.answers (rw (← c.walk_at.ensures.items, ← c.walk_at.ensures.book) c.in_ok-parts.ensures)

pub returns-in_err-walk-clause-answers : goal.returns-in_err-walk-clause-answers
returns-in_err-walk-clause-answers g c =
    let p = err_from_is_err_and c.from_residual.result c.from_residual.ensures.1 in
    let whole = set c.args.open.now.items.items c.args.at.now.number c.args.at.now.placed.now in
    let book = c.args.open.now.book.items in
    rw (p.1, p.2) (refused (edit_at c.args.open.now.items.items c.args.at.now.number c.args.at.now.placed.now) (IsWalkFor whole book) (AreParts whole book) c.args.steps.now c.walk_at.new.steps _ c.in_err-walk.ensures.answers)

pub returns-in_err-parts-clause-answers : goal.returns-in_err-parts-clause-answers
returns-in_err-parts-clause-answers g c =
    let p = err_from_is_err_and c.from_residual-in_err-parts.result c.from_residual-in_err-parts.ensures.1 in
    let whole = set c.args.open.now.items.items c.args.at.now.number c.args.at.now.placed.now in
    let book = c.args.open.now.book.items in
    rw (p.1, p.2) (not_ended (edit_at c.args.open.now.items.items c.args.at.now.number c.args.at.now.placed.now) (IsWalkFor whole book) (AreParts whole book) c.args.steps.now c.walk_at.new.steps (Ok c.in_ok-walk.walk) c.in_ok-walk.ensures.answers)
