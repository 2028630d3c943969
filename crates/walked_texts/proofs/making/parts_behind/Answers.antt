use Rattle.std.proofs.Common.{Ok}
use Rattle.std.proofs.lemmas.Result.{err_from_is_err_and}
use Rattle.book.specs.Postings.{txns_of}
use Rattle.walked_edits.proofs.Loading.{solves_size}
use Rattle.text_ends.specs.Going.{items_behind}
use Rattle.walked_texts.specs.Making.{AreParts, IsWalkFor, edit_behind}
use Rattle.walked_texts.proofs.Telling.{answered, not_ended, refused}
use Rattle.walked_texts.proofs.making.parts_behind.Goals as goal

pub parts_added-requires-clause-text : goal.parts_added-requires-clause-text
parts_added-requires-clause-text g c = rw (c.walk_behind.ensures.items, c.walk_behind.ensures.book) c.requires.text

pub parts_added-requires-clause-sums : goal.parts_added-requires-clause-sums
parts_added-requires-clause-sums g c = rw (c.walk_behind.ensures.book) c.requires.kept.sums

pub parts_added-requires-clause-size : goal.parts_added-requires-clause-size
parts_added-requires-clause-size g c = rw (c.walk_behind.ensures.items, c.walk_behind.ensures.book) (solves_size (txns_of c.args.open.now.items.items) c.args.open.now.book.items c.requires.solves)

pub parts_added-requires-clause-walk : goal.parts_added-requires-clause-walk
parts_added-requires-clause-walk g c = rw (c.walk_behind.ensures.items, c.walk_behind.ensures.book) c.in_ok-walk.ensures.answers.made

pub returns-clause-answers : goal.returns-clause-answers
returns-clause-answers g c =
    let whole = items_behind c.args.open.now.items.items c.args.grown.now in
    let book = c.args.open.now.book.items in
    answered (edit_behind c.args.open.now.items.items c.args.grown.now) (IsWalkFor whole book) (AreParts whole book) c.args.steps.now c.walk_behind.new.steps c.in_ok-walk.walk c.in_ok-parts.parts
    c.in_ok-walk.ensures.answers (rw (← c.walk_behind.ensures.items, ← c.walk_behind.ensures.book) c.in_ok-parts.ensures)

pub returns-in_err-walk-clause-answers : goal.returns-in_err-walk-clause-answers
returns-in_err-walk-clause-answers g c =
    let p = err_from_is_err_and c.from_residual.result c.from_residual.ensures.1 in
    let whole = items_behind c.args.open.now.items.items c.args.grown.now in
    let book = c.args.open.now.book.items in
    rw (p.1, p.2) (refused (edit_behind c.args.open.now.items.items c.args.grown.now) (IsWalkFor whole book) (AreParts whole book) c.args.steps.now c.walk_behind.new.steps _ c.in_err-walk.ensures.answers)

pub returns-in_err-parts-clause-answers : goal.returns-in_err-parts-clause-answers
returns-in_err-parts-clause-answers g c =
    let p = err_from_is_err_and c.from_residual-in_err-parts.result c.from_residual-in_err-parts.ensures.1 in
    let whole = items_behind c.args.open.now.items.items c.args.grown.now in
    let book = c.args.open.now.book.items in
    rw (p.1, p.2) (not_ended (edit_behind c.args.open.now.items.items c.args.grown.now) (IsWalkFor whole book) (AreParts whole book) c.args.steps.now c.walk_behind.new.steps (Ok c.in_ok-walk.walk) c.in_ok-walk.ensures.answers)
