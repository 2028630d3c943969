use Rattle.std.proofs.lemmas.Result.{err_from_is_err_and}
use Rattle.book.specs.Postings.{txns_of}
use Rattle.walked_edits.proofs.Putting.{cause_map}
use Rattle.book_laws.specs.Reaching.{HasNoPlainReach}
use Rattle.walked_edits.specs.Causes.{CanNot}
use Rattle.kept_books.specs.Beginning.{scene_of}
use Rattle.kept_books.specs.Rewriting.{edit_by, meant}
use Rattle.kept_books.proofs.Edits.{asks_begun, cause_begun, checks_begun, edited_begun, names_begun, none_checked, renewal_alone, symbols_begun, walk_is}
use Rattle.kept_books.proofs.walk.walk_rewritten.Goals as goal

pub walk_begun-requires-clause-watched : goal.walk_begun-requires-clause-watched
walk_begun-requires-clause-watched g c = c.requires.walks.watched

pub walk_begun-requires-clause-symbols : goal.walk_begun-requires-clause-symbols
walk_begun-requires-clause-symbols g c = c.requires.walks.symbols

pub walk_from-requires-clause-edited : goal.walk_from-requires-clause-edited
walk_from-requires-clause-edited g c =
    edited_begun (txns_of c.args.items.now) (meant c.args.rewriting.now) c.in_ok-begun.begun c.in_ok-begun.ensures c.requires.may c.args.book.now.items c.requires.solves

pub walk_from-requires-clause-kept : goal.walk_from-requires-clause-kept
walk_from-requires-clause-kept g c = c.requires.walks.kept

pub walk_from-requires-clause-symbols : goal.walk_from-requires-clause-symbols
walk_from-requires-clause-symbols g c =
    names_begun (txns_of c.args.items.now) (meant c.args.rewriting.now) c.in_ok-begun.begun c.in_ok-begun.ensures c.requires.may c.args.book.now.items c.requires.solves

pub walk_of-requires-clause-alone : goal.walk_of-requires-clause-alone
walk_of-requires-clause-alone g c = renewal_alone (txns_of c.args.items.now) (meant c.args.rewriting.now) c.in_ok-begun.begun.renewal c.in_ok-begun.ensures.renewal

pub walk_of-requires-clause-both : goal.walk_of-requires-clause-both
walk_of-requires-clause-both g c = symbols_begun (txns_of c.args.items.now) (meant c.args.rewriting.now) c.in_ok-begun.begun c.in_ok-begun.ensures c.requires.may

pub returns-clause-walk : goal.returns-clause-walk
returns-clause-walk g c =
    walk_is (txns_of c.args.items.now) (meant c.args.rewriting.now) c.in_ok-begun.begun c.in_ok-begun.ensures c.requires.may c.args.book.now.items c.in_ok-walked.walked c.requires.solves c.in_ok-walked.ensures.walked
    c.in_ok-told.told c.in_ok-told.ensures.forms c.in_ok-told.ensures.kept c.in_ok-told.ensures.watchers c.in_ok-told.ensures.symbols

pub returns-clause-few : goal.returns-clause-few
returns-clause-few g c =
    checks_begun (txns_of c.args.items.now) (meant c.args.rewriting.now) c.in_ok-begun.begun c.in_ok-begun.ensures c.requires.may c.args.steps.now c.walk_from.new.steps c.walk_from.ensures.most

pub returns-in_err-told-clause-few : goal.returns-in_err-told-clause-few
returns-in_err-told-clause-few g c =
    checks_begun (txns_of c.args.items.now) (meant c.args.rewriting.now) c.in_ok-begun.begun c.in_ok-begun.ensures c.requires.may c.args.steps.now c.walk_from.new.steps c.walk_from.ensures.most

pub returns-in_err-walked-clause-few : goal.returns-in_err-walked-clause-few
returns-in_err-walked-clause-few g c =
    checks_begun (txns_of c.args.items.now) (meant c.args.rewriting.now) c.in_ok-begun.begun c.in_ok-begun.ensures c.requires.may c.args.steps.now c.walk_from.new.steps c.walk_from.ensures.most

pub returns-in_err-begun-clause-few : goal.returns-in_err-begun-clause-few
returns-in_err-begun-clause-few g c = none_checked (txns_of c.args.items.now) (meant c.args.rewriting.now) c.args.steps.now

pub returns-clause-nodes : goal.returns-clause-nodes
returns-clause-nodes g c =
    asks_begun (txns_of c.args.items.now) (meant c.args.rewriting.now) c.in_ok-begun.begun c.in_ok-begun.ensures c.requires.may c.args.book.now.items c.in_ok-walked.walked c.requires.solves c.in_ok-walked.ensures.walked
    c.args.steps.now c.walk_from.new.steps c.in_ok-walked.ensures.few

pub returns-in_err-begun-clause-load : goal.returns-in_err-begun-clause-load
returns-in_err-begun-clause-load g c =
    let p = err_from_is_err_and c.from_residual.result c.from_residual.ensures.1 in
    rw (p.1, p.2) tt

pub returns-in_err-walked-clause-load : goal.returns-in_err-walked-clause-load
returns-in_err-walked-clause-load g c =
    let p = err_from_is_err_and c.from_residual-in_err-walked.result c.from_residual-in_err-walked.ensures.1 in
    let edit = edit_by (txns_of c.args.items.now) (meant c.args.rewriting.now) in
    rw (p.1, p.2)
    (cause_map c.in_err-walked.field-0.0 (CanNot (scene_of c.in_ok-begun.begun)) (HasNoPlainReach edit)
    (cause_begun (txns_of c.args.items.now) (meant c.args.rewriting.now) c.in_ok-begun.begun c.in_ok-begun.ensures c.requires.may) c.in_err-walked.ensures.load)

pub returns-in_err-told-clause-load : goal.returns-in_err-told-clause-load
returns-in_err-told-clause-load g c =
    let p = err_from_is_err_and c.from_residual-in_err-told.result c.from_residual-in_err-told.ensures.1 in
    rw (p.1, p.2) tt
