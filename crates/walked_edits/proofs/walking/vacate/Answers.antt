use Rattle.std.proofs.Common.{sym, ◌∙◌}
use Rattle.std.proofs.lemmas.Result.{err_from_is_err_and}
use Rattle.walked_edits.proofs.Vacating.{blank_fits, elsewhere, inside_more, old_fits, some_more, vacates, vacates_rows}
use Rattle.walked_edits.proofs.walking.vacate.Goals as goal

pub take_kept-requires-clause-index : goal.take_kept-requires-clause-index
take_kept-requires-clause-index c =
    vacates_rows c.args.book.now.items c.args.walking.now.kept c.args.spot c.index-2.result.now c.vacant-held.result c.requires.sums c.requires.inside c.index-2.ensures c.vacant-held.ensures

pub take_kept-requires-clause-old : goal.take_kept-requires-clause-old
take_kept-requires-clause-old c = old_fits c.args.book.now.items c.args.walking.now.kept c.args.spot c.index-2.result.now c.requires.sums c.requires.inside c.index-2.ensures

pub take_kept-requires-clause-held : goal.take_kept-requires-clause-held
take_kept-requires-clause-held c = blank_fits c.args.spot c.vacant-held.result c.vacant-held.ensures

pub swap_last-requires-clause-some : goal.swap_last-requires-clause-some
swap_last-requires-clause-some c = some_more c.args.walking.now.taken.items c.push.new.self.items (record { spot = c.args.spot; txn = c.vacant-held.result }) c.in_ok-push.ensures.items

pub swap_last-requires-clause-inside : goal.swap_last-requires-clause-inside
swap_last-requires-clause-inside c = inside_more c.args.book.now.items c.args.walking.now.taken.items c.push.new.self.items (record { spot = c.args.spot; txn = c.vacant-held.result }) c.in_ok-push.ensures.items c.requires.taken c.requires.inside

pub returns-clause-vacates : goal.returns-clause-vacates
returns-clause-vacates c =
    vacates c.args.book.now.items c.swap_last.new.book.items c.args.spot c.args.walking.now (record { kept = c.take_kept.new.kept; taken = c.swap_last.new.forms }) c.push.new.self.items c.index.result.now c.index-2.result.now c.vacant-held.result
    c.requires.inside c.index.ensures c.index-2.ensures (sym c.is_at.ensures ∙ c.if-not-is_at.false) c.vacant-held.ensures c.in_ok-take_kept.ensures c.in_ok-push.ensures.items c.swap_last.ensures

pub returns-then-not-is_at-clause-load : goal.returns-then-not-is_at-clause-load
returns-then-not-is_at-clause-load c =
    elsewhere c.args.book.now.items c.args.spot c.index.result.now c.requires.inside c.index.ensures (sym c.is_at.ensures ∙ c.if-not-is_at.true)

pub returns-in_err-take_kept-clause-load : goal.returns-in_err-take_kept-clause-load
returns-in_err-take_kept-clause-load c =
    let p = err_from_is_err_and c.from_residual.result c.from_residual.ensures.1 in
    rw (p.1, p.2) tt

pub returns-in_err-push-clause-load : goal.returns-in_err-push-clause-load
returns-in_err-push-clause-load c =
    let p = err_from_is_err_and c.from_residual-in_err-push.result c.from_residual-in_err-push.ensures.1 in
    rw (p.1, p.2) tt
