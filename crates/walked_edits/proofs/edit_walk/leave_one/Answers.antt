use Rattle.walked_edits.proofs.Rooming.{leaves, no_postings}
use Rattle.walked_edits.proofs.Vacating.{at_spot, blank_fits, inside_more, old_fits, some_more, vacates_rows}
use Rattle.walked_edits.proofs.edit_walk.leave_one.Goals as goal

pub leave_kept-requires-clause-index : goal.leave_kept-requires-clause-index
leave_kept-requires-clause-index c = vacates_rows c.args.book.now.items c.args.kept.now c.args.spot.now c.index.result.now c.vacant-held.result c.requires.sums c.requires.inside c.index.ensures c.vacant-held.ensures

pub leave_kept-requires-clause-old : goal.leave_kept-requires-clause-old
leave_kept-requires-clause-old c = old_fits c.args.book.now.items c.args.kept.now c.args.spot.now c.index.result.now c.requires.sums c.requires.inside c.index.ensures

pub leave_kept-requires-clause-held : goal.leave_kept-requires-clause-held
leave_kept-requires-clause-held c = blank_fits c.args.spot.now c.vacant-held.result c.vacant-held.ensures

pub leave_kept-requires-clause-none : goal.leave_kept-requires-clause-none
leave_kept-requires-clause-none c = no_postings c.args.spot.now c.vacant-held.result c.vacant-held.ensures

pub swap_last-requires-clause-some : goal.swap_last-requires-clause-some
swap_last-requires-clause-some c = some_more c.args.olds.now.items c.push.new.self.items (at_spot c.args.spot.now c.vacant-held.result) c.in_ok-push.ensures.items

pub swap_last-requires-clause-inside : goal.swap_last-requires-clause-inside
swap_last-requires-clause-inside c = inside_more c.args.book.now.items c.args.olds.now.items c.push.new.self.items (at_spot c.args.spot.now c.vacant-held.result) c.in_ok-push.ensures.items c.requires.olds c.requires.inside

pub returns-clause-leaves : goal.returns-clause-leaves
returns-clause-leaves c =
    leaves c.args.book.now.items c.swap_last.new.book.items c.args.spot.now c.args.kept.now c.leave_kept.new.kept c.args.olds.now.items c.push.new.self.items c.swap_last.new.forms.items c.index.result.now c.vacant-held.result
    c.requires.inside c.index.ensures c.vacant-held.ensures c.in_ok-leave_kept.ensures c.in_ok-push.ensures.items c.swap_last.ensures
