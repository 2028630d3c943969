use Rattle.reached_walk.proofs.Noting.{notes-all, notes-none, notes-step}
use Rattle.reached_walk.proofs.change.note_postings.Goals as goal

pub loop-posting-init : goal.loop-posting-init
loop-posting-init c = notes-none c.args.watchers.now c.args.spot c.args.changes.now.items

pub loop-posting-preserved : goal.loop-posting-preserved
loop-posting-preserved c =
    notes-step c.args.watchers.now c.args.spot c.args.postings.now c.loop-posting.posting-index c.posting-item.result
    c.args.changes.now.items c.loop-posting.changes.items c.note_account.new.changes.items
    c.loop-posting-test.true c.posting-item.is c.loop-posting.invariant c.in_ok-note_account.ensures

pub returns : goal.returns
returns c =
    notes-all c.args.watchers.now c.args.spot c.args.postings.now c.loop-posting.posting-index
    c.args.changes.now.items c.loop-posting.changes.items c.loop-posting-test.false c.loop-posting.invariant
