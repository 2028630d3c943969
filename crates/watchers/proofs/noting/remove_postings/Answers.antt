use Rattle.std.proofs.Common.{◌≡◌, ◌+◌, ◌<◌, ◌≤◌, [], length, drop, sym, ap, ◌∙◌, arith, rules}
use Rattle.std.proofs.lemmas.List.{drop_all}
use Rattle.watchers.specs.Walk.{gone_all, watches_from, watches_posting}
use Rattle.watchers.proofs.Walking.{gone-more}
use Rattle.watchers.proofs.noting.remove_postings.Goals as goal

pub loop-n-preserved : goal.loop-n-preserved
loop-n-preserved c =
    let inside : c.loop-n.n < length c.args.postings.now = search rules in
    let put : c.remove_posting.new.watches ≡ gone_all c.loop-n.watches (watches_posting c.args.txn.now c.args.number c.loop-n.n c.index-postings-n.result) = search rules in
    gone-more c.args.txn.now c.args.number c.args.postings.now c.loop-n.n c.index-postings-n.result
    (gone_all c.args.watches.now (watches_from c.args.txn.now c.args.number 0 c.args.postings.now))
    c.loop-n.watches c.remove_posting.new.watches inside c.index-postings-n.is put c.loop-n.invariant
