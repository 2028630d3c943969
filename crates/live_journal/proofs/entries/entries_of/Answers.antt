use Rattle.std.proofs.Common.{ap, ◌∙◌}
use Rattle.std.proofs.lemmas.List.{take_all}
use Rattle.book.specs.Postings.{txns_of}
use Rattle.live_journal.proofs.Copying.{entry_more}
use Rattle.live_journal.proofs.entries.entries_of.Goals as goal

pub loop-placed-preserved : goal.loop-placed-preserved
loop-placed-preserved c =
    entry_more c.args.items.now c.loop-placed.placed-index c.placed-item.result c.loop-placed.copies.items c.push_entry.new.copies.items c.loop-placed-test.true c.placed-item.is c.loop-placed.invariant c.in_ok-push_entry.ensures

pub returns : goal.returns
returns c = ap txns_of c.from_vec.ensures ∙ c.loop-placed.invariant ∙ ap txns_of (take_all c.loop-placed.placed-index c.args.items.now c.loop-placed-test.false)
