use Rattle.std.proofs.Common.{◌++◌, sym, ap, ◌∙◌}
use Rattle.std.proofs.lemmas.List.{take_all}
use Rattle.book.specs.Postings.{txn_in, txns_of}
use Rattle.kept_books.proofs.Numbering.{txns_more}
use Rattle.kept_books.proofs.written.lent_entries.Goals as goal

pub loop-placed-preserved : goal.loop-placed-preserved
loop-placed-preserved c =
    c.in_ok-push_entry.ensures
    ∙ (λ j. c.loop-placed.invariant j ++ txn_in c.placed-item.result.item)
    ∙ sym (txns_more c.args.items.now c.loop-placed.placed-index c.placed-item.result c.loop-placed-test.true c.placed-item.is)

pub returns : goal.returns
returns c = c.loop-placed.invariant ∙ ap txns_of (take_all c.loop-placed.placed-index c.args.items.now c.loop-placed-test.false)
