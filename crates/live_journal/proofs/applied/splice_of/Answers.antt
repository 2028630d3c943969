use Rattle.live_journal.proofs.Changes.{change_inside}
use Rattle.live_journal.proofs.applied.splice_of.Goals as goal

pub returns-in_ok-bytes-in-Change-clause-inside : goal.returns-in_ok-bytes-in-Change-clause-inside
returns-in_ok-bytes-in-Change-clause-inside c =
    change_inside c.args.text.now c.in_ok-bytes-in-Change.bytes c.args.items.now _ c.numbered.result c.replacing.result c.requires.cut c.numbered.ensures c.replacing.ensures
