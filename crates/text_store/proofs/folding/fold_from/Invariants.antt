use Rattle.std.proofs.Common.{◌-◌, length}
use Rattle.text_store.specs.Contents.{content_in_code}
use Rattle.text_store.specs.Currents.{current_in_code}
use Rattle.text_store.specs.Files.{AreWritable}
use Rattle.text_store.proofs.Walking.{Walked}
use Rattle.text_store.proofs.folding.fold_from.Given as goal

abbrev pub invariant-loop-record : goal.invariant-loop-record
invariant-loop-record l =
    Walked l.file l.start l.at l.count (content_in_code l.fn.content) (current_in_code l.current)
    × (AreWritable l.fn.content.latest.states.items → AreWritable l.current.latest.states.items)

abbrev pub decreases-loop-record : goal.decreases-loop-record
decreases-loop-record l = length l.file - l.at
