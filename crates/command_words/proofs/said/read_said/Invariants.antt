use Rattle.std.proofs.Common.{◌≡◌, length}
use Rattle.command_words.specs.Said.{items_in, onto, said_by}
use Rattle.command_words.proofs.said.read_said.Given as goal

abbrev pub invariant-loop-word : goal.invariant-loop-word
invariant-loop-word l = said_by l.chore l.words ≡ onto l.said (items_in l.chore l.left)

abbrev pub decreases-loop-word : goal.decreases-loop-word
decreases-loop-word l = length l.left
