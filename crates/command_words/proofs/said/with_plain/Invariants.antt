use Rattle.std.proofs.Common.{◌≡◌, length}
use Rattle.command_words.specs.Said.{onto, plain_items}
use Rattle.command_words.proofs.said.with_plain.Given as goal

abbrev pub invariant-loop-word : goal.invariant-loop-word
invariant-loop-word l = onto l.fn.said (plain_items l.chore l.rest) ≡ onto l.all (plain_items l.chore l.left)

abbrev pub decreases-loop-word : goal.decreases-loop-word
decreases-loop-word l = length l.left
