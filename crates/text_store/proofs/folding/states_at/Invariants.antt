use Rattle.std.proofs.Common.{◌≡◌, ◌≤◌, ◌+◌, drop, length}
use Rattle.text_store.specs.Files.{HaveShortNames}
use Rattle.text_store.specs.Image.{marks_at}
use Rattle.text_store.proofs.Walking.{with_all}
use Rattle.text_store.proofs.folding.states_at.Given as goal

abbrev pub invariant-loop-left : goal.invariant-loop-left
invariant-loop-left l =
    (with_all l.latest.items (marks_at l.left (drop l.behind l.bytes)) ≡ marks_at l.count (drop l.at l.bytes))
    × (l.behind ≤ length l.bytes) × (length l.latest.items + l.left ≡ l.count) × HaveShortNames l.latest.items

abbrev pub decreases-loop-left : goal.decreases-loop-left
decreases-loop-left l = l.left
