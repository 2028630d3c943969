use Rattle.std.proofs.Common.{◌≡◌, ◌++◌, take, drop, length}
use Rattle.std.specs.Int.{w32, to_le_bytes}
use Rattle.std.specs.List.{flat_map}
use Rattle.text_store.specs.Changes.{mark_payload, AreStates}
use Rattle.text_store.specs.Files.{HaveShortNames}
use Rattle.text_store.proofs.whole.states_bytes.Given as goal

abbrev pub invariant-loop-state : goal.invariant-loop-state
invariant-loop-state l =
    (l.bytes.items ++ flat_map mark_payload (drop l.state-index l.latest) ≡ to_le_bytes w32 (length l.latest) ++ flat_map mark_payload l.latest)
    × AreStates (take l.state-index l.latest) × HaveShortNames (drop l.state-index l.latest)
