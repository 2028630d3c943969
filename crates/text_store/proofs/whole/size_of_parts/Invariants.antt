use Rattle.std.proofs.Common.{◌≡◌, ◌+◌, ◌-◌, ◌^◌, ◌<◌, min, length, drop}
use Rattle.std.specs.List.{sum_by}
use Rattle.text_store.specs.Edits.{whole_size}
use Rattle.text_store.proofs.whole.size_of_parts.Given as goal

abbrev pub invariant-loop-state : goal.invariant-loop-state
invariant-loop-state l =
    (min (l.size + sum_by (λ state. 12 + length state.name) (drop l.state-index l.latest)) (2 ^ 64 - 1) ≡ min (whole_size (record { text = l.text; latest = l.latest; revision = 0 })) (2 ^ 64 - 1))
    × l.size < 2 ^ 64
