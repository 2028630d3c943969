use Rattle.std.proofs.Common.{◌≡◌, ◌≤◌, true, drop, length}
use Rattle.text_store.specs.Image.{have_own_names}
use Rattle.text_store.specs.Names.{places_in, ArePlaced}
use Rattle.text_store.proofs.naming.places_of.Given as goal

abbrev pub invariant-loop-at : goal.invariant-loop-at
invariant-loop-at l =
    (l.at ≤ length l.states) × (have_own_names (drop l.at l.states) ≡ true) × ArePlaced (drop l.at l.states) l.at (places_in l.places.entries)

abbrev pub decreases-loop-at : goal.decreases-loop-at
decreases-loop-at l = l.at
