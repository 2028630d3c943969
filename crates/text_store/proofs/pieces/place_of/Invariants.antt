use Rattle.std.proofs.Common.{◌≡◌, drop, length}
use Rattle.text_store.specs.Pieces.{place_from}
use Rattle.text_store.proofs.pieces.place_of.Given as goal

abbrev pub invariant-loop-i : goal.invariant-loop-i
invariant-loop-i l = (place_from (drop l.i l.parts) l.left l.i ≡ place_from l.parts l.at 0) × (l.i-end ≡ length l.parts)
