use Rattle.std.proofs.Common.{◌≡◌, ◌++◌, drop}
use Rattle.text_store.specs.Joined.{joined}
use Rattle.text_store.proofs.pieces.text_of.Given as goal

abbrev pub invariant-loop-part : goal.invariant-loop-part
invariant-loop-part l = l.text.items ++ joined (drop l.part-index l.parts) ≡ joined l.parts
