use Rattle.std.proofs.Common.{◌≡◌, ◌<◌, ℕ}
use Rattle.kept_turnover.specs.Keeping.{no_part, part_at}
use Rattle.kept_turnover.proofs.places.are_none.Given as goal

abbrev pub invariant-loop-part : goal.invariant-loop-part
invariant-loop-part l = (n : ℕ) → n < l.part-index → part_at l.parts n ≡ no_part
