use Rattle.std.proofs.Common.{◌≡◌, [], length}
use Rattle.csv_entries.specs.Records.{config_of}
use Rattle.hl_base.specs.Lines.{lines_of}
use Rattle.bank_explanations.specs.Begun.{state_of}
use Rattle.bank_explanations.specs.Places.{lines_from}
use Rattle.bank_explanations.proofs.Opening.{walked}
use Rattle.bank_explanations.proofs.places.text_from.Given as goal

abbrev pub invariant-loop-spot : goal.invariant-loop-spot
invariant-loop-spot l = lines_from l.separator l.n [] (lines_of l.text) ≡ walked (config_of l.separator) (state_of l.spot) l.left (lines_of l.rest)

abbrev pub decreases-loop-spot : goal.decreases-loop-spot
decreases-loop-spot l = length l.rest
