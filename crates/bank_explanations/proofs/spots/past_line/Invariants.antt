use Rattle.std.proofs.Common.{◌≡◌, ◌-◌, length}
use Rattle.csv_entries.specs.Records.{config_of}
use Rattle.bank_explanations.specs.Begun.{after, begun, state_of}
use Rattle.bank_explanations.proofs.spots.past_line.Given as goal

abbrev pub invariant-loop-first : goal.invariant-loop-first
invariant-loop-first l = record {
  spot : after (config_of l.separator) (state_of l.fn.spot) l.line ≡ after (config_of l.separator) (state_of l.here) l.rest;
  left : l.fn.left - begun (config_of l.separator) (state_of l.fn.spot) l.line ≡ l.left - begun (config_of l.separator) (state_of l.here) l.rest;
}

abbrev pub decreases-loop-first : goal.decreases-loop-first
decreases-loop-first l = length l.rest
