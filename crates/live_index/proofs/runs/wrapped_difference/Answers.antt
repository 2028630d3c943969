use Rattle.std.proofs.Common.{rules}
use Rattle.std.proofs.lemmas.Int.{wraps}
use Rattle.live_index.proofs.runs.wrapped_difference.Goals as goal

pub returns : goal.returns
returns c = search (rules, wraps)
