use Rattle.hl_num.proofs.NearestLaws.{rounded-nearest}
use Rattle.hl_num.proofs.decimal.Dec.round_half_even.Goals as goal

pub returns-clause-nearest : goal.returns-clause-nearest
returns-clause-nearest c = rw c.rounded.ensures.value (rounded-nearest c.args.self c.args.places c.rounded.ensures.bound)
