use Rattle.generated.proofs.Kept.{kept_with}
use Rattle.generated.proofs.laws.assignments_stay.Goals as goal

pub returns : goal.returns
returns c = kept_with
