use Rattle.shared_desk.proofs.Refusing.{counted}
use Rattle.shared_desk.proofs.laws.refusals_are_counted.Goals as goal

pub returns : goal.returns
returns c = λ before now last_before last_now entries tells. counted before now last_before last_now entries tells
