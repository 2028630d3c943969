use Rattle.shared_desk.proofs.Answering.{answered}
use Rattle.shared_desk.proofs.laws.each_is_answered.Goals as goal

pub returns : goal.returns
returns g c = λ opening last earlier later x legal. answered opening last earlier later x legal
