use Rattle.shared_desk.proofs.Changing.{done_change}
use Rattle.shared_desk.proofs.laws.done_is_a_change.Goals as goal

pub returns : goal.returns
returns g c = λ before after entry served done. done_change before after entry served done
