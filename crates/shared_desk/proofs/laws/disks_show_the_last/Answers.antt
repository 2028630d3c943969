use Rattle.shared_desk.proofs.Lasting.{left}
use Rattle.shared_desk.proofs.laws.disks_show_the_last.Goals as goal

pub returns : goal.returns
returns g c = λ opening last history pending legal stands. left opening last history pending legal stands
