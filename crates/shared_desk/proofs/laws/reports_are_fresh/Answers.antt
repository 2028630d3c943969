use Rattle.shared_desk.proofs.Freshness.{reports_fresh}
use Rattle.shared_desk.proofs.laws.reports_are_fresh.Goals as goal

pub returns : goal.returns
returns g c = λ opening last earlier later x words legal loads is. reports_fresh opening last earlier later x words legal loads is
