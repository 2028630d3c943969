use Rattle.replica_laws.proofs.Fed.{source_leads}
use Rattle.replica_laws.proofs.laws.fed_sources_lead_on.Goals as goal

pub returns : goal.returns
returns c = λ opening events n shown end bytes made has here leads. source_leads opening made events n shown end bytes has here leads
