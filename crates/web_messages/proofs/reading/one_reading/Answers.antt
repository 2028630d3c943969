use Rattle.web_messages.proofs.Readings.{readings_agree}
use Rattle.web_messages.proofs.reading.one_reading.Goals as goal

pub returns : goal.returns
returns c bytes before other rest other_rest ending other_ending a b = readings_agree bytes before other rest other_rest ending other_ending a b
