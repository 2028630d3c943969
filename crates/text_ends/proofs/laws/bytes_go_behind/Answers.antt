use Rattle.text_ends.proofs.Saying.{goes_on}
use Rattle.text_ends.proofs.laws.bytes_go_behind.Goals as goal

pub returns : goal.returns
returns c = goes_on
