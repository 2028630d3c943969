use Rattle.text_ends.proofs.Plain.{plain_told}
use Rattle.text_ends.proofs.laws.plain_bytes_are_told.Goals as goal

pub returns : goal.returns
returns c = plain_told
