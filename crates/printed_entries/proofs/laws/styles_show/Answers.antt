use Rattle.printed_entries.proofs.laws.styles_show.Goals as goal
use Rattle.printed_entries.proofs.Styled.{styles_show}

pub returns : goal.returns
returns c year text items styles read same = styles_show year text items styles read same
