use Rattle.printed_entries.proofs.laws.printed_reads.Goals as goal
use Rattle.printed_entries.proofs.Assembled.{plain_prints}

pub returns : goal.returns
returns c shape detail year line txn shapes plain short = plain_prints shape detail year line txn shapes plain short
