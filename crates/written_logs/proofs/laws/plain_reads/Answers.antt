use Rattle.written_logs.proofs.laws.plain_reads.Goals as goal
use Rattle.written_logs.proofs.Whole.{plain_reads}

pub returns : goal.returns
returns c shape detail year txns own are short = plain_reads shape detail year txns own are short
