use Rattle.printed_entries.proofs.laws.entry_reads.Goals as goal
use Rattle.printed_entries.proofs.Clear.{entry_prints}

pub returns : goal.returns
returns c year text items line txn read clear plain short = entry_prints year text items line txn read clear plain short
