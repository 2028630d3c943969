use Rattle.command_line.proofs.StoreEnds.{memory_kind}
use Rattle.command_line.proofs.bank_faults.answer_explained.Goals as goal

pub returns-in-Err-clause-kind : goal.returns-in-Err-clause-kind
returns-in-Err-clause-kind c = memory_kind
