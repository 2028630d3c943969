use Rattle.std.proofs.Common.{inl, refl}
use Rattle.command_line.proofs.StoreEnds.{memory_kind}
use Rattle.command_line.proofs.sample.sample_said.Goals as goal

pub returns-in-Err-clause-told : goal.returns-in-Err-clause-told
returns-in-Err-clause-told c = inl refl

pub returns-in-Err-clause-kind : goal.returns-in-Err-clause-kind
returns-in-Err-clause-kind c = memory_kind
