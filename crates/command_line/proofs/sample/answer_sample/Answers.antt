use Rattle.std.proofs.Common.{◌∙◌}
use Rattle.command_line.specs.Samples.{sample_answer}
use Rattle.command_line.proofs.StoreEnds.{memory_kind, memory_told}
use Rattle.command_line.proofs.sample.answer_sample.Goals as goal

pub judge_sample-requires-clause-text : goal.judge_sample-requires-clause-text
judge_sample-requires-clause-text g c κs within = c.as_slice.ensures ∙ c.in-Ok.ensures

pub returns-in-Err-clause-told : goal.returns-in-Err-clause-told
returns-in-Err-clause-told g c = memory_told (sample_answer c.args.count)

pub returns-in-Err-clause-kind : goal.returns-in-Err-clause-kind
returns-in-Err-clause-kind g c = memory_kind
