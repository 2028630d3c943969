use Rattle.std.proofs.Common.{ℕ, List, subst}
use Rattle.store_making.specs.Lines.{line_of, status_of}
use Rattle.command_line.specs.StoreTasks.{RefusedAs}
use Rattle.command_line.proofs.Sampling.{loaded_sample, refused_sample}
use Rattle.command_line.proofs.sample.judge_sample.Goals as goal

pub returns-in-Ok-clause-told : goal.returns-in-Ok-clause-told
returns-in-Ok-clause-told g c =
    loaded_sample c.args.count c.args.text.now c.requires.text c.sample_said.result c.in-Ok.ensures.good c.sample_said.ensures.told

pub returns-in-Err-clause-told : goal.returns-in-Err-clause-told
returns-in-Err-clause-told g c =
    let F : List ℕ → Type 0 = λ n. RefusedAs (status_of c.in-Err.refusal) (line_of n c.in-Err.refusal) c.refuse_journal-in-Err.result in
    refused_sample c.args.count c.args.text.now c.requires.text c.in-Err.refusal c.refuse_journal-in-Err.result c.in-Err.ensures.cause
    (subst F c.new.ensures c.refuse_journal-in-Err.ensures.refused)
