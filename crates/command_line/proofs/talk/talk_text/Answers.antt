use Rattle.std.proofs.Common.{Ok, Err, ℕ, List, refl, subst}
use Rattle.store_making.specs.Lines.{line_of, status_of}
use Rattle.command_line.specs.StoreTasks.{RefusedAs}
use Rattle.command_line.proofs.talk.talk_text.Goals as goal

pub returns-in-Ok-clause-talks : goal.returns-in-Ok-clause-talks
returns-in-Ok-clause-talks g c = record { made = Ok c.in-Ok.end; talks = c.in-Ok.ensures.talks; untouched = tt; told = refl; rest = refl }

pub returns-in-Err-clause-talks : goal.returns-in-Err-clause-talks
returns-in-Err-clause-talks g c =
    let F : List ℕ → Type 0 = λ n. RefusedAs (status_of c.in-Err.refusal) (line_of n c.in-Err.refusal) c.refuse_journal-in-Err.result in
    record { made = Err c.in-Err.refusal; talks = c.in-Err.ensures.talks; untouched = c.in-Err.ensures.untouched; told = subst F c.new.ensures c.refuse_journal-in-Err.ensures.refused; rest = refl }
