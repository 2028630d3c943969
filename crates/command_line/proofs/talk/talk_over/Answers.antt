use Rattle.std.proofs.Common.{Ok, Err, refl}
use Rattle.command_line.proofs.talk.talk_over.Goals as goal

pub returns-in-Ok-clause-talks : goal.returns-in-Ok-clause-talks
returns-in-Ok-clause-talks g c = record { made = Ok c.in-Ok.end; talks = c.in-Ok.ensures.talks; untouched = tt; told = refl; rest = refl }

pub returns-in-Err-clause-talks : goal.returns-in-Err-clause-talks
returns-in-Err-clause-talks g c =
    record { made = Err c.in-Err.refusal; talks = c.in-Err.ensures.talks; untouched = c.in-Err.ensures.untouched; told = c.refuse_journal.ensures.refused; rest = refl }
