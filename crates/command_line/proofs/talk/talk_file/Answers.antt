use Rattle.std.proofs.Common.{Ok, Err, ℕ, List, refl, subst}
use Rattle.command_words.specs.declared.task.Origin.TheVariants as origins
use Rattle.command_line.specs.Scenes.{scene}
use Rattle.command_line.specs.Talks.{TalkedText}
use Rattle.command_line.proofs.StoreEnds.{source_kind}
use Rattle.command_line.proofs.talk.talk_file.Goals as goal

pub returns-in-Ok-clause-talks : goal.returns-in-Ok-clause-talks
returns-in-Ok-clause-talks g c =
    let F : List ℕ → Type 0 = λ t. TalkedText (scene g.J.Source g.O.Sink g.E.Sink g.S.Shelf g.M.Maker) g.M.Maker t c.args.terms.allow c.args.terms.day
    c.read_text.new.outside c.talk_text.new.outside c.talk_text.result in
    record {
      mid = c.read_text.new.outside;
      read = Ok c.in-Ok.text;
      reads = c.in-Ok.ensures.reads;
      shelf = c.in-Ok.ensures.shelf;
      rest = c.in-Ok.ensures.file tt;
      talks = subst F c.as_slice.ensures c.talk_text.ensures.talks;
    }

pub returns-clause-talks : goal.returns-clause-talks
returns-clause-talks g c = record {
  mid = c.read_text.new.outside;
  read = Err c.in-Err.refusal;
  reads = c.in-Err.ensures.reads;
  shelf = c.in-Err.ensures.shelf;
  rest = c.in-Err.ensures.file tt;
  talks = (refl, refl);
}

pub returns-clause-kind : goal.returns-clause-kind
returns-clause-kind g c = source_kind (origins.File c.args.name) c.in-Err.refusal c.in-Err.ensures.reads.kind
