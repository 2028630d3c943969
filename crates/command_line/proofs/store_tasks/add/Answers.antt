use Rattle.std.proofs.Common.{Ok, Err, refl}
use Rattle.command_words.specs.declared.task.Origin.TheVariants as origins
use Rattle.command_line.proofs.StoreEnds.{source_kind}
use Rattle.command_line.proofs.store_tasks.add.Goals as goal

pub returns-in-Ok-clause-adds : goal.returns-in-Ok-clause-adds
returns-in-Ok-clause-adds g c = record {
  mid = c.read_text.new.outside;
  read = Ok c.in-Ok.entry;
  reads = c.in-Ok.ensures.reads;
  stays = (c.in-Ok.ensures.shelf, c.in-Ok.ensures.maker);
  adds = c.edit.ensures.edits;
}

pub returns-in-Err-clause-adds : goal.returns-in-Err-clause-adds
returns-in-Err-clause-adds g c = record {
  mid = c.read_text.new.outside;
  read = Err c.in-Err.refusal;
  reads = c.in-Err.ensures.reads;
  stays = (c.in-Err.ensures.shelf, c.in-Err.ensures.maker);
  adds = (refl, refl);
}

pub returns-in-Err-clause-kind : goal.returns-in-Err-clause-kind
returns-in-Err-clause-kind g c = source_kind origins.Input c.in-Err.refusal c.in-Err.ensures.reads.kind
