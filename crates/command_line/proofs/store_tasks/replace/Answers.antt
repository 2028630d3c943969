use Rattle.std.proofs.Common.{Ok, Err, refl}
use Rattle.command_line.proofs.StoreEnds.{source_kind}
use Rattle.command_line.proofs.store_tasks.replace.Goals as goal

pub returns-in-Ok-clause-replaces : goal.returns-in-Ok-clause-replaces
returns-in-Ok-clause-replaces g c = record {
  mid = c.read_text.new.outside;
  read = Ok c.in-Ok.text;
  reads = c.in-Ok.ensures.reads;
  shelf = c.in-Ok.ensures.shelf;
  maker = c.in-Ok.ensures.maker;
  replaces = c.replace_by.ensures.replaces;
}

pub returns-in-Err-clause-replaces : goal.returns-in-Err-clause-replaces
returns-in-Err-clause-replaces g c = record {
  mid = c.read_text.new.outside;
  read = Err c.in-Err.refusal;
  reads = c.in-Err.ensures.reads;
  shelf = c.in-Err.ensures.shelf;
  maker = c.in-Err.ensures.maker;
  replaces = (refl, refl);
}

pub returns-in-Err-clause-kind : goal.returns-in-Err-clause-kind
returns-in-Err-clause-kind g c = source_kind c.args.what.now.source c.in-Err.refusal c.in-Err.ensures.reads.kind
