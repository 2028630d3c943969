use Rattle.std.proofs.Common.{Ok, Err, ℕ, List, refl, subst}
use Rattle.command_line.specs.StoreTasks.{MadeOf}
use Rattle.command_line.proofs.StoreEnds.{source_kind}
use Rattle.command_line.proofs.store_tasks.init.Goals as goal

pub returns-in-Ok-clause-inits : goal.returns-in-Ok-clause-inits
returns-in-Ok-clause-inits g c =
    let F : List ℕ → Type 0 = λ t. MadeOf g.S.Shelf g.S.Disk.Disk c.args.what.now t c.read_text.new.outside.shelf c.make_store.new.shelf c.make_store.result in
    record {
      mid = c.read_text.new.outside;
      read = Ok c.in-Ok.text;
      reads = c.in-Ok.ensures.reads;
      shelf = c.in-Ok.ensures.shelf;
      makes = subst F c.as_slice.ensures c.make_store.ensures.made;
      rest = refl;
    }

pub returns-in-Err-clause-inits : goal.returns-in-Err-clause-inits
returns-in-Err-clause-inits g c = record {
  mid = c.read_text.new.outside;
  read = Err c.in-Err.refusal;
  reads = c.in-Err.ensures.reads;
  shelf = c.in-Err.ensures.shelf;
  makes = (refl, refl);
  rest = refl;
}

pub returns-in-Err-clause-kind : goal.returns-in-Err-clause-kind
returns-in-Err-clause-kind g c = source_kind c.args.what.now.source c.in-Err.refusal c.in-Err.ensures.reads.kind
