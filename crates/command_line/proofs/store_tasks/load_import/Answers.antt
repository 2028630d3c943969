use Rattle.std.proofs.Common.{Ok, Err, refl}
use Rattle.command_line.proofs.StoreEnds.{file_kind}
use Rattle.command_line.proofs.store_tasks.load_import.Goals as goal

pub returns-in-Ok-clause-loads : goal.returns-in-Ok-clause-loads
returns-in-Ok-clause-loads g c = record {
  mid = c.load_file.new.shelf;
  read = Ok c.in-Ok.csv;
  reads = c.in-Ok.ensures;
  rules = c.load_rules.ensures.loads;
}

pub returns-in-Err-clause-loads : goal.returns-in-Err-clause-loads
returns-in-Err-clause-loads g c = record { mid = c.load_file.new.shelf; read = Err c.in-Err.refusal; reads = c.in-Err.ensures; rules = (refl, refl) }

pub returns-in-Err-clause-kind : goal.returns-in-Err-clause-kind
returns-in-Err-clause-kind g c = file_kind c.in-Err.refusal c.in-Err.ensures.kind
