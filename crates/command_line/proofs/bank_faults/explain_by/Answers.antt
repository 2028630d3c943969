use Rattle.std.proofs.Common.{ℕ, List, Ok, Err, refl, subst}
use Rattle.command_line.specs.BankFiles.{ExplainsBytes}
use Rattle.command_line.proofs.StoreEnds.{file_kind}
use Rattle.command_line.proofs.bank_faults.explain_by.Goals as goal

pub returns-in-Ok-clause-explains : goal.returns-in-Ok-clause-explains
returns-in-Ok-clause-explains g c =
    let old = record (c.args.outside.now) { shelf = c.load_file.new.shelf } in
    let F : List ℕ → Type 0 = λ t. ExplainsBytes g.M.Maker c.args.csv.now t old c.explain_bytes.new.outside c.explain_bytes.result in
    record {
      mid = c.load_file.new.shelf;
      read = Ok c.in-Ok.rules;
      reads = c.in-Ok.ensures;
      goes = subst F c.as_slice.ensures c.explain_bytes.ensures.explains;
    }

pub returns-in-Err-clause-explains : goal.returns-in-Err-clause-explains
returns-in-Err-clause-explains g c = record { mid = c.load_file.new.shelf; read = Err c.in-Err.refusal; reads = c.in-Err.ensures; goes = (refl, refl) }

pub returns-in-Err-clause-kind : goal.returns-in-Err-clause-kind
returns-in-Err-clause-kind g c = file_kind c.in-Err.refusal c.in-Err.ensures.kind
