use Rattle.std.proofs.Common.{◌≡◌, IfOk, Option, subst, sym}
use Rattle.csv_entries.specs.declared.fields.Fields.{Fields}
use Rattle.bank_explanations.proofs.Rows.{row_none, row_there}
use Rattle.bank_explanations.proofs.parts.fields_of_row.Goals as goal

pub returns-in-Some : goal.returns-in-Some
returns-in-Some c =
    subst (λ (x : Option Fields). IfOk c.fields_in.result (λ g. g ≡ x))
    (row_there c.args.rules.now c.args.rows.now c.args.place c.in-Some.row.now c.in-Some.ensures.lookup.3.0 c.in-Some.ensures.lookup.1) c.fields_in.ensures

pub returns-in-None : goal.returns-in-None
returns-in-None c = sym (row_none c.args.rules.now c.args.rows.now c.args.place c.in-None.ensures.lookup.3)
