use Rattle.std.proofs.Common.{Option, subst}
use Rattle.hl_base.specs.declared.change.Splice.{Splice as Part}
use Rattle.text_store.specs.Parsed.{IsPartIn}
use Rattle.text_store.proofs.Payloads.{no_part, part_change}
use Rattle.text_store.proofs.parsing.read_part.Goals as goal

pub returns-in-None : goal.returns-in-None
returns-in-None c =
    no_part c.args.payload.now (subst (λ (found : Option Part). IsPartIn c.args.payload.now found) c.in-None.is c.in_ok-read_splice.ensures)

pub returns-in-Some : goal.returns-in-Some
returns-in-Some c =
    part_change c.args.payload.now c.in-Some.part (subst (λ (found : Option Part). IsPartIn c.args.payload.now found) c.in-Some.is c.in_ok-read_splice.ensures)
