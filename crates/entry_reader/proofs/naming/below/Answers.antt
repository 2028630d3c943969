use Rattle.std.proofs.Common.{ap, sym, true, ◌∙◌}
use Rattle.entry_reader.specs.Contexts.{ends_part}
use Rattle.entry_reader.proofs.Named.{not_under, under_by}
use Rattle.entry_reader.proofs.naming.below.Goals as goal

pub returns-in_err-rest : goal.returns-in_err-rest
returns-in_err-rest c = rw c.from_residual.ensures (not_under c.args.old.now c.args.name.now c.in_err-rest.ensures.cases)

pub returns-then-ends_part : goal.returns-then-ends_part
returns-then-ends_part c =
    under_by c.args.old.now c.args.name.now c.in_ok-rest.rest.now true c.in_ok-rest.ensures.cases
    (sym (ap ends_part c.as_bytes.ensures.value) ∙ sym c.ends_part.ensures ∙ c.if-ends_part.true)
