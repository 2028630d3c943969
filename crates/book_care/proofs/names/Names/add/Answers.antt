use Rattle.std.proofs.Common.{sym, ap, ◌∙◌}
use Rattle.book_care.specs.Names.{has}
use Rattle.book_care.proofs.Naming.{there_already}
use Rattle.book_care.proofs.names.Names.add.Goals as goal

pub returns-then-has : goal.returns-then-has
returns-then-has c =
    λ q. there_already (has c.args.self.now) c.args.name.now q (ap (has c.args.self.now) (sym c.as_str.ensures) ∙ sym c.has.ensures ∙ c.if-has.true)
