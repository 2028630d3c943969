use Rattle.std.proofs.Common.{ap, ◌∙◌}
use Rattle.std.specs.BTreeSet.{insert_key}
use Rattle.journal_printer.specs.Order.{Name, name_cmp}
use Rattle.journal_printer.proofs.Ordered.{any_default}
use Rattle.journal_printer.proofs.order.insert_at.Goals as goal

pub returns : goal.returns
returns c = λ d. c.in_ok-insert.ensures.keys ∙ ap (λ (a : Name). insert_key name_cmp c.args.set.now.keys a) (any_default c.args.names.now c.args.at _ d c.requires)
