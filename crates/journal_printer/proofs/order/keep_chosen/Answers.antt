use Rattle.std.proofs.Common.{rules}
use Rattle.std.proofs.lemmas.Fn.{filter_same}
use Rattle.journal_printer.specs.Order.{Name, is_chosen}
use Rattle.journal_printer.proofs.order.keep_chosen.Goals as goal

pub returns : goal.returns
returns c = filter_same _ (λ (name : Name). is_chosen c.args.chosen.now name) _ (λ x b g h. search rules) _ _ c.retain.ensures.filtered
