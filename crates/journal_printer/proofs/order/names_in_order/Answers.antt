use Rattle.std.proofs.Common.{sym, ap, ◌∙◌}
use Rattle.book.specs.Order.{each_once}
use Rattle.journal_printer.specs.Order.{is_rising, name_cmp}
use Rattle.journal_printer.proofs.Ordered.{rising-is}
use Rattle.journal_printer.proofs.order.names_in_order.Goals as goal

pub returns-then-is_rising : goal.returns-then-is_rising
returns-then-is_rising c =
    let names = c.in_ok-names.names.items in
    let was = ap is_rising (sym c.as_slice.ensures.value) ∙ sym c.is_rising.ensures ∙ c.if-is_rising.true in
    rising-is names was ∙ ap (each_once name_cmp) c.in_ok-names.ensures
