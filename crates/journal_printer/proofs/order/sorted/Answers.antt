use Rattle.std.proofs.Common.{List, length, get_or, ◌-◌, sym, ap, ◌∙◌}
use Rattle.std.specs.BTreeSet.{insert_key}
use Rattle.journal_printer.specs.Order.{Name, name_cmp}
use Rattle.journal_printer.proofs.Ordered.{sorted-more}
use Rattle.journal_printer.proofs.order.sorted.Goals as goal

pub loop-back-preserved : goal.loop-back-preserved
loop-back-preserved c =
    let names = c.args.names.now in
    let last : Name = (0, 0) in
    c.in_ok-insert_at.ensures last ∙ ap (λ (xs : List Name). insert_key name_cmp xs (get_or names (length names - 1 - c.loop-back.back) last)) c.loop-back.invariant
    ∙ sym (sorted-more names c.loop-back.back last c.loop-back-test.true)
