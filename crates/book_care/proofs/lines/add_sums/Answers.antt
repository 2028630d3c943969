use Rattle.std.proofs.Common.{◌<◌, List, [], ◌∷◌, ◌++◌, length, take, append_assoc, ap, ◌∙◌, arith}
use Rattle.report_cells.specs.Report.{seen}
use Rattle.book_care.specs.Kept.{sum_lines}
use Rattle.book_care.specs.Lines.{Moved}
use Rattle.book_care.proofs.Adding.{sums_more}
use Rattle.book_care.proofs.lines.add_sums.Goals as goal

pub loop-symbol-preserved : goal.loop-symbol-preserved
loop-symbol-preserved c =
    let within : c.loop-symbol.symbol-index < length c.entries-symbol-items.result.now = omega arith in
    c.in_ok-push.ensures.items
    ∙ ap (λ (ls : List Moved). ls ++ record { account = c.args.account.now; symbol = c.loop-symbol-item.result.0; value = c.signed.result } ∷ []) c.loop-symbol.invariant
    ∙ append_assoc c.args.lines.now.items (sum_lines c.args.turns c.args.account.now (seen (take c.loop-symbol.symbol-index c.entries-symbol-items.result.now))) (record { account = c.args.account.now; symbol = c.loop-symbol-item.result.0; value = c.signed.result } ∷ [])
    ∙ ap (λ (ls : List Moved). c.args.lines.now.items ++ ls)
    (sums_more c.args.turns c.args.account.now c.entries-symbol-items.result.now c.loop-symbol.symbol-index c.loop-symbol-item.result c.signed.result within c.loop-symbol-item.is c.signed.ensures)
