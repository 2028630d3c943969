use Rattle.std.proofs.Common.{Some, sym, ap, ◌∙◌}
use Rattle.std.proofs.lemmas.List.{nil_from_length}
use Rattle.hl_num.specs.Decimal.{Decimal, units_of}
use Rattle.report_cells.specs.Report.{seen}
use Rattle.balance_rows.specs.Kept.{KeptSums}
use Rattle.budget_layout.specs.Percents.{alone_in}
use Rattle.budget_layout.proofs.percent.alone_in.Goals as goal

pub returns-in-Some : goal.returns-in-Some
returns-in-Some c =
    c.alone.ensures ∙ sym (ap (λ (sums : KeptSums). alone_in c.args.symbol.now (seen sums)) c.in-Some.ensures.cases.0)

pub returns-in-None : goal.returns-in-None
returns-in-None c =
    ap (λ (d : Decimal). Some (units_of d)) c.zero.ensures
    ∙ sym (ap (λ (sums : KeptSums). alone_in c.args.symbol.now (seen sums)) (nil_from_length c.args.sums.now c.in-None.ensures.cases))
