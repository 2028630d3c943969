use Rattle.std.proofs.Common.{ℕ, List, get_or, sym, ap, subst, ◌∙◌}
use Rattle.std.specs.List.{flat_map}
use Rattle.std.proofs.lemmas.List.{take_all}
use Rattle.hl_num.specs.Decimal.{Decimal}
use Rattle.book.specs.Entries.{IsRising}
use Rattle.book.specs.Styles.{style_in}
use Rattle.report_cells.specs.Report.{seen}
use Rattle.balance_rows.specs.Kept.{KeptSums}
use Rattle.balance_layouts.specs.Averages.{averages}
use Rattle.balance_layouts.specs.KeptAverages.{StandBefore, kept_average}
use Rattle.balance_layouts.proofs.AverageLaws.{kept_is}
use Rattle.balance_layouts.proofs.Behind.{averages_before}
use Rattle.balance_layouts.proofs.averaging.averages.Goals as goal

pub put_average-requires : goal.put_average-requires
put_average-requires c =
    let entries : KeptSums = c.entries-entries.result.now in
    let item : List ℕ × Decimal = c.loop-symbol-item.result in
    let at : ℕ = c.loop-symbol.symbol-index in
    let rising : IsRising entries = subst (λ (es : KeptSums). IsRising es) (sym c.entries-entries.ensures.value) c.entries-entries.ensures.ordered.rising in
    let before = averages_before c.args.columns (style_in c.args.styles.now) entries at item rising c.loop-symbol-test.true in
    subst (λ (x : List ℕ × Decimal). StandBefore x.0 c.loop-symbol.made) (sym c.loop-symbol-item.is)
    (subst (λ (made : KeptSums). StandBefore (get_or entries at item).0 made) (sym c.loop-symbol.invariant.made) before)

pub returns-clause-averages : goal.returns-clause-averages
returns-clause-averages c =
    let style = style_in c.args.styles.now in
    let entries : KeptSums = c.entries-entries.result.now in
    ap seen (c.loop-symbol.invariant.made ∙ ap (flat_map (kept_average c.args.columns style)) (take_all c.loop-symbol.symbol-index entries c.loop-symbol-test.false))
    ∙ kept_is c.args.columns style entries
    ∙ ap (λ (es : KeptSums). averages c.args.columns style (seen es)) c.entries-entries.ensures.value
