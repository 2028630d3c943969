use Rattle.std.proofs.Common.{◌≡◌, ◌<◌, ◌≤◌, ℕ, List, [], ◌∷◌, ◌++◌, length, take, take_all, Option, sym, ap, subst, ◌∙◌, arith}
use Rattle.prices.proofs.Both.{take_more}
use Rattle.report_cells.specs.Taken.{Taken}
use Rattle.report_values.specs.Totals.{AreTotals, Totals}
use Rattle.report_values.proofs.Summing.{totals_none}
use Rattle.report_values.proofs.fitting.totals_of.Goals as goal

pub loop-taking-init : goal.loop-taking-init
loop-taking-init c = subst (λ (kept : Totals). AreTotals kept []) (sym c.new-totals.ensures.empty) totals_none

pub loop-taking-preserved : goal.loop-taking-preserved
loop-taking-preserved c =
    let within : c.loop-taking.taking-index < length c.args.takings.now = omega arith in
    subst (AreTotals c.note.new.totals.entries) (sym (take_more c.args.takings.now c.loop-taking.taking-index c.taking-item.result within c.taking-item.is))
    (c.in_ok-note.ensures (take c.loop-taking.taking-index c.args.takings.now) c.taking-item.result c.loop-taking.invariant (sym (ap (λ (t : Taken). t.amount) c.taking.view_is)))
