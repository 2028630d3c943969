use Rattle.std.proofs.Common.{◌≡◌, ◌<◌, ◌≤◌, List, [], ◌∷◌, ◌++◌, length, filter, take, take_all, sym, ap, ◌∙◌, arith}
use Rattle.prices.proofs.Both.{take_more}
use Rattle.report_cells.specs.Taken.{Taken}
use Rattle.report_values.specs.Cells.{fits_in}
use Rattle.report_values.proofs.Lists.{filter-push}
use Rattle.report_values.proofs.fitting.fitting.Goals as goal

pub loop-taking-preserved : goal.loop-taking-preserved
loop-taking-preserved c =
    let all = c.args.takings.now in
    let i = c.loop-taking.taking-index in
    let within : c.loop-taking.taking-index < length c.args.takings.now = omega arith in
    let t = c.taking-item.result in
    c.in_ok-keep.ensures c.args.takings.now c.in_ok-totals.ensures
    ∙ ap (λ (ts : List Taken). ts ++ filter (λ (t : Taken). fits_in c.args.takings.now t.amount) (c.taking-item.result ∷ [])) c.loop-taking.invariant
    ∙ sym (filter-push (λ (t : Taken). fits_in c.args.takings.now t.amount) (take c.loop-taking.taking-index c.args.takings.now) (c.taking-item.result ∷ []))
    ∙ sym (ap (filter (λ (t : Taken). fits_in c.args.takings.now t.amount)) (take_more c.args.takings.now c.loop-taking.taking-index c.taking-item.result within c.taking-item.is))
