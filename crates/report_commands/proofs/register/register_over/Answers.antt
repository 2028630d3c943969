use Rattle.std.proofs.Common.{ℕ, List, Ok, map, sym, ap, ◌∙◌}
use Rattle.std.proofs.lemmas.Result.{err_from_is_err_and}
use Rattle.register_report.specs.Selected.{all_in}
use Rattle.report_cells.specs.Taken.{Taken}
use Rattle.report_sums.specs.Matters.{matter_of}
use Rattle.report_takings.specs.Asking.{question_of}
use Rattle.report_takings.specs.Takings.{out_among, taken}
use Rattle.report_takings.specs.declared.entries.Part.TheVariants.{Counted}
use Rattle.report_commands.specs.Answered.{register_takings, valued_lines}
use Rattle.report_commands.proofs.Steps.{cost_stops, stop_gives, then_gives, within_is}
use Rattle.report_commands.proofs.register.register_over.Goals as goal

pub valued_lines-requires : goal.valued_lines-requires
valued_lines-requires c = c.deref.ensures.value ∙ c.in_ok-taken.ensures.heads

pub returns : goal.returns
returns c =
    let asked = question_of c.args.job.now.scope in
    let entries = all_in asked c.args.span in
    then_gives (λ (text : List ℕ). text) c.valued_lines.result (register_takings asked c.args.span) c.in_ok-taken.taken.takings.items
    (valued_lines (matter_of c.args.job.now) c.args.span)
    (within_is (out_among asked.options entries) (map (taken Counted asked) entries) c.in_ok-taken.ensures.within
    ∙ ap (λ (ts : List Taken). Ok ts) (sym c.in_ok-taken.ensures.takings))
    c.valued_lines.ensures

pub returns-in_err-taken : goal.returns-in_err-taken
returns-in_err-taken c =
    let asked = question_of c.args.job.now.scope in
    let entries = all_in asked c.args.span in
    let p = err_from_is_err_and c.from_residual.result c.from_residual.ensures.1 in
    rw (p.1, p.2) (stop_gives c.in_err-taken.field-0.0 (register_takings asked c.args.span)
    (valued_lines (matter_of c.args.job.now) c.args.span)
    (cost_stops asked.options entries c.in_err-taken.field-0.0 (map (taken Counted asked) entries) c.in_err-taken.ensures.fault))
