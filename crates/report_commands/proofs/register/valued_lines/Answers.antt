use Rattle.std.proofs.Common.{ℕ, List, subst}
use Rattle.std.proofs.lemmas.Result.{err_from_is_err_and}
use Rattle.hl_base.specs.Gives.{Gives}
use Rattle.book.specs.Styles.{style_in}
use Rattle.register_report.specs.Heads.{Headed}
use Rattle.report_cells.specs.Taken.{Taken}
use Rattle.report_sums.specs.Celled.{cause}
use Rattle.report_sums.specs.Matters.{matter_of}
use Rattle.report_sums.specs.Worths.{worths_of}
use Rattle.report_takings.specs.Asking.{question_of}
use Rattle.report_commands.specs.Answered.{register_heads, register_lines}
use Rattle.report_commands.proofs.Steps.{stop_gives, then_gives}
use Rattle.report_commands.proofs.register.valued_lines.Goals as goal

pub returns : goal.returns
returns c =
    let m = matter_of c.args.job.now in
    let style = style_in c.args.job.now.styles.now in
    let heads = register_heads (question_of c.args.job.now.scope) c.args.span in
    then_gives (λ (text : List ℕ). text) c.register_lines.result (worths_of m c.args.span c.args.takings.items) c.in_ok-values.values.items
    (register_lines style heads)
    c.in_ok-values.ensures
    (subst (λ (hs : List Headed). Gives (λ (text : List ℕ). text) cause c.register_lines.result (register_lines style hs c.in_ok-values.values.items)) c.requires
    (subst (λ (ts : List Taken). Gives (λ (text : List ℕ). text) cause c.register_lines.result (register_lines style c.args.heads.now ts)) c.deref.ensures.value
    c.register_lines.ensures))

pub returns-in_err-values : goal.returns-in_err-values
returns-in_err-values c =
    let m = matter_of c.args.job.now in
    let style = style_in c.args.job.now.styles.now in
    let heads = register_heads (question_of c.args.job.now.scope) c.args.span in
    let p = err_from_is_err_and c.from_residual.result c.from_residual.ensures.1 in
    rw (p.1, p.2) (stop_gives c.in_err-values.field-0.0 (worths_of m c.args.span c.args.takings.items) (register_lines style heads) c.in_err-values.ensures)
