use Rattle.std.proofs.Common.{ℕ, List}
use Rattle.book.specs.Styles.{style_in}
use Rattle.register_report.specs.Lines.{register_text}
use Rattle.report_commands.proofs.Steps.{sums_give}
use Rattle.report_commands.proofs.register.register_lines.Goals as goal

pub returns : goal.returns
returns c =
    sums_give (λ (text : List ℕ). text) c.register_text.result c.args.takings.now (register_text (style_in c.args.styles.now) c.args.takings.now c.args.heads.now)
    c.register_text.ensures.text c.register_text.ensures.within c.register_text.ensures.fault
