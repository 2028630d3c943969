use Rattle.std.proofs.Common.{◌∙◌}
use Rattle.book.specs.Styles.{style_in}
use Rattle.register_report.proofs.Stepping.{further_is}
use Rattle.register_report.proofs.lines.push_further.Goals as goal

pub returns : goal.returns
returns c =
    further_is (style_in c.args.styles.now) c.args.sum.now c.args.out.now.items c.push_spaces.new.out.items c.push_line.new.out.items c.as_str.result.now c.push_line.result
    c.in_ok-push_spaces.ensures (c.as_str.ensures ∙ c.in_ok-text.ensures) c.push_line.ensures
