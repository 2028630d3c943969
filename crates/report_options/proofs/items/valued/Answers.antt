use Rattle.std.proofs.Common.{◌≡◌, true, false, sym, ◌∙◌}
use Rattle.report_options.specs.Items.{has_value, option_name}
use Rattle.report_options.specs.Names.{takes_value}
use Rattle.report_options.proofs.Cutting.{valued_next}
use Rattle.report_options.proofs.items.valued.Goals as goal

pub returns-then-takes_value-clause-answer : goal.returns-then-takes_value-clause-answer
returns-then-takes_value-clause-answer c =
    let word = c.args.word.now in
    let named : c.option_name-name.result ≡ option_name word = rw c.as_str.ensures at c.option_name-name.ensures in
    let own : has_value word ≡ false = sym (rw c.as_str-2.ensures at c.has_value.ensures) ∙ c.if-has_value.false in
    let takes : takes_value (option_name word) ≡ true = rw named at (sym c.takes_value.ensures ∙ c.if-takes_value.true) in
    rw (valued_next c.args.day.0 word c.args.rest.now own takes) (rw named at c.next_valued.ensures.answer)
