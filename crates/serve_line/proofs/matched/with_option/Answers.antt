use Rattle.std.proofs.Common.{rules, ◌≡◌, ◌∙◌, ap}
use Rattle.clap.specs.Words.{app_of, rule_of, with_rule}
use Rattle.serve_line.specs.Words.{option_rule}
use Rattle.serve_line.proofs.matched.with_option.Goals as goal

pub returns : goal.returns
returns c =
    let option_is : rule_of c.long-option.result ≡ option_rule c.args.name.now = search rules in
    c.in_ok-more.ensures.shape (search rules) ∙ ap (with_rule (app_of c.args.command)) option_is
