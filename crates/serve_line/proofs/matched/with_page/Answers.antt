use Rattle.std.proofs.Common.{rules, ◌≡◌, ◌∙◌, ap}
use Rattle.clap.specs.Words.{app_of, rule_of, with_rule}
use Rattle.serve_line.specs.Words.{page_rule}
use Rattle.serve_line.proofs.matched.with_page.Goals as goal

pub returns : goal.returns
returns c =
    let flag_is : rule_of c.action-flag.result ≡ page_rule = search rules in
    c.in_ok-more.ensures.shape (search rules) ∙ ap (with_rule (app_of c.args.command)) flag_is
