use Rattle.std.proofs.Common.{rules, ◌≡◌, ◌∙◌, ap₂}
use Rattle.clap.specs.Words.{rule_of, with_rule}
use Rattle.serve_line.specs.Words.{store_rule}
use Rattle.serve_line.proofs.matched.with_store.Goals as goal

pub returns : goal.returns
returns c =
    let name_is : rule_of c.required-name.result ≡ store_rule = search rules in
    c.in_ok-command.ensures.shape (search rules) ∙ ap₂ with_rule c.new-2.ensures.app name_is
