use Rattle.std.proofs.Common.{◌∙◌, ap, codes}
use Rattle.clap.specs.Words.{App, with_rule}
use Rattle.serve_line.specs.Words.{page_rule, with_option}
use Rattle.serve_line.proofs.matched.serve_command.Goals as goal

pub returns : goal.returns
returns c =
    c.in_ok-paged.ensures ∙ ap (λ (a : App). with_rule a page_rule) (
    c.in_ok-limited.ensures ∙ ap (λ (a : App). with_option a (codes "connections")) (
    c.in_ok-staffed.ensures ∙ ap (λ (a : App). with_option a (codes "workers")) (
    c.in_ok-allowed.ensures ∙ ap (λ (a : App). with_option a (codes "allow")) (
    c.in_ok-ported.ensures ∙ ap (λ (a : App). with_option a (codes "port")) (
    c.in_ok-hosted.ensures ∙ ap (λ (a : App). with_option a (codes "host")) c.in_ok-stored.ensures)))))
