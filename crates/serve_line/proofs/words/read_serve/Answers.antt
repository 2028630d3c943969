use Rattle.std.proofs.Common.{◌∙◌, ℕ, List, ap, subst}
use Rattle.hl_base.specs.Gives.{Gives}
use Rattle.serve_commands.specs.declared.answer.Serving.{Serving}
use Rattle.serve_line.specs.Words.{lent_texts, serve_read, no_reading_cause}
use Rattle.serve_line.proofs.words.read_serve.Goals as goal

pub returns : goal.returns
returns c =
    subst (λ (words : List (List ℕ)). Gives (λ (asked : Serving). asked) no_reading_cause c.read_lent.result (serve_read c.args.page.now words))
    (ap lent_texts c.as_slice.ensures.value ∙ c.in_ok-lent.ensures) c.read_lent.ensures
