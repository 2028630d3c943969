use Rattle.std.proofs.Common.{◌∙◌}
use Rattle.std.proofs.lemmas.Result.{IfOk-weaker}
use Rattle.report_takings.specs.Asking.{question_of}
use Rattle.journal_listings.proofs.Spanned.{same_text}
use Rattle.journal_listings.proofs.accounts.accounts_report.Goals as goal

pub returns : goal.returns
returns c =
    let alone = c.bounds_alone-options in
    IfOk-weaker c.list_accounts.result _ _ (λ text is.
    is ∙ same_text (question_of c.args.scope.now) alone.result.bounds.from alone.result.bounds.end alone.ensures.from alone.ensures.end) c.list_accounts.ensures
