use Rattle.std.proofs.Common.{List, map, ap, ◌∙◌}
use Rattle.std.proofs.lemmas.Result.{IfOk-weaker}
use Rattle.report_cells.specs.Report.{accounts_in}
use Rattle.report_cells.specs.Taken.{Taken}
use Rattle.report_takings.specs.Asking.{question_of}
use Rattle.journal_listings.specs.Listed.{account_lines, without_amount}
use Rattle.journal_listings.proofs.Shown.{listed_are}
use Rattle.journal_listings.proofs.accounts.list_accounts.Goals as goal

pub returns : goal.returns
returns c =
    IfOk-weaker c.account_list.result _ _ (λ text is.
    is
    ∙ ap (λ (ts : List Taken). account_lines (accounts_in ts)) c.deref-2.ensures.value
    ∙ listed_are (question_of c.args.scope.now) c.in_ok-takings.takings.items c.in_ok-bare.bare.items c.in_ok-takings.ensures (c.in_ok-bare.ensures ∙ ap (map without_amount) c.deref.ensures.value)) c.account_list.ensures
