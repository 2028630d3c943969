use Rattle.report_takings.specs.Asking.{question_of}
use Rattle.journal_listings.proofs.Shown.{shown_are}
use Rattle.journal_listings.proofs.accounts.taken.Goals as goal

pub returns-in-Ok : goal.returns-in-Ok
returns-in-Ok c = shown_are (question_of c.args.scope.now) c.requires.alone c.args.columns.now c.in-Ok.takings.items c.requires.span c.in-Ok.ensures.taken
