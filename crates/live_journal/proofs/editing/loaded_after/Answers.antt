use Rattle.std.proofs.Common.{subst}
use Rattle.book_laws.specs.Reaching.{HasNoPlainReach}
use Rattle.walked_edits.specs.Causes.{IsCause}
use Rattle.walked_edits.specs.declared.fault.WalkFault.{WalkFault}
use Rattle.live_journal.specs.Trying.{journal_at}
use Rattle.live_journal.specs.Walking.{edit_made}
use Rattle.live_journal.proofs.Trying.{anew_past, memory_past}
use Rattle.live_journal.proofs.editing.loaded_after.Goals as goal

pub returns-in-Load : goal.returns-in-Load
returns-in-Load g c = λ before tried.
    let e = c.args.editing.now in
    anew_past e c.loaded_anew.result before c.args.steps.now c.loaded_anew.new.steps c.requires.editing c.requires.unclosed
    (subst (λ (f : WalkFault). IsCause f (HasNoPlainReach (edit_made (journal_at e) e.edit.now))) c.in-Load.is c.requires.cause) tried c.loaded_anew.ensures

pub returns-in-Memory : goal.returns-in-Memory
returns-in-Memory g c = λ before tried. memory_past c.args.editing.now before c.args.steps.now c.requires.editing c.requires.unclosed tried
