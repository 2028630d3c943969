use Rattle.std.proofs.Common.{Result, subst}
use Rattle.std.specs.Prelude.{IfErr, IfOk}
use Rattle.changed_texts.specs.declared.met.Met.{Met}
use Rattle.entry_reader.specs.declared.fault.ReadFault.{ReadFault}
use Rattle.live_journal.specs.Placing.{IsMetAt, IsUnread}
use Rattle.live_journal.proofs.changing.change_entry.Goals as goal

pub walk_met-requires-clause-met : goal.walk_met-requires-clause-met
walk_met-requires-clause-met g c =
    subst (λ (r : Result Met ReadFault). IfOk r (IsMetAt c.args.editing.now c.args.number c.args.loaded.now.items)) c.in-Ok.is c.read_inside.ensures.met

pub unread-requires-clause-fault : goal.unread-requires-clause-fault
unread-requires-clause-fault g c = subst (λ (r : Result Met ReadFault). IfErr r (IsUnread c.args.editing.now)) c.in-Err.is c.read_inside.ensures.fault

pub returns-in-Ok-clause-comes : goal.returns-in-Ok-clause-comes
returns-in-Ok-clause-comes g c = c.walk_met.ensures.comes c.args.steps.now c.read_inside.ensures.counts

pub returns-in-Err-clause-comes : goal.returns-in-Err-clause-comes
returns-in-Err-clause-comes g c = c.unread.ensures c.args.steps.now c.read_inside.ensures.counts
