use Rattle.std.proofs.Common.{subst}
use Rattle.entry_reader.specs.declared.fault.ReadFault.{ReadFault}
use Rattle.live_journal.specs.Placing.{IsUnread}
use Rattle.live_journal.specs.declared.fault.EditFault.TheVariants as refused
use Rattle.live_journal.proofs.Placing.{refused_since, unread_past}
use Rattle.live_journal.proofs.changing.unread.Goals as goal

pub returns-in-Read : goal.returns-in-Read
returns-in-Read g c = λ before read.
    unread_past c.args.editing.now c.loaded_anew.result before c.args.steps.now c.loaded_anew.new.steps c.requires.editing c.requires.unclosed
    (subst (λ (f : ReadFault). IsUnread c.args.editing.now f) c.in-Read.is c.requires.fault) read c.loaded_anew.ensures

pub returns-in-Memory : goal.returns-in-Memory
returns-in-Memory g c = λ before read. refused_since c.args.editing.now refused.Memory before c.args.steps.now c.requires.editing c.requires.unclosed tt read
