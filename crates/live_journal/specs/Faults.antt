-- How the refusal of a text is one of an edit.
use Rattle.additions.specs.declared.fault.AddFault.{AddFault}
use Rattle.additions.specs.declared.fault.AddFault.TheVariants as add
use Rattle.entry_reader.specs.declared.fault.ReadFault.{ReadFault}
use Rattle.entry_reader.specs.declared.fault.ReadFault.TheVariants as reads
use Rattle.live_journal.specs.declared.fault.EditFault.{EditFault}
use Rattle.live_journal.specs.declared.fault.EditFault.TheVariants as refused
use Rattle.live_journal.specs.declared.fault.OpenFault.{OpenFault}
use Rattle.live_journal.specs.declared.fault.OpenFault.TheVariants as unopened

-- the new text is refused as any text is
abbrev pub as_refusal : OpenFault → EditFault
as_refusal (unopened.Load fault) = refused.Load fault
as_refusal (unopened.TooLarge limit size) = refused.TooLarge limit size
as_refusal unopened.Memory = refused.Memory

-- and so is one that has the fault of what is put behind it
abbrev pub added_refusal : AddFault → EditFault
added_refusal (add.Load fault) = refused.Load fault
added_refusal add.Memory = refused.Memory

-- or that of bytes in the place of an entry
abbrev pub unread_refusal : ReadFault → EditFault
unread_refusal (reads.Read fault) = refused.Load fault
unread_refusal reads.Memory = refused.Memory
