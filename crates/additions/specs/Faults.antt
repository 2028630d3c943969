-- What kept bytes from being read, as what keeps them from being added.
use Rattle.entry_reader.specs.declared.fault.ReadFault.{ReadFault}
use Rattle.entry_reader.specs.declared.fault.ReadFault.TheVariants as reads
use Rattle.additions.specs.declared.fault.AddFault.{AddFault}
use Rattle.additions.specs.declared.fault.AddFault.TheVariants as add

-- bytes that don't read are a fault of the whole
abbrev pub unread : ReadFault → AddFault
unread (reads.Read fault) = add.Load fault
unread reads.Memory = add.Memory
