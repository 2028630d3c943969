-- What the error of a check means.
use Rattle.std.specs.Prelude.{Option, Some, None}
use Rattle.book.specs.declared.fault.Fault.{Fault}
use Rattle.balancing.specs.declared.fault.CheckFault.{CheckFault}
use Rattle.balancing.specs.declared.fault.CheckFault.TheVariants as check

-- the fault of the text that an error tells; want of memory tells none
abbrev pub cause_in : CheckFault → Option Fault
cause_in (check.Journal fault) = Some fault
cause_in check.Memory = None
