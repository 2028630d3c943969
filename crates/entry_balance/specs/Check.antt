-- What the error of a balance means.
use Rattle.std.specs.Prelude.{Option, Some, None}
use Rattle.book.specs.declared.fault.Cause.{Cause}
use Rattle.entry_balance.specs.declared.fault.BalanceFault.{BalanceFault}
use Rattle.entry_balance.specs.declared.fault.BalanceFault.TheVariants as balance

-- the cause that an error tells; want of memory tells none
abbrev pub cause_of : BalanceFault → Option Cause
cause_of (balance.Cause cause) = Some cause
cause_of balance.Memory = None
