-- Why rules make no book.
use Rattle.std.specs.Prelude.{Option, Some, None}
use Rattle.rule_entries.specs.declared.counting.Excess.{Excess}
use Rattle.generated.specs.declared.fault.GenFault.{GenFault}
use Rattle.generated.specs.declared.fault.GenFault.TheVariants as gen_fault

-- what an error tells; want of memory tells nothing
abbrev pub cause_of : GenFault → Option GenFault
cause_of gen_fault.Memory = None
cause_of fault = Some fault

abbrev pub too_many : Excess → GenFault
too_many excess = gen_fault.TooMany excess.count excess.limit
