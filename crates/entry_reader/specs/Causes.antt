-- What kept a text from being read, and reading one part after another.
use Rattle.std.specs.Prelude.{ℕ, Option, Some, None, Result, Ok, Err}
use Rattle.book.specs.declared.fault.Fault.{Fault}
use Rattle.book.specs.declared.fault.Cause.{Cause}
use Rattle.entry_reader.specs.declared.fault.ReadFault.{ReadFault}
use Rattle.entry_reader.specs.declared.fault.ReadFault.TheVariants as faults

-- the fault of the text, where it is one
abbrev pub cause_in : ReadFault → Option Fault
cause_in (faults.Read fault) = Some fault
cause_in faults.Memory = None

-- a fault in a line
abbrev pub fault_at : ℕ → Cause → Fault
fault_at line cause = record { line = line; cause = cause }

-- a part, and then what is read after it; the first fault decides
infixl 10 ◌>>=◌
abbrev pub ◌>>=◌ : {A B : Type 0} → Result A Fault → (A → Result B Fault) → Result B Fault
(Ok x) >>= f = f x
(Err fault) >>= f = Err fault
