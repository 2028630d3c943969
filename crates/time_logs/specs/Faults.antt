-- Why a log isn't read, and reading one line after another.
use Rattle.std.specs.Prelude.{Option, Some, None, Result, Ok, Err}
use Rattle.time_logs.specs.declared.faults.LogFault.{LogFault}
use Rattle.time_logs.specs.declared.faults.LogFault.TheVariants as faults

-- the fault of the log, where it is one
abbrev pub log_cause : LogFault → Option LogFault
log_cause faults.Memory = None
log_cause fault = Some fault

-- a part, and then what is read after it; the first fault decides
infixl 10 ◌>>=◌
abbrev pub ◌>>=◌ : {A B : Type 0} → Result A LogFault → (A → Result B LogFault) → Result B LogFault
(Ok x) >>= f = f x
(Err fault) >>= f = Err fault
