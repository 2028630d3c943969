-- The word for the limit of what is read.
use Rattle.std.specs.Prelude.{ℕ}
use Rattle.hl_base.specs.declared.transfer.ReadAllFault.{ReadAllFault}
use Rattle.hl_base.specs.declared.transfer.ReadAllFault.TheVariants as fault

-- a fact where the fault is that more than the limit came
abbrev pub IfTooLong : ReadAllFault → (ℕ → ℕ → Type 0) → Type 0
IfTooLong fault.ReadFault P = Unit {0}
IfTooLong (fault.TooLong limit seen) P = P limit seen
IfTooLong fault.Memory P = Unit {0}
