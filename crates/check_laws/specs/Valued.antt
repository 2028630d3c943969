-- Amounts and faults compared by value: two amounts are one where their symbols and values are, however many decimals they
-- are written with, as `1 EUR` and `1.00 EUR`.
use Rattle.std.specs.Prelude.{◌≡◌, Option, Some, None, Result, Ok, Err}
use Rattle.hl_num.specs.Decimal.{units_of}
use Rattle.book.specs.declared.amount.Amount.{Amount}
use Rattle.book.specs.declared.fault.Cause.{Cause}
use Rattle.book.specs.declared.fault.Cause.TheVariants as cause
use Rattle.book.specs.declared.fault.Fault.{Fault}
use Rattle.book.specs.declared.transaction.Txn.{Txn}
use Rattle.balancing.specs.declared.fault.CheckFault.{CheckFault}
use Rattle.balancing.specs.declared.fault.CheckFault.TheVariants as check

-- two amounts have one symbol, and one value in units of 10^-36
pub record AreOneAmount (a b : Amount) : Type 0 where
  pub symbol : a.symbol ≡ b.symbol
  pub value : units_of a.value ≡ units_of b.value

-- two failed assertions want the same, and found one amount by value; other causes are equal
abbrev pub AreOneCause : Cause → Cause → Type 0
AreOneCause (cause.AssertionFailed wanted found) (cause.AssertionFailed again other) = (wanted ≡ again) × AreOneAmount found other
AreOneCause one two = one ≡ two

-- two faults are of one line and have one cause by value
pub record AreOneFault (one two : Fault) : Type 0 where
  pub line : one.line ≡ two.line
  pub cause : AreOneCause one.cause two.cause

-- A check answers the fault of a transaction's group by value, or without one the solved transaction, or that memory is
-- wanting.
abbrev pub IsAnswer : Option Fault → Txn → Result Txn CheckFault → Type 0
IsAnswer None solved (Ok answer) = answer ≡ solved
IsAnswer None solved (Err (check.Journal fault)) = ⊥
IsAnswer None solved (Err check.Memory) = Unit {0}
IsAnswer (Some fault) solved (Ok answer) = ⊥
IsAnswer (Some fault) solved (Err (check.Journal told)) = AreOneFault fault told
IsAnswer (Some fault) solved (Err check.Memory) = Unit {0}
