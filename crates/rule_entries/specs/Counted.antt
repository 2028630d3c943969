-- How many transactions and postings rules make, and how many are too many.
use Rattle.std.specs.Prelude.{ℕ, ◌-◌, ◌^◌, min, nat_lt, List, length, Option, Some, None, if◌then◌else◌}
use Rattle.book.specs.Postings.{postings_of}
use Rattle.book.specs.declared.transaction.Txn.{Txn}
use Rattle.rule_entries.specs.declared.counting.Excess.{Excess}

-- a number as it is told: what is above the greatest of 64 bits as that
abbrev pub told : ℕ → ℕ
told count = min count (2 ^ 64 - 1)

abbrev pub txn_limit : ℕ
txn_limit = 100_000

abbrev pub posting_limit : ℕ
posting_limit = 1_000_000

-- there are more than the limit
abbrev pub excess_over : ℕ → ℕ → Option Excess
excess_over limit count = if nat_lt limit count then Some (record { count = told count; limit = limit }) else None

abbrev pub or_excess : Option Excess → Option Excess → Option Excess
or_excess None other = other
or_excess (Some excess) other = Some excess

-- too many transactions, or else too many postings
abbrev pub excess_of : List Txn → Option Excess
excess_of txns = or_excess (excess_over txn_limit (length txns)) (excess_over posting_limit (length (postings_of txns)))
