-- The first place of a text that breaks what is asked of it.
use Rattle.std.specs.Prelude.{◌≡◌, Bool, true, false, nat_lt, List, drop, Option, Some, None, if◌then◌else◌}
use Rattle.std.specs.List.{find, zip}
use Rattle.std.specs.Option.{option_map, option_and_then}
use Rattle.book.specs.declared.item.Placed.{Placed}
use Rattle.book.specs.declared.transaction.Txn.{Txn}
use Rattle.book_care.specs.Declarations.{is_undeclared}
use Rattle.book_care.specs.Uses.{Use, is_lacking, uses_of}
use Rattle.book_care.specs.DeclaredNames.{kept_for}
use Rattle.book_care.specs.declared.declarations.Declarations.{Declarations}
use Rattle.book_care.specs.declared.declarations.Declared.{Declared}
use Rattle.book_care.specs.declared.faults.Check.{Check}
use Rattle.book_care.specs.declared.faults.Check.TheVariants as checks
use Rattle.book_care.specs.declared.faults.StrictFault.{StrictFault}
use Rattle.book_care.specs.declared.faults.StrictFault.TheVariants as faults

-- the first name that has to be declared and isn't
abbrev pub first_undeclared : Check → List Placed → List Txn → Option Use
first_undeclared check items txns = find (λ used. is_undeclared check items used.1) (uses_of check txns)

-- each transaction but the first, after the one above it
abbrev pub neighbours : List Txn → List (Txn × Txn)
neighbours txns = zip txns (drop 1 txns)

-- a transaction is before the one above it
abbrev pub is_early : Txn × Txn → Bool
is_early pair = nat_lt pair.1.day.0 pair.0.day.0

abbrev pub first_early : List Txn → Option (Txn × Txn)
first_early txns = find is_early (neighbours txns)

abbrev pub early_fault : Txn × Txn → StrictFault
early_fault pair = faults.Dates pair.1.line pair.0.day pair.1.day

-- what a check says of a name
abbrev pub name_fault : Check → Use → Option StrictFault
name_fault checks.Accounts used = Some (faults.Account used.0 used.1)
name_fault checks.Commodities used = Some (faults.Commodity used.0 used.1)
name_fault checks.Payees used = Some (faults.Payee used.0 used.1)
name_fault checks.Tags used = Some (faults.Tag used.0 used.1)
name_fault checks.OrderedDates used = None

abbrev pub first_named : Check → List Placed → List Txn → Option StrictFault
first_named check items txns = option_and_then (name_fault check) (first_undeclared check items txns)

-- what is said of the first name that isn't among those which are kept as declared
abbrev pub first_lacked : Declared → List Txn → Option StrictFault
first_lacked declared txns = option_and_then (name_fault declared.check) (find (is_lacking declared) (uses_of declared.check txns))

-- a check asks about the order of days
abbrev pub is_of_days : Check → Bool
is_of_days checks.OrderedDates = true
is_of_days _ = false

-- The first transaction or posting, in the order of the text, that breaks what is asked, and in it the first name in the
-- order written.
abbrev pub first_fault : Check → List Placed → List Txn → Option StrictFault
first_fault check items txns =
    if is_of_days check then option_map early_fault (first_early txns) else first_named check items txns

-- the same, by the names that are kept as declared
abbrev pub first_by : Declarations → Check → List Txn → Option StrictFault
first_by declarations check txns =
    if is_of_days check then option_map early_fault (first_early txns) else first_lacked (kept_for declarations check) txns

-- a fault is the one that is told; want of memory says nothing
abbrev pub IsFault : Option StrictFault → StrictFault → Type 0
IsFault told faults.Memory = Unit {0}
IsFault told fault = told ≡ Some fault
