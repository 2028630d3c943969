-- What is kept of the names that a text declares.
use Rattle.std.specs.Prelude.{◌≡◌, ℕ, List}
use Rattle.std.specs.List.{list_any}
use Rattle.std.specs.Str.{bytes_eq}
use Rattle.book.specs.declared.item.Placed.{Placed}
use Rattle.book_care.specs.Declarations.{declared_of}
use Rattle.book_care.specs.Names.{has}
use Rattle.book_care.specs.declared.declarations.Declarations.{Declarations}
use Rattle.book_care.specs.declared.declarations.Declared.{Declared}
use Rattle.book_care.specs.declared.faults.Check.{Check}
use Rattle.book_care.specs.declared.faults.Check.TheVariants as checks

-- what is kept for a check are the names that items declare for it
pub record IsDeclaredFor (check : Check) (items : List Placed) (declared : Declared) : Type 0 where
  pub asked : declared.check ≡ check
  pub names : (q : List ℕ) → has declared.names q ≡ list_any (bytes_eq q) (declared_of check items)

-- what is kept for each check is what items declare
pub record AreDeclaredIn (items : List Placed) (declarations : Declarations) : Type 0 where
  pub accounts : IsDeclaredFor checks.Accounts items declarations.accounts
  pub commodities : IsDeclaredFor checks.Commodities items declarations.commodities
  pub payees : IsDeclaredFor checks.Payees items declarations.payees
  pub tags : IsDeclaredFor checks.Tags items declarations.tags

-- what is kept for a check; one of days asks for no names
abbrev pub kept_for : Declarations → Check → Declared
kept_for declarations checks.Accounts = declarations.accounts
kept_for declarations checks.Commodities = declarations.commodities
kept_for declarations checks.Payees = declarations.payees
kept_for declarations checks.Tags = declarations.tags
kept_for declarations checks.OrderedDates = declarations.accounts
