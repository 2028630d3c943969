-- The names that a text declares, and which names need that.
use Rattle.std.specs.Prelude.{ℕ, Bool, true, false, not, ◌&&◌, List, [], ◌∷◌, codes, Option, Some, None}
use Rattle.std.specs.List.{flat_map, list_any}
use Rattle.std.specs.Option.{option_to_list}
use Rattle.std.specs.Str.{bytes_eq}
use Rattle.book.specs.declared.directive.Directive.{Directive}
use Rattle.book.specs.declared.directive.Directive.TheVariants as directives
use Rattle.book.specs.declared.item.Item.{Item}
use Rattle.book.specs.declared.item.Item.TheVariants as item
use Rattle.book.specs.declared.item.Placed.{Placed}
use Rattle.book_care.specs.declared.faults.Check.{Check}
use Rattle.book_care.specs.declared.faults.Check.TheVariants as checks

-- the account, symbol, payee or tag that a directive declares
abbrev pub account_by : Directive → Option (List ℕ)
account_by (directives.Account name letter) = Some name
account_by _ = None

abbrev pub symbol_by : Directive → Option (List ℕ)
symbol_by (directives.Commodity symbol amount) = Some symbol
symbol_by _ = None

abbrev pub payee_by : Directive → Option (List ℕ)
payee_by (directives.Payee name) = Some name
payee_by _ = None

abbrev pub tag_by : Directive → Option (List ℕ)
tag_by (directives.TagName name) = Some name
tag_by _ = None

-- what a directive declares for a check; the order of days needs no declaration
abbrev pub declared_by : Check → Directive → Option (List ℕ)
declared_by checks.Accounts directive = account_by directive
declared_by checks.Commodities directive = symbol_by directive
declared_by checks.Payees directive = payee_by directive
declared_by checks.Tags directive = tag_by directive
declared_by checks.OrderedDates directive = None

abbrev pub declared_in : Check → Item → List (List ℕ)
declared_in check (item.Directive directive) = option_to_list (declared_by check directive)
declared_in check _ = []

-- the names that a text declares, wherever its directives stand
abbrev pub declared_of : Check → List Placed → List (List ℕ)
declared_of check items = flat_map (λ placed. declared_in check placed.item) items

-- a name that isn't empty
abbrev pub is_filled : List ℕ → Bool
is_filled [] = false
is_filled (b ∷ bs) = true

-- a name has to be declared: all but the empty symbol, the empty payee and the tag `date`
abbrev pub needs : Check → List ℕ → Bool
needs checks.Commodities name = is_filled name
needs checks.Payees name = is_filled name
needs checks.Tags name = not (bytes_eq name (codes "date"))
needs _ name = true

-- it isn't, and has to be
abbrev pub is_undeclared : Check → List Placed → List ℕ → Bool
is_undeclared check items name = needs check name && not (list_any (bytes_eq name) (declared_of check items))
