-- Worked rows: the context after some directives, computed by the filter.
use Rattle.std.proofs.Common.{◌≡◌, pos, false, true, List, [], ◌∷◌, map, Some, None, refl, codes}
use Rattle.book.specs.declared.amount.Amount.{Amount}
use Rattle.book.specs.declared.directive.Directive.TheVariants as directive
use Rattle.book.specs.declared.item.Item.{Item}
use Rattle.book.specs.declared.item.Item.TheVariants as item
use Rattle.book.specs.declared.directive.Directive.{Directive}
use Rattle.context_laws.specs.Filters.{context_before}

abbrev items : List Directive → List Item
items ds = map (λ d. item.Directive d) ds

abbrev euros : Amount
euros = record { symbol = codes "EUR"; value = record { mantissa = pos 100; places = 1 }; shape = record { left = false; spaced = true; mark = Some 44; group = None; first = 3; rest = 3 } }

-- the year of the command line counts until a directive gives another one
year_handed_in : (context_before (Some 2024) (item.Gap ∷ [])).year ≡ Some 2024
year_handed_in = refl

last_year_given : (context_before (Some 2024) (items (directive.Year 2025 ∷ directive.Year 2026 ∷ []))).year ≡ Some 2026
last_year_given = refl

-- an end belongs to the latest name that is open
outer_name_stays : (context_before None (items (directive.Apply (codes "a") ∷ directive.Apply (codes "b") ∷ directive.EndApply ∷ directive.Apply (codes "c") ∷ []))).applied ≡ codes "a" ∷ codes "c" ∷ []
outer_name_stays = refl

both_names_ended : (context_before None (items (directive.Apply (codes "a") ∷ directive.Apply (codes "b") ∷ directive.EndApply ∷ directive.EndApply ∷ []))).applied ≡ []
both_names_ended = refl

-- the end of aliases leaves later ones and open names
later_alias_stays : (context_before None (items (directive.Alias (codes "a") (codes "b") ∷ directive.Apply (codes "c") ∷ directive.EndAliases ∷ directive.Alias (codes "d") (codes "e") ∷ []))).aliases ≡ (codes "d", codes "e") ∷ []
later_alias_stays = refl

name_outlives_aliases : (context_before None (items (directive.Apply (codes "c") ∷ directive.EndAliases ∷ []))).applied ≡ codes "c" ∷ []
name_outlives_aliases = refl

last_default : (context_before None (items (directive.Default euros ∷ directive.DecimalMark 46 ∷ []))).usual ≡ Some (codes "EUR", Some 44)
last_default = refl

each_commodity : (context_before None (items (directive.Commodity (codes "EUR") (Some euros) ∷ directive.Commodity (codes "USD") None ∷ []))).marks ≡ (codes "EUR", Some 44) ∷ (codes "USD", None) ∷ []
each_commodity = refl

-- an alias that was ended, and given again
alias_given_again : (context_before None (items (directive.Alias (codes "a") (codes "b") ∷ directive.EndAliases ∷ directive.Alias (codes "a") (codes "c") ∷ []))).aliases ≡ (codes "a", codes "c") ∷ []
alias_given_again = refl

-- an end without a name that is open ends none of those that follow
name_after_an_end : (context_before None (items (directive.EndApply ∷ directive.Apply (codes "a") ∷ []))).applied ≡ codes "a" ∷ []
name_after_an_end = refl
