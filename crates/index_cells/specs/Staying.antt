-- Whether no name goes with takings that are gone.
use Rattle.std.specs.Prelude.{ℕ, Bool, true, false, ◌&&◌, List, [], ◌∷◌, map, Option, Some, None}
use Rattle.std.specs.List.{list_all}
use Rattle.std.specs.Str.{bytes_eq}
use Rattle.report_cells.specs.Report.{accounts_in}
use Rattle.report_cells.specs.Taken.{Shared, Taken}
use Rattle.index_cells.specs.Keys.{is_in}
use Rattle.index_cells.specs.Named.{by_symbols, named}
use Rattle.index_cells.specs.declared.kept.Kept.{Kept}

-- an amount in a symbol
abbrev pub is_of : List ℕ → Option Shared → Bool
is_of symbol None = false
is_of symbol (Some share) = bytes_eq symbol share.0

-- an amount in the symbol of another, if there is another
abbrev pub has_symbol : Option Shared → Option Shared → Bool
has_symbol None amount = true
has_symbol (Some share) amount = is_of share.0 amount

-- a taking of the account and the symbol of another
abbrev pub is_replaced : Taken → Taken → Bool
is_replaced t new = bytes_eq t.account new.account && has_symbol t.amount new.amount

-- in the place of each stands such a one
abbrev pub are_replaced : List Taken → List Taken → Bool
are_replaced [] more = true
are_replaced (t ∷ gone) [] = false
are_replaced (t ∷ gone) (new ∷ more) = is_replaced t new && are_replaced gone more

-- all names are among those that are kept
abbrev pub are_kept : List (List ℕ) → List (List ℕ) → Bool
are_kept names kept = list_all (λ name. is_in name kept) names

-- Those that are gone have names that are kept, and in the place of each stands one that is put in, of the same names.
abbrev pub no_name_goes : Kept → (gone more : List Taken) → Bool
no_name_goes kept gone more =
    are_replaced gone more
    && (are_kept (accounts_in (map named gone)) kept.accounts && are_kept (accounts_in (by_symbols gone)) kept.symbols)
