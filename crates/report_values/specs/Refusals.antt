-- Symbols whose amounts or values are out of range, and the least of them.
use Rattle.std.specs.Prelude.{◌≡◌, ℕ, List, map, filter, not, Bool, true, Option, Some, None, if◌then◌else◌}
use Rattle.std.specs.List.{fold}
use Rattle.std.specs.Ordering.{nat_cmp, is_gt}
use Rattle.std.specs.Cmp.Lexicographic.{slice_cmp}
use Rattle.report_cells.specs.Taken.{Shared, Taken}
use Rattle.report_cells.specs.Bounds.{is_out, first_out}
use Rattle.report_cells.specs.declared.fault.ReportFault.{ReportFault}
use Rattle.report_cells.specs.declared.fault.ReportFault.TheVariants.{Range, TooWide, Memory}
use Rattle.report_values.specs.Worth.{Priced, valued}

-- the lesser of two symbols by the order of their bytes, or the one that is there
abbrev pub lesser : Option (List ℕ) → Option (List ℕ) → Option (List ℕ)
lesser None b = b
lesser (Some a) None = Some a
lesser (Some a) (Some b) = Some (if is_gt (slice_cmp nat_cmp a b) then b else a)

-- the symbol of an amount that has no value
abbrev pub lost : Option Shared → Option Shared → Option (List ℕ)
lost None worth = None
lost (Some share) None = Some share.0
lost (Some share) (Some worth) = None

-- the least symbol of the amounts whose values are out of range
abbrev pub first_lost : Priced → (ℕ → ℕ) → List Taken → Option (List ℕ)
first_lost market when ts = fold lesser None (map (λ t. lost t.amount (valued market when t).amount) ts)

-- the values of some takings
abbrev pub values_of : Priced → (ℕ → ℕ) → List Taken → List Taken
values_of market when ts = map (valued market when) ts

-- the least symbol whose amounts are too large to sum, or have a value that is out of range, or whose values are too
-- large to sum
abbrev pub first_refused : Priced → (ℕ → ℕ) → List Taken → Option (List ℕ)
first_refused market when ts =
    lesser (lesser (first_out ts) (first_lost market when ts)) (first_out (values_of market when ts))

-- the symbol is that one; want of memory says nothing
abbrev pub IsRefused : Option (List ℕ) → ReportFault → Type 0
IsRefused first (Range symbol) = first ≡ Some symbol
IsRefused first (TooWide columns limit) = ⊥
IsRefused first Memory = Unit {0}
