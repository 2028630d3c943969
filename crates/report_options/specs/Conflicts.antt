-- Options that exclude each other.
use Rattle.std.specs.Prelude.{Bool, false, not, ◌&&◌, ◌||◌, List, [], ◌∷◌, ◌++◌, map, find, Option, option_map}
use Rattle.report_options.specs.Names.{intervals, is_among, is_same_name}
use Rattle.report_options.specs.declared.fault.OptionFault.{OptionFault}
use Rattle.report_options.specs.declared.fault.OptionFault.TheVariants as faults
use Rattle.report_options.specs.declared.items.Item.{Item}
use Rattle.report_options.specs.declared.names.Name.{Name}
use Rattle.report_options.specs.declared.names.Name.TheVariants as names

-- two different ones of a set
abbrev pub are_two : Name → Name → List Name → Bool
are_two a b those = is_among a those && is_among b those && not (is_same_name a b)

-- two intervals, two beginnings of sums, two layouts, two valuations, a file and a store
abbrev pub are_rivals : Name → Name → Bool
are_rivals a b =
    are_two a b intervals
    || are_two a b (names.Historical ∷ names.Cumulative ∷ names.Change ∷ [])
    || are_two a b (names.Flat ∷ names.Tree ∷ [])
    || are_two a b (names.Market ∷ names.Exchange ∷ names.Value ∷ [])
    || are_two a b (names.File ∷ names.Store ∷ [])

-- totals and averages of rows exclude sums up to a day, an order by amount and a budget a tree, a budget such sums
abbrev pub is_excluded : Name → Name → Bool
is_excluded names.RowTotal b = is_among b (names.Historical ∷ names.Cumulative ∷ names.Sheet ∷ [])
is_excluded names.Average b = is_among b (names.Historical ∷ names.Cumulative ∷ names.Sheet ∷ [])
is_excluded names.SortAmount b = is_among b (names.Tree ∷ [])
is_excluded names.Budget b = is_among b (names.Historical ∷ names.Cumulative ∷ names.Tree ∷ [])
is_excluded _ b = false

-- in whichever order they stand
abbrev pub is_clash : Name → Name → Bool
is_clash a b = are_rivals a b || is_excluded a b || is_excluded b a

-- each item behind each that stands before it, by the later one and then by the earlier
abbrev pub pairs_after : List Item → List Item → List (Item × Item)
pairs_after before [] = []
pairs_after before (later ∷ rest) = map (λ earlier. (earlier, later)) before ++ pairs_after (before ++ later ∷ []) rest

abbrev pub pairs : List Item → List (Item × Item)
pairs items = pairs_after [] items

abbrev pub conflict_of : Item → Item → OptionFault
conflict_of earlier later = faults.Conflict earlier.word later.word

-- the first pair that exclude each other
abbrev pub clash_among : List (Item × Item) → Option (Item × Item)
clash_among those = find (λ pair. is_clash pair.0.name pair.1.name) those

abbrev pub fault_of : Option (Item × Item) → Option OptionFault
fault_of found = option_map (λ pair. conflict_of pair.0 pair.1) found

-- the fault of the first pair that exclude each other
unfoldable pub conflict_in : List Item → Option OptionFault
conflict_in items = fault_of (clash_among (pairs items))
