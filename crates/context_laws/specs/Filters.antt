-- The context before an item as a filter of the directives before it.
use Rattle.std.specs.Prelude.{ℕ, nat_lt, Bool, true, false, List, [], ◌∷◌, ◌++◌, map, count_by, Option, None, if◌then◌else◌}
use Rattle.std.specs.List.{filter, flat_map, last_or, list_any}
use Rattle.std.specs.Option.{option_to_list}
use Rattle.std.specs.Str.{bytes_eq}
use Rattle.book.specs.declared.directive.Directive.{Directive}
use Rattle.book.specs.declared.directive.Directive.TheVariants as directive
use Rattle.book.specs.declared.item.Item.{Item}
use Rattle.entry_reader.specs.Contexts.{Context, directives_in, mark_found, mark_in}

-- ---- what ends a directive

abbrev pub is_apply : Directive → Bool
is_apply (directive.Apply name) = true
is_apply _ = false

abbrev pub is_end_apply : Directive → Bool
is_end_apply directive.EndApply = true
is_end_apply _ = false

abbrev pub is_end_aliases : Directive → Bool
is_end_aliases directive.EndAliases = true
is_end_aliases _ = false

-- the fronts of a list, from the empty one to the whole list
abbrev pub fronts : {A : Type 0} → List A → List (List A)
fronts [] = [] ∷ []
fronts (x ∷ xs) = [] ∷ map (λ front. x ∷ front) (fronts xs)

-- some front of these directives has more `end apply account` than `apply account`
abbrev pub end_more : List Directive → Bool
end_more ds = list_any (λ front. nat_lt (count_by is_apply front) (count_by is_end_apply front)) (fronts ds)

-- A later directive ends `apply account` where its own end comes: where more names have ended than begun since. Any
-- `end aliases` ends an alias. Nothing ends a directive of another kind.
abbrev pub is_ended : Directive → List Directive → Bool
is_ended (directive.Apply name) later = end_more later
is_ended (directive.Alias old new) later = list_any is_end_aliases later
is_ended _ later = false

-- the directives that no later one ended
abbrev pub in_force : List Directive → List Directive
in_force [] = []
in_force (d ∷ later) = if is_ended d later then in_force later else d ∷ in_force later

-- ---- what a directive of each kind sets

abbrev pub year_set : Directive → List ℕ
year_set (directive.Year year) = year ∷ []
year_set _ = []

abbrev pub mark_set : Directive → List ℕ
mark_set (directive.DecimalMark mark) = mark ∷ []
mark_set _ = []

-- the default commodity, with the decimal mark that its amount is written with
abbrev pub default_set : Directive → List (List ℕ × Option ℕ)
default_set (directive.Default amount) = (amount.symbol, amount.shape.mark) ∷ []
default_set _ = []

abbrev pub name_set : Directive → List (List ℕ)
name_set (directive.Apply name) = name ∷ []
name_set _ = []

-- an old name and the new one
abbrev pub alias_set : Directive → List (List ℕ × List ℕ)
alias_set (directive.Alias old new) = (old, new) ∷ []
alias_set _ = []

-- a symbol, with the decimal mark of the amount that its `commodity` directive gives
abbrev pub commodity_set : Directive → List (List ℕ × Option ℕ)
commodity_set (directive.Commodity symbol amount) = (symbol, mark_in amount) ∷ []
commodity_set _ = []

-- ---- the context

-- all that directives in force set, in their order; and the last of it
abbrev pub all_set : {A : Type 0} → (Directive → List A) → List Directive → List A
all_set set ds = flat_map set (in_force ds)

abbrev pub last_set : {A : Type 0} → (Directive → List A) → List Directive → Option A
last_set set ds = last_or None (all_set set ds)

-- the directives before an item, of which a year that is handed in counts as the first
abbrev pub directives_before : Option ℕ → List Item → List Directive
directives_before year items = map directive.Year (option_to_list year) ++ directives_in items

abbrev pub context_by : List Directive → Context
context_by ds = record {
  year = last_set year_set ds;
  mark = last_set mark_set ds;
  usual = last_set default_set ds;
  applied = all_set name_set ds;
  aliases = all_set alias_set ds;
  marks = all_set commodity_set ds;
}

-- the context of an item that stands after these items
abbrev pub context_before : Option ℕ → List Item → Context
context_before year items = context_by (directives_before year items)

-- the decimal mark of a symbol's last `commodity` directive, if that has one
abbrev pub last_mark : List ℕ → List (List ℕ × Option ℕ) → Option ℕ
last_mark symbol marks = mark_found (last_or None (filter (λ entry. bytes_eq entry.0 symbol) marks))
