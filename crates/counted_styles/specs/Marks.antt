-- What is kept of symbols at numbers: a style, and a count.
use Rattle.std.specs.Prelude.{◌≡◌, ℕ, ◌+◌, ◌-◌, nat_lt, Bool, true, false, ◌||◌, List, [], ◌∷◌, find, Option, Some, None, is_some, if◌then◌else◌}
use Rattle.std.specs.List.{AllByRecursion}
use Rattle.std.specs.declared.cmp.Ordering.{Ordering}
use Rattle.std.specs.declared.cmp.Ordering.TheVariants.{Less, Greater}
use Rattle.std.specs.Ordering.{nat_cmp, ordering_then, is_eq, is_lt, is_gt}
use Rattle.std.specs.Cmp.Lexicographic.{slice_cmp}
use Rattle.std.specs.Str.{bytes_eq}
use Rattle.std.specs.BTreeSet.{replace_key}
use Rattle.shared_set.specs.Sorted.{find_last, without_key}
use Rattle.book.specs.declared.style.Style.{Style}
use Rattle.counted_styles.specs.declared.mark.Mark.{Mark}

-- a symbol and a number beside those of a mark
abbrev pub key_cmp : List ℕ → ℕ → Mark → Ordering
key_cmp symbol at m = ordering_then (slice_cmp nat_cmp symbol m.symbol) (nat_cmp at m.at)

abbrev pub mark_cmp : Mark → Mark → Ordering
mark_cmp a b = key_cmp a.symbol a.at b

-- behind all that is kept of a symbol, or before it
abbrev pub side_of : Bool → Ordering
side_of behind = if behind then Greater else Less

abbrev pub edge_cmp : List ℕ → Bool → Mark → Ordering
edge_cmp symbol behind m = ordering_then (slice_cmp nat_cmp symbol m.symbol) (side_of behind)

-- what is kept of a symbol at a number
abbrev pub mark_at : List ℕ → ℕ → List Mark → Option Mark
mark_at symbol at marks = find (λ m. is_eq (key_cmp symbol at m)) marks

abbrev pub style_of : Option Mark → Option Style
style_of None = None
style_of (Some m) = Some m.style

abbrev pub count_of : Option Mark → ℕ
count_of None = 0
count_of (Some m) = m.count

abbrev pub style_at : List ℕ → ℕ → List Mark → Option Style
style_at symbol at marks = style_of (mark_at symbol at marks)

abbrev pub count_at : List ℕ → ℕ → List Mark → ℕ
count_at symbol at marks = count_of (mark_at symbol at marks)

abbrev pub mark_of : List ℕ × Style → ℕ → ℕ → Mark
mark_of said at count = record { symbol = said.0; at = at; style = said.1; count = count }

-- what an item says of a symbol under its number, unless it has said something before
abbrev pub headed : ℕ → List Mark → List ℕ × Style → List Mark
headed n marks said =
    if is_some (mark_at said.0 n marks) then marks else replace_key mark_cmp marks (mark_of said n 1)

abbrev pub unheaded : ℕ → List Mark → List ℕ × Style → List Mark
unheaded n marks said = without_key mark_cmp (mark_of said n 1) marks

-- one more amount of a symbol with so many decimals, and one less
abbrev pub counted : List Mark → List ℕ × Style → List Mark
counted marks said =
    replace_key mark_cmp marks (mark_of said said.1.places (count_at said.0 said.1.places marks + 1))

abbrev pub uncounted : List Mark → List ℕ × Style → List Mark
uncounted marks said =
    if nat_lt 1 (count_at said.0 said.1.places marks)
    then replace_key mark_cmp marks (mark_of said said.1.places (count_at said.0 said.1.places marks - 1))
    else without_key mark_cmp (mark_of said said.1.places 1) marks

-- the style of a mark, if it is one of a symbol
abbrev pub style_of_mark : List ℕ → Mark → Option Style
style_of_mark symbol m = if is_eq (slice_cmp nat_cmp symbol m.symbol) then Some m.style else None

abbrev pub style_if : List ℕ → Option Mark → Option Style
style_if symbol None = None
style_if symbol (Some m) = style_of_mark symbol m

-- the style that is kept first of a symbol, and last
abbrev pub first_in : List ℕ → List Mark → Option Style
first_in symbol marks = style_if symbol (find (λ m. is_lt (edge_cmp symbol false m)) marks)

abbrev pub last_in : List ℕ → List Mark → Option Style
last_in symbol marks = style_if symbol (find_last (λ m. is_gt (edge_cmp symbol true m)) marks)

-- the shape of a style with the number of decimals of another
abbrev pub with_places : Style → Option Style → Option Style
with_places style None = None
with_places style (Some most) = Some (record { shape = style.shape; places = most.places })

abbrev pub first_with : Option Style → Option Style → Option Style
first_with None most = None
first_with (Some style) most = with_places style most

-- the shape of the first, with the greatest number of decimals
abbrev pub first_of : List ℕ → List Mark → List Mark → Option Style
first_of symbol heads counts = first_with (first_in symbol heads) (last_in symbol counts)

-- ---- the symbols of marks

-- a symbol is among some
abbrev pub is_among : List ℕ → List (List ℕ) → Bool
is_among symbol [] = false
is_among symbol (name ∷ names) = bytes_eq name symbol || is_among symbol names

-- a mark stands behind all that is kept of a symbol
abbrev pub is_past : List ℕ → Mark → Bool
is_past symbol m = is_lt (edge_cmp symbol true m)

-- each symbol of which something is kept is among some
abbrev pub AreNamed : List (List ℕ) → List Mark → Type 0
AreNamed names marks = AllByRecursion (λ m. is_among m.symbol names ≡ true) marks

-- some are among others
abbrev pub AreAmong : List (List ℕ) → List (List ℕ) → Type 0
AreAmong some all = (symbol : List ℕ) → is_among symbol some ≡ true → is_among symbol all ≡ true
