-- Which postings and transactions a query means.
use Rattle.std.specs.Prelude.{ℕ, pos, zero, suc, min, max, Bool, true, false, not, ◌&&◌, ◌||◌, ◌==◌, nat_le, nat_lt, unsigned_abs, List, [], ◌∷◌, unwrap_or, Option, Some, None, if◌then◌else◌}
use Rattle.std.specs.List.{list_any, list_all, filter}
use Rattle.std.specs.Ordering.{int_cmp}
use Rattle.std.specs.declared.cmp.Ordering.{Ordering}
use Rattle.std.specs.declared.cmp.Ordering.TheVariants as orderings
use Rattle.hl_base.specs.Ascii.{pipe}
use Rattle.hl_num.specs.Decimal.{Decimal, units_of}
use Rattle.hl_time.specs.declared.spans.Period.{Period}
use Rattle.book.specs.declared.amount.Amount.{Amount}
use Rattle.book.specs.declared.transaction.Mark.{Mark}
use Rattle.book.specs.declared.transaction.Mark.TheVariants as marks
use Rattle.book.specs.declared.transaction.Posting.{Posting}
use Rattle.book.specs.declared.transaction.Side.{Side}
use Rattle.book.specs.declared.transaction.Side.TheVariants as sides
use Rattle.book.specs.declared.transaction.Tag.{Tag}
use Rattle.book.specs.declared.transaction.Txn.{Txn}
use Rattle.query_terms.specs.Patterns.{Known, finds, is_whole}
use Rattle.query_terms.specs.Reading.{before_byte, after_byte, has_byte, upper}
use Rattle.query.specs.Types.{letter_of}
use Rattle.query_terms.specs.declared.kinds.AmountTest.{AmountTest}
use Rattle.query_terms.specs.declared.kinds.Field.{Field}
use Rattle.query_terms.specs.declared.kinds.Field.TheVariants as fields
use Rattle.query_terms.specs.declared.kinds.Kind.{Kind}
use Rattle.query_terms.specs.declared.kinds.Kind.TheVariants as kinds
use Rattle.query_terms.specs.declared.kinds.Order.{Order}
use Rattle.query_terms.specs.declared.kinds.Order.TheVariants as orders
use Rattle.query_terms.specs.declared.kinds.Pattern.{Pattern}
use Rattle.query_terms.specs.declared.kinds.Term.{Term}
use Rattle.query.specs.declared.matching.Group.{Group}
use Rattle.query.specs.declared.matching.Group.TheVariants as groups
use Rattle.hl_base.specs.Ascii.{trimmed}
use Rattle.query.specs.Letters.{asset, cash, conversion, equity}

-- the letters that accounts have of their own
abbrev pub Own : Type 0
Own = List ℕ → Option ℕ

-- the part of a description before its first `|`, trimmed; without `|` all of it as it stands
abbrev pub payee_of : List ℕ → List ℕ
payee_of description =
    if has_byte pipe description then trimmed (before_byte pipe description) else description

-- the part after its first `|`, trimmed; without `|` all of it as it stands
abbrev pub note_of : List ℕ → List ℕ
note_of description =
    if has_byte pipe description then trimmed (after_byte pipe description) else description

abbrev pub said : Field → Txn → List ℕ
said fields.Description txn = txn.description
said fields.Payee txn = payee_of txn.description
said fields.Note txn = note_of txn.description
said fields.Code txn = txn.code

-- it is the whole symbol of the amount, where there is one
abbrev pub has_symbol : Known → Pattern → Option Amount → Bool
has_symbol known pattern None = false
has_symbol known pattern (Some amount) = is_whole known pattern amount.symbol

abbrev pub magnitude : Decimal → Decimal
magnitude d = record { mantissa = pos (unsigned_abs d.mantissa); places = d.places }

-- an order of two values passes
abbrev pub passes : Order → Ordering → Bool
passes orders.Equal orderings.Equal = true
passes orders.Below orderings.Less = true
passes orders.AtMost orderings.Less = true
passes orders.AtMost orderings.Equal = true
passes orders.Above orderings.Greater = true
passes orders.AtLeast orderings.Greater = true
passes orders.AtLeast orderings.Equal = true
passes _ _ = false

-- a value compares so: itself, or its absolute value
abbrev pub compares : AmountTest → Decimal → Bool
compares test value =
    passes test.order (int_cmp (units_of (if test.signed then value else magnitude value)) (units_of test.number))

abbrev pub amount_compares : AmountTest → Option Amount → Bool
amount_compares test None = false
amount_compares test (Some amount) = compares test amount.value

abbrev pub is_from : Option ℕ → ℕ → Bool
is_from None day = true
is_from (Some from) day = nat_le from day

abbrev pub is_before : Option ℕ → ℕ → Bool
is_before None day = true
is_before (Some end) day = nat_lt day end

abbrev pub lies_in : Period → ℕ → Bool
lies_in period day = is_from period.from day && is_before period.end day

abbrev pub is_real : Side → Bool
is_real sides.Real = true
is_real _ = false

-- real where that is asked, or not where the contrary is
abbrev pub is_as_real : Bool → Side → Bool
is_as_real real side = if real then is_real side else not (is_real side)

abbrev pub same_mark : Mark → Mark → Bool
same_mark marks.Unmarked marks.Unmarked = true
same_mark marks.Pending marks.Pending = true
same_mark marks.Cleared marks.Cleared = true
same_mark _ _ = false

-- a posting's own mark, or where it has none its transaction's
abbrev pub mark_in : Mark → Mark → Mark
mark_in marks.Unmarked whole = whole
mark_in own whole = own

-- the day of a posting in its transaction
abbrev pub day_of : Posting → Txn → ℕ
day_of posting txn = (unwrap_or posting.day txn.day).0

-- a value matches, where a pattern of values stands
abbrev pub value_matches : Known → Option Pattern → List ℕ → Bool
value_matches known None value = true
value_matches known (Some pattern) value = finds known pattern value

-- a tag's name and value match
abbrev pub tag_matches : Known → Pattern → Option Pattern → Tag → Bool
tag_matches known name value tag = finds known name tag.name && value_matches known value tag.value

abbrev pub has_tag : Known → Pattern → Option Pattern → List Tag → Bool
has_tag known name value tags = list_any (tag_matches known name value) tags

-- a letter of a term stands for an account's: A for C too, and E for V too
abbrev pub stands_for : ℕ → ℕ → Bool
stands_for asked letter =
    (asked == letter) || ((asked == asset) && (letter == cash)) || ((asked == equity) && (letter == conversion))

abbrev pub has_letter : List ℕ → Option ℕ → Bool
has_letter letters None = false
has_letter letters (Some letter) = list_any (λ b. stands_for (upper b) letter) letters

-- what a term asks holds of a posting
abbrev pub kind_holds : Known → Own → Posting → Txn → Kind → Bool
kind_holds known own posting txn (kinds.Said field pattern) = finds known pattern (said field txn)
kind_holds known own posting txn (kinds.Account pattern) = finds known pattern posting.account
kind_holds known own posting txn (kinds.Symbol pattern) = has_symbol known pattern posting.amount
kind_holds known own posting txn (kinds.Amount test) = amount_compares test posting.amount
kind_holds known own posting txn (kinds.Date period) = lies_in period (day_of posting txn)
kind_holds known own posting txn (kinds.Depth depth) = true
kind_holds known own posting txn (kinds.Real real) = is_as_real real posting.side
kind_holds known own posting txn (kinds.Status mark) = same_mark mark (mark_in posting.mark txn.mark)
kind_holds known own posting txn (kinds.Tag name value) = has_tag known name value posting.tags || has_tag known name value txn.tags
kind_holds known own posting txn (kinds.Type letters) = has_letter letters (letter_of own posting.account)

-- what is said holds under so many `not:`
abbrev pub under : ℕ → Bool → Bool
under zero holds = holds
under (suc nots) holds = not (under nots holds)

abbrev pub term_holds : Known → Own → Posting → Txn → Term → Bool
term_holds known own posting txn term = under term.nots (kind_holds known own posting txn term.kind)

-- what a term asks holds of some posting of a transaction
abbrev pub holds_of_some : Known → Own → Txn → ℕ → Kind → Bool
holds_of_some known own txn nots kind =
    list_any (λ posting. under nots (kind_holds known own posting txn kind)) txn.postings

-- what a term asks holds of a transaction: its texts, its day, its mark, its tags, or some posting
abbrev pub kind_holds_of : Known → Own → Txn → Kind → Bool
kind_holds_of known own txn (kinds.Said field pattern) = finds known pattern (said field txn)
kind_holds_of known own txn (kinds.Date period) = lies_in period txn.day.0
kind_holds_of known own txn (kinds.Depth depth) = true
kind_holds_of known own txn (kinds.Status mark) = same_mark mark txn.mark
kind_holds_of known own txn (kinds.Tag name value) = has_tag known name value txn.tags || holds_of_some known own txn 0 (kinds.Tag name value)
kind_holds_of known own txn kind = holds_of_some known own txn 0 kind

-- under `not:`, it holds of no posting
abbrev pub nots_hold_of : Known → Own → Txn → ℕ → Kind → Bool
nots_hold_of known own txn zero kind = kind_holds_of known own txn kind
nots_hold_of known own txn (suc nots) kind = not (holds_of_some known own txn nots kind)

abbrev pub term_holds_of : Known → Own → Txn → Term → Bool
term_holds_of known own txn term = nots_hold_of known own txn term.nots term.kind

abbrev pub field_group : Field → Group
field_group fields.Code = groups.Other
field_group _ = groups.Description

abbrev pub kind_group : Kind → Group
kind_group (kinds.Said field pattern) = field_group field
kind_group (kinds.Account pattern) = groups.Account
kind_group (kinds.Status mark) = groups.Status
kind_group _ = groups.Other

-- a term under `not:` counts as another term
abbrev pub group_under : ℕ → Kind → Group
group_under zero kind = kind_group kind
group_under (suc nots) kind = groups.Other

abbrev pub group_of : Term → Group
group_of term = group_under term.nots term.kind

abbrev pub same_group : Group → Group → Bool
same_group groups.Description groups.Description = true
same_group groups.Account groups.Account = true
same_group groups.Status groups.Status = true
same_group groups.Other groups.Other = true
same_group _ _ = false

-- the terms of a group
abbrev pub among : Group → List Term → List Term
among group terms = filter (λ t. same_group group (group_of t)) terms

-- one of them holds, or there is none
abbrev pub one_holds : (Term → Bool) → List Term → Bool
one_holds holds [] = true
one_holds holds (t ∷ ts) = list_any holds (t ∷ ts)

-- a description term holds or there is none, an account term, a status term, and every other term
abbrev pub matches : (Term → Bool) → List Term → Bool
matches holds terms =
    one_holds holds (among groups.Description terms)
    && (one_holds holds (among groups.Account terms)
    && (one_holds holds (among groups.Status terms)
    && list_all holds (among groups.Other terms)))

abbrev pub is_date : Kind → Bool
is_date (kinds.Date period) = true
is_date _ = false

-- the terms without those of days, under `not:` or not
abbrev pub dateless : List Term → List Term
dateless terms = filter (λ t. not (is_date t.kind)) terms

-- a term outside `not:` that bounds the days of a report
abbrev pub bounds_days : ℕ → Kind → Bool
bounds_days zero kind = is_date kind
bounds_days _ _ = false

-- the terms without those that bound the days: of those of days the ones under `not:` stay
abbrev pub boundless : List Term → List Term
boundless terms = filter (λ t. not (bounds_days t.nots t.kind)) terms

-- a query means a posting
abbrev pub means_posting : Known → Own → List Term → Posting → Txn → Bool
means_posting known own terms posting txn = matches (term_holds known own posting txn) terms

-- a query means a transaction
abbrev pub means_txn : Known → Own → List Term → Txn → Bool
means_txn known own terms txn = matches (term_holds_of known own txn) terms

-- a query without its terms of days means a posting
abbrev pub means_undated : Known → Own → List Term → Posting → Txn → Bool
means_undated known own terms posting txn = means_posting known own (dateless terms) posting txn

-- a query without its bounds on days means a posting
abbrev pub means_boundless : Known → Own → List Term → Posting → Txn → Bool
means_boundless known own terms posting txn = means_posting known own (boundless terms) posting txn

-- the lesser of two depths, where there are two
abbrev pub least : Option ℕ → Option ℕ → Option ℕ
least None other = other
least (Some depth) None = Some depth
least (Some depth) (Some other) = Some (min depth other)

abbrev pub depth_under : ℕ → Kind → Option ℕ
depth_under zero (kinds.Depth depth) = Some depth
depth_under _ _ = None

-- the least depth of display outside `not:`
abbrev pub depth_in : List Term → Option ℕ
depth_in [] = None
depth_in (t ∷ ts) = least (depth_under t.nots t.kind) (depth_in ts)

-- the later of two beginnings
abbrev pub later : Option ℕ → Option ℕ → Option ℕ
later None other = other
later (Some day) None = Some day
later (Some day) (Some other) = Some (max day other)

abbrev pub period : Option ℕ → Option ℕ → Period
period from end = record { from = from; end = end; interval = None }

abbrev pub bounds_under : ℕ → Kind → Period
bounds_under zero (kinds.Date given) = given
bounds_under _ _ = period None None

-- the latest beginning and the earliest end of the terms of days outside `not:`
abbrev pub from_in : List Term → Option ℕ
from_in [] = None
from_in (t ∷ ts) = later (bounds_under t.nots t.kind).from (from_in ts)

abbrev pub end_in : List Term → Option ℕ
end_in [] = None
end_in (t ∷ ts) = least (bounds_under t.nots t.kind).end (end_in ts)

-- the common bounds of the terms of days outside `not:`
abbrev pub dates_in : List Term → Period
dates_in terms = period (from_in terms) (end_in terms)
