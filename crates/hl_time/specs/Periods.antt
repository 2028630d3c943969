-- The forms of periods, over the list of a text's words.
use Rattle.std.specs.Prelude.{ℕ, ◌+◌, ◌-◌, ◌≤◌, Bool, ◌&&◌, ◌==◌, nat_lt, nat_le, if◌then◌else◌, Option, Some, None, Result, Ok, Err, List, slice_index_or, IfSome}
use Rattle.hl_time.specs.Calendar.{day_end}
use Rattle.hl_time.specs.Units.{unit_of}
use Rattle.hl_time.specs.Words.{whole, words, place_of, is_end}
use Rattle.hl_time.specs.declared.fault.TimeFault.{TimeFault}
use Rattle.hl_time.specs.declared.fault.TimeFault.TheVariants.{BadPeriod}
use Rattle.hl_time.specs.declared.spans.Interval.{Interval}
use Rattle.hl_time.specs.declared.spans.Period.{Period}
use Rattle.hl_time.specs.declared.spans.Span.{Span}
use Rattle.hl_time.specs.declared.spans.Unit as declared
use Rattle.hl_time.specs.declared.spans.Unit.TheVariants as units
use Rattle.hl_time.specs.declared.words.Link.TheVariants as links
use Rattle.hl_time.specs.declared.words.Step.{Step}
use Rattle.hl_time.specs.declared.words.Step.TheVariants as steps
use Rattle.hl_time.specs.declared.words.Word.{Word}
use Rattle.hl_time.specs.declared.words.Word.TheVariants as kinds

infixl 10 ◌>>=◌
abbrev pub ◌>>=◌ : {A B : Type 0} → Result A ℕ → (A → Result B ℕ) → Result B ℕ
(Ok x) >>= f = f x
(Err e) >>= f = Err e

-- the word with a number, from 0
abbrev pub word_at : List Word → ℕ → Word
word_at ws at = slice_index_or ws at kinds.End

-- the unit before that of today, that of today, or the one after it
unfoldable pub near : Step → declared.Unit → ℕ → Option Span
near steps.Last unit today = if unit_of unit today == 0 then None else whole unit (unit_of unit today - 1)
near steps.This unit today = whole unit (unit_of unit today)
near steps.Next unit today = whole unit (unit_of unit today + 1)

-- all days are from 0001-01-01 to 9999-12-31
abbrev pub is_within : Span → Bool
is_within days = nat_le 1 days.from && nat_lt days.from days.end && nat_le days.end day_end

-- a moment outside those days doesn't read
abbrev pub found : Option Span → ℕ → Result Span ℕ
found (Some days) at = if is_within days then Ok days else Err at
found None at = Err at

-- the days of a moment that is written in one word, or in two; else the number of the word at fault
abbrev pub near_moment : ℕ → Step → Word → ℕ → Result Span ℕ
near_moment today step (kinds.One unit) at = found (near step unit today) at
near_moment today step _ at = Err (at + 1)

abbrev pub moment_by : ℕ → Word → Word → ℕ → Result Span ℕ
moment_by today (kinds.Days days) next at = found (Some days) at
moment_by today (kinds.Day step) next at = found (near step units.Day today) at
moment_by today (kinds.Near step) next at = near_moment today step next at
moment_by today _ next at = Err at

unfoldable pub moment : ℕ → List Word → ℕ → Result Span ℕ
moment today ws at = moment_by today (word_at ws at) (word_at ws (at + 1)) at

-- the word after it
abbrev pub size_by : Word → ℕ
size_by (kinds.Near step) = 2
size_by _ = 1

unfoldable pub after : List Word → ℕ → ℕ
after ws at = at + size_by (word_at ws at)

abbrev pub period : Option ℕ → Option ℕ → Option Interval → Period
period from end interval = record { from = from; end = end; interval = interval }

-- a period that takes all words
unfoldable pub ended : List Word → ℕ → Period → Result Period ℕ
ended ws at given = if is_end (word_at ws at) then Ok given else Err at

-- `S`, as its days
unfoldable pub in_moment : Option Interval → ℕ → List Word → ℕ → Result Period ℕ
in_moment interval today ws at = do
  s ← moment today ws at
  ended ws (after ws at) (period (Some s.from) (Some s.end) interval)

-- `S`, from its first day
unfoldable pub since_moment : Option Interval → ℕ → List Word → ℕ → Result Period ℕ
since_moment interval today ws at = do
  s ← moment today ws at
  ended ws (after ws at) (period (Some s.from) None interval)

-- `T`, up to its first day, after a bound that may be there
unfoldable pub until_moment : Option ℕ → Option Interval → ℕ → List Word → ℕ → Result Period ℕ
until_moment from interval today ws at = do
  t ← moment today ws at
  ended ws (after ws at) (period from (Some t.from) interval)

-- after `from S`: nothing, or `to T`
abbrev pub from_by : Word → ℕ → Option Interval → ℕ → List Word → ℕ → Result Period ℕ
from_by kinds.End first interval today ws at = Ok (period (Some first) None interval)
from_by (kinds.Link links.To) first interval today ws at = until_moment (Some first) interval today ws (at + 1)
from_by _ first interval today ws at = Err at

unfoldable pub from_moment : Option Interval → ℕ → List Word → ℕ → Result Period ℕ
from_moment interval today ws at = do
  s ← moment today ws at
  from_by (word_at ws (after ws at)) s.from interval today ws (after ws at)

-- after `S ..`: nothing, or `T`
abbrev pub dots_by : Word → ℕ → Option Interval → ℕ → List Word → ℕ → Result Period ℕ
dots_by kinds.End first interval today ws at = Ok (period (Some first) None interval)
dots_by _ first interval today ws at = until_moment (Some first) interval today ws at

-- after `S`: nothing, `to T`, `..` or `.. T`
abbrev pub bare_by : Word → Span → Option Interval → ℕ → List Word → ℕ → Result Period ℕ
bare_by kinds.End s interval today ws at = Ok (period (Some s.from) (Some s.end) interval)
bare_by (kinds.Link links.To) s interval today ws at = until_moment (Some s.from) interval today ws (at + 1)
bare_by (kinds.Link links.Dots) s interval today ws at = dots_by (word_at ws (at + 1)) s.from interval today ws (at + 1)
bare_by _ s interval today ws at = Err at

unfoldable pub bare_moment : Option Interval → ℕ → List Word → ℕ → Result Period ℕ
bare_moment interval today ws at = do
  s ← moment today ws at
  bare_by (word_at ws (after ws at)) s interval today ws (after ws at)

-- the forms of spans by their first word
abbrev pub span_by : Word → Option Interval → ℕ → List Word → ℕ → Result Period ℕ
span_by (kinds.Link links.In) interval today ws at = in_moment interval today ws (at + 1)
span_by (kinds.Link links.From) interval today ws at = from_moment interval today ws (at + 1)
span_by (kinds.Link links.Since) interval today ws at = since_moment interval today ws (at + 1)
span_by (kinds.Link links.To) interval today ws at = until_moment None interval today ws (at + 1)
span_by (kinds.Link links.Until) interval today ws at = until_moment None interval today ws (at + 1)
span_by (kinds.Link links.Dots) interval today ws at = until_moment None interval today ws (at + 1)
span_by _ interval today ws at = bare_moment interval today ws at

unfoldable pub span_of : Option Interval → ℕ → List Word → ℕ → Result Period ℕ
span_of interval today ws at = span_by (word_at ws at) interval today ws at

-- after an interval: nothing, or a span
unfoldable pub interval_then : Interval → ℕ → List Word → ℕ → Result Period ℕ
interval_then interval today ws at =
    if is_end (word_at ws at) then Ok (period None None (Some interval)) else span_of (Some interval) today ws at

-- after `every N`: the units
abbrev pub number_by : ℕ → Word → ℕ → List Word → Result Period ℕ
number_by n (kinds.Many unit) today ws = interval_then (record { unit = unit; n = n }) today ws 3
number_by n _ today ws = Err 2

-- after `every`: a unit, or a number of units from 1 to 999
abbrev pub every_by : Word → ℕ → List Word → Result Period ℕ
every_by (kinds.One unit) today ws = interval_then (record { unit = unit; n = 1 }) today ws 2
every_by (kinds.Number n) today ws =
    if nat_le 1 n && nat_le n 999 then number_by n (word_at ws 2) today ws else Err 1
every_by _ today ws = Err 1

-- an interval, a span, or an interval and then a span
abbrev pub period_by : Word → ℕ → List Word → Result Period ℕ
period_by (kinds.Each unit) today ws = interval_then (record { unit = unit; n = 1 }) today ws 1
period_by (kinds.Second unit) today ws = interval_then (record { unit = unit; n = 2 }) today ws 1
period_by kinds.Every today ws = every_by (word_at ws 1) today ws
period_by _ today ws = span_of None today ws 0

unfoldable pub period_of_words : ℕ → List Word → Result Period ℕ
period_of_words today ws = period_by (word_at ws 0) today ws

-- a fault stands at the place of its word
abbrev pub placed : List ℕ → Result Period ℕ → Result Period TimeFault
placed text (Ok given) = Ok given
placed text (Err word) = Err (BadPeriod (place_of word text 0))

-- The period that a text writes on a day, or the place of the first word with which it is no beginning of a period, the
-- text's end where more has to come. No period has ten words.
unfoldable pub period_of : List ℕ → ℕ → Result Period TimeFault
period_of text today = placed text (period_of_words today (words 10 text 0))

-- bounds from day 1 to the end of all days, and an interval of at least one unit
abbrev pub IsPeriod : Period → Type 0
IsPeriod given =
    IfSome given.from (λ day. (1 ≤ day) × (day ≤ day_end)) × IfSome given.end (λ day. (1 ≤ day) × (day ≤ day_end))
    × IfSome given.interval (λ interval. 1 ≤ interval.n)
