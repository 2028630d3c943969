-- The transactions of a timeclock text may be written in a journal.
use Rattle.std.proofs.Common.{◌≡◌, ℕ, zero, suc, ◌+◌, ◌-◌, ◌*◌, ◌/◌, ◌<◌, ◌≤◌, max, cond, ◌||◌, List, [], ◌∷◌, ◌++◌, length, map, codes, Option, Some, None, refl, sym, ap, ◌∙◌, arith, length-append}
use Rattle.std.specs.List.{flat_map, range_with_len, sum_by, AllByRecursion}
use Rattle.std.specs.Str.{is_utf8, bytes_eq}
use Rattle.std.proofs.lemmas.Grind.{flat_map-append}
use Rattle.std.proofs.lemmas.List.{map-append}
use Rattle.std.proofs.lemmas.List.Sums.{sum_by-cons}
use Rattle.hl_num.specs.Decimal.{Decimal}
use Rattle.hl_time.specs.Calendar.{IsDay, last_day}
use Rattle.book.specs.declared.transaction.Txn.{Txn}
use Rattle.entry_reader.specs.Lines.{begins, before_byte, after_byte}
use Rattle.time_logs.specs.Bounds.{IsMoment}
use Rattle.time_logs.specs.ClockLines.{is_nothing, description_behind, begun_at, clock_in, clock_out, clock_words, clock_line}
use Rattle.time_logs.specs.Days.{day_at, day_count, days_of, seconds_on, hours_entry, hours_posting, entry_on, entries_of}
use Rattle.time_logs.specs.Moments.{moment_of}
use Rattle.time_logs.specs.Said.{said, begins_gap, account_said, account_front, after_account, description_said}
use Rattle.time_logs.specs.Sessions.{Stroke, starts, stops, bad, line_says, strokes_on, strokes_from}
use Rattle.time_logs.specs.declared.clock_line.ClockLine.{ClockLine}
use Rattle.time_logs.specs.declared.clock_line.ClockLine.TheVariants as lines
use Rattle.time_logs.specs.declared.sessions.Session.{Session}
use Rattle.written_logs.specs.Plain.{IsAccount, IsDescription, Spent, Entry, entry_txn, IsEntry}
use Rattle.written_logs.proofs.Parts.{Holds, some_holds, none_holds, either_holds, IsPart, IsContent, after_part, name_part, after_name_part, said_part}
use Rattle.written_logs.proofs.Said.{bind_holds, account_holds, description_holds, moment_holds}
use Rattle.written_logs.proofs.Spans.{rounded_hours, hours_is, session_few}
use Rattle.written_logs.proofs.Lines.{all_parts}

-- ---- lines

-- a moment of the calendar, an account and a description
pub record IsStart (moment : ℕ) (account description : List ℕ) : Type 0 where
  pub within : IsMoment moment
  pub named : IsAccount account
  pub described : IsDescription description

abbrev pub IsClock : ClockLine → Type 0
IsClock lines.Gap = Unit {0}
IsClock (lines.Out moment) = IsMoment moment
IsClock (lines.In moment account description) = IsStart moment account description

behind_holds : (rest : List ℕ) → IsPart rest → Holds IsDescription (description_behind rest)
unfolding description_behind
behind_holds rest is =
    either_holds IsDescription (is_nothing rest || begins_gap rest) (description_said rest) None (λ _. description_holds rest is) (λ _. none_holds IsDescription)

begun_holds : (moment : ℕ) (text : List ℕ) → IsMoment moment → IsPart text → Holds IsClock (begun_at moment text)
unfolding begun_at
begun_holds moment text within is =
    bind_holds IsAccount IsClock (account_said (account_front text)) _ (account_holds (account_front text) (name_part text is)) (λ (account : List ℕ). λ (named : IsAccount account).
    bind_holds IsDescription IsClock (description_behind (after_account text)) _ (behind_holds (after_account text) (after_name_part text is)) (λ (description : List ℕ). λ (described : IsDescription description).
    some_holds IsClock (lines.In moment account description) (record { within = within; named = named; described = described })))

in_holds : (text : List ℕ) → IsPart text → Holds IsClock (clock_in text)
unfolding clock_in
in_holds text is =
    let behind = after_byte 32 text in
    let part = after_part 32 behind (omega arith) (after_part 32 text (omega arith) is) in
    bind_holds IsMoment IsClock (moment_of (before_byte 32 text) (before_byte 32 behind)) _ (moment_holds (before_byte 32 text) (before_byte 32 behind))
    (λ (moment : ℕ). λ (within : IsMoment moment). begun_holds moment (after_byte 32 behind) within part)

out_holds : (text : List ℕ) → Holds IsClock (clock_out text)
unfolding clock_out
out_holds text =
    bind_holds IsMoment IsClock (moment_of (before_byte 32 text) (after_byte 32 text)) _ (moment_holds (before_byte 32 text) (after_byte 32 text))
    (λ (moment : ℕ). λ (within : IsMoment moment). some_holds IsClock (lines.Out moment) within)

words_hold : (words : List ℕ) → IsPart words → Holds IsClock (clock_words words)
unfolding clock_words
words_hold words is =
    let first = before_byte 32 words in
    let rest = after_byte 32 words in
    either_holds IsClock (bytes_eq first (codes "i")) (clock_in rest) (cond (bytes_eq first (codes "o")) (clock_out rest) None)
    (λ _. in_holds rest (after_part 32 words (omega arith) is))
    (λ _. either_holds IsClock (bytes_eq first (codes "o")) (clock_out rest) None (λ _. out_holds rest) (λ _. none_holds IsClock))

line_holds : (content : List ℕ) → IsPart (said content) → Holds IsClock (clock_line content)
unfolding clock_line
line_holds content is =
    let words = said content in
    either_holds IsClock (is_nothing words || begins words 35 || begins words 42) (Some lines.Gap) (clock_words words)
    (λ _. some_holds IsClock lines.Gap tt) (λ _. words_hold words is)

says_hold : (content : List ℕ) → IsContent content → Holds IsClock (line_says content)
unfolding line_says
says_hold content is =
    either_holds IsClock (is_utf8 content) (clock_line content) None (λ utf8. line_holds content (said_part content is utf8)) (λ _. none_holds IsClock)

abbrev pub IsStroke : Stroke → Type 0
IsStroke (starts begun) = IsStart begun.from begun.account begun.description
IsStroke (stops line moment) = IsMoment moment
IsStroke (bad line) = Unit {0}

stroke_good : (line : ℕ) (says : Option ClockLine) → Holds IsClock says → AllByRecursion IsStroke (strokes_on line says)
stroke_good line None h = (tt, tt)
stroke_good line (Some lines.Gap) h = tt
stroke_good line (Some (lines.Out moment)) h = (h (lines.Out moment) refl, tt)
stroke_good line (Some (lines.In moment account description)) h = (h (lines.In moment account description) refl, tt)

pub strokes_good : (line : ℕ) (ls : List (List ℕ)) → AllByRecursion IsContent ls → AllByRecursion IsStroke (strokes_from line ls)
strokes_good line [] are = tt
strokes_good line (l ∷ ls) are =
    all_parts IsStroke (strokes_on line (line_says l)) (strokes_from (line + 1) ls) (stroke_good line (line_says l) (says_hold l are.0)) (strokes_good (line + 1) ls are.1)

-- ---- sessions

pub record IsSession (s : Session) : Type 0 where
  pub start : IsStart s.from s.account s.description
  pub until : IsMoment s.until

-- a session's entry of a day
abbrev pub session_entry : Session → ℕ → Entry
session_entry s day = record {
  line = s.line;
  day = day;
  description = s.description;
  spent = record { line = s.line; account = s.account; count = rounded_hours (seconds_on s day) } ∷ [];
}

abbrev pub session_entries : Session → List Entry
session_entries s = map (session_entry s) (days_of s)

entry_is : (s : Session) (day : ℕ) → entry_on s day ≡ entry_txn (session_entry s day)
entry_is s day = ap (λ (v : Decimal). hours_entry s.line day s.description (hours_posting s.line s.account v ∷ [])) (hours_is (seconds_on s day))

entries_are : (s : Session) (days : List ℕ) → map (entry_on s) days ≡ map entry_txn (map (session_entry s) days)
entries_are s [] = refl
entries_are s (day ∷ days) =
    ap (λ (t : Txn). t ∷ map (entry_on s) days) (entry_is s day)
    ∙ ap (λ (ts : List Txn). entry_txn (session_entry s day) ∷ ts) (entries_are s days)

pub all_entries : (ss : List Session) → flat_map entries_of ss ≡ map entry_txn (flat_map session_entries ss)
all_entries [] = refl
all_entries (s ∷ ss) =
    ap (λ (ts : List Txn). ts ++ flat_map entries_of ss) (entries_are s (days_of s))
    ∙ ap (λ (ts : List Txn). map entry_txn (session_entries s) ++ ts) (all_entries ss)
    ∙ sym (map-append entry_txn (session_entries s) (flat_map session_entries ss))

days_good : (first count : ℕ) → 1 ≤ first → first + count ≤ last_day + 1 → AllByRecursion IsDay (range_with_len first count)
days_good first zero low high = tt
days_good first (suc count) low high = ((low, omega arith), days_good (first + 1) count (omega arith) (omega arith))

days_end : (from until : ℕ) → from < 3652059 * 86400 → until < 3652059 * 86400
    → (from / 86400 + 1) + ((max from (until - 1) / 86400 + 1) - (from / 86400 + 1) + 1) ≤ 3652059 + 1
days_end from until f u =
    let last : ℕ = max from (until - 1) in
    let low : from ≤ last = omega arith in
    let high : last < 3652059 * 86400 = omega arith in
    within from last low high
  where
    within : (from last : ℕ) → from ≤ last → last < 3652059 * 86400 → (from / 86400 + 1) + ((last / 86400 + 1) - (from / 86400 + 1) + 1) ≤ 3652059 + 1
    within from last low high = omega arith

entries_good : (s : Session) (days : List ℕ) → IsSession s → AllByRecursion IsDay days → AllByRecursion IsEntry (map (session_entry s) days)
entries_good s [] is within = tt
entries_good s (day ∷ days) is within =
    (record { day = within.0; description = is.start.described; spent = (record { account = is.start.named; few = session_few s day }, tt) }, entries_good s days is within.1)

pub sessions_good : (ss : List Session) → AllByRecursion IsSession ss → AllByRecursion IsEntry (flat_map session_entries ss)
sessions_good [] are = tt
sessions_good (s ∷ ss) are =
    all_parts IsEntry (session_entries s) (flat_map session_entries ss)
    (entries_good s (days_of s) are.0 (days_good (day_at s.from) (day_count s) (omega arith) (days_end s.from s.until (are.0).start.within (are.0).until)))
    (sessions_good ss are.1)

-- ---- how much they are

abbrev pub spent_of : List Entry → List Spent
spent_of es = flat_map (λ e. e.spent) es

range_count : (first count : ℕ) → length (range_with_len first count) ≡ count
range_count first zero = refl
range_count first (suc count) = ap suc (range_count (first + 1) count)

days_spent : (s : Session) (days : List ℕ) → length (spent_of (map (session_entry s) days)) ≡ length days
days_spent s [] = refl
days_spent s (day ∷ days) = ap suc (days_spent s days)

pub sessions_spent : (ss : List Session) → length (spent_of (flat_map session_entries ss)) ≡ sum_by day_count ss
sessions_spent [] = refl
sessions_spent (s ∷ ss) =
    let rest = flat_map session_entries ss in
    let parts : length (spent_of (session_entries s ++ rest)) ≡ length (spent_of (session_entries s)) + length (spent_of rest) =
    ap length (flat_map-append (λ e. e.spent) (session_entries s) rest) ∙ length-append (spent_of (session_entries s)) (spent_of rest) in
    omega (arith, parts, days_spent s (days_of s), range_count (day_at s.from) (day_count s), sessions_spent ss, sum_by-cons day_count s ss)
