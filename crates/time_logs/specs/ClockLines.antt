-- The lines of a timeclock text.
use Rattle.std.specs.Prelude.{ℕ, Bool, ◌||◌, List, [], ◌∷◌, Option, Some, None, if◌then◌else◌, codes}
use Rattle.std.specs.Str.{bytes_eq}
use Rattle.hl_base.specs.Ascii.{space, hash, asterisk}
use Rattle.entry_reader.specs.Lines.{before_byte, after_byte}
use Rattle.time_logs.specs.Moments.{moment_of, ◌>>=◌}
use Rattle.time_logs.specs.Said.{said, begins, begins_gap, account_said, account_front, after_account, description_said}
use Rattle.time_logs.specs.declared.clock_line.ClockLine.{ClockLine}
use Rattle.time_logs.specs.declared.clock_line.ClockLine.TheVariants as lines

abbrev pub is_nothing : List ℕ → Bool
is_nothing text = bytes_eq text []

-- the description behind an account: two spaces stand before it, or nothing follows the account
unfoldable pub description_behind : List ℕ → Option (List ℕ)
description_behind rest = if is_nothing rest || begins_gap rest then description_said rest else None

-- a session's beginning at a moment, by the account and the description that a text is
unfoldable pub begun_at : ℕ → List ℕ → Option ClockLine
begun_at moment text =
    account_said (account_front text) >>= λ account.
    description_behind (after_account text) >>= λ description.
    Some (lines.In moment account description)

-- a session's beginning: `DAY TIME ACCOUNT`, and perhaps two spaces and a description
unfoldable pub clock_in : List ℕ → Option ClockLine
clock_in text =
    let behind = after_byte space text in
    moment_of (before_byte space text) (before_byte space behind) >>= λ moment.
    begun_at moment (after_byte space behind)

-- a session's end: `DAY TIME`
unfoldable pub clock_out : List ℕ → Option ClockLine
clock_out text =
    moment_of (before_byte space text) (after_byte space text) >>= λ moment. Some (lines.Out moment)

-- what the words of a line say
unfoldable pub clock_words : List ℕ → Option ClockLine
clock_words words =
    let first = before_byte space words in
    if bytes_eq first (codes "i") then clock_in (after_byte space words)
    else if bytes_eq first (codes "o") then clock_out (after_byte space words)
    else None

-- What a line says, if it is of a form: blank lines and remarks say nothing.
unfoldable pub clock_line : List ℕ → Option ClockLine
clock_line content =
    let words = said content in
    if is_nothing words || begins words hash || begins words asterisk then Some lines.Gap else clock_words words
