-- Rules: `= QUERY`, and `~ PERIOD` or `~ PERIOD  DESCRIPTION`, each with postings after it.
use Rattle.std.specs.Prelude.{ℕ, ◌+◌, Bool, true, false, ◌&&◌, List, [], ◌∷◌, ◌==◌, if◌then◌else◌, take, drop, Option, Some, None, Result, Ok, Err}
use Rattle.hl_base.specs.Items.{is_white}
use Rattle.hl_time.specs.Calendar.{last_day}
use Rattle.hl_time.specs.Periods.{period_of}
use Rattle.hl_time.specs.declared.fault.TimeFault.{TimeFault}
use Rattle.hl_time.specs.declared.spans.Period.{Period}
use Rattle.book.specs.declared.fault.Fault.{Fault}
use Rattle.book.specs.declared.fault.Cause.TheVariants as cause
use Rattle.book.specs.declared.rules.AutoRule.{AutoRule}
use Rattle.book.specs.declared.rules.PeriodicRule.{PeriodicRule}
use Rattle.entry_reader.specs.Causes.{fault_at, ◌>>=◌}
use Rattle.entry_reader.specs.Contexts.{Context}
use Rattle.entry_reader.specs.Lines.{first_is, trimmed}
use Rattle.entry_reader.specs.Postings.{periodic_postings_of, rule_postings_of}
use Rattle.directive_reader.specs.Endings.{before_comment}
use Rattle.directive_reader.specs.QueryWords.{query_words}

-- `= QUERY`
unfoldable pub auto_of : Context → ℕ → List ℕ → List (List ℕ) → Result AutoRule Fault
auto_of context line text after = do
  postings ← rule_postings_of context (line + 1) after
  Ok (record { line = line; words = query_words (before_comment text); postings = postings })

-- a period ends before two white spaces
abbrev pub ends_period : ℕ → List ℕ → Bool
ends_period b bs = is_white b && first_is is_white bs

-- how many bytes the period has that a text begins with
abbrev pub period_len : List ℕ → ℕ
period_len [] = 0
period_len (b ∷ bs) = if ends_period b bs then 0 else period_len bs + 1

-- what stands before them, and what after
abbrev pub period_text : List ℕ → List ℕ
period_text text = take (period_len text) text

abbrev pub description : List ℕ → List ℕ
description text = trimmed (drop (period_len text) text)

-- the days are the same, or both are absent
abbrev pub same_day : Option ℕ → Option ℕ → Bool
same_day None None = true
same_day (Some a) (Some b) = a == b
same_day _ _ = false

-- a period that is the same on two days
abbrev pub unbound : ℕ → Result Period TimeFault → Result Period TimeFault → Result Period Fault
unbound line (Ok one) (Ok other) =
    if same_day one.from other.from && same_day one.end other.end then Ok one else Err (fault_at line cause.Date)
unbound line _ _ = Err (fault_at line cause.Date)

-- The period of a rule. A rule isn't bound to a day, so its period reads alike on the first and on the last day of the
-- calendar: no word of it says `this`, `today` or the like.
unfoldable pub rule_period : ℕ → List ℕ → Result Period Fault
rule_period line text = unbound line (period_of text 1) (period_of text last_day)

-- `~ PERIOD` and `~ PERIOD  DESCRIPTION`
unfoldable pub periodic_of : Context → ℕ → List ℕ → List (List ℕ) → Result PeriodicRule Fault
periodic_of context line text after = do
  period ← rule_period line (period_text (before_comment text))
  postings ← periodic_postings_of context (line + 1) after
  Ok (record { line = line; period = period; description = description (before_comment text); postings = postings })
