-- Accounts and days that are read of a log.
use Rattle.std.proofs.Common.{◌≡◌, ℕ, ◌+◌, ◌-◌, Bool, true, false, cond, ◌==◌, ◌||◌, not, List, length, take, drop, None, Result, Ok, Err, refl, sym, ap, subst, ◌∙◌, arith}
use Rattle.std.specs.List.{suffix_len}
use Rattle.hl_base.specs.Items.{is_white}
use Rattle.hl_time.specs.Calendar.{IsDay, has_day, has_year, has_month, day_number}
use Rattle.hl_time.specs.Date.{date_of, full_date, month_day, calendar_day, part_length, part_value, year_digits, year_value, is_separator}
use Rattle.hl_time.proofs.Inverse.{number_within}
use Rattle.std.specs.Prelude.{slice_index}
use Rattle.book.specs.declared.fault.Fault.{Fault}
use Rattle.book.specs.declared.fault.Cause.TheVariants as cause
use Rattle.book.specs.declared.transaction.Side.{Side}
use Rattle.book.specs.declared.transaction.Side.TheVariants as sides
use Rattle.entry_reader.specs.Accounts.{account_len, name_of, side_of, has_parts, is_within, account_of, account_front, account_alone, is_account_text}
use Rattle.entry_reader.specs.Causes.{fault_at, ◌>>=◌}
use Rattle.entry_reader.specs.Lines.{first_is, before_byte}
use Rattle.written_logs.specs.Plain.{IsAccount}
use Rattle.written_logs.proofs.Bytes.{before_none}
use Rattle.written_logs.proofs.Parts.{Gives, ok_gives, err_gives, choice_gives, unless_gives, IsPart, before_part, front_part, solid_part, len_front, whole_account}
use Rattle.entry_reader.proofs.Names.{name_utf8}

bind_gives : {A B : Type 0} (Q : A → Type 0) (P : B → Type 0) (r : Result A Fault) (f : A → Result B Fault) → Gives Q r → ((a : A) → Q a → Gives P (f a)) → Gives P (r >>= f)
bind_gives Q P (Ok a) f h k = k a (h a refl)
bind_gives Q P (Err fault) f h k = err_gives P fault

-- ---- accounts

-- the account's text in a text
abbrev named : List ℕ → List ℕ
named text = account_front (before_byte 10 text)

plain_name : (text : List ℕ) → side_of text ≡ sides.Real → name_of text ≡ text
plain_name text h = by (is_within 40 41 text) (is_within 91 93 text) h
  where
    by : (round square : Bool) → cond round sides.Free (cond square sides.Balanced sides.Real) ≡ sides.Real → cond (round || square) (take (length text - 2) (drop 1 text)) text ≡ text
    by true square e = absurd (let never : ⊥ = cc in never)
    by false true e = absurd (let never : ⊥ = cc in never)
    by false false e = refl

named_part : (text : List ℕ) → IsPart text → IsPart (named text)
named_part text is =
    let line = before_byte 10 text in
    let first = before_part 10 text (omega arith) is in
    solid_part (take (account_len line) line) (front_part (account_len line) line first (name_utf8 line first.utf8))

named_whole : (text : List ℕ) → IsPart text → is_account_text text ≡ true → account_len (named text) ≡ length (named text)
named_whole text is h =
    let line = before_byte 10 text in
    let same : line ≡ text = before_none 10 text is.line in
    let whole : account_len line ≡ length line = ap account_len same ∙ whole_account text h ∙ ap length (sym same) in
    let front = take (account_len line) line in
    len_front (length front - suffix_len is_white front) front (len_front (account_len line) line whole)

-- what is read of an account's text
record IsRead (t : List ℕ) (read : Side × List ℕ) : Type 0 where
  side : read.0 ≡ side_of t
  name : read.1 ≡ name_of t
  parts : has_parts (name_of t) ≡ true

of_gives : (line : ℕ) (t : List ℕ) → Gives (IsRead t) (account_of line t)
of_gives line t =
    choice_gives (IsRead t) (has_parts (name_of t)) (Ok (side_of t, name_of t)) (Err (fault_at line cause.Account))
    (λ parts. ok_gives (IsRead t) (side_of t, name_of t) (record { side = refl; name = refl; parts = parts }))
    (λ _. err_gives (IsRead t) (fault_at line cause.Account))

-- that of a real posting may stand in parentheses
abbrev pub IsNamed : Side × List ℕ → Type 0
IsNamed read = read.0 ≡ sides.Real → IsAccount read.1

account_of_part : (text : List ℕ) (read : Side × List ℕ) → IsPart text → is_account_text text ≡ true → IsRead (named text) read → IsNamed read
account_of_part text read is whole found real =
    let t = named text in
    let part = named_part text is in
    let name : name_of t ≡ t = plain_name t (sym found.side ∙ real) in
    let account : IsAccount t = record {
      utf8 = part.utf8;
      parts = ap has_parts (sym name) ∙ found.parts;
      whole = named_whole text is whole;
      line = part.line;
    } in
    subst IsAccount (sym (found.name ∙ name)) account

pub alone_gives : (text : List ℕ) → IsPart text → Gives IsNamed (account_alone text)
unfolding account_alone
alone_gives text is =
    unless_gives IsNamed (first_is is_white text) (fault_at 1 cause.Form)
    (account_of 1 (named text) >>= λ account. cond (is_account_text text) (Ok account) (Err (fault_at 1 cause.Form)))
    (bind_gives (IsRead (named text)) IsNamed (account_of 1 (named text)) (λ account. cond (is_account_text text) (Ok account) (Err (fault_at 1 cause.Form))) (of_gives 1 (named text))
    (λ (account : Side × List ℕ). λ (found : IsRead (named text) account).
    choice_gives IsNamed (is_account_text text) (Ok account) (Err (fault_at 1 cause.Form))
    (λ whole. ok_gives IsNamed account (account_of_part text account is whole found))
    (λ _. err_gives IsNamed (fault_at 1 cause.Form))))

-- ---- days

calendar_gives : (year month day month_at day_at : ℕ) → Gives IsDay (calendar_day year month day month_at day_at)
unfolding calendar_day
calendar_gives year month day month_at day_at =
    choice_gives IsDay (has_day year month day) (Ok (day_number year month day))
    (cond (not (has_year year)) (Err 0) (cond (not (has_month month)) (Err month_at) (Err day_at)))
    (λ has. ok_gives IsDay (day_number year month day) (number_within year month day has))
    (λ _. unless_gives IsDay (not (has_year year)) 0 (cond (not (has_month month)) (Err month_at) (Err day_at))
    (unless_gives IsDay (not (has_month month)) month_at (Err day_at) (err_gives IsDay day_at)))

month_gives : (text : List ℕ) (at separator year : ℕ) → Gives IsDay (month_day text at separator year)
unfolding month_day
month_gives text at separator year =
    let month_end = at + part_length text at in
    let day_at = month_end + 1 in
    let day_end = day_at + part_length text day_at in
    unless_gives IsDay (part_length text at == 0) at _
    (unless_gives IsDay (not (slice_index text month_end == separator)) month_end _
    (unless_gives IsDay (part_length text day_at == 0) day_at _
    (unless_gives IsDay (not (day_end == length text)) day_end _
    (calendar_gives year (part_value text at) (part_value text day_at) at day_at))))

pub date_gives : (text : List ℕ) → Gives IsDay (date_of text None)
unfolding date_of full_date
date_gives text =
    unless_gives IsDay (not (year_digits text == 4)) (year_digits text) _
    (unless_gives IsDay (not (is_separator (slice_index text 4))) 4 _ (month_gives text 5 (slice_index text 4) (year_value text)))
