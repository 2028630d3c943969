-- What the lines of a log say may be written in a journal.
use Rattle.std.proofs.Common.{◌≡◌, ℕ, ◌+◌, ◌-◌, ◌*◌, ◌<◌, ◌≤◌, true, false, ◌==◌, ◌&&◌, List, [], ◌∷◌, length, Option, Some, None, Result, Ok, Err, refl, arith}
use Rattle.std.specs.Prelude.{nat_lt}
use Rattle.std.specs.List.{suffix_len}
use borrow.Author.Tests.{ltb-true}
use Rattle.hl_base.specs.Items.{is_white}
use Rattle.hl_time.specs.Calendar.{IsDay}
use Rattle.hl_time.specs.Date.{date_of}
use Rattle.hl_time.specs.declared.day.Day.{Day}
use Rattle.book.specs.declared.fault.Fault.{Fault}
use Rattle.book.specs.declared.transaction.Side.{Side}
use Rattle.book.specs.declared.transaction.Side.TheVariants as sides
use Rattle.entry_reader.specs.Accounts.{account_alone}
use Rattle.entry_reader.specs.Lines.{after_white, trimmed}
use Rattle.entry_reader.proofs.Both.{both_true}
use Rattle.time_logs.specs.Bounds.{IsMoment}
use Rattle.time_logs.specs.Moments.{◌>>=◌, day_read, day_of, pair_of, seconds_of, clock, time_of, moment_at, moment_of}
use Rattle.time_logs.specs.Said.{account_read, account_said, reads_otherwise, description_said}
use Rattle.written_logs.specs.Plain.{IsAccount, IsDescription}
use Rattle.written_logs.proofs.Bytes.{before_white_ends, first_solid, first_of_take}
use Rattle.written_logs.proofs.Named.{IsNamed, alone_gives, date_gives}
use Rattle.written_logs.proofs.Parts.{Holds, some_holds, none_holds, either_holds, Gives, IsPart, unspaced_part, solid_part}

pub bind_holds : {A B : Type 0} (Q : A → Type 0) (P : B → Type 0) (o : Option A) (f : A → Option B) → Holds Q o → ((a : A) → Q a → Holds P (f a)) → Holds P (o >>= f)
bind_holds Q P (Some a) f h k = k a (h a refl)
bind_holds Q P None f h k = none_holds P

pub bind_any : {A B : Type 0} (P : B → Type 0) (o : Option A) (f : A → Option B) → ((a : A) → Holds P (f a)) → Holds P (o >>= f)
bind_any P (Some a) f k = k a
bind_any P None f k = none_holds P

-- ---- accounts and descriptions

read_holds : (r : Result (Side × List ℕ) Fault) → Gives IsNamed r → Holds IsAccount (account_read r)
read_holds (Err fault) f = none_holds IsAccount
read_holds (Ok (sides.Real, account)) f = some_holds IsAccount account (f (sides.Real, account) refl refl)
read_holds (Ok (sides.Balanced, account)) f = none_holds IsAccount
read_holds (Ok (sides.Free, account)) f = none_holds IsAccount

pub account_holds : (text : List ℕ) → IsPart text → Holds IsAccount (account_said text)
unfolding account_said
account_holds text is = read_holds (account_alone text) (alone_gives text is)

description_is : (text : List ℕ) → IsPart text → reads_otherwise (trimmed text) ≡ false → IsDescription (trimmed text)
description_is text is plain =
    let solid = after_white text in
    let part = solid_part solid (unspaced_part text is) in
    record {
      utf8 = part.utf8;
      line = part.line;
      remark = part.remark;
      plain = plain;
      first = first_of_take is_white (length solid - suffix_len is_white solid) solid (first_solid text);
      last = before_white_ends solid;
    }

pub description_holds : (text : List ℕ) → IsPart text → Holds IsDescription (description_said text)
unfolding description_said
description_holds text is =
    either_holds IsDescription (reads_otherwise (trimmed text)) None (Some (trimmed text)) (λ _. none_holds IsDescription)
    (λ plain. some_holds IsDescription (trimmed text) (description_is text is plain))

-- ---- days and moments

abbrev pub IsDayOf : Day → Type 0
IsDayOf day = IsDay day.0

day_of_read : (r : Result ℕ ℕ) → Gives IsDay r → Holds IsDayOf (day_read r)
day_of_read (Ok day) f = some_holds IsDayOf (record { 0 = day }) (f day refl)
day_of_read (Err at) f = none_holds IsDayOf

pub day_holds : (text : List ℕ) → Holds IsDayOf (day_of text)
unfolding day_of
day_holds text = day_of_read (date_of text None) (date_gives text)

-- the seconds of a day
abbrev IsTime : ℕ → Type 0
IsTime seconds = seconds < 86400

time_small : (hour minute second : ℕ) → hour < 24 → minute < 60 → second < 60 → 3600 * hour + 60 * minute + second < 86400
time_small hour minute second h m s = omega arith

seconds_hold : (hour minute second : ℕ) → Holds IsTime (seconds_of hour minute second)
unfolding seconds_of
seconds_hold hour minute second =
    either_holds IsTime (nat_lt hour 24 && nat_lt minute 60 && nat_lt second 60) (Some (3600 * hour + 60 * minute + second)) None
    (λ (tests : (nat_lt hour 24 && nat_lt minute 60 && nat_lt second 60) ≡ true).
    let last = both_true (nat_lt hour 24 && nat_lt minute 60) (nat_lt second 60) tests in
    let first = both_true (nat_lt hour 24) (nat_lt minute 60) last.0 in
    some_holds IsTime (3600 * hour + 60 * minute + second)
    (time_small hour minute second (ltb-true hour 24 first.0) (ltb-true minute 60 first.1) (ltb-true second 60 last.1)))
    (λ _. none_holds IsTime)

clock_holds : (h m s : ℕ × ℕ) → Holds IsTime (clock h m s)
unfolding clock
clock_holds h m s =
    bind_any IsTime (pair_of h.0 h.1) _ (λ (hour : ℕ).
    bind_any IsTime (pair_of m.0 m.1) _ (λ (minute : ℕ).
    bind_any IsTime (pair_of s.0 s.1) _ (λ (second : ℕ). seconds_hold hour minute second)))

time_holds : (text : List ℕ) → Holds IsTime (time_of text)
unfolding time_of
time_holds [] = none_holds IsTime
time_holds (a ∷ []) = none_holds IsTime
time_holds (a ∷ b ∷ []) = none_holds IsTime
time_holds (a ∷ b ∷ c ∷ []) = none_holds IsTime
time_holds (a ∷ b ∷ c ∷ d ∷ []) = none_holds IsTime
time_holds (a ∷ b ∷ first ∷ c ∷ d ∷ []) =
    either_holds IsTime (first == 58) (clock (a, b) (c, d) (48, 48)) None (λ _. clock_holds (a, b) (c, d) (48, 48)) (λ _. none_holds IsTime)
time_holds (a ∷ b ∷ first ∷ c ∷ d ∷ e ∷ []) = none_holds IsTime
time_holds (a ∷ b ∷ first ∷ c ∷ d ∷ e ∷ f ∷ []) = none_holds IsTime
time_holds (a ∷ b ∷ first ∷ c ∷ d ∷ second ∷ e ∷ f ∷ []) =
    either_holds IsTime ((first == 58) && (second == 58)) (clock (a, b) (c, d) (e, f)) None (λ _. clock_holds (a, b) (c, d) (e, f)) (λ _. none_holds IsTime)
time_holds (a ∷ b ∷ first ∷ c ∷ d ∷ second ∷ e ∷ f ∷ g ∷ rest) = none_holds IsTime

moment_is : (day : Day) (seconds : ℕ) → IsDayOf day → IsTime seconds → IsMoment (moment_at day seconds)
moment_is day seconds within time = small day.0 seconds within.0 within.1 time
  where
    small : (d s : ℕ) → 1 ≤ d → d ≤ 3652059 → s < 86400 → 86400 * (d - 1) + s < 3652059 * 86400
    small d s first last time = omega arith

pub moment_holds : (day time : List ℕ) → Holds IsMoment (moment_of day time)
unfolding moment_of
moment_holds day time =
    bind_holds IsDayOf IsMoment (day_of day) _ (day_holds day) (λ (d : Day). λ (within : IsDayOf d).
    bind_holds IsTime IsMoment (time_of time) _ (time_holds time) (λ (seconds : ℕ). λ (small : IsTime seconds).
    some_holds IsMoment (moment_at d seconds) (moment_is d seconds within small)))
