-- The transactions of a timedot text are plain.
use Rattle.std.proofs.Common.{◌≡◌, ℕ, ◌+◌, ◌^◌, ◌≤◌, suc, Bool, false, cond, ◌||◌, List, [], ◌∷◌, ◌++◌, length, map, Option, Some, None, Ok, Err, refl, ap, ◌∙◌, arith, length-append}
use Rattle.std.specs.Prelude.{nat_lt}
use Rattle.std.specs.List.{flat_map, AllByRecursion}
use Rattle.std.specs.Str.{is_utf8, bytes_eq}
use Rattle.hl_base.specs.Items.{is_white}
use Rattle.hl_num.specs.Decimal.{Decimal}
use Rattle.hl_time.specs.declared.day.Day.{Day}
use Rattle.book.specs.declared.transaction.Posting.{Posting}
use Rattle.book.specs.declared.transaction.Txn.{Txn}
use Rattle.entry_reader.specs.Lines.{first_is, begins, before_byte, after_byte, after_white, contents_of}
use Rattle.time_logs.proofs.Stars.{after_stars_utf8}
use Rattle.time_logs.specs.Days.{hours_entry, hours_posting}
use Rattle.time_logs.specs.DotLines.{day_line, quantity_line, quantity_behind, or_else, plain_line, stars, after_stars, starred_line, dot_line}
use Rattle.time_logs.specs.Moments.{day_of}
use Rattle.time_logs.specs.Quantities.{quantity_of}
use Rattle.time_logs.specs.Said.{said, begins_gap, account_said, account_front, after_account, description_said}
use Rattle.time_logs.specs.Timedot.{Note, heads, spends, bad, line_says, notes_on, notes_from, is_head, first_bad, first_postings, entries, unless_bad, timedot}
use Rattle.time_logs.specs.declared.dot_line.DotLine.{DotLine}
use Rattle.time_logs.specs.declared.dot_line.DotLine.TheVariants as lines
use Rattle.time_logs.specs.declared.faults.LogFault.TheVariants as faults
use Rattle.written_logs.specs.Plain.{IsAccount, IsDescription, Spent, spent_posting, IsSpent, Entry, entry_txn, IsEntry, ArePlain}
use Rattle.written_logs.proofs.Contents.{contents_good, contents_count}
use Rattle.written_logs.proofs.Lines.{all_parts}
use Rattle.written_logs.proofs.Parts.{Holds, some_holds, none_holds, either_holds, Gives, ok_gives, err_gives, choice_gives, IsPart, IsContent, most_bytes, after_part, rest_part, unspaced_part, name_part, after_name_part, said_part}
use Rattle.written_logs.proofs.Said.{bind_holds, account_holds, description_holds, IsDayOf, day_holds}
use Rattle.written_logs.proofs.Spans.{IsFew, quantity_holds}

-- ---- lines

abbrev IsDot : DotLine → Type 0
IsDot lines.Gap = Unit {0}
IsDot (lines.Head day description) = IsDayOf day × IsDescription description
IsDot (lines.Spent account hours) = IsAccount account × IsFew hours

day_line_holds : (words : List ℕ) → IsPart words → Holds IsDot (day_line words)
unfolding day_line
day_line_holds words is =
    bind_holds IsDayOf IsDot (day_of (before_byte 32 words)) _ (day_holds (before_byte 32 words)) (λ (day : Day). λ (within : IsDayOf day).
    bind_holds IsDescription IsDot (description_said (after_byte 32 words)) _ (description_holds (after_byte 32 words) (after_part 32 words (omega arith) is))
    (λ (description : List ℕ). λ (described : IsDescription description). some_holds IsDot (lines.Head day description) (within, described)))

quantity_line_holds : (words : List ℕ) → IsPart words → Holds IsDot (quantity_line words)
unfolding quantity_line
quantity_line_holds words is =
    either_holds IsDot (begins_gap (after_account words)) _ None
    (λ _. bind_holds IsAccount IsDot (account_said (account_front words)) _ (account_holds (account_front words) (name_part words is)) (λ (account : List ℕ). λ (named : IsAccount account).
    bind_holds IsFew IsDot (quantity_of (after_white (after_account words))) _ (quantity_holds (after_white (after_account words)) (unspaced_part (after_account words) (after_name_part words is)))
    (λ (hours : Decimal). λ (few : IsFew hours). some_holds IsDot (lines.Spent account hours) (named, few))))
    (λ _. none_holds IsDot)

behind_holds : (begun : Bool) (words : List ℕ) → IsPart words → Holds IsDot (quantity_behind begun words)
unfolding quantity_behind
behind_holds begun words is = either_holds IsDot begun (quantity_line words) None (λ _. quantity_line_holds words is) (λ _. none_holds IsDot)

else_holds : (a b : Option DotLine) → Holds IsDot a → Holds IsDot b → Holds IsDot (or_else a b)
else_holds None b h k = k
else_holds (Some line) b h k = h

plain_holds : (begun : Bool) (words : List ℕ) → IsPart words → Holds IsDot (plain_line begun words)
unfolding plain_line
plain_holds begun words is = else_holds (day_line words) (quantity_behind begun words) (day_line_holds words is) (behind_holds begun words is)

gap_holds : Holds IsDot (Some lines.Gap)
gap_holds = some_holds IsDot lines.Gap tt

starred_holds : (begun : Bool) (words : List ℕ) → IsPart words → Holds IsDot (starred_line begun words)
unfolding starred_line
starred_holds begun words is =
    let rest = after_white (after_stars words) in
    let part = unspaced_part (after_stars words) (rest_part (stars words) words is (after_stars_utf8 words is.utf8)) in
    either_holds IsDot (first_is is_white (after_stars words)) (or_else (plain_line begun rest) (Some lines.Gap)) (Some lines.Gap)
    (λ _. else_holds (plain_line begun rest) (Some lines.Gap) (plain_holds begun rest part) gap_holds) (λ _. gap_holds)

dot_holds : (begun : Bool) (content : List ℕ) → IsPart (said content) → Holds IsDot (dot_line begun content)
unfolding dot_line
dot_holds begun content is =
    let words = said content in
    either_holds IsDot (bytes_eq words [] || begins words 35) (Some lines.Gap) (cond (begins words 42) (starred_line begun words) (plain_line begun words))
    (λ _. gap_holds)
    (λ _. either_holds IsDot (begins words 42) (starred_line begun words) (plain_line begun words) (λ _. starred_holds begun words is) (λ _. plain_holds begun words is))

says_hold : (begun : Bool) (content : List ℕ) → IsContent content → Holds IsDot (line_says begun content)
unfolding line_says
says_hold begun content is =
    either_holds IsDot (is_utf8 content) (dot_line begun content) None (λ utf8. dot_holds begun content (said_part content is utf8)) (λ _. none_holds IsDot)

abbrev IsNote : Note → Type 0
IsNote (heads line day description) = IsDayOf day × IsDescription description
IsNote (spends line account hours) = IsAccount account × IsFew hours
IsNote (bad line) = Unit {0}

note_good : (line : ℕ) (says : Option DotLine) → Holds IsDot says → AllByRecursion IsNote (notes_on line says)
note_good line None h = (tt, tt)
note_good line (Some lines.Gap) h = tt
note_good line (Some (lines.Head day description)) h = (h (lines.Head day description) refl, tt)
note_good line (Some (lines.Spent account hours)) h = (h (lines.Spent account hours) refl, tt)

notes_good : (begun : Bool) (line : ℕ) (ls : List (List ℕ)) → AllByRecursion IsContent ls → AllByRecursion IsNote (notes_from begun line ls)
notes_good begun line [] are = tt
notes_good begun line (l ∷ ls) are =
    let says = line_says begun l in
    all_parts IsNote (notes_on line says) (notes_from (begun || is_head says) (line + 1) ls) (note_good line says (says_hold begun l are.0)) (notes_good (begun || is_head says) (line + 1) ls are.1)

one_note : (line : ℕ) (says : Option DotLine) → length (notes_on line says) ≤ 1
one_note line None = omega arith
one_note line (Some lines.Gap) = omega arith
one_note line (Some (lines.Head day description)) = omega arith
one_note line (Some (lines.Spent account hours)) = omega arith

notes_count : (begun : Bool) (line : ℕ) (ls : List (List ℕ)) → length (notes_from begun line ls) ≤ length ls
notes_count begun line [] = omega arith
notes_count begun line (l ∷ ls) =
    let says = line_says begun l in
    let rest = notes_from (begun || is_head says) (line + 1) ls in
    omega (arith, length-append (notes_on line says) rest, one_note line says, notes_count (begun || is_head says) (line + 1) ls)

-- ---- the days of notes

-- the quantities up to the first day, and the entries of the days
record Split (notes : List Note) : Type 0 where
  spent : List Spent
  all : List Entry
  first : first_postings notes ≡ map spent_posting spent
  days : entries notes ≡ map entry_txn all
  good_first : AllByRecursion IsSpent spent
  good_days : AllByRecursion IsEntry all
  few : length spent + length (flat_map (λ e. e.spent) all) ≤ length notes

split : (notes : List Note) → AllByRecursion IsNote notes → Split notes
split [] are = record { spent = []; all = []; first = refl; days = refl; good_first = tt; good_days = tt; few = omega arith }
split (heads line day description ∷ rest) are =
    let behind = split rest are.1 in
    let entry : Entry = record { line = line; day = day.0; description = description; spent = behind.spent } in
    record {
      spent = [];
      all = entry ∷ behind.all;
      first = refl;
      days = ap (λ (ps : List Posting). hours_entry line day.0 description ps ∷ entries rest) behind.first ∙ ap (λ (ts : List Txn). entry_txn entry ∷ ts) behind.days;
      good_first = tt;
      good_days = (record { day = (are.0).0; description = (are.0).1; spent = behind.good_first }, behind.good_days);
      few = counted (length behind.spent) (length (flat_map (λ e. e.spent) behind.all)) (length (behind.spent ++ flat_map (λ e. e.spent) behind.all)) (length rest)
          (length-append behind.spent (flat_map (λ e. e.spent) behind.all)) behind.few;
    }
  where
    counted : (a b c n : ℕ) → c ≡ a + b → a + b ≤ n → 0 + c ≤ suc n
    counted a b c n e h = omega arith
split (spends line account hours ∷ rest) are =
    let behind = split rest are.1 in
    let few = (are.0).1 in
    let one : Spent = record { line = line; account = account; count = few.count } in
    record {
      spent = one ∷ behind.spent;
      all = behind.all;
      first = ap (λ (v : Decimal). hours_posting line account v ∷ first_postings rest) few.is ∙ ap (λ (ps : List Posting). spent_posting one ∷ ps) behind.first;
      days = behind.days;
      good_first = (record { account = (are.0).0; few = few.few }, behind.good_first);
      good_days = behind.good_days;
      few = counted (length behind.spent) (length (flat_map (λ e. e.spent) behind.all)) (length rest) behind.few;
    }
  where
    counted : (a b n : ℕ) → a + b ≤ n → suc a + b ≤ suc n
    counted a b n h = omega arith
split (bad line ∷ rest) are =
    let behind = split rest are.1 in
    record {
      spent = [];
      all = behind.all;
      first = refl;
      days = behind.days;
      good_first = tt;
      good_days = behind.good_days;
      few = counted (length behind.spent) (length (flat_map (λ e. e.spent) behind.all)) (length rest) behind.few;
    }
  where
    counted : (a b n : ℕ) → a + b ≤ n → 0 + b ≤ suc n
    counted a b n h = omega arith

unless_plain : (o : Option ℕ) (txns : List Txn) → ArePlain txns → Gives ArePlain (unless_bad o txns)
unless_plain (Some line) txns are = err_gives ArePlain (faults.BadLine line)
unless_plain None txns are =
    choice_gives ArePlain (nat_lt 100000 (length txns)) (Err (faults.TooMany (length txns) 100000)) (Ok txns)
    (λ _. err_gives ArePlain (faults.TooMany (length txns) 100000)) (λ _. ok_gives ArePlain txns are)

within : (spent others notes lines bytes : ℕ) → spent + others ≤ notes → notes ≤ lines → lines ≤ bytes → bytes ≤ 2 ^ 24 → others ≤ 2 ^ 24
within spent others notes lines bytes a b c d = omega arith

-- The transactions of a timedot text are plain.
pub timedot_plain : (text : List ℕ) → length text ≤ most_bytes → Gives ArePlain (timedot (contents_of text))
timedot_plain text short =
    let ls = contents_of text in
    let notes = notes_from false 1 ls in
    let days = split notes (notes_good false 1 ls (contents_good text short)) in
    unless_plain (first_bad notes) (entries notes) (record {
      entries = days.all;
      is = days.days;
      plain = days.good_days;
      few = within (length days.spent) (length (flat_map (λ e. e.spent) days.all)) (length notes) (length ls) (length text) days.few (notes_count false 1 ls) (contents_count text) short;
    })
