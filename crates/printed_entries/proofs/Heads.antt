-- The first line of an entry: what is known of it once it is read, and that it reads again where it is shown.
use Rattle.std.proofs.Common.{ℕ, ◌≡◌, ◌+◌, ◌-◌, ◌<◌, Bool, true, false, cond, ltb, ◌==◌, ◌&&◌, ◌||◌, not, codes, List, [], ◌∷◌, ◌++◌, length, take, drop, Option, Result, Ok, Err, refl, sym, ap, ◌∙◌, arith, lit<, append_assoc, append-nil, length-append}
use Rattle.std.specs.List.{list_all, list_any, prefix_len, suffix_len, take_while}
use Rattle.std.proofs.Math.Seq.{take-append_seam, drop-append_seam, take-length}
use Rattle.std.proofs.lemmas.Bool.{false≢true}
use Rattle.std.proofs.lemmas.Bool.Decides.{nat_tests}
use Rattle.std.proofs.lemmas.List.{drop_all, reverse-append}
use Rattle.std.proofs.lemmas.List.Folds.{list_any-append}
use Rattle.hl_base.specs.Items.{is_digit, is_white, kind_of}
use Rattle.hl_base.specs.declared.items.Kind.TheVariants as kinds
use Rattle.hl_time.specs.Calendar.{IsDay}
use Rattle.hl_time.specs.Date.{date_of}
use Rattle.book.specs.declared.fault.Cause.TheVariants as cause
use Rattle.book.specs.declared.fault.Fault.{Fault}
use Rattle.book.specs.declared.transaction.Mark.{Mark}
use Rattle.book.specs.declared.transaction.Mark.TheVariants.{Unmarked, Pending, Cleared}
use Rattle.entry_reader.proofs.Both.{both_true}
use Rattle.entry_reader.proofs.Texts as cuts
use Rattle.entry_reader.specs.Causes.{fault_at, ◌>>=◌}
use Rattle.entry_reader.specs.Contexts.{Context}
use Rattle.entry_reader.specs.Heads.{Head, after_code, after_mark, code_of, day_at, day_before, description_of, ends_word, has_code, has_second_mark, head_from, head_of, head_with, is_date_byte, is_mark, mark_at, mark_of, own_comment}
use Rattle.entry_reader.specs.Lines.{after_byte, after_white, before_byte, before_white, begins, first_is, has_byte, trimmed}
use Rattle.journal_printer.specs.Texts.{calendar_text, code_text, description_text, head_mark}
use Rattle.written_logs.specs.Plain.{lacks}
use Rattle.written_logs.proofs.Bytes.{after_none, after_white_solid, all_also, before_none, before_white_solid, front_stops, is_inside, not_false, prefix_stops, prefix_whole, rest_stops, skip_one, solid_append, solid_last, utf8_append, utf8_ascii}
use Rattle.written_logs.proofs.Days.{day_at_front, shown_bytes, shown_first}
use Rattle.written_logs.proofs.Lines.{IsLine, all_append, ended}
use Rattle.closed_journals.proofs.Cuts.{entry_kind}
use Rattle.closed_journals.proofs.Texts.{Gives, IsText, after_text, all_drop, all_take, before_text, bind_gives, empty_text, err_gives, front_passes, ok_gives, past_byte, past_text, rest_text, unless_gives, unspaced_text, when_gives}
use Rattle.printed_entries.specs.Printed.{is_titled, opens_field}
use Rattle.printed_entries.proofs.Dates.{Dated, date_dated}
use Rattle.printed_entries.proofs.Remarks.{IsRemark, own_text, remark_of, trimmed_space}

-- ---- what reading says

-- What a head says that was read: a day of the calendar, a code without `)`, a description without `;`, and a comment, each
-- in UTF-8 on one line, and the last two without white space at their ends.
pub record IsHead (head : Head) : Type 0 where
  pub day : IsDay head.day
  pub code : IsText head.code
  pub closed : lacks 41 head.code ≡ true
  pub description : IsRemark head.description
  pub plain : lacks 59 head.description ≡ true
  pub comment : IsRemark head.comment

record IsDated (read : ℕ × List ℕ) : Type 0 where
  day : IsDay read.0
  rest : IsText read.1

before_gives : (line : ℕ) (rest : List ℕ) (r : Result ℕ ℕ) → IsText rest → Dated r → Gives IsDated (day_before line rest r)
before_gives line rest (Err at) is dated = err_gives IsDated (fault_at line cause.Date)
before_gives line rest (Ok day) is dated =
    when_gives IsDated (ends_word rest) (Ok (day, after_white rest)) (fault_at line cause.Form) (λ _.
    ok_gives IsDated (day, after_white rest) (record { day = dated day refl; rest = unspaced_text rest is }))

day_gives : (year : Option ℕ) (line : ℕ) (text : List ℕ) → IsText text → Gives IsDated (day_at year line text)
unfolding day_at
day_gives year line text is =
    before_gives line (drop (prefix_len is_date_byte text) text) (date_of (take_while is_date_byte text) year)
    (rest_text (prefix_len is_date_byte text) text is (cuts.after_date_utf8 text is.utf8)) (date_dated (take_while is_date_byte text) year)

mark_low : (b : ℕ) → is_mark b ≡ true → b < 128
mark_low b h = grind (arith, nat_tests)

after_mark_by : (t : Bool) (text : List ℕ) → first_is is_mark text ≡ t → IsText text → IsText (cond t (after_white (drop 1 text)) text)
after_mark_by true text e is = unspaced_text (drop 1 text) (past_text is_mark text mark_low e is)
after_mark_by false text e is = is

abbrev IsMarked : Mark × List ℕ → Type 0
IsMarked read = IsText read.1

mark_gives : (line : ℕ) (text : List ℕ) → IsText text → Gives IsMarked (mark_at line text)
unfolding mark_at
mark_gives line text is =
    unless_gives IsMarked (has_second_mark text) (fault_at line cause.StatusMark) (Ok (mark_of text, after_mark text)) (λ _.
    ok_gives IsMarked (mark_of text, after_mark text) (after_mark_by (first_is is_mark text) text refl is))

record IsCode (code : List ℕ) : Type 0 where
  text : IsText code
  closed : lacks 41 code ≡ true

code_by : (t : Bool) (text : List ℕ) → has_code text ≡ t → IsText text → IsCode (cond t (before_byte 41 (drop 1 text)) [])
code_by true text e is =
    let first = (both_true (begins text 40) (has_byte 41 (drop 1 text)) e).0 in
    record { text = before_text 41 (drop 1 text) (lit< tt) (past_byte 40 text (lit< tt) first is); closed = front_passes (λ b. not (b == 41)) (drop 1 text) }
code_by false text e is = record { text = empty_text; closed = refl }

after_by : (t : Bool) (text : List ℕ) → has_code text ≡ t → IsText text → IsText (cond t (after_byte 41 (drop 1 text)) text)
after_by true text e is =
    let first = (both_true (begins text 40) (has_byte 41 (drop 1 text)) e).0 in
    after_text 41 (drop 1 text) (lit< tt) (past_byte 40 text (lit< tt) first is)
after_by false text e is = is

all_trimmed : (p : ℕ → Bool) (t : List ℕ) → list_all p t ≡ true → list_all p (trimmed t) ≡ true
all_trimmed p t h = all_take p (length (after_white t) - suffix_len is_white (after_white t)) (after_white t) (all_drop p (prefix_len is_white t) t h)

from_is : (day : ℕ) (mark : Mark) (text : List ℕ) → IsDay day → IsText text → IsHead (head_from day mark text)
from_is day mark text within is =
    let code = code_by (has_code text) text refl is in
    let behind = after_by (has_code text) text refl is in
    record {
      day = within;
      code = code.text;
      closed = code.closed;
      description = remark_of (before_byte 59 (after_code text)) (before_text 59 (after_code text) (lit< tt) behind);
      plain = all_trimmed (λ b. not (b == 59)) (before_byte 59 (after_code text)) (front_passes (λ b. not (b == 59)) (after_code text));
      comment = remark_of (after_byte 59 (after_code text)) (after_text 59 (after_code text) (lit< tt) behind);
    }

pub head_gives : (context : Context) (line : ℕ) (content : List ℕ) → IsText content → Gives IsHead (head_of context line content)
unfolding head_of
head_gives context line content is =
    bind_gives IsDated IsHead (day_at context.year line content) _ (day_gives context.year line content is) (λ day d.
    bind_gives IsMarked IsHead (mark_at line day.1) _ (mark_gives line day.1 d.rest) (λ mark m.
    ok_gives IsHead (head_from day.0 mark.0 mark.1) (from_is day.0 mark.0 mark.1 d.day m)))

-- ---- how it is shown

-- what stands behind the mark
abbrev pub behind_bytes : List ℕ → List ℕ → List ℕ → List ℕ
behind_bytes code description own = code_text code ++ (description_text description ++ own_text own)

-- the first line of a head, without its LF
abbrev pub head_bytes : Head → List ℕ
head_bytes head = calendar_text head.day ++ (head_mark head.mark ++ behind_bytes head.code head.description head.comment)

-- ---- the day

white_date : (b : ℕ) → is_white b ≡ true → is_date_byte b ≡ false
white_date b h = grind (arith, nat_tests)

abbrev day_told : Result (ℕ × List ℕ) Fault → Result ℕ ℕ
day_told (Ok read) = Ok read.0
day_told (Err fault) = Err 0

day_back : (line day : ℕ) (r : Result ℕ ℕ) → day_before line (32 ∷ []) r ≡ Ok (day, after_white (32 ∷ [])) → r ≡ Ok day
day_back line day (Err at) h = absurd (let never : ⊥ = cc in never)
day_back line day (Ok d) h = ap day_told h

date_back : (year : Option ℕ) (line day : ℕ) → IsDay day → date_of (calendar_text day) year ≡ Ok day
unfolding day_at
date_back year line day within =
    let whole = calendar_text day ++ 32 ∷ [] in
    let all = shown_bytes day within in
    let front : take_while is_date_byte whole ≡ calendar_text day = front_stops is_date_byte (calendar_text day) 32 [] all refl in
    let behind : drop (prefix_len is_date_byte whole) whole ≡ 32 ∷ [] = rest_stops is_date_byte (calendar_text day) 32 [] all refl in
    day_back line day (date_of (calendar_text day) year)
    (ap (λ (text : List ℕ). day_before line (32 ∷ []) (date_of text year)) (sym front)
    ∙ ap (λ (text : List ℕ). day_before line text (date_of (take_while is_date_byte whole) year)) (sym behind)
    ∙ day_at_front year line day [] within)

front_all : (p : ℕ → Bool) (c rest : List ℕ) → list_all p c ≡ true → first_is p rest ≡ false → (take_while p (c ++ rest) ≡ c) × (drop (prefix_len p (c ++ rest)) (c ++ rest) ≡ rest)
front_all p c [] h f =
    let none : c ++ [] ≡ c = append-nil c in
    let count : prefix_len p c ≡ length c = prefix_whole p c h in (
      ap (take_while p) none ∙ ap (λ (k : ℕ). take k c) count ∙ take-length c,
      ap (λ (xs : List ℕ). drop (prefix_len p xs) xs) none ∙ drop_all (prefix_len p c) c (omega (arith, count)),
    )
front_all p c (x ∷ xs) h f = (front_stops p c x xs h f, rest_stops p c x xs h f)

ends_date : (rest : List ℕ) → ends_word rest ≡ true → first_is is_date_byte rest ≡ false
ends_date [] h = refl
ends_date (b ∷ bs) h = white_date b h

day_read : (year : Option ℕ) (line day : ℕ) (rest : List ℕ) → IsDay day → ends_word rest ≡ true → day_at year line (calendar_text day ++ rest) ≡ Ok (day, after_white rest)
unfolding day_at
day_read year line day rest within ends =
    let cut = front_all is_date_byte (calendar_text day) rest (shown_bytes day within) (ends_date rest ends) in
    let whole = calendar_text day ++ rest in
    ap (λ (text : List ℕ). day_before line text (date_of (take_while is_date_byte whole) year)) cut.1
    ∙ ap (λ (text : List ℕ). day_before line rest (date_of text year)) cut.0
    ∙ ap (day_before line rest) (date_back year line day within)
    ∙ ap (λ (t : Bool). cond {A = Result (ℕ × List ℕ) Fault} t (Ok (day, after_white rest)) (Err (fault_at line cause.Form))) ends

-- ---- the mark

or_parts : (a b : Bool) → (a || b) ≡ false → (a ≡ false) × (b ≡ false)
or_parts true b h = absurd (false≢true (sym h))
or_parts false b h = (refl, h)

unmarked : (line : ℕ) (text : List ℕ) → first_is is_mark text ≡ false → mark_at line text ≡ Ok (Unmarked, text)
unfolding mark_at
unmarked line [] h = refl
unmarked line (b ∷ bs) h =
    let parts = or_parts (b == 33) (b == 42) h in
    let one = parts.0 in
    let two = parts.1 in
    rw (one, two) refl

second_none : (a b c : Bool) → c ≡ false → (a && b && c) ≡ false
second_none true true c h = h
second_none true false c h = refl
second_none false b c h = refl

marked : (line b : ℕ) (m : Mark) (rest : List ℕ) → is_mark b ≡ true → mark_of (b ∷ rest) ≡ m → first_is is_mark (after_white rest) ≡ false → mark_at line (b ∷ rest) ≡ Ok (m, after_white rest)
unfolding mark_at
marked line b m rest is same none =
    let text : List ℕ = b ∷ rest in
    let after : after_mark text ≡ after_white rest = ap (λ (t : Bool). cond t (after_white rest) text) is in
    let second : has_second_mark text ≡ false = second_none (first_is is_mark text) (first_is is_white rest) (first_is is_mark (after_mark text)) (ap (first_is is_mark) after ∙ none) in
    ap (λ (t : Bool). cond {A = Result (Mark × List ℕ) Fault} t (Err (fault_at line cause.StatusMark)) (Ok (mark_of text, after_mark text))) second
    ∙ ap (λ (k : Mark). Ok (k, after_mark text)) same
    ∙ ap (λ (xs : List ℕ). Ok (m, xs)) after

mark_read : (line : ℕ) (m : Mark) (rest : List ℕ) → first_is is_mark (after_white rest) ≡ false → mark_at line (after_white (head_mark m ++ rest)) ≡ Ok (m, after_white rest)
mark_read line Unmarked rest none = unmarked line (after_white rest) none
mark_read line Pending rest none = marked line 33 Pending rest refl refl none
mark_read line Cleared rest none = marked line 42 Cleared rest refl refl none

-- ---- the description and the comment

-- the spaces before the comment, and what follows its `;`
abbrev gap_before : List ℕ → List ℕ
gap_before [] = []
gap_before (b ∷ bs) = 32 ∷ 32 ∷ []

abbrev after_remark : List ℕ → List ℕ
after_remark [] = []
after_remark (b ∷ bs) = 32 ∷ b ∷ bs

after_stops : (byte : ℕ) (c rest : List ℕ) → lacks byte c ≡ true → (byte == byte) ≡ true → after_byte byte (c ++ byte ∷ rest) ≡ rest
after_stops byte c rest h same =
    let count : prefix_len (λ b. not (b == byte)) (c ++ byte ∷ rest) ≡ length c = prefix_stops (λ b. not (b == byte)) c byte rest h (ap not same) in
    let place : length c + 1 ≡ length (c ++ byte ∷ []) = sym (length-append c (byte ∷ [])) in
    ap (λ (k : ℕ). drop (k + 1) (c ++ byte ∷ rest)) count
    ∙ ap (λ (k : ℕ). drop k (c ++ byte ∷ rest)) place
    ∙ ap (drop (length (c ++ byte ∷ []))) (sym (append_assoc c (byte ∷ []) rest))
    ∙ drop-append_seam (c ++ byte ∷ []) rest

before_remark : (x own : List ℕ) → lacks 59 x ≡ true → before_byte 59 (x ++ own_text own) ≡ x ++ gap_before own
before_remark x [] h = ap (before_byte 59) (append-nil x) ∙ before_none 59 x h ∙ sym (append-nil x)
before_remark x (b ∷ bs) h =
    ap (before_byte 59) (sym (append_assoc x (32 ∷ 32 ∷ []) (59 ∷ 32 ∷ b ∷ bs)))
    ∙ front_stops (λ c. not (c == 59)) (x ++ 32 ∷ 32 ∷ []) 59 (32 ∷ b ∷ bs) (all_append (λ c. not (c == 59)) x (32 ∷ 32 ∷ []) h refl) refl

behind_remark : (x own : List ℕ) → lacks 59 x ≡ true → after_byte 59 (x ++ own_text own) ≡ after_remark own
behind_remark x [] h = ap (after_byte 59) (append-nil x) ∙ after_none 59 x h
behind_remark x (b ∷ bs) h =
    ap (after_byte 59) (sym (append_assoc x (32 ∷ 32 ∷ []) (59 ∷ 32 ∷ b ∷ bs)))
    ∙ after_stops 59 (x ++ 32 ∷ 32 ∷ []) (32 ∷ b ∷ bs) (all_append (λ c. not (c == 59)) x (32 ∷ 32 ∷ []) h refl) refl

remark_trimmed : (own : List ℕ) → IsRemark own → trimmed (after_remark own) ≡ own
remark_trimmed [] is = refl
remark_trimmed (b ∷ bs) is = trimmed_space b bs is

-- two spaces at a text's end
two_spaces : (d : List ℕ) → suffix_len is_white d ≡ 0 → before_white (d ++ 32 ∷ 32 ∷ []) ≡ d
two_spaces d last =
    let white : suffix_len is_white (d ++ 32 ∷ 32 ∷ []) ≡ 1 + (1 + suffix_len is_white d) = ap (prefix_len is_white) (reverse-append d (32 ∷ 32 ∷ [])) in
    let count : length (d ++ 32 ∷ 32 ∷ []) - suffix_len is_white (d ++ 32 ∷ 32 ∷ []) ≡ length d = omega (arith, white, last, length-append d (32 ∷ 32 ∷ [])) in
    ap (λ (k : ℕ). take k (d ++ 32 ∷ 32 ∷ [])) count ∙ take-append_seam d (32 ∷ 32 ∷ [])

gap_cut : (d own : List ℕ) → suffix_len is_white d ≡ 0 → before_white (d ++ gap_before own) ≡ d
gap_cut d [] last = ap before_white (append-nil d) ∙ before_white_solid d last
gap_cut d (b ∷ bs) last = two_spaces d last

-- a description with the spaces of the comment behind it, and perhaps one before it
described : (c : ℕ) (cs own : List ℕ) → IsRemark (c ∷ cs) → trimmed ((c ∷ cs) ++ gap_before own) ≡ c ∷ cs
described c cs own is = ap before_white (after_white_solid ((c ∷ cs) ++ gap_before own) is.first) ∙ gap_cut (c ∷ cs) own is.last

described_space : (d own : List ℕ) → IsRemark d → trimmed (description_text d ++ gap_before own) ≡ d
described_space [] [] is = refl
described_space [] (b ∷ bs) is = refl
described_space (c ∷ cs) own is =
    ap before_white (skip_one is_white 32 ((c ∷ cs) ++ gap_before own) refl ∙ after_white_solid ((c ∷ cs) ++ gap_before own) is.first) ∙ gap_cut (c ∷ cs) own is.last

spaced_lacks : (d : List ℕ) → lacks 59 d ≡ true → lacks 59 (description_text d) ≡ true
spaced_lacks [] h = refl
spaced_lacks (c ∷ cs) h = h

-- ---- what stands behind the mark

-- How a text behind the mark reads.
record IsBehind (code description own text : List ℕ) : Type 0 where
  mark : first_is is_mark text ≡ false
  code_is : code_of text ≡ code
  description_is : description_of (after_code text) ≡ description
  own_is : own_comment (after_code text) ≡ own

or_true : (a : Bool) → (a || true) ≡ true
or_true true = refl
or_true false = refl

-- with a code
coded : (c : ℕ) (cs d own : List ℕ) → lacks 41 (c ∷ cs) ≡ true → IsRemark d → lacks 59 d ≡ true → IsRemark own
    → IsBehind (c ∷ cs) d own (40 ∷ ((c ∷ cs) ++ 41 ∷ (description_text d ++ own_text own)))
coded c cs d own closed described_is plain remark =
    let behind = description_text d ++ own_text own in
    let code : List ℕ = c ∷ cs in
    let inner = code ++ 41 ∷ behind in
    let text : List ℕ = 40 ∷ inner in
    let found : has_byte 41 inner ≡ true = list_any-append (λ b. b == 41) code (41 ∷ behind) ∙ or_true (list_any (λ b. b == 41) code) in
    let after : after_code text ≡ behind = ap (λ (t : Bool). cond t (after_byte 41 inner) text) found ∙ after_stops 41 code behind closed refl in
    record {
      mark = refl;
      code_is = ap (λ (t : Bool). cond t (before_byte 41 inner) []) found ∙ front_stops (λ b. not (b == 41)) code 41 behind closed refl;
      description_is = ap description_of after ∙ ap trimmed (before_remark (description_text d) own (spaced_lacks d plain)) ∙ described_space d own described_is;
      own_is = ap own_comment after ∙ ap trimmed (behind_remark (description_text d) own (spaced_lacks d plain)) ∙ remark_trimmed own remark;
    }

-- none of `(`, `!` and `*`
record IsNone (b : ℕ) : Type 0 where
  bracket : (b == 40) ≡ false
  mark : is_mark b ≡ false

none_by : (a b c : Bool) → not (a || b || c) ≡ true → (a ≡ false) × ((b || c) ≡ false)
none_by true b c h = by b c h
  where
    by : (b c : Bool) → not (true || b || c) ≡ true → (true ≡ false) × ((b || c) ≡ false)
    by true true h = absurd (false≢true h)
    by true false h = absurd (false≢true h)
    by false true h = absurd (false≢true h)
    by false false h = absurd (false≢true h)
none_by false b c h = (refl, not_false (b || c) h)

none_of : (b : ℕ) → not (opens_field b) ≡ true → IsNone b
none_of b h = let parts = none_by (b == 40) (b == 33) (b == 42) h in record { bracket = parts.0; mark = parts.1 }

-- without one, and with a description
titled : (c : ℕ) (cs own : List ℕ) → IsNone c → IsRemark (c ∷ cs) → lacks 59 (c ∷ cs) ≡ true → IsRemark own
    → IsBehind [] (c ∷ cs) own ((c ∷ cs) ++ own_text own)
titled c cs own none is plain remark =
    let text : List ℕ = (c ∷ cs) ++ own_text own in
    let no_code : has_code text ≡ false = ap (λ (t : Bool). t && has_byte 41 (drop 1 text)) none.bracket in
    let after : after_code text ≡ text = ap (λ (t : Bool). cond t (after_byte 41 (drop 1 text)) text) no_code in
    record {
      mark = none.mark;
      code_is = ap (λ (t : Bool). cond t (before_byte 41 (drop 1 text)) []) no_code;
      description_is = ap description_of after ∙ ap trimmed (before_remark (c ∷ cs) own plain) ∙ described c cs own is;
      own_is = ap own_comment after ∙ ap trimmed (behind_remark (c ∷ cs) own plain) ∙ remark_trimmed own remark;
    }

-- with neither
untitled : (own : List ℕ) → IsRemark own → IsBehind [] [] own (after_white (own_text own))
untitled [] is = record { mark = refl; code_is = refl; description_is = refl; own_is = refl }
untitled (b ∷ bs) is = record { mark = refl; code_is = refl; description_is = refl; own_is = trimmed_space b bs is }

behind_is : (code description own text whole : List ℕ) → whole ≡ text → IsBehind code description own text → IsBehind code description own whole
behind_is code description own text whole e is = record {
  mark = ap (first_is is_mark) e ∙ is.mark;
  code_is = ap code_of e ∙ is.code_is;
  description_is = ap (λ (t : List ℕ). description_of (after_code t)) e ∙ is.description_is;
  own_is = ap (λ (t : List ℕ). own_comment (after_code t)) e ∙ is.own_is;
}

behind_read : (code d own : List ℕ) → lacks 41 code ≡ true → IsRemark d → lacks 59 d ≡ true → IsRemark own → is_titled code d ≡ true
    → IsBehind code d own (after_white (behind_bytes code d own))
behind_read (c ∷ cs) d own closed is plain remark title =
    let rest = description_text d ++ own_text own in
    behind_is (c ∷ cs) d own (40 ∷ ((c ∷ cs) ++ 41 ∷ rest)) (after_white (behind_bytes (c ∷ cs) d own))
    (ap (λ (xs : List ℕ). 40 ∷ xs) (append_assoc (c ∷ cs) (41 ∷ []) rest)) (coded c cs d own closed is plain remark)
behind_read [] (c ∷ cs) own closed is plain remark title =
    behind_is [] (c ∷ cs) own ((c ∷ cs) ++ own_text own) (after_white (behind_bytes [] (c ∷ cs) own))
    (skip_one is_white 32 ((c ∷ cs) ++ own_text own) refl ∙ after_white_solid ((c ∷ cs) ++ own_text own) is.first)
    (titled c cs own (none_of c title) is plain remark)
behind_read [] [] own closed is plain remark title = untitled own remark

-- ---- all of the head

-- the text behind the mark begins with a space, or there is none
ends_behind : (code d own : List ℕ) → ends_word (behind_bytes code d own) ≡ true
ends_behind (c ∷ cs) d own = refl
ends_behind [] (c ∷ cs) own = refl
ends_behind [] [] (b ∷ bs) = refl
ends_behind [] [] [] = refl

ends_mark : (m : Mark) (code d own : List ℕ) → ends_word (head_mark m ++ behind_bytes code d own) ≡ true
ends_mark Unmarked code d own = ends_behind code d own
ends_mark Pending code d own = refl
ends_mark Cleared code d own = refl

head_parts : (context : Context) (line : ℕ) (content : List ℕ)
    → head_of context line content ≡ (day_at context.year line content >>= λ day. mark_at line day.1 >>= λ mark. Ok (head_from day.0 mark.0 mark.1))
unfolding head_of
head_parts context line content = refl

from_behind : (head : Head) (text : List ℕ) → IsBehind head.code head.description head.comment text → head_from head.day head.mark text ≡ head
from_behind head text is =
    ap (λ (c : List ℕ). head_with head.day head.mark c (description_of (after_code text)) (own_comment (after_code text))) is.code_is
    ∙ ap (λ (d : List ℕ). head_with head.day head.mark head.code d (own_comment (after_code text))) is.description_is
    ∙ ap (λ (o : List ℕ). head_with head.day head.mark head.code head.description o) is.own_is

pub head_read : (context : Context) (line : ℕ) (head : Head) → IsHead head → is_titled head.code head.description ≡ true → head_of context line (head_bytes head) ≡ Ok head
head_read context line head is title =
    let rest = behind_bytes head.code head.description head.comment in
    let behind = behind_read head.code head.description head.comment is.closed is.description is.plain is.comment title in
    head_parts context line (head_bytes head)
    ∙ ap (λ (r : Result (ℕ × List ℕ) Fault). r >>= λ at. mark_at line at.1 >>= λ mark. Ok (head_from at.0 mark.0 mark.1))
    (day_read context.year line head.day (head_mark head.mark ++ rest) is.day (ends_mark head.mark head.code head.description head.comment))
    ∙ ap (λ (r : Result (Mark × List ℕ) Fault). r >>= λ mark. Ok (head_from head.day mark.0 mark.1)) (mark_read line head.mark rest behind.mark)
    ∙ ap (λ (h : Head). Ok h) (from_behind head (after_white rest) behind)

-- ---- it is one line

solid_both : (xs ys : List ℕ) → suffix_len is_white xs ≡ 0 → suffix_len is_white ys ≡ 0 → suffix_len is_white (xs ++ ys) ≡ 0
solid_both xs [] h k = ap (suffix_len is_white) (append-nil xs) ∙ h
solid_both xs (y ∷ ys) h k = solid_append xs (y ∷ ys) (omega arith) k

line_append : (xs ys : List ℕ) → IsLine xs → IsLine ys → IsLine (xs ++ ys)
line_append xs ys h k = record { utf8 = utf8_append xs ys h.utf8 k.utf8; line = all_append is_inside xs ys h.line k.line; last = solid_both xs ys h.last k.last }

-- behind a text that may end with white space
line_behind : (xs : List ℕ) (b : ℕ) (bs : List ℕ) → IsText xs → IsText (b ∷ bs) → suffix_len is_white (b ∷ bs) ≡ 0 → IsLine (xs ++ b ∷ bs)
line_behind xs b bs h k last = record { utf8 = utf8_append xs (b ∷ bs) h.utf8 k.utf8; line = all_append is_inside xs (b ∷ bs) h.line k.line; last = solid_append xs (b ∷ bs) (omega arith) last }

ascii_text : (xs : List ℕ) → list_all (λ b. ltb b 128) xs ≡ true → list_all is_inside xs ≡ true → IsText xs
ascii_text xs h k = record { utf8 = utf8_ascii xs h; line = k }

empty_line : IsLine []
empty_line = record { utf8 = empty_text.utf8; line = refl; last = refl }

pub own_line : (own : List ℕ) → IsRemark own → IsLine (own_text own)
own_line [] is = empty_line
own_line (b ∷ bs) is = line_behind (codes "  ; ") b bs (ascii_text (codes "  ; ") refl refl) (record { utf8 = is.utf8; line = is.line }) is.last

description_line : (d : List ℕ) → IsRemark d → IsLine (description_text d)
description_line [] is = empty_line
description_line (b ∷ bs) is = line_behind (32 ∷ []) b bs (ascii_text (32 ∷ []) refl refl) (record { utf8 = is.utf8; line = is.line }) is.last

code_line : (code : List ℕ) → IsText code → IsLine (code_text code)
code_line [] is = empty_line
code_line (b ∷ bs) is =
    let front : List ℕ = 32 ∷ 40 ∷ b ∷ bs in
    let open_text = ascii_text (32 ∷ 40 ∷ []) refl refl in
    line_behind front 41 [] (record { utf8 = utf8_append (32 ∷ 40 ∷ []) (b ∷ bs) open_text.utf8 is.utf8; line = all_append is_inside (32 ∷ 40 ∷ []) (b ∷ bs) refl is.line })
    (ascii_text (41 ∷ []) refl refl) refl

mark_line : (m : Mark) → IsLine (head_mark m)
mark_line Unmarked = empty_line
mark_line Pending = record { utf8 = utf8_ascii (32 ∷ 33 ∷ []) refl; line = refl; last = refl }
mark_line Cleared = record { utf8 = utf8_ascii (32 ∷ 42 ∷ []) refl; line = refl; last = refl }

date_low : (b : ℕ) → is_date_byte b ≡ true → ltb b 128 ≡ true
date_low b h = grind (arith, nat_tests)

date_inside : (b : ℕ) → is_date_byte b ≡ true → is_inside b ≡ true
date_inside b h = grind (arith, nat_tests)

date_solid : (b : ℕ) → is_date_byte b ≡ true → is_white b ≡ false
date_solid b h = grind (arith, nat_tests)

solid_one : (b : ℕ) → is_white b ≡ false → suffix_len is_white (b ∷ []) ≡ 0
solid_one b h = solid_last [] b h

solid_date : (xs : List ℕ) → list_all is_date_byte xs ≡ true → suffix_len is_white xs ≡ 0
solid_date [] h = refl
solid_date (b ∷ bs) h =
    let all = both_true (is_date_byte b) (list_all is_date_byte bs) h in
    solid_both (b ∷ []) bs (solid_one b (date_solid b all.0)) (solid_date bs all.1)

day_line : (day : ℕ) → IsDay day → IsLine (calendar_text day)
day_line day within =
    let all = shown_bytes day within in
    record {
      utf8 = utf8_ascii (calendar_text day) (all_also is_date_byte (λ b. ltb b 128) (calendar_text day) date_low all);
      line = all_also is_date_byte is_inside (calendar_text day) date_inside all;
      last = solid_date (calendar_text day) all;
    }

pub head_line : (head : Head) → IsHead head → IsLine (head_bytes head)
head_line head is =
    line_append (calendar_text head.day) (head_mark head.mark ++ behind_bytes head.code head.description head.comment) (day_line head.day is.day)
    (line_append (head_mark head.mark) (behind_bytes head.code head.description head.comment) (mark_line head.mark)
    (line_append (code_text head.code) (description_text head.description ++ own_text head.comment) (code_line head.code is.code)
    (line_append (description_text head.description) (own_text head.comment) (description_line head.description is.description) (own_line head.comment is.comment))))

-- it begins an entry
pub head_kind : (head : Head) → IsHead head → kind_of (ended (head_bytes head)) ≡ kinds.Entry
head_kind head is =
    let rest = head_mark head.mark ++ behind_bytes head.code head.description head.comment in
    entry_kind (ended (head_bytes head)) (ap (first_is is_digit) (append_assoc (calendar_text head.day) rest (10 ∷ [])) ∙ shown_first head.day (rest ++ 10 ∷ []) is.day)
