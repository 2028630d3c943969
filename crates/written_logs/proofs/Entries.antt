-- The lines of an entry of hours, and what they say.
use Rattle.std.proofs.Common.{◌≡◌, ℕ, zero, suc, ◌+◌, ◌-◌, ◌<◌, ◌^◌, Bool, true, false, ltb, List, [], ◌∷◌, ◌++◌, map, replicate, Option, Result, Ok, refl, sym, ap, ◌∙◌, arith, append_assoc, append-nil}
use Rattle.std.specs.List.{list_all, suffix_len, flat_map, AllByRecursion}
use Rattle.std.proofs.lemmas.Bool.Decides.{nat_tests}
use Rattle.std.proofs.lemmas.List.Concat.{flat_map-cons}
use Rattle.hl_base.specs.Items.{is_white}
use Rattle.hl_num.specs.Reading.{is_number_byte}
use Rattle.hl_time.specs.Calendar.{IsDay, year_of}
use Rattle.book.specs.declared.amount.Written.{Written}
use Rattle.book.specs.declared.fault.Fault.{Fault}
use Rattle.book.specs.declared.item.Item.TheVariants as item
use Rattle.book.specs.declared.transaction.Mark.TheVariants.{Cleared}
use Rattle.book.specs.declared.transaction.Posting.{Posting}
use Rattle.book.specs.declared.transaction.Txn.{Txn}
use Rattle.entry_reader.specs.Causes.{◌>>=◌}
use Rattle.entry_reader.specs.Comments.{comments_in}
use Rattle.entry_reader.specs.Contexts.{Context}
use Rattle.entry_reader.specs.Entries.{entry_of, entry_with, txn_from}
use Rattle.entry_reader.specs.Heads.{Head, head_of, head_with, is_date_byte}
use Rattle.entry_reader.specs.Postings.{postings_of}
use Rattle.entry_reader.specs.Tags.{tags_within}
use Rattle.journal_printer.specs.declared.detail.Detail.{Detail}
use Rattle.journal_printer.specs.declared.detail.Detail.TheVariants as detailed
use Rattle.journal_printer.specs.declared.widths.Widths.{Widths}
use Rattle.journal_printer.specs.Amounts.{amount_text}
use Rattle.journal_printer.specs.Columns.{width_of}
use Rattle.journal_printer.specs.Layout.{Fields, fields_of, written_after, postings_shown, widths_of, posting_text, postings_text, txn_text}
use Rattle.journal_printer.specs.Texts.{Shaping, head_text, calendar_text, description_text}
use Rattle.time_logs.specs.Days.{hours}
use Rattle.time_logs.specs.Quantities.{hundredths}
use Rattle.written_logs.specs.Plain.{IsAccount, IsDescription, Spent, spent_posting, IsSpent, Entry, entry_txn, IsEntry}
use Rattle.written_logs.specs.Written.{IsOwn, numbered_txn, postings_from}
use Rattle.written_logs.proofs.Accounts.{bare, bracketed, with_gap}
use Rattle.written_logs.proofs.Amounts.{amount_bytes, amount_is}
use Rattle.written_logs.proofs.Bytes.{is_inside, all_also, solid_append, solid_last, utf8_append, utf8_ascii}
use Rattle.written_logs.proofs.Days.{shown_bytes}
use Rattle.written_logs.proofs.Heads.{head_bytes, head_read}
use Rattle.written_logs.proofs.Lines.{joined, ended, IsLine, AreLines, all_cons, all_append, all_spaces}
use Rattle.written_logs.proofs.Numbers.{number_bytes, number_all}
use Rattle.written_logs.proofs.Postings.{posting_bytes, Pads, contents, no_comments, postings_read}

-- ---- the layout of a posting

-- what is shown of a posting
abbrev pub shown : Spent → Fields
shown s = record { account = bracketed s.account; amount = amount_bytes s.count; further = []; is_aligned = true; comment = [] }

own_amount : (shape : Shaping) (count : ℕ) → IsOwn shape → amount_text (shape (hours (hundredths count))) false (hours (hundredths count)) ≡ amount_bytes count
own_amount shape count own =
    ap (λ (w : Written). amount_text w false (hours (hundredths count))) (own (hundredths count)) ∙ amount_is count

fields_are : (shape : Shaping) (detail : Detail) (s : Spent) → IsOwn shape → fields_of shape detail (spent_posting s) ≡ shown s
fields_are shape detailed.Written s own =
    ap (λ (m : List ℕ). record (shown s) { amount = m }) (own_amount shape s.count own)
fields_are shape detailed.Explicit s own =
    ap (λ (m : List ℕ). record (shown s) { amount = m }) (own_amount shape s.count own)

all_fields : (shape : Shaping) (detail : Detail) (ss : List Spent) → IsOwn shape → map (fields_of shape detail) (map spent_posting ss) ≡ map shown ss
all_fields shape detail [] own = refl
all_fields shape detail (s ∷ ss) own =
    ap (λ (f : Fields). f ∷ map (fields_of shape detail) (map spent_posting ss)) (fields_are shape detail s own)
    ∙ ap (λ (fs : List Fields). shown s ∷ fs) (all_fields shape detail ss own)

all_after : (s : Spent) (ss : List Spent) → written_after (spent_posting s) (map spent_posting ss) ≡ map spent_posting ss
all_after s [] = refl
all_after s (next ∷ ss) = ap (λ (ps : List Posting). spent_posting next ∷ ps) (all_after next ss)

shown_all : (detail : Detail) (ss : List Spent) → postings_shown detail (map spent_posting ss) ≡ map spent_posting ss
shown_all detailed.Explicit ss = refl
shown_all detailed.Written [] = refl
shown_all detailed.Written (s ∷ ss) = ap (λ (ps : List Posting). spent_posting s ∷ ps) (all_after s ss)

pad_one : (i : ℕ) (rest : List ℕ) → replicate i 32 ++ 32 ∷ rest ≡ 32 ∷ (replicate i 32 ++ rest)
pad_one zero rest = refl
pad_one (suc i) rest = ap (λ (xs : List ℕ). 32 ∷ xs) (pad_one i rest)

pad_two : (i : ℕ) (rest : List ℕ) → replicate i 32 ++ 32 ∷ 32 ∷ rest ≡ 32 ∷ 32 ∷ (replicate i 32 ++ rest)
pad_two i rest = pad_one i (32 ∷ rest) ∙ ap (λ (xs : List ℕ). 32 ∷ xs) (pad_one i rest)

shaped_left : (a ri rj m : List ℕ) → (((((bracketed a ++ ri) ++ 32 ∷ 32 ∷ []) ++ (rj ++ m)) ++ []) ++ 10 ∷ []) ≡ 40 ∷ (a ++ 41 ∷ (ri ++ 32 ∷ 32 ∷ (rj ++ (m ++ 10 ∷ []))))
shaped_left a ri rj m = simp (append_assoc, append-nil)

shaped_right : (a ri rj m : List ℕ) → with_gap a (ri ++ (rj ++ m)) ++ 10 ∷ [] ≡ 40 ∷ (a ++ 41 ∷ 32 ∷ 32 ∷ (ri ++ (rj ++ (m ++ 10 ∷ []))))
shaped_right a ri rj m = simp append_assoc

shaped : (a rj m : List ℕ) (i : ℕ) → (((((bracketed a ++ replicate i 32) ++ 32 ∷ 32 ∷ []) ++ (rj ++ m)) ++ []) ++ 10 ∷ []) ≡ with_gap a (replicate i 32 ++ (rj ++ m)) ++ 10 ∷ []
shaped a rj m i =
    shaped_left a (replicate i 32) rj m
    ∙ ap (λ (xs : List ℕ). 40 ∷ (a ++ 41 ∷ xs)) (pad_two i (rj ++ (m ++ 10 ∷ [])))
    ∙ sym (shaped_right a (replicate i 32) rj m)

abbrev pub left_pad : Widths → Spent → ℕ
left_pad w s = w.account - width_of (bracketed s.account)

abbrev pub right_pad : Widths → Spent → ℕ
right_pad w s = w.amount - width_of (amount_bytes s.count)

abbrev pub line_bytes : Widths → Spent → List ℕ
line_bytes w s = posting_bytes s.account (left_pad w s) (right_pad w s) (amount_bytes s.count)

line_is : (w : Widths) (s : Spent) → posting_text w (shown s) ≡ ended (line_bytes w s)
line_is w s =
    ap (λ (xs : List ℕ). 32 ∷ 32 ∷ 32 ∷ 32 ∷ xs) (shaped s.account (replicate (right_pad w s) 32) (amount_bytes s.count) (left_pad w s))

lines_are : (w : Widths) (ss : List Spent) → flat_map (posting_text w) (map shown ss) ≡ joined (contents (left_pad w) (right_pad w) ss)
lines_are w [] = refl
lines_are w (s ∷ ss) =
    flat_map-cons (posting_text w) (shown s) (map shown ss)
    ∙ ap (λ (xs : List ℕ). xs ++ flat_map (posting_text w) (map shown ss)) (line_is w s)
    ∙ ap (λ (xs : List ℕ). ended (line_bytes w s) ++ xs) (lines_are w ss)
    ∙ append_assoc (line_bytes w s) (10 ∷ []) (joined (contents (left_pad w) (right_pad w) ss))

-- ---- the layout of an entry

-- its columns
abbrev pub widths : Entry → Widths
widths e = widths_of (map shown e.spent)

-- what its lines say
abbrev pub entry_lines : Entry → List (List ℕ)
entry_lines e = head_bytes e.day e.description ∷ contents (left_pad (widths e)) (right_pad (widths e)) e.spent

head_joined : (day : ℕ) (description : List ℕ) (rest : List ℕ)
    → (((((calendar_text day ++ 32 ∷ 42 ∷ []) ++ []) ++ description_text description) ++ 10 ∷ []) ++ rest) ≡ head_bytes day description ++ 10 ∷ rest
head_joined day description rest = simp (append_assoc, append-nil)

pub txn_is : (shape : Shaping) (detail : Detail) (e : Entry) → IsOwn shape → txn_text shape detail (entry_txn e) ≡ joined (entry_lines e)
txn_is shape detail e own =
    let fields : map (fields_of shape detail) (postings_shown detail (map spent_posting e.spent)) ≡ map shown e.spent =
    ap (map (fields_of shape detail)) (shown_all detail e.spent) ∙ all_fields shape detail e.spent own in
    ap (λ (fs : List Fields). head_text (entry_txn e) ++ postings_text fs) fields
    ∙ ap (λ (xs : List ℕ). head_text (entry_txn e) ++ xs) (lines_are (widths e) e.spent)
    ∙ head_joined e.day e.description (joined (contents (left_pad (widths e)) (right_pad (widths e)) e.spent))

-- ---- each of its lines is one

number_inside : (b : ℕ) → is_number_byte b ≡ true → is_inside b ≡ true
number_inside b h = grind (arith, nat_tests)

number_low : (b : ℕ) → is_number_byte b ≡ true → ltb b 128 ≡ true
number_low b h = grind (arith, nat_tests)

date_inside : (b : ℕ) → is_date_byte b ≡ true → is_inside b ≡ true
date_inside b h = grind (arith, nat_tests)

date_low : (b : ℕ) → is_date_byte b ≡ true → ltb b 128 ≡ true
date_low b h = grind (arith, nat_tests)

amount_all : (p : ℕ → Bool) (count : ℕ) → ((b : ℕ) → is_number_byte b ≡ true → p b ≡ true) → p 104 ≡ true → count < 2 ^ 127 → list_all p (amount_bytes count) ≡ true
amount_all p count f h small = all_append p (number_bytes count) (104 ∷ []) (all_also is_number_byte p (number_bytes count) f (number_all count small)) (all_cons p 104 [] h refl)

tail_all : (p : ℕ → Bool) (i j : ℕ) (m : List ℕ) → p 41 ≡ true → p 32 ≡ true → list_all p m ≡ true → list_all p (41 ∷ 32 ∷ 32 ∷ (replicate i 32 ++ (replicate j 32 ++ m))) ≡ true
tail_all p i j m h k all =
    let rest = all_append p (replicate i 32) (replicate j 32 ++ m) (all_spaces p i k) (all_append p (replicate j 32) m (all_spaces p j k) all) in
    all_cons p 41 (32 ∷ 32 ∷ (replicate i 32 ++ (replicate j 32 ++ m))) h
    (all_cons p 32 (32 ∷ (replicate i 32 ++ (replicate j 32 ++ m))) k (all_cons p 32 (replicate i 32 ++ (replicate j 32 ++ m)) k rest))

front_of : (a ri rj m : List ℕ) → (a ++ 41 ∷ 32 ∷ 32 ∷ (ri ++ rj)) ++ m ≡ a ++ 41 ∷ 32 ∷ 32 ∷ (ri ++ (rj ++ m))
front_of a ri rj m = simp append_assoc

posting_solid : (a : List ℕ) (i j count : ℕ) → suffix_len is_white (posting_bytes a i j (amount_bytes count)) ≡ 0
posting_solid a i j count =
    let front : List ℕ = 32 ∷ 32 ∷ 32 ∷ 32 ∷ 40 ∷ (a ++ 41 ∷ 32 ∷ 32 ∷ (replicate i 32 ++ replicate j 32)) in
    ap (λ (xs : List ℕ). suffix_len is_white (32 ∷ 32 ∷ 32 ∷ 32 ∷ 40 ∷ xs)) (sym (front_of a (replicate i 32) (replicate j 32) (amount_bytes count)))
    ∙ ap (suffix_len is_white) (sym (append_assoc front (number_bytes count) (104 ∷ [])))
    ∙ solid_last (front ++ number_bytes count) 104 refl

pub posting_is_line : (a : List ℕ) (i j count : ℕ) → IsAccount a → count < 2 ^ 127 → IsLine (posting_bytes a i j (amount_bytes count))
posting_is_line a i j count is small =
    let front : List ℕ = 32 ∷ 32 ∷ 32 ∷ 32 ∷ 40 ∷ [] in
    let tail : List ℕ = 41 ∷ 32 ∷ 32 ∷ (replicate i 32 ++ (replicate j 32 ++ amount_bytes count)) in
    record {
      utf8 = utf8_append front (a ++ tail) (utf8_ascii front refl) (utf8_append a tail is.utf8
          (utf8_ascii tail (tail_all (λ b. ltb b 128) i j (amount_bytes count) refl refl (amount_all (λ b. ltb b 128) count number_low refl small))));
      line = all_append is_inside front (a ++ tail) refl (all_append is_inside a tail is.line
          (tail_all is_inside i j (amount_bytes count) refl refl (amount_all is_inside count number_inside refl small)));
      last = posting_solid a i j count;
    }

pub head_is_line : (day : ℕ) (description : List ℕ) → IsDay day → IsDescription description → IsLine (head_bytes day description)
head_is_line day [] within is =
    let date = shown_bytes day within in
    record {
      utf8 = utf8_append (calendar_text day) (32 ∷ 42 ∷ []) (utf8_ascii (calendar_text day) (all_also is_date_byte (λ b. ltb b 128) (calendar_text day) date_low date)) (utf8_ascii (32 ∷ 42 ∷ []) refl);
      line = all_append is_inside (calendar_text day) (32 ∷ 42 ∷ []) (all_also is_date_byte is_inside (calendar_text day) date_inside date) refl;
      last = solid_append (calendar_text day) (32 ∷ 42 ∷ []) (omega arith) refl;
    }
head_is_line day (b ∷ bs) within is =
    let date = shown_bytes day within in
    let front : List ℕ = 32 ∷ 42 ∷ 32 ∷ [] in
    record {
      utf8 = utf8_append (calendar_text day) (front ++ b ∷ bs) (utf8_ascii (calendar_text day) (all_also is_date_byte (λ c. ltb c 128) (calendar_text day) date_low date))
          (utf8_append front (b ∷ bs) (utf8_ascii front refl) is.utf8);
      line = all_append is_inside (calendar_text day) (front ++ b ∷ bs) (all_also is_date_byte is_inside (calendar_text day) date_inside date) (all_append is_inside front (b ∷ bs) refl is.line);
      last = solid_append (calendar_text day) (front ++ b ∷ bs) (omega arith) (solid_append front (b ∷ bs) (omega arith) is.last);
    }

few_small : (n : ℕ) → n < 2 ^ 100 → n < 2 ^ 127
few_small n h = omega arith

pub contents_are_lines : (i j : Pads) (ss : List Spent) → AllByRecursion IsSpent ss → AreLines (contents i j ss)
contents_are_lines i j [] are = tt
contents_are_lines i j (s ∷ ss) are =
    (posting_is_line s.account (i s) (j s) s.count (are.0).account (few_small s.count (are.0).few), contents_are_lines i j ss are.1)

pub entry_is_lines : (e : Entry) → IsEntry e → AreLines (entry_lines e)
entry_is_lines e is = (head_is_line e.day e.description is.day is.description, contents_are_lines (left_pad (widths e)) (right_pad (widths e)) e.spent is.spent)

-- ---- what it says

parts : (context : Context) (line : ℕ) (c : List ℕ) (cs : List (List ℕ))
    → entry_of context line (c ∷ cs)
    ≡ (head_of context line c >>= λ head. postings_of context (year_of head.day) (line + 1) cs >>= λ ps. Ok (item.Txn (txn_from line head (comments_in cs) ps)))
unfolding entry_with
parts context line c cs = refl

whole : (line : ℕ) (e : Entry) → txn_from line (head_with e.day Cleared [] e.description []) [] (postings_from (line + 1) (map spent_posting e.spent)) ≡ numbered_txn line (entry_txn e)
unfolding tags_within
whole line e = refl

pub entry_read : (year : Option ℕ) (line : ℕ) (e : Entry) → IsEntry e → entry_of (bare year) line (entry_lines e) ≡ Ok (item.Txn (numbered_txn line (entry_txn e)))
entry_read year line e is =
    let context = bare year in
    let i = left_pad (widths e) in
    let j = right_pad (widths e) in
    let cs = contents i j e.spent in
    let head = head_with e.day Cleared [] e.description [] in
    parts context line (head_bytes e.day e.description) cs
    ∙ ap (λ (r : Result Head Fault). r >>= λ h. postings_of context (year_of h.day) (line + 1) cs >>= λ ps. Ok (item.Txn (txn_from line h (comments_in cs) ps))) (head_read year line e.day e.description is.day is.description)
    ∙ ap (λ (r : Result (List Posting) Fault). r >>= λ ps. Ok (item.Txn (txn_from line head (comments_in cs) ps))) (postings_read year (year_of e.day) (line + 1) i j e.spent is.spent)
    ∙ ap (λ (more : List (List ℕ)). Ok (item.Txn (txn_from line head more (postings_from (line + 1) (map spent_posting e.spent))))) (no_comments i j e.spent)
    ∙ ap (λ (t : Txn). Ok (item.Txn t)) (whole line e)
