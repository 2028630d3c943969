-- A journal of hours is cut into its entries, and each reads again.
use Rattle.std.proofs.Common.{◌≡◌, ℕ, suc, ◌+◌, ◌≤◌, Bool, true, false, cond, ◌==◌, ◌&&◌, codes, List, [], ◌∷◌, ◌++◌, length, take, drop, map, Option, Result, Ok, Err, refl, sym, ap, ◌∙◌, arith, append_assoc, length-append}
use Rattle.std.specs.Prelude.{nat_lt}
use Rattle.std.specs.Cmp.Lexicographic.{pointwise}
use Rattle.std.specs.List.{prefix_len, take_while, concat, AllByRecursion}
use Rattle.std.specs.Str.{is_utf8}
use Rattle.std.proofs.Math.Seq.{take-append_seam, drop-append_seam}
use Rattle.std.proofs.lemmas.Bool.{false≢true}
use Rattle.std.proofs.lemmas.Bool.Decides.{nat_tests}
use Rattle.std.proofs.lemmas.Grind.{flat_map-append}
use Rattle.std.proofs.lemmas.List.{length-map}
use Rattle.std.proofs.lemmas.List.Folds.{length-prefix_len}
use Rattle.hl_base.specs.declared.items.Kind.{Kind}
use Rattle.hl_base.specs.declared.items.Kind.TheVariants as kinds
use Rattle.hl_base.specs.declared.items.Piece.{Piece}
use Rattle.hl_base.specs.Items.{is_digit, is_blank, is_indented, is_remark, opens_block, kind_of, lines_more, cut_from}
use Rattle.hl_base.specs.Lines.{lines_of, first_line}
use Rattle.book.specs.declared.fault.Fault.{Fault}
use Rattle.book.specs.declared.fault.Cause.TheVariants as cause
use Rattle.book.specs.declared.item.Item.{Item}
use Rattle.book.specs.declared.item.Item.TheVariants as item
use Rattle.book.specs.declared.item.Placed.{Placed}
use Rattle.book.specs.declared.transaction.Txn.{Txn}
use Rattle.book.specs.Postings.{txns_of}
use Rattle.entry_reader.specs.Causes.{fault_at}
use Rattle.entry_reader.specs.Contexts.{Context, context_from, context_of, directive_in, directives_in}
use Rattle.entry_reader.specs.Entries.{entry_of}
use Rattle.entry_reader.specs.Lines.{first_is, contents_of}
use Rattle.entry_reader.proofs.Texts.{end_line_utf8}
use Rattle.journal_printer.specs.declared.detail.Detail.{Detail}
use Rattle.journal_printer.specs.Texts.{Shaping, calendar_text, description_text}
use Rattle.journal_reader.specs.Items.{said_by, reading, reading_from, broken_line, items_in}
use Rattle.written_logs.specs.Plain.{Spent, spent_posting, Entry, entry_txn, IsEntry}
use Rattle.written_logs.specs.Written.{IsOwn, journal_of, numbered, numbered_txn}
use Rattle.written_logs.proofs.Accounts.{bare}
use Rattle.written_logs.proofs.Amounts.{amount_bytes}
use Rattle.written_logs.proofs.Days.{shown_first}
use Rattle.written_logs.proofs.Entries.{entry_lines, entry_is_lines, entry_read, txn_is, left_pad, right_pad, widths}
use Rattle.written_logs.proofs.Heads.{head_bytes}
use Rattle.written_logs.proofs.Lines.{joined, ended, lines_joined, contents_joined, first_joined, concat_ended, utf8_joined}
use Rattle.written_logs.proofs.Postings.{Pads, contents, posting_bytes}

-- ---- kinds of lines

not_block : (b : ℕ) (bs : List ℕ) → (99 == b) ≡ false → opens_block (b ∷ bs) ≡ false
not_block b bs e = ap (λ (t : Bool). (t && pointwise (λ x y. x == y) (codes "omment") (take 6 bs)) && is_blank (drop 7 (b ∷ bs))) e

digit_entry : (b : ℕ) (bs : List ℕ) → is_digit b ≡ true → kind_of (b ∷ bs) ≡ kinds.Entry
digit_entry b bs h =
    let e99 : (99 == b) ≡ false = grind (arith, nat_tests) in
    let e10 : (b == 10) ≡ false = grind (arith, nat_tests) in
    let e32 : (b == 32) ≡ false = grind (arith, nat_tests) in
    let e9 : (b == 9) ≡ false = grind (arith, nat_tests) in
    let e13 : (b == 13) ≡ false = grind (arith, nat_tests) in
    let e59 : (b == 59) ≡ false = grind (arith, nat_tests) in
    let e35 : (b == 35) ≡ false = grind (arith, nat_tests) in
    let e42 : (b == 42) ≡ false = grind (arith, nat_tests) in
    let block = not_block b bs e99 in
    rw (block, e32, e9, e13, e10, e59, e35, e42, h) refl

digit_remark : (b : ℕ) (bs : List ℕ) → is_digit b ≡ true → is_remark (b ∷ bs) ≡ false
digit_remark b bs h =
    let e10 : (b == 10) ≡ false = grind (arith, nat_tests) in
    let e32 : (b == 32) ≡ false = grind (arith, nat_tests) in
    let e9 : (b == 9) ≡ false = grind (arith, nat_tests) in
    let e13 : (b == 13) ≡ false = grind (arith, nat_tests) in
    let e59 : (b == 59) ≡ false = grind (arith, nat_tests) in
    let e35 : (b == 35) ≡ false = grind (arith, nat_tests) in
    let e42 : (b == 42) ≡ false = grind (arith, nat_tests) in
    rw (e32, e9, e13, e10, e59, e35, e42) refl

entry_kind : (text : List ℕ) → first_is is_digit text ≡ true → kind_of text ≡ kinds.Entry
entry_kind [] h = absurd (false≢true h)
entry_kind (b ∷ bs) h = digit_entry b bs h

no_remark : (text : List ℕ) → first_is is_digit text ≡ true → is_remark text ≡ false
no_remark [] h = absurd (false≢true h)
no_remark (b ∷ bs) h = digit_remark b bs h

-- the first line of an entry, with its LF
abbrev head_line : Entry → List ℕ
head_line e = ended (head_bytes e.day e.description)

head_first : (e : Entry) → IsEntry e → first_is is_digit (head_line e) ≡ true
head_first e is =
    let tail : List ℕ = 32 ∷ 42 ∷ description_text e.description in
    ap (first_is is_digit) (append_assoc (calendar_text e.day) tail (10 ∷ [])) ∙ shown_first e.day (tail ++ 10 ∷ []) is.day

-- the lines of its postings
abbrev posting_lines : Entry → List (List ℕ)
posting_lines e = map ended (contents (left_pad (widths e)) (right_pad (widths e)) e.spent)

-- an empty line
abbrev gap : List ℕ
gap = 10 ∷ []

-- ---- the cut

indented : (i j : Pads) (ss : List Spent) (more : List (List ℕ)) → prefix_len is_indented (map ended (contents i j ss) ++ gap ∷ more) ≡ length (map ended (contents i j ss))
indented i j [] more = refl
indented i j (s ∷ ss) more =
    let rest = indented i j ss more in
    let next : 1 + length (map ended (contents i j ss)) ≡ suc (length (map ended (contents i j ss))) = omega arith in
    ap (λ (n : ℕ). 1 + n) rest ∙ next

skip : (ps more : List (List ℕ)) (at line at2 line2 : ℕ) → at2 ≡ at + length (concat ps) → line2 ≡ line + length ps → cut_from (length ps) at line (ps ++ more) ≡ cut_from 0 at2 line2 more
skip [] more at line at2 line2 ea el =
    let a : at ≡ at2 = omega arith in
    let l : line ≡ line2 = omega arith in
    ap (λ (k : ℕ). cut_from 0 k line more) a ∙ ap (λ (k : ℕ). cut_from 0 at2 k more) l
skip (p ∷ ps) more at line at2 line2 ea el =
    skip ps more (at + length p) (line + 1) at2 line2 (omega (arith, ea, length-append p (concat ps))) (omega arith)

abbrev piece : ℕ → ℕ → ℕ → Kind → Piece
piece at len line kind = record { at = at; len = len; line = line; kind = kind }

gap_cut : (at line : ℕ) (more : List (List ℕ)) → prefix_len is_remark more ≡ 0 → cut_from 0 at line (gap ∷ more) ≡ piece at 1 line kinds.Gap ∷ cut_from 0 (at + 1) (line + 1) more
gap_cut at line more none =
    let count : length (take_while is_remark more) ≡ 0 = length-prefix_len is_remark more ∙ none in
    ap (λ (n : ℕ). piece at (1 + length (concat (take n more))) line kinds.Gap ∷ cut_from n (at + 1) (line + 1) more) count

cut_entry : (at line : ℕ) (head : List ℕ) (ps more : List (List ℕ)) → kind_of head ≡ kinds.Entry → prefix_len is_indented (ps ++ gap ∷ more) ≡ length ps → prefix_len is_remark more ≡ 0
    → cut_from 0 at line (head ∷ (ps ++ gap ∷ more))
    ≡ piece at (length head + length (concat ps)) line kinds.Entry
    ∷ piece (at + (length head + length (concat ps))) 1 (line + 1 + length ps) kinds.Gap
    ∷ cut_from 0 (at + (length head + length (concat ps)) + 1) (line + 1 + length ps + 1) more
cut_entry at line head ps more kind all none =
    let ls = ps ++ gap ∷ more in
    let count : length (take_while is_indented ls) ≡ length ps = length-prefix_len is_indented ls ∙ all in
    let after = at + (length head + length (concat ps)) in
    let first = piece at (length head + length (concat ps)) line kinds.Entry in
    ap (λ (k : Kind). piece at (length head + length (concat (take (lines_more k ls) ls))) line k ∷ cut_from (lines_more k ls) (at + length head) (line + 1) ls) kind
    ∙ ap (λ (n : ℕ). piece at (length head + length (concat (take n ls))) line kinds.Entry ∷ cut_from n (at + length head) (line + 1) ls) count
    ∙ ap (λ (xs : List (List ℕ)). piece at (length head + length (concat xs)) line kinds.Entry ∷ cut_from (length ps) (at + length head) (line + 1) ls) (take-append_seam ps (gap ∷ more))
    ∙ ap (λ (pieces : List Piece). first ∷ pieces)
    (skip ps (gap ∷ more) (at + length head) (line + 1) after (line + 1 + length ps) (omega arith) refl
    ∙ gap_cut after (line + 1 + length ps) more none)

-- ---- a journal of entries

-- their lines, with an empty line after each
abbrev pub whole : List Entry → List ℕ
whole [] = []
whole (e ∷ es) = joined (entry_lines e) ++ 10 ∷ whole es

pub journal_is : (shape : Shaping) (detail : Detail) (es : List Entry) → IsOwn shape → journal_of shape detail (map entry_txn es) ≡ whole es
journal_is shape detail [] own = refl
journal_is shape detail (e ∷ es) own =
    ap (λ (xs : List ℕ). (xs ++ gap) ++ journal_of shape detail (map entry_txn es)) (txn_is shape detail e own)
    ∙ ap (λ (xs : List ℕ). (joined (entry_lines e) ++ gap) ++ xs) (journal_is shape detail es own)
    ∙ append_assoc (joined (entry_lines e)) gap (whole es)

-- how many bytes an entry has
abbrev pub size : Entry → ℕ
size e = length (joined (entry_lines e))

size_is : (e : Entry) → length (head_line e) + length (concat (posting_lines e)) ≡ size e
size_is e = sym (length-append (head_line e) (concat (posting_lines e))) ∙ ap length (concat_ended (entry_lines e))

count_is : (e : Entry) → length (posting_lines e) ≡ length (map spent_posting e.spent)
count_is e =
    length-map (contents (left_pad (widths e)) (right_pad (widths e)) e.spent) ended
    ∙ length-map e.spent (λ (s : Spent). posting_bytes s.account (left_pad (widths e) s) (right_pad (widths e) s) (amount_bytes s.count))
    ∙ sym (length-map e.spent spent_posting)

lines_are : (e : Entry) (es : List Entry) → IsEntry e → lines_of (whole (e ∷ es)) ≡ head_line e ∷ (posting_lines e ++ gap ∷ lines_of (whole es))
lines_are e es is = lines_joined (entry_lines e) (10 ∷ whole es) (entry_is_lines e is)

none_first : (es : List Entry) → AllByRecursion IsEntry es → prefix_len is_remark (lines_of (whole es)) ≡ 0
none_first [] are = refl
none_first (e ∷ es) are =
    ap (prefix_len is_remark) (lines_are e es are.0)
    ∙ ap (λ (t : Bool). cond t (1 + prefix_len is_remark (posting_lines e ++ gap ∷ lines_of (whole es))) 0) (no_remark (head_line e) (head_first e are.0))

-- where an entry and the empty line after it lie
abbrev entry_piece : ℕ → ℕ → Entry → Piece
entry_piece at line e = piece at (size e) line kinds.Entry

abbrev gap_piece : ℕ → ℕ → Entry → Piece
gap_piece at line e = piece (at + size e) 1 (line + 1 + length (map spent_posting e.spent)) kinds.Gap

abbrev pub next_at : ℕ → Entry → ℕ
next_at at e = at + size e + 1

abbrev pub next_line : ℕ → Entry → ℕ
next_line line e = line + 1 + length (map spent_posting e.spent) + 1

pieces_are : (at line : ℕ) (e : Entry) (es : List Entry) → IsEntry e → AllByRecursion IsEntry es
    → cut_from 0 at line (lines_of (whole (e ∷ es))) ≡ entry_piece at line e ∷ gap_piece at line e ∷ cut_from 0 (next_at at e) (next_line line e) (lines_of (whole es))
pieces_are at line e es is are =
    let more = lines_of (whole es) in
    ap (cut_from 0 at line) (lines_are e es is)
    ∙ cut_entry at line (head_line e) (posting_lines e) more (entry_kind (head_line e) (head_first e is))
    (indented (left_pad (widths e)) (right_pad (widths e)) e.spent more) (none_first es are)
    ∙ ap (λ (n : ℕ). piece at n line kinds.Entry ∷ piece (at + n) 1 (line + 1 + length (posting_lines e)) kinds.Gap ∷ cut_from 0 (at + n + 1) (line + 1 + length (posting_lines e) + 1) more) (size_is e)
    ∙ ap (λ (k : ℕ). entry_piece at line e ∷ piece (at + size e) 1 (line + 1 + k) kinds.Gap ∷ cut_from 0 (at + size e + 1) (line + 1 + k + 1) more) (count_is e)

-- ---- what is read

-- the items of the entries from a place and a line on
abbrev pub placed : ℕ → ℕ → List Entry → List Placed
placed at line [] = []
placed at line (e ∷ es) =
    record { piece = entry_piece at line e; item = item.Txn (numbered_txn line (entry_txn e)) }
    ∷ record { piece = gap_piece at line e; item = item.Gap }
    ∷ placed (next_at at e) (next_line line e) es

pub txns_are : (at line : ℕ) (es : List Entry) → txns_of (placed at line es) ≡ numbered line (map entry_txn es)
txns_are at line [] = refl
txns_are at line (e ∷ es) = ap (λ (ts : List Txn). numbered_txn line (entry_txn e) ∷ ts) (txns_are (next_at at e) (next_line line e) es)

not_long : (n : ℕ) → n ≤ 65536 → nat_lt 65536 n ≡ false
not_long n h = grind (arith, nat_tests)

reading_entry : (context : Context) (line : ℕ) (bytes : List ℕ) (i : Item) → is_utf8 bytes ≡ true → kind_of (first_line bytes) ≡ kinds.Entry → length bytes ≤ 65536
    → entry_of context line (contents_of bytes) ≡ Ok i → reading context line bytes ≡ Ok i
unfolding reading
reading_entry context line bytes i utf8 kind short is =
    ap (λ (t : Bool). cond {A = Result Item Fault} t (said_by (kind_of (first_line bytes)) context line bytes) (Err (fault_at (broken_line line bytes) cause.Encoding))) utf8
    ∙ ap (λ (k : Kind). said_by k context line bytes) kind
    ∙ ap (λ (t : Bool). cond {A = Result Item Fault} t (Err (fault_at line cause.TooLong)) (entry_of context line (contents_of bytes))) (not_long (length bytes) short)
    ∙ is

reading_gap : (context : Context) (line : ℕ) → reading context line (10 ∷ []) ≡ Ok item.Gap
unfolding reading
reading_gap context line =
    ap (λ (t : Bool). cond {A = Result Item Fault} t (Ok item.Gap) (Err (fault_at (broken_line line (10 ∷ [])) cause.Encoding))) end_line_utf8

entry_says : (year : Option ℕ) (line : ℕ) (e : Entry) → IsEntry e → size e ≤ 65536 → reading (bare year) line (joined (entry_lines e)) ≡ Ok (item.Txn (numbered_txn line (entry_txn e)))
entry_says year line e is short =
    let lines = entry_is_lines e is in
    reading_entry (bare year) line (joined (entry_lines e)) (item.Txn (numbered_txn line (entry_txn e))) (utf8_joined (entry_lines e) lines)
    (ap kind_of (first_joined (head_bytes e.day e.description) (contents (left_pad (widths e)) (right_pad (widths e)) e.spent) lines.0)
    ∙ entry_kind (head_line e) (head_first e is))
    short
    (ap (entry_of (bare year) line) (contents_joined (entry_lines e) lines) ∙ entry_read year line e is)

bytes_at : (text front mid back : List ℕ) (at n : ℕ) → text ≡ front ++ (mid ++ back) → at ≡ length front → n ≡ length mid → take n (drop at text) ≡ mid
bytes_at text front mid back at n is ea en =
    ap (λ (t : List ℕ). take n (drop at t)) is
    ∙ ap (λ (k : ℕ). take n (drop k (front ++ (mid ++ back)))) ea
    ∙ ap (take n) (drop-append_seam front (mid ++ back))
    ∙ ap (λ (k : ℕ). take k (mid ++ back)) en
    ∙ take-append_seam mid back

two_read : (year : Option ℕ) (before : List Item) (text : List ℕ) (p q : Piece) (ps : List Piece) (i j : Item) (more : List Placed)
    → reading (context_of year before) p.line (take p.len (drop p.at text)) ≡ Ok i
    → reading (context_of year (before ++ i ∷ [])) q.line (take q.len (drop q.at text)) ≡ Ok j
    → reading_from year ((before ++ i ∷ []) ++ j ∷ []) text ps ≡ Ok more
    → reading_from year before text (p ∷ q ∷ ps) ≡ Ok (record { piece = p; item = i } ∷ record { piece = q; item = j } ∷ more)
unfolding reading_from
two_read year before text p q ps i j more one two rest = rw (one, two, rest) refl

none_more : (before : List Item) (i : Item) → directives_in before ≡ [] → directive_in i ≡ [] → directives_in (before ++ i ∷ []) ≡ []
none_more before i h k = flat_map-append directive_in before (i ∷ []) ∙ rw (h, k) refl

read_at : (context : Context) (year : Option ℕ) (line : ℕ) (bytes cut : List ℕ) (i : Item) → context ≡ bare year → bytes ≡ cut → reading (bare year) line cut ≡ Ok i → reading context line bytes ≡ Ok i
read_at context year line bytes cut i ec eb is = ap (λ (c : Context). reading c line bytes) ec ∙ ap (reading (bare year) line) eb ∙ is

none_left : (year : Option ℕ) (before : List Item) (text : List ℕ) → reading_from year before text [] ≡ Ok []
unfolding reading_from
none_left year before text = refl

all_read : (year : Option ℕ) (text : List ℕ) (es : List Entry) (front : List ℕ) (at line : ℕ) (before : List Item)
    → text ≡ front ++ whole es → at ≡ length front → directives_in before ≡ [] → AllByRecursion IsEntry es → AllByRecursion (λ e. size e ≤ 65536) es
    → reading_from year before text (cut_from 0 at line (lines_of (whole es))) ≡ Ok (placed at line es)
all_read year text [] front at line before is ea none are short = none_left year before text
all_read year text (e ∷ es) front at line before is ea none are short =
    let entry = joined (entry_lines e) in
    let txn = item.Txn (numbered_txn line (entry_txn e)) in
    let none_two = none_more before txn none refl in
    let none_three = none_more (before ++ txn ∷ []) item.Gap none_two refl in
    let is_two : text ≡ (front ++ entry) ++ (gap ++ whole es) = is ∙ sym (append_assoc front entry (gap ++ whole es)) in
    let at_two : at + size e ≡ length (front ++ entry) = omega (arith, ea, length-append front entry) in
    let is_three : text ≡ ((front ++ entry) ++ gap) ++ whole es = is_two ∙ sym (append_assoc (front ++ entry) gap (whole es)) in
    let at_three : next_at at e ≡ length ((front ++ entry) ++ gap) = omega (arith, at_two, length-append (front ++ entry) gap) in
    ap (reading_from year before text) (pieces_are at line e es are.0 are.1)
    ∙ two_read year before text (entry_piece at line e) (gap_piece at line e) (cut_from 0 (next_at at e) (next_line line e) (lines_of (whole es)))
    txn item.Gap (placed (next_at at e) (next_line line e) es)
    (read_at (context_of year before) year line (take (size e) (drop at text)) entry txn (ap (context_from year) none)
    (bytes_at text front entry (gap ++ whole es) at (size e) is ea refl) (entry_says year line e are.0 short.0))
    (read_at (context_of year (before ++ txn ∷ [])) year (line + 1 + length (map spent_posting e.spent)) (take 1 (drop (at + size e) text)) gap item.Gap (ap (context_from year) none_two)
    (bytes_at text (front ++ entry) gap (whole es) (at + size e) 1 is_two at_two refl) (reading_gap (bare year) (line + 1 + length (map spent_posting e.spent))))
    (all_read year text es ((front ++ entry) ++ gap) (next_at at e) (next_line line e) ((before ++ txn ∷ []) ++ item.Gap ∷ []) is_three at_three none_three are.1 short.1)

-- The text of entries reads as these.
pub reads : (year : Option ℕ) (es : List Entry) → AllByRecursion IsEntry es → AllByRecursion (λ e. size e ≤ 65536) es → items_in year (whole es) ≡ Ok (placed 0 1 es)
reads year es are short = all_read year (whole es) es [] 0 1 [] refl refl refl are short
