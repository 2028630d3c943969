-- A plain transaction reads again where it is printed.
use Rattle.std.proofs.Common.{ℕ, ◌≡◌, ◌+◌, ◌≤◌, Bool, true, false, cond, ◌==◌, ◌&&◌, not, codes, List, [], ◌∷◌, ◌++◌, length, map, Option, Some, None, Result, Ok, Err, refl, sym, ap, subst, ◌∙◌, append_assoc}
use Rattle.std.specs.Prelude.{is_none}
use Rattle.std.specs.List.{flat_map, AllByRecursion}
use Rattle.hl_base.specs.Items.{is_white, kind_of}
use Rattle.hl_time.specs.Calendar.{year_of}
use Rattle.hl_time.specs.Date.{date_of}
use Rattle.hl_time.specs.declared.day.Day.{Day}
use Rattle.book.specs.declared.amount.Amount.{Amount}
use Rattle.book.specs.declared.fault.Cause.TheVariants as cause
use Rattle.book.specs.declared.fault.Fault.{Fault}
use Rattle.book.specs.declared.item.Item.TheVariants as item
use Rattle.book.specs.declared.rules.RulePosting.{RulePosting}
use Rattle.book.specs.declared.transaction.Posting.{Posting}
use Rattle.book.specs.declared.transaction.Txn.{Txn}
use Rattle.entry_reader.specs.Causes.{fault_at, ◌>>=◌}
use Rattle.entry_reader.specs.Comments.{comment_text, comments_in, date_value, day_in, day_or, day_written, is_comment}
use Rattle.entry_reader.specs.Contexts.{Context, context_of, decided_mark}
use Rattle.entry_reader.specs.Entries.{entry_of, entry_with, txn_from}
use Rattle.entry_reader.specs.Heads.{Head, head_of, is_mark}
use Rattle.entry_reader.specs.Lines.{before_white, contents_of, first_is}
use Rattle.entry_reader.specs.Postings.{each_of, posting_line, posting_of, postings_of, rule_posting_of, rule_posting_with, with_comments}
use Rattle.entry_reader.specs.declared.quantity.Holder.TheVariants as holder
use Rattle.journal_printer.specs.Layout.{entry_text, fields_of, posting_text, postings_shown, txn_text, was_missing, are_of_one, widths_of, written_after}
use Rattle.journal_printer.specs.Texts as shown
use Rattle.journal_printer.specs.Texts.{Shaping}
use Rattle.journal_printer.specs.declared.detail.Detail.{Detail}
use Rattle.journal_printer.specs.declared.detail.Detail.TheVariants as detailed
use Rattle.journal_printer.specs.declared.widths.Widths.{Widths}
use Rattle.written_logs.proofs.Accounts.{bare}
use Rattle.written_logs.proofs.Bytes.{before_white_solid}
use Rattle.written_logs.proofs.Lines.{IsLine, all_parts, joined}
use Rattle.closed_journals.proofs.Pieces.{reading_entry}
use Rattle.closed_journals.proofs.Texts.{AreTexts, IsText}
use Rattle.printed_entries.specs.Alike.{AreShapes, unshaped_posting}
use Rattle.printed_entries.specs.Shapes.{IsShape}
use Rattle.printed_entries.specs.Printed.{IsPlain, PrintsBack, is_titled}
use Rattle.printed_entries.proofs.Found.{IsNoted, Noted, bare_plain, noted, read_found}
use Rattle.printed_entries.proofs.Heads.{IsHead, head_bytes, head_kind, head_line, head_read}
use Rattle.printed_entries.proofs.Joined.{IsIndented, joined_contents, joined_first, joined_utf8, one_piece}
use Rattle.printed_entries.proofs.Lines.{IsShownIn, line_text, posting_shown_in}
use Rattle.printed_entries.proofs.Remarks.{AreRemarks, comment_shown, comments_further, each_further, further_content, further_indented, further_line, further_text, own_text}
use Rattle.printed_entries.proofs.Told.{ChangesNothing}

-- ---- which postings are shown

none_of_one : (n m : Noted) → (n.posting).filled ≡ false → are_of_one (noted n) (noted m) ≡ false
none_of_one n m h = ap (λ (b : Bool). (b && is_none (n.posting).wanted) && was_missing (noted m) && ((n.posting).line == (m.posting).line)) h

notes_after : (year : ℕ) (n : Noted) (ms : List Noted) → (n.posting).filled ≡ false → AllByRecursion (IsNoted year) ms → written_after (noted n) (map noted ms) ≡ map noted ms
notes_after year n [] h are = refl
notes_after year n (m ∷ ms) h are =
    ap (λ (t : Bool). cond {A = List Posting} t [] (noted m ∷ []) ++ written_after (noted m) (map noted ms)) (none_of_one n m h)
    ∙ ap (λ (ps : List Posting). noted m ∷ ps) (notes_after year m ms ((are.0).read).filled are.1)

all_shown : (detail : Detail) (year : ℕ) (ns : List Noted) → AllByRecursion (IsNoted year) ns → postings_shown detail (map noted ns) ≡ map noted ns
all_shown detailed.Explicit year ns are = refl
all_shown detailed.Written year [] are = refl
all_shown detailed.Written year (n ∷ ns) are = ap (λ (ps : List Posting). noted n ∷ ps) (notes_after year n ns ((are.0).read).filled are.1)

-- ---- lines

joined_append : (xs ys : List (List ℕ)) → joined (xs ++ ys) ≡ joined xs ++ joined ys
joined_append [] ys = refl
joined_append (x ∷ xs) ys = ap (λ (t : List ℕ). x ++ 10 ∷ t) (joined_append xs ys) ∙ sym (append_assoc x (10 ∷ joined xs) (joined ys))

further_contents : (more rest : List (List ℕ)) → map before_white (map further_line more ++ rest) ≡ map further_content more ++ map before_white rest
further_contents [] rest = refl
further_contents (t ∷ ts) rest = ap (λ (xs : List (List ℕ)). further_content t ∷ xs) (further_contents ts rest)

further_texts : (more : List (List ℕ)) → AreRemarks more → AreTexts (map further_line more)
further_texts [] are = tt
further_texts (t ∷ ts) are = (further_text t are.0, further_texts ts are.1)

all_further : (more : List (List ℕ)) → AllByRecursion IsIndented (map further_line more)
all_further [] = tt
all_further (t ∷ ts) = (further_indented t, all_further ts)

as_text : (xs : List ℕ) → IsLine xs → IsText xs
as_text xs is = record { utf8 = is.utf8; line = is.line }

-- ---- days

day_any : (y one two : ℕ) (texts : List (List ℕ)) (d : Option Day) → day_in y one texts ≡ Ok d → day_in y two texts ≡ Ok d
day_any y one two [] d h = h
day_any y one two (text ∷ texts) d h = by (date_value text) h (λ e. day_any y (one + 1) (two + 1) texts d e)
  where
    written : (r : Result ℕ ℕ) → day_written one r ≡ Ok d → day_written two r ≡ Ok d
    written (Ok day) e = e
    written (Err at) e = absurd (let never : ⊥ = cc in never)

    by : (o : Option (List ℕ)) → day_or o y one (day_in y (one + 1) texts) ≡ Ok d → (day_in y (one + 1) texts ≡ Ok d → day_in y (two + 1) texts ≡ Ok d)
        → day_or o y two (day_in y (two + 1) texts) ≡ Ok d
    by None e next = next e
    by (Some value) e next = written (date_of value (Some y)) e

-- ---- one posting

-- what is made of a line that is read
abbrev made : ℕ → ℕ → List (List ℕ) → RulePosting × List ℕ → Result RulePosting Fault
made y line more p = day_in y line (p.1 ∷ more) >>= λ day. Ok (rule_posting_with (with_comments (p.0).posting p.1 more day) (p.0).factor)

made_of : (context : Context) (y line : ℕ) (content : List ℕ) (after : List (List ℕ)) → first_is is_white content ≡ true
    → rule_posting_of (holder.Entry y) context line content after ≡ (posting_line (holder.Entry y) context line content >>= made y line (comments_in after))
unfolding rule_posting_of
made_of context y line content after white =
    ap (λ (t : Bool). cond {A = Result RulePosting Fault} (not t) (Err (fault_at line cause.Form))
    (posting_line (holder.Entry y) context line content >>= made y line (comments_in after))) white

posting_read : (context : Context) (y line : ℕ) (content : List ℕ) (after : List (List ℕ)) (p : RulePosting) (own : List ℕ) (more : List (List ℕ)) (day : Option Day) → first_is is_white content ≡ true
    → posting_line (holder.Entry y) context line content ≡ Ok (p, own) → comments_in after ≡ more → day_in y line (own ∷ more) ≡ Ok day
    → posting_of (holder.Entry y) context line content after ≡ Ok (with_comments p.posting own more day)
posting_read context y line content after p own more day white reads comments days =
    ap (λ (r : Result RulePosting Fault). r >>= λ q. Ok q.posting)
    (made_of context y line content after white
    ∙ ap (λ (r : Result (RulePosting × List ℕ) Fault). r >>= made y line (comments_in after)) reads
    ∙ ap (λ (cs : List (List ℕ)). made y line cs (p, own)) comments
    ∙ ap (λ (r : Result (Option Day) Fault). r >>= λ d. Ok (rule_posting_with (with_comments p.posting own more d) p.factor)) days)

one_more : (reads : ℕ → List ℕ → List (List ℕ) → Result Posting Fault) (line : ℕ) (content : List ℕ) (after : List (List ℕ)) (p : Posting) (ps : List Posting)
    → is_comment content ≡ false → reads line content after ≡ Ok p → each_of reads (line + 1) after ≡ Ok ps → each_of reads line (content ∷ after) ≡ Ok (p ∷ ps)
unfolding each_of
one_more reads line content after p ps none one more =
    ap (λ (t : Bool). cond {A = Result (List Posting) Fault} t (each_of reads (line + 1) after) (reads line content after >>= λ q. each_of reads (line + 1) after >>= λ qs. Ok (q ∷ qs))) none
    ∙ ap (λ (r : Result Posting Fault). r >>= λ q. each_of reads (line + 1) after >>= λ qs. Ok (q ∷ qs)) one
    ∙ ap (λ (r : Result (List Posting) Fault). r >>= λ qs. Ok (p ∷ qs)) more

none_left : (reads : ℕ → List ℕ → List (List ℕ) → Result Posting Fault) (line : ℕ) → each_of reads line [] ≡ Ok []
unfolding each_of
none_left reads line = refl

with_same : (p q : Posting) (own : List ℕ) (more : List (List ℕ)) (day : Option Day) → unshaped_posting p ≡ unshaped_posting q
    → unshaped_posting (with_comments p own more day) ≡ unshaped_posting (with_comments q own more day)
with_same p q own more day e = ap (λ (r : Posting). with_comments r own more day) e

-- ---- the entry

-- a posting that was read, and that is shown with no mark but its own
pub record IsShowable (year : ℕ) (n : Noted) : Type 0 where
  pub note : IsNoted year n
  pub account : first_is is_mark (n.posting).account ≡ false

showable : (year : ℕ) (ns : List Noted) → AllByRecursion (IsNoted year) ns → AllByRecursion (λ (p : Posting). first_is is_mark p.account ≡ false) (map noted ns)
    → AllByRecursion (IsShowable year) ns
showable year [] are plain = tt
showable year (n ∷ ns) are plain = (record { note = are.0; account = plain.0 }, showable year ns are.1 plain.1)

-- a posting's line
abbrev pub line_of : Shaping → Detail → Widths → Noted → List ℕ
line_of shape detail w n = line_text shape detail w n.posting n.own

-- the lines of postings, and what they say
abbrev all_lines : Shaping → Detail → Widths → List Noted → List (List ℕ)
all_lines shape detail w [] = []
all_lines shape detail w (n ∷ ns) = line_of shape detail w n ∷ (map further_line n.more ++ all_lines shape detail w ns)

abbrev all_contents : Shaping → Detail → Widths → List Noted → List (List ℕ)
all_contents shape detail w [] = []
all_contents shape detail w (n ∷ ns) = line_of shape detail w n ∷ (map further_content n.more ++ all_contents shape detail w ns)

-- Postings are read again from some lines on.
record AreAgain (context : Context) (y line : ℕ) (contents : List (List ℕ)) (ns : List Noted) : Type 0 where
  postings : List Posting
  reads : postings_of context y line contents ≡ Ok postings
  alike : map unshaped_posting postings ≡ map unshaped_posting (map noted ns)

-- each posting's line, as it is shown, reads as the posting
abbrev pub Shows : Shaping → Detail → Context → ℕ → Widths → Type 0
Shows shape detail context y w = (line : ℕ) (n : Noted) → IsShowable y n → IsShownIn context y line (line_of shape detail w n) n.own n.posting

module _ (shape : Shaping) (detail : Detail) (context : Context) (y : ℕ) (w : Widths) (line_is : Shows shape detail context y w) where
  -- ---- its text

  note_shown : (n : Noted) → IsShowable y n → posting_text w (fields_of shape detail (noted n)) ≡ line_of shape detail w n ++ 10 ∷ joined (map further_line n.more)
  note_shown n is =
      let front = codes "    " ++ entry_text w (fields_of shape detail n.posting) in
      ap (λ (xs : List ℕ). front ++ xs) (comment_shown n.own n.more (is.note).own (is.note).more)
      ∙ sym (append_assoc front (own_text n.own) (10 ∷ joined (map further_line n.more)))

  notes_shown : (ns : List Noted) → AllByRecursion (IsShowable y) ns → flat_map (posting_text w) (map (fields_of shape detail) (map noted ns)) ≡ joined (all_lines shape detail w ns)
  notes_shown [] are = refl
  notes_shown (n ∷ ns) are =
      ap (λ (xs : List ℕ). xs ++ flat_map (posting_text w) (map (fields_of shape detail) (map noted ns))) (note_shown n are.0)
      ∙ ap (λ (xs : List ℕ). (line_of shape detail w n ++ 10 ∷ joined (map further_line n.more)) ++ xs) (notes_shown ns are.1)
      ∙ append_assoc (line_of shape detail w n) (10 ∷ joined (map further_line n.more)) (joined (all_lines shape detail w ns))
      ∙ ap (λ (xs : List ℕ). line_of shape detail w n ++ 10 ∷ xs) (sym (joined_append (map further_line n.more) (all_lines shape detail w ns)))

  -- ---- its lines

  lines_texts : (ns : List Noted) → AllByRecursion (IsShowable y) ns → AreTexts (all_lines shape detail w ns)
  lines_texts [] are = tt
  lines_texts (n ∷ ns) are =
      (as_text (line_of shape detail w n) (line_is 0 n are.0).is_line, all_parts IsText (map further_line n.more) (all_lines shape detail w ns) (further_texts n.more ((are.0).note).more) (lines_texts ns are.1))

  lines_indented : (ns : List Noted) → AllByRecursion (IsShowable y) ns → AllByRecursion IsIndented (all_lines shape detail w ns)
  lines_indented [] are = tt
  lines_indented (n ∷ ns) are =
      ((line_is 0 n are.0).indented, all_parts IsIndented (map further_line n.more) (all_lines shape detail w ns) (all_further n.more) (lines_indented ns are.1))

  lines_say : (ns : List Noted) → AllByRecursion (IsShowable y) ns → map before_white (all_lines shape detail w ns) ≡ all_contents shape detail w ns
  lines_say [] are = refl
  lines_say (n ∷ ns) are =
      ap (λ (x : List ℕ). x ∷ map before_white (map further_line n.more ++ all_lines shape detail w ns)) (before_white_solid (line_of shape detail w n) ((line_is 0 n are.0).is_line).last)
      ∙ ap (λ (xs : List (List ℕ)). line_of shape detail w n ∷ xs) (further_contents n.more (all_lines shape detail w ns))
      ∙ ap (λ (xs : List (List ℕ)). line_of shape detail w n ∷ (map further_content n.more ++ xs)) (lines_say ns are.1)

  no_comments : (ns : List Noted) → AllByRecursion (IsShowable y) ns → comments_in (all_contents shape detail w ns) ≡ []
  no_comments [] are = refl
  no_comments (n ∷ ns) are =
      let after = map further_content n.more ++ all_contents shape detail w ns in
      ap (λ (t : Bool). cond t (comment_text (line_of shape detail w n) ∷ comments_in after) []) (line_is 0 n are.0).no_comment

  -- ---- its postings

  postings_read : (line : ℕ) (ns : List Noted) → AllByRecursion (IsShowable y) ns → AreAgain context y line (all_contents shape detail w ns) ns
  postings_read line [] are = record { postings = []; reads = none_left (posting_of (holder.Entry y) context) line; alike = refl }
  postings_read line (n ∷ ns) are =
      let is = are.0 in
      let again = line_is line n is in
      let next = line + 1 + length n.more in
      let rest = postings_read next ns are.1 in
      let after = map further_content n.more ++ all_contents shape detail w ns in
      let p = with_comments (again.read).posting n.own n.more n.day in
      let one : posting_of (holder.Entry y) context line (line_of shape detail w n) after ≡ Ok p =
      posting_read context y line (line_of shape detail w n) after again.read n.own n.more n.day refl again.reads (comments_further n.more (all_contents shape detail w ns) (is.note).more (no_comments ns are.1))
      (day_any y (is.note).line line (n.own ∷ n.more) n.day (is.note).day) in
      record {
        postings = p ∷ rest.postings;
        reads = one_more (posting_of (holder.Entry y) context) line (line_of shape detail w n) after p rest.postings again.no_comment one
            (each_further (posting_of (holder.Entry y) context) (line + 1) next n.more (all_contents shape detail w ns) (is.note).more refl ∙ rest.reads);
        alike = ap (λ (q : Posting). q ∷ map unshaped_posting rest.postings) (with_same (again.read).posting n.posting n.own n.more n.day again.alike)
            ∙ ap (λ (qs : List Posting). unshaped_posting (noted n) ∷ qs) rest.alike;
      }

-- ---- the whole

head_joined : (a b c d o e : List ℕ) → (((a ++ b) ++ c) ++ d) ++ (o ++ e) ≡ (a ++ (b ++ (c ++ (d ++ o)))) ++ e
head_joined a b c d o e = simp append_assoc

parts : (context : Context) (line : ℕ) (c : List ℕ) (cs : List (List ℕ))
    → entry_of context line (c ∷ cs)
    ≡ (head_of context line c >>= λ head. postings_of context (year_of head.day) (line + 1) cs >>= λ ps. Ok (item.Txn (txn_from line head (comments_in cs) ps)))
unfolding entry_with
parts context line c cs = refl

module _ (shape : Shaping) (detail : Detail) (context : Context) (line first : ℕ) (head : Head) (more : List (List ℕ)) (ns : List Noted)
    (line_is : (w : Widths) → Shows shape detail context (year_of head.day) w) (is : IsHead head) (are : AreRemarks more) (notes : AllByRecursion (IsShowable (year_of head.day)) ns) (known : AllByRecursion (IsNoted (year_of head.day)) ns)
    (title : is_titled head.code head.description ≡ true) where
  abbrev txn : Txn
  txn = txn_from first head more (map noted ns)

  abbrev w : Widths
  w = widths_of (map (fields_of shape detail) (map noted ns))

  abbrev y : ℕ
  y = year_of head.day

  abbrev below : List (List ℕ)
  below = map further_line more ++ all_lines shape detail w ns

  abbrev said : List (List ℕ)
  said = map further_content more ++ all_contents shape detail w ns

  abbrev text : List ℕ
  text = joined (head_bytes head ∷ below)

  text_is : txn_text shape detail txn ≡ text
  text_is =
      ap (λ (ps : List Posting). shown.head_text txn ++ flat_map (posting_text (widths_of (map (fields_of shape detail) ps))) (map (fields_of shape detail) ps)) (all_shown detail y ns known)
      ∙ ap (λ (xs : List ℕ). shown.head_text txn ++ xs) (notes_shown shape detail context y w (line_is w) ns notes)
      ∙ ap (λ (xs : List ℕ). ((((shown.calendar_text head.day ++ shown.head_mark head.mark) ++ shown.code_text head.code) ++ shown.description_text head.description) ++ xs)
      ++ joined (all_lines shape detail w ns)) (comment_shown head.comment more is.comment are)
      ∙ ap (λ (xs : List ℕ). xs ++ joined (all_lines shape detail w ns))
      (head_joined (shown.calendar_text head.day) (shown.head_mark head.mark) (shown.code_text head.code) (shown.description_text head.description) (own_text head.comment) (10 ∷ joined (map further_line more)))
      ∙ append_assoc (head_bytes head) (10 ∷ joined (map further_line more)) (joined (all_lines shape detail w ns))
      ∙ ap (λ (xs : List ℕ). head_bytes head ++ 10 ∷ xs) (sym (joined_append (map further_line more) (all_lines shape detail w ns)))

  lines_are : AreTexts (head_bytes head ∷ below)
  lines_are = (as_text (head_bytes head) (head_line head is), all_parts IsText (map further_line more) (all_lines shape detail w ns) (further_texts more are) (lines_texts shape detail context y w (line_is w) ns notes))

  all_indented : AllByRecursion IsIndented below
  all_indented = all_parts IsIndented (map further_line more) (all_lines shape detail w ns) (all_further more) (lines_indented shape detail context y w (line_is w) ns notes)

  contents_are : contents_of text ≡ head_bytes head ∷ said
  contents_are =
      joined_contents (head_bytes head ∷ below) lines_are
      ∙ ap (λ (x : List ℕ). x ∷ map before_white below) (before_white_solid (head_bytes head) (head_line head is).last)
      ∙ ap (λ (xs : List (List ℕ)). head_bytes head ∷ xs) (further_contents more (all_lines shape detail w ns))
      ∙ ap (λ (xs : List (List ℕ)). head_bytes head ∷ (map further_content more ++ xs)) (lines_say shape detail context y w (line_is w) ns notes)

  again : AreAgain context y (line + 1 + length more) (all_contents shape detail w ns) ns
  again = postings_read shape detail context y w (line_is w) (line + 1 + length more) ns notes

  abbrev read_txn : Txn
  read_txn = txn_from line head more again.postings

  entry_read : entry_of context line (contents_of text) ≡ Ok (item.Txn read_txn)
  entry_read =
      ap (entry_of context line) contents_are
      ∙ parts context line (head_bytes head) said
      ∙ ap (λ (r : Result Head Fault). r >>= λ h. postings_of context (year_of h.day) (line + 1) said >>= λ ps. Ok (item.Txn (txn_from line h (comments_in said) ps))) (head_read context line head is title)
      ∙ ap (λ (r : Result (List Posting) Fault). r >>= λ ps. Ok (item.Txn (txn_from line head (comments_in said) ps)))
      (each_further (posting_of (holder.Entry y) context) (line + 1) (line + 1 + length more) more (all_contents shape detail w ns) are refl ∙ again.reads)
      ∙ ap (λ (cs : List (List ℕ)). Ok (item.Txn (txn_from line head cs again.postings)))
      (comments_further more (all_contents shape detail w ns) are (no_comments shape detail context y w (line_is w) ns notes))

  prints : length text ≤ 65536 → PrintsBack context line text txn
  prints short = record {
    cut = one_piece (head_bytes head) below lines_are (head_kind head is) all_indented;
    txn = read_txn;
    reads = reading_entry context line text (item.Txn read_txn) (joined_utf8 (head_bytes head ∷ below) lines_are)
        (ap kind_of (joined_first (head_bytes head) below lines_are.0) ∙ head_kind head is) short entry_read;
    alike = ap (λ (ps : List Posting). record (txn_from 0 head more []) { postings = ps }) again.alike;
  }

  pub prints_back : length (txn_text shape detail txn) ≤ 65536 → PrintsBack context line (txn_text shape detail txn) txn
  prints_back short =
      subst (λ (xs : List ℕ). PrintsBack context line xs txn) (sym text_is) (prints (subst (λ (xs : List ℕ). length xs ≤ 65536) text_is short))

pub shows : (shape : Shaping) (detail : Detail) (context : Context) (y : ℕ) (w : Widths) → ChangesNothing context → ((a : Amount) → IsShape (decided_mark context a.symbol) (shape a))
    → Shows shape detail context y w
shows shape detail context y w plain shapes line n is = posting_shown_in context shape detail y line w n.posting n.own plain shapes (is.note).read is.account (is.note).own

-- a plain transaction in any context in which the lines of its postings read
pub plain_in : (shape : Shaping) (detail : Detail) (context : Context) (line : ℕ) (t : Txn) → ((y : ℕ) (w : Widths) → Shows shape detail context y w) → IsPlain t
    → length (txn_text shape detail t) ≤ 65536 → PrintsBack context line (txn_text shape detail t) t
plain_in shape detail context line t showing plain short =
    let f = read_found t plain.read in
    let y = year_of (f.head).day in
    let titled : is_titled (f.head).code (f.head).description ≡ true = subst (λ (u : Txn). is_titled u.code u.description ≡ true) f.is plain.titled in
    let accounts = subst (λ (u : Txn). AllByRecursion (λ (p : Posting). first_is is_mark p.account ≡ false) u.postings) f.is plain.accounts in
    subst (λ (u : Txn). PrintsBack context line (txn_text shape detail u) u) (sym f.is)
    (prints_back shape detail context line f.line f.head f.more f.notes (showing y) f.head_is f.more_are (showable y f.notes f.notes_are accounts) f.notes_are titled
    (subst (λ (u : Txn). length (txn_text shape detail u) ≤ 65536) f.is short))

-- no decimal mark is decided without directives
undecided : (year : Option ℕ) (symbol : List ℕ) → decided_mark (bare year) symbol ≡ None
undecided year [] = refl
undecided year (b ∷ bs) = refl

pub plain_prints : (shape : Shaping) (detail : Detail) (year : Option ℕ) (line : ℕ) (t : Txn) → AreShapes shape → IsPlain t → length (txn_text shape detail t) ≤ 65536
    → PrintsBack (context_of year []) line (txn_text shape detail t) t
plain_prints shape detail year line t shapes plain short =
    plain_in shape detail (bare year) line t
    (λ y w. shows shape detail (bare year) y w (bare_plain year) (λ a. subst (λ (d : Option ℕ). IsShape d (shape a)) (sym (undecided year a.symbol)) (shapes a)))
    plain short
