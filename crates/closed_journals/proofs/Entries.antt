-- The lines of an entry as they are shown, and what they say.
use Rattle.std.proofs.Common.{ℕ, zero, suc, ◌≡◌, ◌+◌, ◌-◌, ◌<◌, Bool, true, ltb, List, [], ◌∷◌, ◌++◌, length, map, replicate, codes, Result, Ok, refl, sym, ap, ◌∙◌, arith, append_assoc, append-nil}
use Rattle.std.specs.List.{flat_map, list_all, suffix_len, AllByRecursion}
use Rattle.std.specs.Str.{is_utf8}
use Rattle.std.proofs.lemmas.List.Concat.{flat_map-cons}
use Rattle.hl_base.specs.Items.{is_white}
use Rattle.hl_time.specs.Calendar.{IsDay, year_of}
use Rattle.book.specs.declared.fault.Fault.{Fault}
use Rattle.book.specs.declared.item.Item.TheVariants as item
use Rattle.book.specs.declared.transaction.Mark.TheVariants.{Unmarked}
use Rattle.book.specs.declared.transaction.Posting.{Posting}
use Rattle.book.specs.declared.transaction.Txn.{Txn}
use Rattle.book_care.specs.Entries.{Writing, entry_on, posted, posted_from}
use Rattle.book_care.specs.Lines.{Moved}
use Rattle.entry_reader.specs.Causes.{◌>>=◌}
use Rattle.entry_reader.specs.Comments.{comments_in}
use Rattle.entry_reader.specs.Contexts.{Context, decided_mark}
use Rattle.entry_reader.specs.Entries.{entry_of, entry_with, txn_from}
use Rattle.entry_reader.specs.Heads.{Head, day_at, head_from, head_of, head_with, mark_at}
use Rattle.entry_reader.specs.Lines.{after_white}
use Rattle.entry_reader.specs.Postings.{postings_of}
use Rattle.entry_reader.specs.Tags.{tags_within}
use Rattle.journal_printer.specs.Columns.{width_of}
use Rattle.journal_printer.specs.Entries.{entry_shape}
use Rattle.journal_printer.specs.Layout.{Fields, fields_of, posting_text, postings_shown, postings_text, txn_text, widths_of, written_after}
use Rattle.journal_printer.specs.Texts.{calendar_text, description_text, head_text}
use Rattle.journal_printer.specs.declared.detail.Detail.TheVariants as detail
use Rattle.journal_printer.specs.declared.widths.Widths.{Widths}
use Rattle.written_logs.proofs.Bytes.{is_inside}
use Rattle.written_logs.proofs.Days.{day_at_front}
use Rattle.written_logs.proofs.Lines.{joined, ended}
use Rattle.closed_journals.specs.Added.{Shaped, entry_at, postings_from}
use Rattle.closed_journals.proofs.Amounts.{IsShort, IsWritable, amount_bytes, amount_first, amount_read, amount_shown, shape_again}
use Rattle.closed_journals.proofs.Digits.{IsDecided}
use Rattle.closed_journals.proofs.Names.{IsWhole, IsRead}
use Rattle.closed_journals.proofs.Postings.{IsShown, Shown, content_of, contents, moves, no_comments, postings_read}

-- ---- what is written of a line

-- the side and the space of a symbol's amounts
abbrev left_of : Writing → Moved → Bool
left_of styles m = (styles m.symbol).shape.left

abbrev space_of : Writing → Moved → Bool
space_of styles m = (styles m.symbol).shape.spaced

-- the amount of a line as an entry shows it
abbrev pub shown_amount : Context → Writing → Moved → List ℕ
shown_amount context styles m = amount_bytes context (left_of styles m) (space_of styles m) m.symbol m.value

-- the shape in which it is read
abbrev pub again : Context → Writing → Shaped
again context styles m = shape_again context (left_of styles m) (space_of styles m) m.symbol m.value

-- a line in columns
abbrev pub shown_in : Context → Writing → Widths → Moved → Shown
shown_in context styles w m = record {
  moved = m;
  amount = shown_amount context styles m;
  left = w.account - width_of m.account;
  right = w.amount - width_of (shown_amount context styles m);
}

abbrev pub all_shown : Context → Writing → Widths → List Moved → List Shown
all_shown context styles w [] = []
all_shown context styles w (m ∷ ms) = shown_in context styles w m ∷ all_shown context styles w ms

pub moves_are : (context : Context) (styles : Writing) (w : Widths) (ms : List Moved) → moves (all_shown context styles w ms) ≡ ms
moves_are context styles w [] = refl
moves_are context styles w (m ∷ ms) = ap (λ (l : List Moved). m ∷ l) (moves_are context styles w ms)

-- ---- the layout

abbrev fields : Context → Writing → Moved → Fields
fields context styles m = record { account = m.account; amount = shown_amount context styles m; further = []; is_aligned = true; comment = [] }

AreDecided : Context → List Moved → Type 0
AreDecided context ms = AllByRecursion (λ m. IsDecided (decided_mark context m.symbol)) ms

fields_are : (context : Context) (styles : Writing) (n : ℕ) (m : Moved) → IsDecided (decided_mark context m.symbol) → fields_of (entry_shape context) detail.Written (posted styles n m) ≡ fields context styles m
fields_are context styles n m is = ap (λ (x : List ℕ). record (fields context styles m) { amount = x }) (amount_shown context (left_of styles m) (space_of styles m) m.symbol m.value is)

all_fields : (context : Context) (styles : Writing) (n : ℕ) (ms : List Moved) → AllByRecursion (λ m. IsDecided (decided_mark context m.symbol)) ms
    → map (fields_of (entry_shape context) detail.Written) (posted_from styles n ms) ≡ map (fields context styles) ms
all_fields context styles n [] is = refl
all_fields context styles n (m ∷ ms) is =
    ap (λ (f : Fields). f ∷ map (fields_of (entry_shape context) detail.Written) (posted_from styles (suc n) ms)) (fields_are context styles n m is.0)
    ∙ ap (λ (fs : List Fields). fields context styles m ∷ fs) (all_fields context styles (suc n) ms is.1)

all_after : (styles : Writing) (n k : ℕ) (m : Moved) (ms : List Moved) → written_after (posted styles n m) (posted_from styles k ms) ≡ posted_from styles k ms
all_after styles n k m [] = refl
all_after styles n k m (next ∷ ms) = ap (λ (ps : List Posting). posted styles k next ∷ ps) (all_after styles k (suc k) next ms)

shown_all : (styles : Writing) (n : ℕ) (ms : List Moved) → postings_shown detail.Written (posted_from styles n ms) ≡ posted_from styles n ms
shown_all styles n [] = refl
shown_all styles n (m ∷ ms) = ap (λ (ps : List Posting). posted styles n m ∷ ps) (all_after styles n (suc n) m ms)

pad_one : (i : ℕ) (rest : List ℕ) → replicate i 32 ++ 32 ∷ rest ≡ 32 ∷ (replicate i 32 ++ rest)
pad_one zero rest = refl
pad_one (suc i) rest = ap (λ (xs : List ℕ). 32 ∷ xs) (pad_one i rest)

pad_two : (i : ℕ) (rest : List ℕ) → replicate i 32 ++ 32 ∷ 32 ∷ rest ≡ 32 ∷ 32 ∷ (replicate i 32 ++ rest)
pad_two i rest = pad_one i (32 ∷ rest) ∙ ap (λ (xs : List ℕ). 32 ∷ xs) (pad_one i rest)

shaped_left : (a ri rj m : List ℕ) → (((((a ++ ri) ++ 32 ∷ 32 ∷ []) ++ (rj ++ m)) ++ []) ++ 10 ∷ []) ≡ a ++ (ri ++ 32 ∷ 32 ∷ (rj ++ (m ++ 10 ∷ [])))
shaped_left a ri rj m = simp (append_assoc, append-nil)

shaped_right : (a ri rj m : List ℕ) → (a ++ 32 ∷ 32 ∷ (ri ++ (rj ++ m))) ++ 10 ∷ [] ≡ a ++ 32 ∷ 32 ∷ (ri ++ (rj ++ (m ++ 10 ∷ [])))
shaped_right a ri rj m = simp append_assoc

shaped : (a rj m : List ℕ) (i : ℕ) → (((((a ++ replicate i 32) ++ 32 ∷ 32 ∷ []) ++ (rj ++ m)) ++ []) ++ 10 ∷ []) ≡ (a ++ 32 ∷ 32 ∷ (replicate i 32 ++ (rj ++ m))) ++ 10 ∷ []
shaped a rj m i =
    shaped_left a (replicate i 32) rj m
    ∙ ap (λ (xs : List ℕ). a ++ xs) (pad_two i (rj ++ (m ++ 10 ∷ [])))
    ∙ sym (shaped_right a (replicate i 32) rj m)

line_is : (context : Context) (styles : Writing) (w : Widths) (m : Moved) → posting_text w (fields context styles m) ≡ ended (content_of (shown_in context styles w m))
line_is context styles w m =
    let s = shown_in context styles w m in
    ap (λ (xs : List ℕ). 32 ∷ 32 ∷ 32 ∷ 32 ∷ xs) (shaped m.account (replicate s.right 32) s.amount s.left)

lines_are : (context : Context) (styles : Writing) (w : Widths) (ms : List Moved) → flat_map (posting_text w) (map (fields context styles) ms) ≡ joined (contents (all_shown context styles w ms))
lines_are context styles w [] = refl
lines_are context styles w (m ∷ ms) =
    let s = shown_in context styles w m in
    flat_map-cons (posting_text w) (fields context styles m) (map (fields context styles) ms)
    ∙ ap (λ (xs : List ℕ). xs ++ flat_map (posting_text w) (map (fields context styles) ms)) (line_is context styles w m)
    ∙ ap (λ (xs : List ℕ). ended (content_of s) ++ xs) (lines_are context styles w ms)
    ∙ append_assoc (content_of s) (10 ∷ []) (joined (contents (all_shown context styles w ms)))

-- ---- the head

-- A description of a head that isn't empty and says nothing else.
pub record IsTitle (d : List ℕ) : Type 0 where
  pub shown : description_text d ≡ 32 ∷ d
  pub ascii : list_all (λ b. ltb b 128) d ≡ true
  pub line : list_all is_inside d ≡ true
  pub last : suffix_len is_white d ≡ 0
  pub some : 0 < length d
  pub read : (line day : ℕ) → (mark_at line (after_white (32 ∷ d)) >>= λ mark. Ok (head_from day mark.0 mark.1)) ≡ Ok (head_with day Unmarked [] d [])

pub closing_title : IsTitle (codes "closing")
unfolding mark_at
closing_title = record { shown = refl; ascii = refl; line = refl; last = refl; some = omega arith; read = λ line day. refl }

pub opening_title : IsTitle (codes "opening")
unfolding mark_at
opening_title = record { shown = refl; ascii = refl; line = refl; last = refl; some = omega arith; read = λ line day. refl }

abbrev pub head_bytes : ℕ → List ℕ → List ℕ
head_bytes day d = calendar_text day ++ 32 ∷ d

head_parts : (context : Context) (line : ℕ) (content : List ℕ)
    → head_of context line content ≡ (day_at context.year line content >>= λ day. mark_at line day.1 >>= λ mark. Ok (head_from day.0 mark.0 mark.1))
unfolding head_of
head_parts context line content = refl

head_read : (context : Context) (line day : ℕ) (d : List ℕ) → IsDay day → IsTitle d → head_of context line (head_bytes day d) ≡ Ok (head_with day Unmarked [] d [])
head_read context line day d within is =
    head_parts context line (head_bytes day d)
    ∙ ap (λ (r : Result (ℕ × List ℕ) Fault). r >>= λ at. mark_at line at.1 >>= λ mark. Ok (head_from at.0 mark.0 mark.1)) (day_at_front context.year line day d within)
    ∙ is.read line day

head_joined : (day d rest : List ℕ) → (((((day ++ []) ++ []) ++ 32 ∷ d) ++ 10 ∷ []) ++ rest) ≡ (day ++ 32 ∷ d) ++ 10 ∷ rest
head_joined day d rest = simp (append_assoc, append-nil)

-- ---- the entry

-- its columns
abbrev pub widths : Context → Writing → List Moved → Widths
widths context styles ms = widths_of (map (fields context styles) ms)

-- what its lines say
abbrev pub posting_lines : Context → Writing → List Moved → List (List ℕ)
posting_lines context styles ms = contents (all_shown context styles (widths context styles ms) ms)

abbrev pub entry_lines : Context → Writing → ℕ → List ℕ → List Moved → List (List ℕ)
entry_lines context styles day d ms = head_bytes day d ∷ posting_lines context styles ms

pub txn_is : (context : Context) (styles : Writing) (day : ℕ) (d : List ℕ) (ms : List Moved) → IsTitle d → AllByRecursion (λ m. IsDecided (decided_mark context m.symbol)) ms
    → txn_text (entry_shape context) detail.Written (entry_on styles day d ms) ≡ joined (entry_lines context styles day d ms)
txn_is context styles day d ms title is =
    let t = entry_on styles day d ms in
    let all : map (fields_of (entry_shape context) detail.Written) (postings_shown detail.Written (posted_from styles 2 ms)) ≡ map (fields context styles) ms =
    ap (map (fields_of (entry_shape context) detail.Written)) (shown_all styles 2 ms) ∙ all_fields context styles 2 ms is in
    ap (λ (fs : List Fields). head_text t ++ postings_text fs) all
    ∙ ap (λ (xs : List ℕ). head_text t ++ xs) (lines_are context styles (widths context styles ms) ms)
    ∙ ap (λ (xs : List ℕ). ((((calendar_text day ++ []) ++ []) ++ xs) ++ 10 ∷ []) ++ joined (posting_lines context styles ms)) title.shown
    ∙ head_joined (calendar_text day) d (joined (posting_lines context styles ms))

-- ---- what may be written

-- A line that reads again at the end of a text.
pub record IsLineOf (context : Context) (m : Moved) : Type 0 where
  pub decided : IsDecided (decided_mark context m.symbol)
  pub symbol : IsWritable context m.symbol
  pub short : IsShort m.value
  pub whole : IsWhole m.account
  pub utf8 : is_utf8 m.account ≡ true
  pub some : (length m.account ≡ 0) → ⊥
  pub read : IsRead context m.account

abbrev pub AreLinesOf : Context → List Moved → Type 0
AreLinesOf context ms = AllByRecursion (IsLineOf context) ms

shown_one : (context : Context) (styles : Writing) (w : Widths) (m : Moved) → IsLineOf context m → IsShown context (again context styles) (shown_in context styles w m)
shown_one context styles w m is =
    let first = amount_first context 0 m.value is.short (left_of styles m) (space_of styles m) m.symbol is.symbol in
    record {
      named = record { whole = is.whole; read = is.read; some = is.some };
      amount = record { white = first.0; goes_on = first.1; read = λ line. amount_read context line m.value is.short (left_of styles m) (space_of styles m) m.symbol is.decided is.symbol };
    }

all_shown_are : (context : Context) (styles : Writing) (w : Widths) (ms : List Moved) → AreLinesOf context ms → AllByRecursion (IsShown context (again context styles)) (all_shown context styles w ms)
all_shown_are context styles w [] are = tt
all_shown_are context styles w (m ∷ ms) are = (shown_one context styles w m are.0, all_shown_are context styles w ms are.1)

parts : (context : Context) (line : ℕ) (c : List ℕ) (cs : List (List ℕ))
    → entry_of context line (c ∷ cs)
    ≡ (head_of context line c >>= λ head. postings_of context (year_of head.day) (line + 1) cs >>= λ ps. Ok (item.Txn (txn_from line head (comments_in cs) ps)))
unfolding entry_with
parts context line c cs = refl

whole_txn : (shape : Shaped) (line day : ℕ) (d : List ℕ) (ms : List Moved) → txn_from line (head_with day Unmarked [] d []) [] (postings_from shape (suc line) ms) ≡ entry_at shape line day d ms
unfolding tags_within
whole_txn shape line day d ms = refl

-- An entry reads as it was shown, its amounts in the shapes in which they stand.
pub entry_read : (context : Context) (styles : Writing) (line day : ℕ) (d : List ℕ) (ms : List Moved) → IsDay day → IsTitle d → AreLinesOf context ms
    → entry_of context line (entry_lines context styles day d ms) ≡ Ok (item.Txn (entry_at (again context styles) line day d ms))
entry_read context styles line day d ms within title are =
    let w = widths context styles ms in
    let ss = all_shown context styles w ms in
    let shape = again context styles in
    let head = head_with day Unmarked [] d [] in
    let next : line + 1 ≡ suc line = omega arith in
    let shown = all_shown_are context styles w ms are in
    parts context line (head_bytes day d) (contents ss)
    ∙ ap (λ (r : Result Head Fault). r >>= λ h. postings_of context (year_of h.day) (line + 1) (contents ss) >>= λ ps. Ok (item.Txn (txn_from line h (comments_in (contents ss)) ps))) (head_read context line day d within title)
    ∙ ap (λ (k : ℕ). postings_of context (year_of day) k (contents ss) >>= λ ps. Ok (item.Txn (txn_from line head (comments_in (contents ss)) ps))) next
    ∙ ap (λ (r : Result (List Posting) Fault). r >>= λ ps. Ok (item.Txn (txn_from line head (comments_in (contents ss)) ps))) (postings_read (year_of day) (suc line) context shape ss shown)
    ∙ ap (λ (more : List (List ℕ)). Ok (item.Txn (txn_from line head more (postings_from shape (suc line) (moves ss))))) (no_comments context shape ss shown)
    ∙ ap (λ (l : List Moved). Ok (item.Txn (txn_from line head [] (postings_from shape (suc line) l)))) (moves_are context styles w ms)
    ∙ ap (λ (t : Txn). Ok (item.Txn t)) (whole_txn shape line day d ms)
