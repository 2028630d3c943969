-- A sample is cut into its entries, and each reads.
use Rattle.std.proofs.Common.{ℕ, zero, suc, ◌≡◌, ◌+◌, ◌*◌, ◌<◌, ◌≤◌, true, List, [], ◌∷◌, ◌++◌, length, take, drop, Option, Result, Ok, refl, sym, ap, ◌∙◌, arith, append_assoc, append-nil, length-append}
use Rattle.std.specs.List.{prefix_len, take_while, concat}
use Rattle.std.proofs.lemmas.List.Folds.{length-prefix_len}
use Rattle.hl_base.specs.declared.items.Kind.{Kind}
use Rattle.hl_base.specs.declared.items.Kind.TheVariants as kinds
use Rattle.hl_base.specs.declared.items.Piece.{Piece}
use Rattle.hl_base.specs.Items.{cut_from, is_indented, items_of, kind_of as kind_by, lines_more}
use Rattle.hl_base.specs.Lines.{lines_of}
use Rattle.book.specs.declared.fault.Fault.{Fault}
use Rattle.book.specs.declared.item.Item.{Item}
use Rattle.book.specs.declared.item.Item.TheVariants as item
use Rattle.book.specs.declared.item.Placed.{Placed}
use Rattle.book.specs.declared.transaction.Txn.{Txn}
use Rattle.book.specs.Postings.{txns_of}
use Rattle.entry_reader.specs.Causes.{◌>>=◌}
use Rattle.entry_reader.specs.Contexts.{Context, context_of}
use Rattle.entry_reader.specs.Entries.{entry_of}
use Rattle.journal_reader.specs.Items.{items_in, reading, reading_from}
use Rattle.sample_text.specs.Sample.{entries, entry_of as text_of, kind_of, number_of, sample_text, spent_by}
use Rattle.written_logs.proofs.Accounts.{bare}
use Rattle.written_logs.proofs.Lines.{AreLines, concat_ended, contents_joined, ended, first_joined, joined, lines_joined, utf8_joined}
use Rattle.closed_journals.proofs.Cuts.{entry_begins, entry_kind, skip}
use Rattle.closed_journals.proofs.Pieces.{bytes_at, none_left, one_read, placed_as, reading_entry, same_context}
use Rattle.sample_journals.specs.Journal.{cents_in, tells, written, written_from}
use Rattle.sample_journals.proofs.Contents.{are_lines, head_bytes, head_first, pay_bytes, pay_indented, spend_bytes, spend_indented}
use Rattle.sample_journals.proofs.Numbers.{kind_small}
use Rattle.sample_journals.proofs.Said.{entry_read}
use Rattle.sample_journals.proofs.Sizes.{lines, size, size_few, small_cents, small_spent, text_is}

-- ---- the entries from one on

-- the text of so many entries from one on
abbrev pub texts : ℕ → ℕ → ℕ → List ℕ
texts count i zero = []
texts count i (suc m) = text_of count i ++ texts count (suc i) m

pub entries_split : (count i m k : ℕ) → k ≡ i + m → entries count k ≡ entries count i ++ texts count i m
entries_split count i zero k is =
    let same : k ≡ i = omega arith in
    ap (entries count) same ∙ sym (append-nil (entries count i))
entries_split count i (suc m) k is =
    entries_split count (suc i) m k (omega arith) ∙ append_assoc (entries count i) (text_of count i) (texts count (suc i) m)

are : (count i : ℕ) → i < 100000 → AreLines (lines count i)
are count i few = are_lines i (kind_of (number_of count i)) (cents_in count i) (spent_by count (suc i)) few (kind_small (number_of count i)) (small_cents count i) (small_spent count i few)

-- ---- their pieces

abbrev head_of : ℕ → List ℕ
head_of i = ended (head_bytes i)

abbrev spend_of : ℕ → ℕ → List ℕ
spend_of count i = ended (spend_bytes (kind_of (number_of count i)) (cents_in count i))

abbrev pay_of : ℕ → ℕ → List ℕ
pay_of count i = ended (pay_bytes (tells i) (cents_in count i) (spent_by count (suc i)))

lines_are : (count i m : ℕ) → i < 100000 → lines_of (texts count i (suc m)) ≡ head_of i ∷ spend_of count i ∷ pay_of count i ∷ lines_of (texts count (suc i) m)
lines_are count i m few =
    ap (λ (xs : List ℕ). lines_of (xs ++ texts count (suc i) m)) (text_is count i few)
    ∙ lines_joined (lines count i) (texts count (suc i) m) (are count i few)

none_indented : (count i m : ℕ) → i + m ≤ 100000 → prefix_len is_indented (lines_of (texts count i m)) ≡ 0
none_indented count i zero most = refl
none_indented count i (suc m) most =
    let few : i < 100000 = omega arith in
    ap (prefix_len is_indented) (lines_are count i m few)
    ∙ (entry_begins (head_of i) (spend_of count i ∷ pay_of count i ∷ lines_of (texts count (suc i) m)) (head_first i few)).indented

abbrev piece : ℕ → ℕ → ℕ → Kind → Piece
piece at len line kind = record { at = at; len = len; line = line; kind = kind }

cut_three : (at line : ℕ) (h s p : List ℕ) (more : List (List ℕ)) → kind_by h ≡ kinds.Entry → is_indented s ≡ true → is_indented p ≡ true → prefix_len is_indented more ≡ 0
    → cut_from 0 at line (h ∷ s ∷ p ∷ more)
    ≡ piece at (length h + length (concat (s ∷ p ∷ []))) line kinds.Entry ∷ cut_from 0 (at + (length h + length (concat (s ∷ p ∷ [])))) (line + 3) more
cut_three at line h s p more kind es ep none =
    let ls : List (List ℕ) = s ∷ p ∷ more in
    let two : prefix_len is_indented ls ≡ 2 = rw (es, ep, none) refl in
    let count : length (take_while is_indented ls) ≡ 2 = length-prefix_len is_indented ls ∙ two in
    let n = length h + length (concat (s ∷ p ∷ [])) in
    ap (λ (k : Kind). piece at (length h + length (concat (take (lines_more k ls) ls))) line k ∷ cut_from (lines_more k ls) (at + length h) (line + 1) ls) kind
    ∙ ap (λ (n : ℕ). piece at (length h + length (concat (take n ls))) line kinds.Entry ∷ cut_from n (at + length h) (line + 1) ls) count
    ∙ ap (λ (ps : List Piece). piece at n line kinds.Entry ∷ ps) (skip (s ∷ p ∷ []) more (at + length h) (line + 1) (at + n) (line + 3) (omega arith) (omega arith))

cut_is : (count i m at line next : ℕ) → suc i + m ≤ 100000 → next ≡ line + 3
    → cut_from 0 at line (lines_of (texts count i (suc m))) ≡ piece at (size count i) line kinds.Entry ∷ cut_from 0 (at + size count i) next (lines_of (texts count (suc i) m))
cut_is count i m at line next most step =
    let few : i < 100000 = omega arith in
    let more = lines_of (texts count (suc i) m) in
    let s = spend_of count i in
    let p = pay_of count i in
    let whole : length (head_of i) + length (concat (s ∷ p ∷ [])) ≡ size count i =
    sym (length-append (head_of i) (concat (s ∷ p ∷ []))) ∙ ap length (concat_ended (lines count i)) in
    ap (cut_from 0 at line) (lines_are count i m few)
    ∙ cut_three at line (head_of i) s p more (entry_kind (head_of i) (head_first i few))
    (spend_indented (kind_of (number_of count i)) (cents_in count i)) (pay_indented (tells i) (cents_in count i) (spent_by count (suc i)))
    (none_indented count (suc i) m most)
    ∙ ap (λ (n : ℕ). piece at n line kinds.Entry ∷ cut_from 0 (at + n) (line + 3) more) whole
    ∙ ap (λ (l : ℕ). piece at (size count i) line kinds.Entry ∷ cut_from 0 (at + size count i) l more) (sym step)

pub pieces_count : (count i m at line : ℕ) → i + m ≤ 100000 → length (cut_from 0 at line (lines_of (texts count i m))) ≡ m
pieces_count count i zero at line most = refl
pieces_count count i (suc m) at line most =
    ap length (cut_is count i m at line (line + 3) (omega arith) refl)
    ∙ ap suc (pieces_count count (suc i) m (at + size count i) (line + 3) (omega arith))

-- ---- what is read

abbrev pub placed : ℕ → ℕ → ℕ → ℕ → List Placed
placed count at i zero = []
placed count at i (suc m) = placed_as (piece at (size count i) (3 * i + 1) kinds.Entry) (item.Txn (written count i)) ∷ placed count (at + size count i) (suc i) m

pub txns_are : (count at i m : ℕ) → txns_of (placed count at i m) ≡ written_from count i m
txns_are count at i zero = refl
txns_are count at i (suc m) = ap (λ (ts : List Txn). written count i ∷ ts) (txns_are count (at + size count i) (suc i) m)

says : (year : Option ℕ) (count i : ℕ) → i < 100000 → entry_of (bare year) (3 * i + 1) (lines count i) ≡ Ok (item.Txn (written count i))
says year count i few =
    entry_read year (3 * i + 1) (3 * i + 2) (3 * i + 3) i (kind_of (number_of count i)) (cents_in count i) (spent_by count (suc i))
    few (omega arith) (omega arith) (kind_small (number_of count i)) (small_cents count i) (small_spent count i few)

entry_says : (year : Option ℕ) (count i : ℕ) → i < 100000 → reading (bare year) (3 * i + 1) (joined (lines count i)) ≡ Ok (item.Txn (written count i))
entry_says year count i few =
    let cs = lines count i in
    let all = are count i few in
    let short : length (joined cs) ≤ 65536 = omega (arith, size_few count i few) in
    reading_entry (bare year) (3 * i + 1) (joined cs) (item.Txn (written count i)) (utf8_joined cs all)
    (ap kind_by (first_joined (head_bytes i) (spend_bytes (kind_of (number_of count i)) (cents_in count i) ∷ pay_bytes (tells i) (cents_in count i) (spent_by count (suc i)) ∷ []) all.0)
    ∙ entry_kind (head_of i) (head_first i few))
    short
    (ap (entry_of (bare year) (3 * i + 1)) (contents_joined cs all) ∙ says year count i few)

all_read : (year : Option ℕ) (count : ℕ) (text : List ℕ) (i m : ℕ) (front : List ℕ) (at line : ℕ) (before : List Item)
    → text ≡ front ++ texts count i m → at ≡ length front → context_of year before ≡ bare year → line ≡ 3 * i + 1 → i + m ≤ 100000
    → reading_from year before text (cut_from 0 at line (lines_of (texts count i m))) ≡ Ok (placed count at i m)
all_read year count text i zero front at line before is ea context el most = none_left year before text
all_read year count text i (suc m) front at line before is ea context el most =
    let few : i < 100000 = omega arith in
    let entry = joined (lines count i) in
    let rest = texts count (suc i) m in
    let txn = item.Txn (written count i) in
    let p = piece at (size count i) (3 * i + 1) kinds.Entry in
    let next = 3 * suc i + 1 in
    let here : text ≡ front ++ (entry ++ rest) = is ∙ ap (λ (xs : List ℕ). front ++ (xs ++ rest)) (text_is count i few) in
    let further : text ≡ (front ++ entry) ++ rest = here ∙ sym (append_assoc front entry rest) in
    let at_next : at + size count i ≡ length (front ++ entry) = omega (arith, ea, length-append front entry) in
    let bytes : take (size count i) (drop at text) ≡ entry = bytes_at text front entry rest at (size count i) here ea refl in
    let read : reading (context_of year before) (3 * i + 1) (take (size count i) (drop at text)) ≡ Ok txn =
    ap (λ (c : Context). reading c (3 * i + 1) (take (size count i) (drop at text))) context
    ∙ ap (reading (bare year) (3 * i + 1)) bytes
    ∙ entry_says year count i few in
    ap (λ (l : ℕ). reading_from year before text (cut_from 0 at l (lines_of (texts count i (suc m))))) el
    ∙ ap (reading_from year before text) (cut_is count i m at (3 * i + 1) next (omega arith) (omega arith))
    ∙ one_read year before text p (cut_from 0 (at + size count i) next (lines_of rest)) txn read
    ∙ ap (λ (r : Result (List Placed) Fault). r >>= λ more. Ok (placed_as p txn ∷ more))
    (all_read year count text (suc i) m (front ++ entry) (at + size count i) next (before ++ txn ∷ []) further at_next (same_context year before txn refl ∙ context) refl (omega arith))

-- The text of a sample reads as its entries.
pub sample_read : (year : Option ℕ) (count : ℕ) → count ≤ 100000 → items_in year (sample_text count) ≡ Ok (placed count 0 0 count)
sample_read year count few =
    let is : sample_text count ≡ texts count 0 count = entries_split count 0 count count (omega arith) in
    ap (items_in year) is ∙ all_read year count (texts count 0 count) 0 count [] 0 1 [] refl refl refl refl (omega arith)

pub sample_items : (count : ℕ) → count ≤ 100000 → length (items_of (sample_text count)) ≡ count
sample_items count few =
    let is : sample_text count ≡ texts count 0 count = entries_split count 0 count count (omega arith) in
    ap (λ (text : List ℕ). length (items_of text)) is ∙ pieces_count count 0 count 0 1 (omega arith)
