-- A text with one or both of the entries of what is closed behind it.
use Rattle.std.proofs.Common.{ℕ, suc, pos, ◌≡◌, ◌+◌, ◌<◌, ◌≤◌, inl, inr, ◌⊎◌, true, false, List, [], ◌∷◌, ◌++◌, length, map, codes, Option, None, Result, Ok, Err, refl, sym, ap, subst, ◌∙◌, arith, append_assoc, length-append}
use Rattle.std.specs.List.{concat, prefix_len}
use Rattle.std.proofs.lemmas.Grind.{flat_map-append}
use Rattle.hl_base.specs.Items.{cut_from, is_remark, items_of, kind_of}
use Rattle.hl_base.specs.Lines.{lines_of}
use Rattle.hl_base.specs.declared.items.Kind.TheVariants as kinds
use Rattle.hl_base.specs.declared.items.Piece.{Piece}
use Rattle.hl_num.specs.Reading.{is_digit}
use Rattle.hl_time.specs.Calendar.{IsDay}
use Rattle.book.specs.Postings.{txn_in, txns_of}
use Rattle.book.specs.declared.fault.Cause.TheVariants as cause
use Rattle.book.specs.declared.fault.Fault.{Fault}
use Rattle.book.specs.declared.item.Book.{Book}
use Rattle.book.specs.declared.item.Placed.{Placed}
use Rattle.book.specs.declared.transaction.Txn.{Txn}
use Rattle.balancing.specs.Load.{load}
use Rattle.book_care.specs.Entries.{Writing}
use Rattle.book_care.specs.Lines.{Moved, opposite}
use Rattle.book_care.specs.Late.{first_late}
use Rattle.book_care.proofs.Summing.{lines_in}
use Rattle.entry_reader.specs.Causes.{◌>>=◌}
use Rattle.entry_reader.specs.Contexts.{Context, context_of}
use Rattle.entry_reader.specs.Entries.{entry_of}
use Rattle.entry_reader.specs.Lines.{first_is}
use Rattle.journal_printer.specs.Texts.{calendar_text}
use Rattle.journal_reader.specs.Items.{items_in, reading_from}
use Rattle.written_logs.proofs.Days.{shown_first}
use Rattle.written_logs.proofs.Lines.{AreLines, concat_ended, contents_joined, ended, first_joined, joined, lines_joined, utf8_joined}
use Rattle.closed_journals.specs.Added.{Shaped, entry_at}
use Rattle.closed_journals.proofs.Cuts.{Begins, EndsLine, cut_entry, cut_front, entry_begins, entry_kind, gap, indented_front, lines_front, open_in}
use Rattle.closed_journals.proofs.Entries.{AreLinesOf, IsTitle, again, entry_lines, entry_read, head_bytes, posting_lines, widths}
use Rattle.closed_journals.proofs.Even.{AreFew, is_plain}
use Rattle.closed_journals.proofs.Lined.{all_indented, entry_is_lines}
use Rattle.closed_journals.proofs.Loading.{LoadsAlone, alone_load, both_load, it_is_out, it_loads, one_out, two_out, whole}
use Rattle.closed_journals.proofs.Loading as loading
use Rattle.closed_journals.proofs.Walking.{IsPlain}
use Rattle.closed_journals.proofs.Pieces.{Lying, Outcome, OutcomeAlone, Says, before_more, concat_lines, first_long, it_is_long, it_read, it_reads, items_at, its_items, its_pieces, pieces_of, placed_of, read_front, reads, second_long, two_read, within_text}

-- ---- one entry

-- What is shown of an entry, and what it says.
module _ (context : Context) (styles : Writing) (day : ℕ) (d : List ℕ) (ms : List Moved) (within : IsDay day) (title : IsTitle d) (are : AreLinesOf context ms) where
  abbrev lines : List (List ℕ)
  lines = entry_lines context styles day d ms

  abbrev bytes : List ℕ
  bytes = joined lines

  abbrev head : List ℕ
  head = ended (head_bytes day d)

  abbrev below : List (List ℕ)
  below = map ended (posting_lines context styles ms)

  is_lines : AreLines lines
  is_lines = entry_is_lines context styles day d ms within title are

  first_digit : first_is is_digit head ≡ true
  first_digit = ap (first_is is_digit) (append_assoc (calendar_text day) (32 ∷ d) (10 ∷ [])) ∙ shown_first day ((32 ∷ d) ++ 10 ∷ []) within

  says : (line : ℕ) → Says context line bytes (entry_at (again context styles) line day d ms)
  says line = record {
    utf8 = utf8_joined lines is_lines;
    kind = ap kind_of (first_joined (head_bytes day d) (posting_lines context styles ms) is_lines.0) ∙ entry_kind head first_digit;
    says = ap (entry_of context line) (contents_joined lines is_lines) ∙ entry_read context styles line day d ms within title are;
  }

  pub lines_then : (rest : List ℕ) → lines_of (bytes ++ rest) ≡ head ∷ (below ++ lines_of rest)
  lines_then rest = lines_joined lines rest is_lines

  size_is : length head + length (concat below) ≡ length bytes
  size_is = sym (length-append head (concat below)) ∙ ap length (concat_ended lines)

  pub begins : (more : List (List ℕ)) → Begins (head ∷ more)
  begins more = entry_begins head more first_digit

  -- it is cut with the empty line behind it
  cut_is : (at line : ℕ) (more : List (List ℕ)) → prefix_len is_remark more ≡ 0 → cut_from 0 at line (head ∷ (below ++ gap ∷ more))
      ≡ record { at = at; len = length bytes; line = line; kind = kinds.Entry } ∷ record { at = at + length bytes; len = 1; line = line + 1 + length below; kind = kinds.Gap }
      ∷ cut_from 0 (at + length bytes + 1) (line + 1 + length below + 1) more
  cut_is at line more none =
      cut_entry at line head below more (entry_kind head first_digit) (indented_front below more (all_indented context styles (widths context styles ms) ms are)) none
      ∙ ap (λ (n : ℕ). record { at = at; len = n; line = line; kind = kinds.Entry } ∷ record { at = at + n; len = 1; line = line + 1 + length below; kind = kinds.Gap } ∷ cut_from 0 (at + n + 1) (line + 1 + length below + 1) more) size_is

few_of : (context : Context) (ms : List Moved) → AreLinesOf context ms → AreFew ms
few_of context [] are = tt
few_of context (m ∷ ms) are = (more ((are.0).short).few, few_of context ms are.1)
  where
    more : (m.value).places ≤ 18 → (m.value).places ≤ 36
    more h = omega (arith, h)

-- ---- one of them behind a text

-- What becomes of the whole text: it loads, or the entry is out of range, or too long.
pub data EndsAlone (year : Option ℕ) (all e : List ℕ) (txns : List Txn) : Type 0 where
  alone_loads : (items_in year all >>= load) ≡ Ok (record { txns = txns }) → EndsAlone year all e txns
  alone_out : (line : ℕ) → (items_in year all >>= load) ≡ Err (record { line = line; cause = cause.Range }) → EndsAlone year all e txns
  alone_long : (line : ℕ) → 65536 < length e → (items_in year all >>= load) ≡ Err (record { line = line; cause = cause.TooLong }) → EndsAlone year all e txns

module _ (year : Option ℕ) (text : List ℕ) (items : List Placed) (book : Book) (styles : Writing) (day : ℕ) (d : List ℕ) (m : Moved) (ms : List Moved) (c : Context) (same : context_of year (items_at items) ≡ c)
    (read : items_in year text ≡ Ok items) (loaded_is : load items ≡ Ok book) (late : first_late day book.txns ≡ None)
    (within : IsDay day) (title : IsTitle d) (ends : EndsLine text) (shut : open_in 0 (lines_of text) ≡ false)
    (are : AreLinesOf c (m ∷ ms)) (even : (symbol : List ℕ) → lines_in symbol (m ∷ ms) ≡ pos 0) where
  abbrev it : List ℕ
  it = joined (entry_lines c styles day d (m ∷ ms))

  abbrev with_it : List ℕ
  with_it = text ++ (it ++ gap)

  abbrev its_head : List ℕ
  its_head = ended (head_bytes day d)

  abbrev its_lines : List (List ℕ)
  its_lines = map ended (posting_lines c styles (m ∷ ms))

  abbrev its_at : ℕ
  its_at = 0 + length (concat (lines_of text))

  abbrev its_line : ℕ
  its_line = 1 + length (lines_of text)

  abbrev its_gap : ℕ
  its_gap = 1 + length (lines_of text) + 1 + length its_lines

  abbrev its_txn : Txn
  its_txn = entry_at (again c styles) its_line day d (m ∷ ms)

  its_pieces_are : items_of with_it ≡ items_of text ++ its_pieces its_at its_line its_gap it
  its_pieces_are =
      ap (cut_from 0 0 1) (lines_front text (it ++ gap) ends ∙ ap (λ (ls : List (List ℕ)). lines_of text ++ ls) (lines_then c styles day d (m ∷ ms) within title are gap))
      ∙ cut_front 0 0 1 (lines_of text) (its_head ∷ (its_lines ++ gap ∷ [])) (none_of_them (length (lines_of text))) shut
      (begins c styles day d (m ∷ ms) within title are (its_lines ++ gap ∷ []))
      ∙ ap (λ (ps : List Piece). items_of text ++ ps) (cut_is c styles day d (m ∷ ms) within title are its_at its_line [] refl)
    where
      none_of_them : (n : ℕ) → 0 ≤ n
      none_of_them n = omega arith

  its_place : its_at ≡ length text
  its_place = start (concat (lines_of text)) (concat_lines text)
    where
      start : (xs : List ℕ) → xs ≡ text → 0 + length xs ≡ length text
      start xs same = omega (arith, ap length same)

  read_with_it : items_in year with_it ≡ before_more items (reading_from year (items_at items) with_it (its_pieces its_at its_line its_gap it))
  read_with_it = ap (reading_from year [] with_it) its_pieces_are ∙ read_front year [] text (it ++ gap) (items_of text) (its_pieces its_at its_line its_gap it) items (within_text text) read

  abbrev all_items : List Placed
  all_items = items ++ its_items its_at its_line its_gap it its_txn

  txns_with_it : txns_of all_items ≡ txns_of items ++ its_txn ∷ []
  txns_with_it = flat_map-append (λ (placed : Placed). txn_in placed.item) items (its_items its_at its_line its_gap it its_txn)

  its_plain : IsPlain its_txn
  its_plain = is_plain (again c styles) its_line day d m ms (few_of c (m ∷ ms) are) even

  load_with_it : items_in year with_it ≡ Ok all_items → LoadsAlone all_items book.txns its_txn → EndsAlone year with_it it (book.txns ++ its_txn ∷ [])
  load_with_it r (it_loads h) = alone_loads (ap (λ (x : Result (List Placed) Fault). x >>= load) r ∙ h)
  load_with_it r (it_is_out h) = alone_out its_line (ap (λ (x : Result (List Placed) Fault). x >>= load) r ∙ h)

  outcome_with_it : OutcomeAlone (reading_from year (items_at items) with_it (its_pieces its_at its_line its_gap it)) (its_items its_at its_line its_gap it its_txn) its_line it
      → EndsAlone year with_it it (book.txns ++ its_txn ∷ [])
  outcome_with_it (it_reads r) =
      load_with_it (read_with_it ∙ ap (before_more items) r)
      (alone_load day items all_items book its_txn loaded_is late txns_with_it refl its_plain)
  outcome_with_it (it_is_long h r) = alone_long its_line h (ap (λ (x : Result (List Placed) Fault). x >>= load) (read_with_it ∙ ap (before_more items) r))

  pub alone_end : EndsAlone year with_it it (book.txns ++ its_txn ∷ [])
  alone_end =
      outcome_with_it (it_read year (items_at items) its_at its_line its_gap text it its_txn its_place
      (subst (λ (context : Context). Says context its_line it its_txn) (sym same) (says c styles day d (m ∷ ms) within title are its_line)))

-- ---- both of them behind a text

-- What becomes of the whole text: it loads, or one entry is out of range, or too long.
pub data Ends (year : Option ℕ) (all e f : List ℕ) (txns : List Txn) : Type 0 where
  loads : (items_in year all >>= load) ≡ Ok (record { txns = txns }) → Ends year all e f txns
  out : (line : ℕ) → (items_in year all >>= load) ≡ Err (record { line = line; cause = cause.Range }) → Ends year all e f txns
  long : (line : ℕ) → (65536 < length e) ⊎ (65536 < length f) → (items_in year all >>= load) ≡ Err (record { line = line; cause = cause.TooLong }) → Ends year all e f txns

module _ (year : Option ℕ) (text : List ℕ) (items : List Placed) (book : Book) (styles : Writing) (on : ℕ) (m : Moved) (ms : List Moved) (c : Context) (same : context_of year (items_at items) ≡ c)
    (read : items_in year text ≡ Ok items) (loaded_is : load items ≡ Ok book) (late : first_late on book.txns ≡ None)
    (within_one : IsDay on) (within_two : IsDay (on + 1)) (title_one : IsTitle (codes "closing")) (title_two : IsTitle (codes "opening"))
    (ends : EndsLine text) (shut : open_in 0 (lines_of text) ≡ false)
    (one_are : AreLinesOf c (m ∷ ms)) (two_are : AreLinesOf c (opposite m ∷ map opposite ms))
    (even : (symbol : List ℕ) → lines_in symbol (m ∷ ms) ≡ pos 0) (even_two : (symbol : List ℕ) → lines_in symbol (opposite m ∷ map opposite ms) ≡ pos 0) where
  abbrev ones : List Moved
  ones = m ∷ ms

  abbrev twos : List Moved
  twos = opposite m ∷ map opposite ms

  abbrev e : List ℕ
  e = joined (entry_lines c styles on (codes "closing") ones)

  abbrev f : List ℕ
  f = joined (entry_lines c styles (on + 1) (codes "opening") twos)

  abbrev behind : List ℕ
  behind = e ++ (gap ++ (f ++ gap))

  abbrev all : List ℕ
  all = text ++ behind

  abbrev head_one : List ℕ
  head_one = ended (head_bytes on (codes "closing"))

  abbrev head_two : List ℕ
  head_two = ended (head_bytes (on + 1) (codes "opening"))

  abbrev below_one : List (List ℕ)
  below_one = map ended (posting_lines c styles ones)

  abbrev below_two : List (List ℕ)
  below_two = map ended (posting_lines c styles twos)

  abbrev lying : Lying
  lying = record {
    at = 0 + length (concat (lines_of text));
    first_line = 1 + length (lines_of text);
    first_gap = 1 + length (lines_of text) + 1 + length below_one;
    second_line = 1 + length (lines_of text) + 1 + length below_one + 1;
    second_gap = 1 + length (lines_of text) + 1 + length below_one + 1 + 1 + length below_two;
  }

  abbrev shape : Shaped
  shape = again c styles

  abbrev one : Txn
  one = entry_at shape lying.first_line on (codes "closing") ones

  abbrev two : Txn
  two = entry_at shape lying.second_line (on + 1) (codes "opening") twos

  behind_lines : lines_of behind ≡ head_one ∷ (below_one ++ gap ∷ (head_two ∷ (below_two ++ gap ∷ [])))
  behind_lines =
      lines_then c styles on (codes "closing") ones within_one title_one one_are (gap ++ (f ++ gap))
      ∙ ap (λ (ls : List (List ℕ)). head_one ∷ (below_one ++ gap ∷ ls)) (lines_then c styles (on + 1) (codes "opening") twos within_two title_two two_are gap)

  none_taken : (n : ℕ) → 0 ≤ n
  none_taken n = omega arith

  pieces_are : items_of all ≡ items_of text ++ pieces_of lying e f
  pieces_are =
      let then_two : List (List ℕ) = head_two ∷ (below_two ++ gap ∷ []) in
      ap (cut_from 0 0 1) (lines_front text behind ends ∙ ap (λ (ls : List (List ℕ)). lines_of text ++ ls) behind_lines)
      ∙ cut_front 0 0 1 (lines_of text) (head_one ∷ (below_one ++ gap ∷ then_two)) (none_taken (length (lines_of text))) shut
      (begins c styles on (codes "closing") ones within_one title_one one_are (below_one ++ gap ∷ then_two))
      ∙ ap (λ (ps : List Piece). items_of text ++ ps)
      (cut_is c styles on (codes "closing") ones within_one title_one one_are lying.at lying.first_line then_two
      (begins c styles (on + 1) (codes "opening") twos within_two title_two two_are (below_two ++ gap ∷ [])).remark
      ∙ ap (λ (ps : List Piece). record { at = lying.at; len = length e; line = lying.first_line; kind = kinds.Entry } ∷ record { at = lying.at + length e; len = 1; line = lying.first_gap; kind = kinds.Gap } ∷ ps)
      (cut_is c styles (on + 1) (codes "opening") twos within_two title_two two_are (lying.at + length e + 1) lying.second_line [] refl))

  at_is : lying.at ≡ length text
  at_is = start (concat (lines_of text)) (concat_lines text)
    where
      start : (xs : List ℕ) → xs ≡ text → 0 + length xs ≡ length text
      start xs same = omega (arith, ap length same)

  read_all : items_in year all ≡ before_more items (reading_from year (items_at items) all (pieces_of lying e f))
  read_all = ap (reading_from year [] all) pieces_are ∙ read_front year [] text behind (items_of text) (pieces_of lying e f) items (within_text text) read

  txns_are : txns_of (items ++ placed_of lying e f one two) ≡ txns_of items ++ one ∷ two ∷ []
  txns_are = flat_map-append (λ (placed : Placed). txn_in placed.item) items (placed_of lying e f one two)

  plain_one : IsPlain one
  plain_one = is_plain shape lying.first_line on (codes "closing") m ms (few_of c ones one_are) even

  plain_two : IsPlain two
  plain_two = is_plain shape lying.second_line (on + 1) (codes "opening") (opposite m) (map opposite ms) (few_of c twos two_are) even_two

  next_day : on + 1 ≡ suc on
  next_day = omega arith

  by_load : items_in year all ≡ Ok (items ++ placed_of lying e f one two) → loading.Loads (items ++ placed_of lying e f one two) book.txns one two → Ends year all e f (book.txns ++ one ∷ two ∷ [])
  by_load r (whole h) = loads (ap (λ (x : Result (List Placed) Fault). x >>= load) r ∙ h)
  by_load r (one_out h) = out lying.first_line (ap (λ (x : Result (List Placed) Fault). x >>= load) r ∙ h)
  by_load r (two_out h) = out lying.second_line (ap (λ (x : Result (List Placed) Fault). x >>= load) r ∙ h)

  by_read : Outcome (reading_from year (items_at items) all (pieces_of lying e f)) (placed_of lying e f one two) lying.first_line lying.second_line e f → Ends year all e f (book.txns ++ one ∷ two ∷ [])
  by_read (reads r) =
      by_load (read_all ∙ ap (before_more items) r)
      (both_load on items (items ++ placed_of lying e f one two) book one two loaded_is late txns_are refl next_day plain_one plain_two)
  by_read (first_long h r) = long lying.first_line (inl h) (ap (λ (x : Result (List Placed) Fault). x >>= load) (read_all ∙ ap (before_more items) r))
  by_read (second_long h r) = long lying.second_line (inr h) (ap (λ (x : Result (List Placed) Fault). x >>= load) (read_all ∙ ap (before_more items) r))

  pub both_end : Ends year all e f (book.txns ++ one ∷ two ∷ [])
  both_end =
      by_read (two_read year (items_at items) lying text e f one two at_is
      (subst (λ (context : Context). Says context lying.first_line e one) (sym same) (says c styles on (codes "closing") ones within_one title_one one_are lying.first_line))
      (subst (λ (context : Context). Says context lying.second_line f two) (sym same) (says c styles (on + 1) (codes "opening") twos within_two title_two two_are lying.second_line)))
