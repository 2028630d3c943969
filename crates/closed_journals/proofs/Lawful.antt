-- What becomes of a text of which accounts were closed, with the entries behind it.
use Rattle.std.proofs.Common.{ℕ, pos, ◌≡◌, ◌+◌, ◌<◌, inl, inr, ◌⊎◌, neg_ℤ, Bool, true, false, cond, List, [], ◌∷◌, ◌++◌, length, map, codes, Option, Some, None, Result, Ok, Err, refl, sym, ap, subst, ◌∙◌, arith, append_assoc, append-nil, length-append}
use Rattle.std.specs.Prelude.{nat_lt}
use Rattle.std.specs.List.{AllByRecursion}
use Rattle.std.specs.Str.{is_utf8}
use Rattle.std.proofs.lemmas.Bool.{false≢true}
use Rattle.hl_base.specs.Items.{items_of}
use Rattle.hl_base.specs.Lines.{lines_of}
use Rattle.hl_base.specs.Limits.{item_limit}
use Rattle.hl_time.specs.Calendar.{IsDay, last_day}
use Rattle.book.specs.Bounds.{TurnoverFits}
use Rattle.book.specs.Postings.{postings_of}
use Rattle.book.specs.Style.{style_of}
use Rattle.book.specs.declared.fault.Cause.TheVariants as cause
use Rattle.book.specs.declared.fault.Fault.{Fault}
use Rattle.book.specs.declared.item.Book.{Book}
use Rattle.book.specs.declared.item.Placed.{Placed}
use Rattle.book.specs.declared.transaction.Txn.{Txn}
use Rattle.balancing.specs.Load.{load, load_txns}
use Rattle.book_care.specs.Asked.{Asked as Closed, named_postings}
use Rattle.book_care.specs.Balances.{AreEmpty, Close, Settles}
use Rattle.book_care.specs.Entries.{Writing, entries_with, entry_on, made}
use Rattle.book_care.specs.Judged.{first_cause}
use Rattle.book_care.specs.Late.{first_late}
use Rattle.book_care.specs.Lines.{Moved, closing_lines, opening_lines, opposite}
use Rattle.book_care.specs.Reads.{context_at_end}
use Rattle.book_care.specs.declared.faults.CloseFault.{CloseFault}
use Rattle.book_care.proofs.Settling.{settles}
use Rattle.book_care.proofs.Summing.{closing_even, lines_in, lines_in-opposite}
use Rattle.book_commands.specs.FaultLines.{close_line}
use Rattle.book_commands.specs.Texts.{Making, judged_text, made_loaded, made_read}
use Rattle.book_commands.specs.Works.{close_by, close_made, close_outcome, closed_over, entry_text, judge, pair_text}
use Rattle.book_commands.specs.declared.work.CloseAsked.{CloseAsked}
use Rattle.book_commands.specs.declared.work.Entries.{Entries}
use Rattle.book_commands.specs.declared.work.Entries.TheVariants as chosen
use Rattle.book_commands.specs.declared.work.Work.TheVariants as works
use Rattle.entry_reader.specs.Causes.{◌>>=◌}
use Rattle.entry_reader.specs.Contexts.{Context, context_from, context_of, decided_mark, directives_in}
use Rattle.journal_printer.specs.Entries.{entry_shape}
use Rattle.journal_printer.specs.Layout.{txn_text}
use Rattle.journal_printer.specs.declared.detail.Detail.TheVariants as detail
use Rattle.journal_reader.specs.Items.{items_in}
use Rattle.live_journal.specs.Edits.{added, blank_line, block_end, line_end}
use Rattle.query_terms.specs.Reading.{terms_of}
use Rattle.query_terms.specs.declared.kinds.Term.{Term}
use Rattle.refusals.specs.Errors.{limit_line, term_line}
use Rattle.refusals.specs.Outcomes.{Judged, Outcome, refused, written}
use Rattle.written_logs.proofs.Lines.{joined}
use Rattle.closed_journals.specs.Added.{Added, Behind, Closes, Emptied, Empties, Fails, IsClosed, IsEmptied, IsEnded, IsJoined, IsLike, IsLong, IsOpened, IsOpenedBehind, IsRefused, IsRefusedFor, Joined, Opened, Opens, entry_at}
use Rattle.closed_journals.proofs.Balanced.{carried, emptied, opening_carried, restored}
use Rattle.closed_journals.proofs.Blocks.{ends_with_line, open_block_is, some_bytes}
use Rattle.closed_journals.proofs.Cuts.{Begins, EndsLine, gap, open_in}
use Rattle.closed_journals.proofs.Digits.{IsDecided}
use Rattle.closed_journals.proofs.Entries.{AreLinesOf, again, closing_title, entry_lines, opening_title, txn_is}
use Rattle.closed_journals.proofs.Booked.{IsBooked, IsToldBook, book_told}
use Rattle.closed_journals.proofs.Bounds.{bounded_lines}
use Rattle.closed_journals.proofs.Declared.{AreToldItems, context_told, items_told}
use Rattle.closed_journals.proofs.Fronts.{EndOf, Ended, IsFront, does_end, does_lack, end_of, front_is, long as too_long, reads}
use Rattle.closed_journals.proofs.Grown.{Lacks}
use Rattle.closed_journals.proofs.Judging.{IsWritten, all_written, judged, judged_lines, none_late, opposites_are, whole_lines}
use Rattle.closed_journals.proofs.Pieces.{items_at, none_left}
use Rattle.closed_journals.proofs.Whole.{Ends, EndsAlone, alone_end, alone_loads, alone_long, alone_out, begins, both_end, lines_then, loads, long, out}

decided_list : (context : Context) (ms : List Moved) → AreLinesOf context ms → AllByRecursion (λ m. IsDecided (decided_mark context m.symbol)) ms
decided_list context [] are = tt
decided_list context (m ∷ ms) are = ((are.0).decided, decided_list context ms are.1)

-- ---- what is written ends with a line's end

clash : (text : List ℕ) → Lacks (text ++ gap) → ⊥
clash [] h = false≢true (sym h)
clash (a ∷ []) h = false≢true (sym h)
clash (a ∷ b ∷ bs) h = clash (b ∷ bs) h

whole_ended : (text : List ℕ) → line_end (text ++ gap) ≡ []
whole_ended [] = refl
whole_ended (b ∷ bs) = by (end_of b (bs ++ gap))
  where
    by : EndOf (b ∷ (bs ++ gap)) → line_end (b ∷ (bs ++ gap)) ≡ []
    by (does_end e h) = e
    by (does_lack e h) = absurd (clash (b ∷ bs) h)

pair_ended : (context : Context) (entries : Option (Txn × Txn)) → line_end (pair_text context chosen.Both entries) ≡ []
pair_ended context None = refl
pair_ended context (Some entries) =
    let first = entry_text context entries.0 in
    let second = txn_text (entry_shape context) detail.Written entries.1 in
    ap line_end (sym (append_assoc first second gap)) ∙ whole_ended (first ++ second)

module _ (year : Option ℕ) (text output : List ℕ) (closed : Closed) (book : Book) (read : items_in year text ≡ Ok closed.items) (loaded : load closed.items ≡ Ok book) (txns : closed.txns ≡ book.txns)
    (within : IsDay closed.on) (early : closed.on < last_day) (passes : first_cause closed ≡ None) (into : is_utf8 closed.into ≡ true)
    (out_is : output ≡ pair_text (context_at_end closed.items) chosen.Both (made closed)) where
  abbrev styles : Writing
  styles = style_of closed.items

  abbrev at_end : Context
  at_end = context_at_end closed.items

  abbrev c : Context
  c = context_of year (items_at closed.items)

  within_two : IsDay (closed.on + 1)
  within_two = (omega (arith, within.0), omega (arith, early))

  late : first_late closed.on book.txns ≡ None
  late = sym (ap (first_late closed.on) txns) ∙ none_late closed passes

  told : AreToldItems closed.items
  told = items_told year text closed.items read

  booked : IsToldBook book
  booked = book_told closed.items book told loaded

  written_lines : AllByRecursion (IsWritten at_end) (closing_lines closed)
  written_lines =
      all_written at_end (closing_lines closed) (context_told None closed.items told)
      (whole_lines at_end (closing_lines closed) (judged closed passes).back)
      (bounded_lines closed
      (subst (λ (ts : List Txn). TurnoverFits (postings_of ts)) (sym txns) booked.fits)
      (subst (λ (ts : List Txn). AllByRecursion IsBooked (postings_of ts)) (sym txns) booked.postings) into)

  all_are : AreLinesOf c (closing_lines closed)
  all_are = judged_lines year (items_at closed.items) (closing_lines closed) (judged closed passes) written_lines

  settled : Settles closed (entries_with styles closed.on (closing_lines closed))
  settled = settles closed (entries_with styles closed.on (closing_lines closed)) refl

  module _ (m : Moved) (ms : List Moved) (e : closing_lines closed ≡ m ∷ ms) where
    abbrev ones : List Moved
    ones = m ∷ ms

    abbrev twos : List Moved
    twos = opposite m ∷ map opposite ms

    one_are : AreLinesOf c ones
    one_are = subst (AreLinesOf c) e all_are

    two_are : AreLinesOf c twos
    two_are = opposites_are year (items_at closed.items) ones one_are

    even : (symbol : List ℕ) → lines_in symbol ones ≡ pos 0
    even symbol = ap (lines_in symbol) (sym e) ∙ closing_even symbol closed.into (named_postings closed)

    even_two : (symbol : List ℕ) → lines_in symbol twos ≡ pos 0
    even_two symbol = lines_in-opposite symbol ones ∙ ap neg_ℤ (even symbol)

    abbrev closing : Txn
    closing = entry_on styles closed.on (codes "closing") ones

    abbrev opening : Txn
    opening = entry_on styles (closed.on + 1) (codes "opening") twos

    abbrev first : List ℕ
    first = joined (entry_lines c styles closed.on (codes "closing") ones)

    abbrev second : List ℕ
    second = joined (entry_lines c styles (closed.on + 1) (codes "opening") twos)

    first_text : entry_text at_end closing ≡ first ++ gap
    first_text = ap (λ (xs : List ℕ). xs ++ gap) (txn_is c styles closed.on (codes "closing") ones closing_title (decided_list c ones one_are))

    second_text : entry_text at_end opening ≡ second ++ gap
    second_text = ap (λ (xs : List ℕ). xs ++ gap) (txn_is c styles (closed.on + 1) (codes "opening") twos opening_title (decided_list c twos two_are))

    out_all : output ≡ first ++ (gap ++ (second ++ gap))
    out_all =
        out_is
        ∙ ap (λ (l : List Moved). pair_text at_end chosen.Both (entries_with styles closed.on l)) e
        ∙ (λ i. first_text i ++ second_text i)
        ∙ append_assoc first gap (second ++ gap)

    begins_out : Begins (lines_of output)
    begins_out =
        subst Begins
        (sym (ap lines_of out_all ∙ lines_then c styles closed.on (codes "closing") ones within closing_title one_are (gap ++ (second ++ gap))))
        (begins c styles closed.on (codes "closing") ones within closing_title one_are _)

    close : Close closed (entry_on styles closed.on (codes "closing") (closing_lines closed), entry_on styles (closed.on + 1) (codes "opening") (opening_lines closed))
    close =
        subst (λ (l : List Moved). Close closed (entry_on styles closed.on (codes "closing") l, entry_on styles (closed.on + 1) (codes "opening") (map opposite l))) (sym e)
        (subst (λ (l : List Moved). Settles closed (entries_with styles closed.on l)) e settled)

    one_more : (xs ys : List ℕ) → ys ≡ xs ++ gap → 65536 < length xs → 65536 + 1 < length ys
    one_more xs ys same h = omega (arith, ap length same, length-append xs gap, h)

    is_long : (65536 < length first) ⊎ (65536 < length second) → IsLong closed closing ⊎ IsLong closed opening
    is_long (inl h) = inl (one_more first (entry_text at_end closing) first_text h)
    is_long (inr h) = inr (one_more second (entry_text at_end opening) second_text h)

    -- behind a text that reads to the same transactions and directives
    module _ (front : List ℕ) (placed : List Placed) (front_read : items_in year front ≡ Ok placed) (front_loaded : load placed ≡ Ok book) (same : context_of year (items_at placed) ≡ c)
        (ends : EndsLine front) (shut : open_in 0 (lines_of front) ≡ false) where
      abbrev all : List ℕ
      all = front ++ (first ++ (gap ++ (second ++ gap)))

      whole_is : front ++ output ≡ all
      whole_is = ap (λ (xs : List ℕ). front ++ xs) out_all

      closes : (number other : ℕ) → (items_in year all >>= load) ≡ Ok (record { txns = book.txns ++ entry_at (again c styles) number closed.on (codes "closing") ones ∷ entry_at (again c styles) other (closed.on + 1) (codes "opening") twos ∷ [] })
          → Closes closed year (front ++ output)
      closes number other h = let back = sym txns in let lines_back = sym e in record {
        shape = again c styles;
        first = number;
        second = other;
        loads =
            ap (λ (t : List ℕ). items_in year t >>= load) whole_is
            ∙ h
            ∙ (λ i. Ok (record { txns = back i ++ entry_at (again c styles) number closed.on (codes "closing") (lines_back i) ∷ entry_at (again c styles) other (closed.on + 1) (codes "opening") (map opposite (lines_back i)) ∷ [] }));
        emptied = emptied closed (again c styles) styles number other (closing_lines closed) (opening_lines closed) (codes "closing") (codes "opening") close;
        restored = restored closed (again c styles) styles number other (closing_lines closed) (opening_lines closed) (codes "closing") (codes "opening") close;
      }

      fails : (fault : Fault) → (items_in year all >>= load) ≡ Err fault → Fails year (front ++ output) fault
      fails fault h = ap (λ (t : List ℕ). items_in year t >>= load) whole_is ∙ h

      two_added : Added closed year front output (Some (closing, opening))
      two_added =
          by _ _ (both_end year front placed book styles closed.on m ms c same front_read front_loaded late within within_two closing_title opening_title ends shut one_are two_are even even_two)
        where
          by : (a b : ℕ) → Ends year all first second (book.txns ++ entry_at (again c styles) a closed.on (codes "closing") ones ∷ entry_at (again c styles) b (closed.on + 1) (codes "opening") twos ∷ [])
              → Closes closed year (front ++ output) ⊎ IsRefused closed (closing, opening) year (front ++ output)
          by a b (loads h) = inl (closes a b h)
          by a b (out line h) = inr (record { fault = record { line = line; cause = cause.Range }; fails = fails (record { line = line; cause = cause.Range }) h; cause = inl refl })
          by a b (long line size h) = inr (record { fault = record { line = line; cause = cause.TooLong }; fails = fails (record { line = line; cause = cause.TooLong }) h; cause = inr (refl, is_long size) })

  none_added : closing_lines closed ≡ [] → (output ≡ []) × AreEmpty closed closed.txns
  none_added e = (
    out_is ∙ ap (λ (l : List Moved). pair_text at_end chosen.Both (entries_with styles closed.on l)) e,
    subst (λ (l : List Moved). Settles closed (entries_with styles closed.on l)) e settled,
  )

  by_lines : EndsLine text → open_in 0 (lines_of text) ≡ false → (lines : List Moved) → closing_lines closed ≡ lines → Added closed year text output (entries_with styles closed.on lines)
  by_lines ends shut [] e = none_added e
  by_lines ends shut (m ∷ ms) e = two_added m ms e text closed.items read loaded refl ends shut

  -- What is added loads, or is refused.
  pub is_added : IsEnded text → Added closed year text output (made closed)
  is_added is = by_lines (ends_with_line text is.line) (sym (open_block_is text) ∙ is.block) (closing_lines closed) refl

  -- ---- behind the text with its end

  out_ended : line_end output ≡ []
  out_ended = ap line_end out_is ∙ pair_ended at_end (made closed)

  abbrev full : List ℕ
  full = text ++ (line_end text ++ (block_end text ++ blank_line text))

  joined_is : full ++ output ≡ text ++ added text output
  joined_is =
      let no_more : output ≡ output ++ line_end output = sym (append-nil output) ∙ ap (λ (xs : List ℕ). output ++ xs) (sym out_ended) in
      append_assoc text (line_end text ++ (block_end text ++ blank_line text)) output
      ∙ ap (λ (xs : List ℕ). text ++ (xs ++ output)) (sym (append_assoc (line_end text) (block_end text) (blank_line text)))
      ∙ ap (λ (xs : List ℕ). text ++ (((line_end text ++ block_end text) ++ blank_line text) ++ xs)) no_more

  module _ (m : Moved) (ms : List Moved) (e : closing_lines closed ≡ m ∷ ms) where
    abbrev pair : Txn × Txn
    pair = (closing m ms e, opening m ms e)

    whole_added : Closes closed year (full ++ output) ⊎ IsRefused closed pair year (full ++ output) → Joined closed year text output (Some pair)
    whole_added (inl h) = inl (subst (λ (t : List ℕ). Closes closed year t) joined_is h)
    whole_added (inr h) = inr (inl (subst (λ (t : List ℕ). IsRefused closed pair year t) joined_is h))

    by_ended : EndsLine full → open_in 0 (lines_of full) ≡ false → Ended year text full closed.items → Joined closed year text output (Some pair)
    by_ended ends shut (reads placed r context same) = whole_added (two_added m ms e full placed r (ap load_txns same ∙ loaded) context ends shut)
    by_ended ends shut (too_long p last size line f) = inr (inr (record {
      item = p;
      last = last;
      size = size;
      line = line;
      fails = ap (λ (t : List ℕ). items_in year t >>= load) (sym joined_is) ∙ ap (λ (r : Result (List Placed) Fault). r >>= load) (f output (begins_out m ms e));
    }))

  by_joined : EndsLine full → open_in 0 (lines_of full) ≡ false → Ended year text full closed.items → (lines : List Moved) → closing_lines closed ≡ lines → Joined closed year text output (entries_with styles closed.on lines)
  by_joined ends shut ended [] e = none_added e
  by_joined ends shut ended (m ∷ ms) e = by_ended m ms e ends shut ended

  pub is_joined : IsFront year text full closed.items → Joined closed year text output (made closed)
  is_joined is = by_joined is.ends is.shut is.ended (closing_lines closed) refl

front_of : (year : Option ℕ) (text : List ℕ) (items : List Placed) → items_in year text ≡ Ok items → IsFront year text (text ++ (line_end text ++ (block_end text ++ blank_line text))) items
front_of year [] items read = record { ends = tt; shut = refl; ended = reads items read refl refl }
front_of year (b ∷ bs) items read =
    subst (λ (t : List ℕ). IsFront year (b ∷ bs) ((b ∷ bs) ++ (line_end (b ∷ bs) ++ (block_end (b ∷ bs) ++ t))) items)
    (sym (ap (λ (t : Bool). cond {A = List ℕ} t [] gap) (some_bytes b bs))) (front_is year b bs items read)

-- ---- what a command answers

record IsMade (make : Making) (year : Option ℕ) (text : List ℕ) (outcome : Outcome) : Type 0 where
  items : List Placed
  read : items_in year text ≡ Ok items
  book : Book
  loaded : load items ≡ Ok book
  is : make items book ≡ outcome

ok_is : (a b : Outcome) → (let r : Judged = Ok a in r) ≡ Ok b → a ≡ b
ok_is a b h = cc

by_book : (make : Making) (year : Option ℕ) (text : List ℕ) (items : List Placed) (r : Result Book Fault) (outcome : Outcome) → items_in year text ≡ Ok items → load items ≡ r → made_loaded make items r ≡ Ok outcome → IsMade make year text outcome
by_book make year text items (Ok book) outcome read e h = record { items = items; read = read; book = book; loaded = e; is = ok_is (make items book) outcome h }
by_book make year text items (Err fault) outcome read e h = absurd (let never : ⊥ = cc in never)

by_items : (make : Making) (year : Option ℕ) (text : List ℕ) (r : Result (List Placed) Fault) (outcome : Outcome) → items_in year text ≡ r → made_read make r ≡ Ok outcome → IsMade make year text outcome
by_items make year text (Ok items) outcome e h = by_book make year text items (load items) outcome e refl h
by_items make year text (Err fault) outcome e h = absurd (let never : ⊥ = cc in never)

by_count : (t : Bool) (refusal : Outcome) (r : Judged) (outcome : Outcome) → cond t (Err refusal) r ≡ Ok outcome → r ≡ Ok outcome
by_count true refusal r outcome h = absurd (let never : ⊥ = cc in never)
by_count false refusal r outcome h = h

judged_is : (make : Making) (year : Option ℕ) (text : List ℕ) (outcome : Outcome) → judged_text make year text ≡ Ok outcome → IsMade make year text outcome
judged_is make year text outcome h =
    by_items make year text (items_in year text) outcome refl
    (by_count (nat_lt item_limit (length (items_of text))) (refused 7 (limit_line (length (items_of text)) item_limit)) (made_read make (items_in year text)) outcome h)

-- why there was no refusal
record IsOutput (asked : Entries) (closed : Closed) (output : List ℕ) : Type 0 where
  passes : first_cause closed ≡ None
  is : output ≡ pair_text (context_at_end closed.items) asked (made closed)

no_status : (line output : List ℕ) → refused 1 line ≡ written output → ⊥
no_status line output h = let never : 1 ≡ 0 = ap (λ (o : Outcome). o.status) h in omega (arith, never)

by_cause : (asked : Entries) (closed : Closed) (output : List ℕ) (cause : Option CloseFault) → first_cause closed ≡ cause → close_outcome (context_at_end closed.items) asked (made closed) cause ≡ written output → IsOutput asked closed output
by_cause asked closed output None e h = record { passes = e; is = sym (ap (λ (o : Outcome). o.output) h) }
by_cause asked closed output (Some fault) e h = absurd (no_status (close_line fault) output h)

record IsTermed (asked : CloseAsked) (day : ℕ) (items : List Placed) (book : Book) (output : List ℕ) : Type 0 where
  terms : List Term
  query : terms_of day asked.words ≡ Ok terms
  is : IsOutput asked.entries (closed_over asked items book terms) output

by_terms : (asked : CloseAsked) (day : ℕ) (items : List Placed) (book : Book) (output : List ℕ) (r : Result (List Term) (List ℕ)) → terms_of day asked.words ≡ r → close_by asked items book r ≡ written output → IsTermed asked day items book output
by_terms asked day items book output (Ok terms) e h =
    let closed = closed_over asked items book terms in
    record { terms = terms; query = e; is = by_cause asked.entries closed output (first_cause closed) refl h }
by_terms asked day items book output (Err word) e h = absurd (no_status (term_line word) output h)

made_terms : (asked : CloseAsked) (day : ℕ) (items : List Placed) (book : Book) (output : List ℕ) → close_made asked day items book ≡ written output → IsTermed asked day items book output
unfolding close_made
made_terms asked day items book output h = by_terms asked day items book output (terms_of day asked.words) refl h

-- what is written where the entries that are asked for are these
out_of : (closed : Closed) (output : List ℕ) (asked these : Entries) → asked ≡ these
    → output ≡ pair_text (context_at_end closed.items) asked (made closed) → output ≡ pair_text (context_at_end closed.items) these (made closed)
out_of closed output asked these is h = h ∙ ap (λ (e : Entries). pair_text (context_at_end closed.items) e (made closed)) is

pub is_closed : (day : ℕ) (year : Option ℕ) (asked : CloseAsked) (text output : List ℕ) → asked.entries ≡ chosen.Both → IsDay asked.on → asked.on < last_day → is_utf8 asked.into ≡ true → IsEnded text → judge day year (works.Close asked) text ≡ Ok (written output) → IsClosed day year asked text output
is_closed day year asked text output both within early into ended h =
    let m = judged_is (close_made asked day) year text (written output) h in
    let t = made_terms asked day m.items m.book output m.is in
    let closed = closed_over asked m.items m.book t.terms in
    record {
      items = m.items;
      read = m.read;
      book = m.book;
      loaded = m.loaded;
      terms = t.terms;
      query = t.query;
      added = is_added year text output closed m.book m.read m.loaded refl within early (t.is).passes into (out_of closed output asked.entries chosen.Both both (t.is).is) ended;
    }

pub is_joined_text : (day : ℕ) (year : Option ℕ) (asked : CloseAsked) (text output : List ℕ) → asked.entries ≡ chosen.Both → IsDay asked.on → asked.on < last_day → is_utf8 asked.into ≡ true → judge day year (works.Close asked) text ≡ Ok (written output) → IsJoined day year asked text output
is_joined_text day year asked text output both within early into h =
    let m = judged_is (close_made asked day) year text (written output) h in
    let t = made_terms asked day m.items m.book output m.is in
    let closed = closed_over asked m.items m.book t.terms in
    record {
      items = m.items;
      read = m.read;
      book = m.book;
      loaded = m.loaded;
      terms = t.terms;
      query = t.query;
      joined = is_joined year text output closed m.book m.read m.loaded refl within early (t.is).passes into (out_of closed output asked.entries chosen.Both both (t.is).is) (front_of year text m.items m.read);
    }

-- ---- one of the entries alone

longer : (xs ys : List ℕ) → ys ≡ xs ++ gap → 65536 < length xs → 65536 + 1 < length ys
longer xs ys same h = omega (arith, ap length same, length-append xs gap, h)

module _ (year : Option ℕ) (text : List ℕ) (closed : Closed) (book : Book) (read : items_in year text ≡ Ok closed.items) (loaded : load closed.items ≡ Ok book) (txns : closed.txns ≡ book.txns)
    (within : IsDay closed.on) (early : closed.on < last_day) (passes : first_cause closed ≡ None) (into : is_utf8 closed.into ≡ true) where
  abbrev its_styles : Writing
  its_styles = style_of closed.items

  abbrev its_end : Context
  its_end = context_at_end closed.items

  abbrev its_context : Context
  its_context = context_of year (items_at closed.items)

  abbrev both_text : List ℕ
  both_text = pair_text its_end chosen.Both (made closed)

  none_alone : (asked : Entries) (output : List ℕ) → output ≡ pair_text its_end asked (made closed) → closing_lines closed ≡ [] → (output ≡ []) × AreEmpty closed closed.txns
  none_alone asked output out_is e = (
    out_is ∙ ap (λ (l : List Moved). pair_text its_end asked (entries_with its_styles closed.on l)) e,
    subst (λ (l : List Moved). Settles closed (entries_with its_styles closed.on l)) e (settled year text both_text closed book read loaded txns within early passes into refl),
  )

  module _ (m : Moved) (ms : List Moved) (e : closing_lines closed ≡ m ∷ ms) where
    abbrev its_ones : List Moved
    its_ones = m ∷ ms

    abbrev its_twos : List Moved
    its_twos = opposite m ∷ map opposite ms

    abbrev its_closing : Txn
    its_closing = entry_on its_styles closed.on (codes "closing") its_ones

    abbrev its_opening : Txn
    its_opening = entry_on its_styles (closed.on + 1) (codes "opening") its_twos

    ones_are : AreLinesOf its_context its_ones
    ones_are = one_are year text both_text closed book read loaded txns within early passes into refl m ms e

    twos_are : AreLinesOf its_context its_twos
    twos_are = two_are year text both_text closed book read loaded txns within early passes into refl m ms e

    closes_it : Close closed (entry_on its_styles closed.on (codes "closing") (closing_lines closed), entry_on its_styles (closed.on + 1) (codes "opening") (opening_lines closed))
    closes_it = close year text both_text closed book read loaded txns within early passes into refl m ms e

    -- the closing entry behind the text
    module _ (output : List ℕ) (out_is : output ≡ pair_text its_end chosen.Closing (made closed)) (ends : EndsLine text) (shut : open_in 0 (lines_of text) ≡ false) where
      abbrev it : List ℕ
      it = joined (entry_lines its_context its_styles closed.on (codes "closing") its_ones)

      it_text : entry_text its_end its_closing ≡ it ++ gap
      it_text = first_text year text both_text closed book read loaded txns within early passes into refl m ms e

      out_it : text ++ output ≡ text ++ (it ++ gap)
      out_it =
          ap (λ (xs : List ℕ). text ++ xs)
          (out_is ∙ ap (λ (l : List Moved). pair_text its_end chosen.Closing (entries_with its_styles closed.on l)) e ∙ it_text)

      by_it : (n : ℕ) → EndsAlone year (text ++ (it ++ gap)) it (book.txns ++ entry_at (again its_context its_styles) n closed.on (codes "closing") its_ones ∷ [])
          → Empties closed year (text ++ output) ⊎ IsRefusedFor closed its_closing year (text ++ output)
      by_it n (alone_loads h) = let back = sym txns in let lines_back = sym e in inl (record {
        shape = again its_context its_styles;
        line = n;
        loads =
            ap (λ (t : List ℕ). items_in year t >>= load) out_it
            ∙ h
            ∙ (λ i. Ok (record { txns = back i ++ entry_at (again its_context its_styles) n closed.on (codes "closing") (lines_back i) ∷ [] }));
        emptied = emptied closed (again its_context its_styles) its_styles n 0 (closing_lines closed) (opening_lines closed) (codes "closing") (codes "opening") closes_it;
      })
      by_it n (alone_out line h) = inr (record { fault = record { line = line; cause = cause.Range }; fails = ap (λ (t : List ℕ). items_in year t >>= load) out_it ∙ h; cause = inl refl })
      by_it n (alone_long line size h) = inr (record { fault = record { line = line; cause = cause.TooLong }; fails = ap (λ (t : List ℕ). items_in year t >>= load) out_it ∙ h; cause = inr (refl, longer it (entry_text its_end its_closing) it_text size) })

      some_closed : Emptied closed year text output (Some (its_closing, its_opening))
      some_closed =
          by_it _ (alone_end year text closed.items book its_styles closed.on (codes "closing") m ms its_context refl read loaded
          (late year text both_text closed book read loaded txns within early passes into refl) within closing_title ends shut ones_are
          (even year text both_text closed book read loaded txns within early passes into refl m ms e))

    -- the opening entry behind another text
    module _ (output : List ℕ) (out_is : output ≡ pair_text its_end chosen.Opening (made closed)) (head : List ℕ) (like : IsLike year closed.items (closed.on + 1) head) where
      abbrev its : List ℕ
      its = joined (entry_lines its_context its_styles (closed.on + 1) (codes "opening") its_twos)

      its_text : entry_text its_end its_opening ≡ its ++ gap
      its_text = second_text year text both_text closed book read loaded txns within early passes into refl m ms e

      out_its : head ++ output ≡ head ++ (its ++ gap)
      out_its =
          ap (λ (xs : List ℕ). head ++ xs)
          (out_is ∙ ap (λ (l : List Moved). pair_text its_end chosen.Opening (entries_with its_styles closed.on l)) e ∙ its_text)

      by_its : (n : ℕ) → EndsAlone year (head ++ (its ++ gap)) its ((like.book).txns ++ entry_at (again its_context its_styles) n (closed.on + 1) (codes "opening") its_twos ∷ [])
          → Opens closed year (like.book).txns (head ++ output) ⊎ IsRefusedFor closed its_opening year (head ++ output)
      by_its n (alone_loads h) = let lines_back = sym e in inl (record {
        shape = again its_context its_styles;
        line = n;
        loads =
            ap (λ (t : List ℕ). items_in year t >>= load) out_its
            ∙ h
            ∙ (λ i. Ok (record { txns = (like.book).txns ++ entry_at (again its_context its_styles) n (closed.on + 1) (codes "opening") (map opposite (lines_back i)) ∷ [] }));
        carried = opening_carried closed (again its_context its_styles) its_styles n (codes "closing") (codes "opening") (closing_lines closed) (opening_lines closed) closes_it;
      })
      by_its n (alone_out line h) = inr (record { fault = record { line = line; cause = cause.Range }; fails = ap (λ (t : List ℕ). items_in year t >>= load) out_its ∙ h; cause = inl refl })
      by_its n (alone_long line size h) = inr (record { fault = record { line = line; cause = cause.TooLong }; fails = ap (λ (t : List ℕ). items_in year t >>= load) out_its ∙ h; cause = inr (refl, longer its (entry_text its_end its_opening) its_text size) })

      some_opened : Behind closed year (like.book).txns head output (Some (its_closing, its_opening))
      some_opened =
          by_its _ (alone_end year head like.placed like.book its_styles (closed.on + 1) (codes "opening") (opposite m) (map opposite ms) its_context like.same like.read like.loaded
          like.late (within_two year text both_text closed book read loaded txns within early passes into refl) opening_title
          (ends_with_line head (like.ended).line) (sym (open_block_is head) ∙ (like.ended).block) twos_are
          (even_two year text both_text closed book read loaded txns within early passes into refl m ms e))

  emptied_by : (output : List ℕ) → output ≡ pair_text its_end chosen.Closing (made closed) → EndsLine text → open_in 0 (lines_of text) ≡ false
      → (lines : List Moved) → closing_lines closed ≡ lines → Emptied closed year text output (entries_with its_styles closed.on lines)
  emptied_by output out_is ends shut [] e = none_alone chosen.Closing output out_is e
  emptied_by output out_is ends shut (m ∷ ms) e = some_closed m ms e output out_is ends shut

  opened_by : (output : List ℕ) → output ≡ pair_text its_end chosen.Opening (made closed) → (head : List ℕ) → (like : IsLike year closed.items (closed.on + 1) head)
      → (lines : List Moved) → closing_lines closed ≡ lines → Behind closed year (like.book).txns head output (entries_with its_styles closed.on lines)
  opened_by output out_is head like [] e = none_alone chosen.Opening output out_is e
  opened_by output out_is head like (m ∷ ms) e = some_opened m ms e output out_is head like

pub is_emptied : (day : ℕ) (year : Option ℕ) (asked : CloseAsked) (text output : List ℕ) → asked.entries ≡ chosen.Closing → IsDay asked.on → asked.on < last_day → is_utf8 asked.into ≡ true → IsEnded text → judge day year (works.Close asked) text ≡ Ok (written output) → IsEmptied day year asked text output
is_emptied day year asked text output alone within early into ended h =
    let m = judged_is (close_made asked day) year text (written output) h in
    let t = made_terms asked day m.items m.book output m.is in
    let closed = closed_over asked m.items m.book t.terms in
    record {
      items = m.items;
      read = m.read;
      book = m.book;
      loaded = m.loaded;
      terms = t.terms;
      query = t.query;
      emptied =
          emptied_by year text closed m.book m.read m.loaded refl within early (t.is).passes into output (out_of closed output asked.entries chosen.Closing alone (t.is).is)
          (ends_with_line text ended.line) (sym (open_block_is text) ∙ ended.block) (closing_lines closed) refl;
    }

-- behind the empty text an entry reads as behind items without directives
empty_like : (year : Option ℕ) (items : List Placed) (last : ℕ) → directives_in (items_at items) ≡ [] → IsLike year items last []
empty_like year items last none = record {
  placed = [];
  read = none_left year [] [];
  book = record { txns = [] };
  loaded = refl;
  late = refl;
  same = ap (context_from year) (sym none);
  ended = record { line = refl; block = refl };
}

pub is_opened_behind : (day : ℕ) (year : Option ℕ) (asked : CloseAsked) (text output : List ℕ) → asked.entries ≡ chosen.Opening → IsDay asked.on → asked.on < last_day → is_utf8 asked.into ≡ true → judge day year (works.Close asked) text ≡ Ok (written output) → IsOpenedBehind day year asked text output
is_opened_behind day year asked text output alone within early into h =
    let m = judged_is (close_made asked day) year text (written output) h in
    let t = made_terms asked day m.items m.book output m.is in
    let closed = closed_over asked m.items m.book t.terms in
    record {
      items = m.items;
      read = m.read;
      book = m.book;
      loaded = m.loaded;
      terms = t.terms;
      query = t.query;
      opens = λ head like.
          opened_by year text closed m.book m.read m.loaded refl within early (t.is).passes into output (out_of closed output asked.entries chosen.Opening alone (t.is).is) head like
          (closing_lines closed) refl;
      alone = empty_like year m.items (asked.on + 1);
    }

-- ---- what the opening entry carries

opened : (closed : Closed) (output : List ℕ) (asked : Entries) → asked ≡ chosen.Opening → (entries : Option (Txn × Txn))
    → output ≡ pair_text (context_at_end closed.items) asked entries → Settles closed entries → Opened closed output entries
opened closed output asked is None h empty = (h, empty)
opened closed output asked is (Some entries) h close =
    (h ∙ ap (λ (e : Entries). pair_text (context_at_end closed.items) e (Some entries)) is, carried closed entries.0 entries.1 close)

pub is_opened : (day : ℕ) (year : Option ℕ) (asked : CloseAsked) (text output : List ℕ) → asked.entries ≡ chosen.Opening → judge day year (works.Close asked) text ≡ Ok (written output) → IsOpened day year asked text output
is_opened day year asked text output alone h =
    let m = judged_is (close_made asked day) year text (written output) h in
    let t = made_terms asked day m.items m.book output m.is in
    let closed = closed_over asked m.items m.book t.terms in
    record {
      items = m.items;
      read = m.read;
      book = m.book;
      loaded = m.loaded;
      terms = t.terms;
      query = t.query;
      opened = opened closed output asked.entries alone (made closed) (t.is).is (settles closed (made closed) refl);
    }
