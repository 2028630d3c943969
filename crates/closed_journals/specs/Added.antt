-- Closing entries that are added to the text of which they are made.
use Rattle.std.specs.Prelude.{◌≡◌, ◌<◌, ℕ, suc, ◌+◌, ◌⊎◌, true, false, List, [], ◌∷◌, ◌++◌, length, map, codes, Option, Some, None, Ok, Err}
use Rattle.hl_base.specs.Ascii.{line_feed}
use Rattle.hl_base.specs.Items.{items_of}
use Rattle.hl_base.specs.declared.items.Piece.{Piece}
use Rattle.hl_base.specs.Limits.{entry_limit}
use Rattle.book.specs.declared.amount.Written.{Written}
use Rattle.book.specs.declared.fault.Cause.TheVariants as cause
use Rattle.book.specs.declared.fault.Fault.{Fault}
use Rattle.book.specs.declared.item.Book.{Book}
use Rattle.book.specs.declared.item.Placed.{Placed}
use Rattle.book.specs.declared.transaction.Mark.TheVariants.{Unmarked}
use Rattle.book.specs.declared.transaction.Posting.{Posting}
use Rattle.book.specs.declared.transaction.Side.TheVariants.{Real}
use Rattle.book.specs.declared.transaction.Txn.{Txn}
use Rattle.book.specs.Postings.{plain_posting}
use Rattle.balancing.specs.Load.{load}
use Rattle.book_care.specs.Asked.{Asked as Closed, is_named}
use Rattle.book_care.specs.Balances.{AreEmpty, IsKept, balance}
use Rattle.book_care.specs.Entries.{made}
use Rattle.book_care.specs.Late.{first_late}
use Rattle.book_care.specs.Lines.{Moved, closing_lines, opening_lines}
use Rattle.book_care.specs.Reads.{context_at_end}
use Rattle.book_commands.specs.Works.{closed_over, entry_text}
use Rattle.book_commands.specs.declared.work.CloseAsked.{CloseAsked}
use Rattle.entry_reader.specs.Causes.{◌>>=◌}
use Rattle.entry_reader.specs.Contexts.{context_of, directives_in}
use Rattle.journal_reader.specs.Items.{items_in}
use Rattle.live_journal.specs.Edits.{added, has_open_block, last_piece, line_end}
use Rattle.query_terms.specs.Reading.{terms_of}
use Rattle.query_terms.specs.declared.kinds.Term.{Term}

-- ---- the entries as they are read

-- how the amount of a line is written
abbrev pub Shaped : Type 0
Shaped = Moved → Written

-- a real posting of a line's account and amount, in a line of a text
abbrev pub posting_in : Written → ℕ → Moved → Posting
posting_in shape number moved =
    record (plain_posting number Real moved.account) { amount = Some (record { symbol = moved.symbol; value = moved.value; shape = shape }) }

-- those of some lines, one after another
abbrev pub postings_from : Shaped → ℕ → List Moved → List Posting
postings_from shape number [] = []
postings_from shape number (moved ∷ more) = posting_in (shape moved) number moved ∷ postings_from shape (suc number) more

-- an entry of a day, whose head is in a line, and whose postings are in the lines after that
abbrev pub entry_at : Shaped → ℕ → ℕ → List ℕ → List Moved → Txn
entry_at shape number day description lines = record {
  line = number;
  day = record { 0 = day };
  mark = Unmarked;
  code = [];
  description = description;
  comment = [];
  tags = [];
  postings = postings_from shape (suc number) lines;
}

-- the closing entry in a line of a text, and the opening one
abbrev pub closing_at : Shaped → ℕ → Closed → Txn
closing_at shape number closed = entry_at shape number closed.on (codes "closing") (closing_lines closed)

abbrev pub opening_at : Shaped → ℕ → Closed → Txn
opening_at shape number closed = entry_at shape number (closed.on + 1) (codes "opening") (opening_lines closed)

-- ---- the text

-- It is empty or ends with a line's end, and no comment block is left open at its end.
pub record IsEnded (text : List ℕ) : Type 0 where
  pub line : line_end text ≡ []
  pub block : has_open_block text ≡ false

-- ---- the text with both entries behind it

-- It reads, and loads to the book of these transactions; or it has this fault.
abbrev pub Loads : Option ℕ → List ℕ → List Txn → Type 0
Loads year text txns = (items_in year text >>= load) ≡ Ok (record { txns = txns })

abbrev pub Fails : Option ℕ → List ℕ → Fault → Type 0
Fails year text fault = (items_in year text >>= load) ≡ Err fault

-- It loads to the book of the text, with the two entries behind it. Behind the first each named account is empty, and behind
-- both every account has what it had.
pub record Closes (closed : Closed) (year : Option ℕ) (text : List ℕ) : Type 0 where
  pub shape : Shaped
  pub first : ℕ
  pub second : ℕ
  pub loads : Loads year text (closed.txns ++ closing_at shape first closed ∷ opening_at shape second closed ∷ [])
  pub emptied : AreEmpty closed (closed.txns ++ closing_at shape first closed ∷ [])
  pub restored : IsKept closed.txns (closing_at shape first closed ∷ opening_at shape second closed ∷ [])

-- the text of an entry, but for the empty line behind it, is over 65,536 bytes
abbrev pub IsLong : Closed → Txn → Type 0
IsLong closed entry = entry_limit + 1 < length (entry_text (context_at_end closed.items) entry)

-- Its fault is that it is out of range, or that one of the two entries is too long, where it is over 65,536 bytes.
pub record IsRefused (closed : Closed) (entries : Txn × Txn) (year : Option ℕ) (text : List ℕ) : Type 0 where
  pub fault : Fault
  pub fails : Fails year text fault
  pub cause : (fault.cause ≡ cause.Range) ⊎ ((fault.cause ≡ cause.TooLong) × (IsLong closed entries.0 ⊎ IsLong closed entries.1))

-- What becomes of a text with the entries of what is closed behind it: there are none, and the named accounts are empty; or
-- it loads so, or is refused so.
abbrev pub Added : Closed → Option ℕ → List ℕ → List ℕ → Option (Txn × Txn) → Type 0
Added closed year text output None = (output ≡ []) × AreEmpty closed closed.txns
Added closed year text output (Some entries) = Closes closed year (text ++ output) ⊎ IsRefused closed entries year (text ++ output)

-- What a text was read and loaded to where its accounts are closed, and what becomes of it with the entries behind it.
pub record IsClosed (day : ℕ) (year : Option ℕ) (asked : CloseAsked) (text output : List ℕ) : Type 0 where
  pub items : List Placed
  pub read : items_in year text ≡ Ok items
  pub book : Book
  pub loaded : load items ≡ Ok book
  pub terms : List Term
  pub query : terms_of day asked.words ≡ Ok terms
  pub added : Added (closed_over asked items book terms) year text output (made (closed_over asked items book terms))

-- ---- both entries added to any text

-- The text's last item has exactly 65,536 bytes, without a line's end: with one it is too long, and this is the fault.
pub record IsOver (year : Option ℕ) (text whole : List ℕ) : Type 0 where
  pub item : Piece
  pub last : last_piece (items_of text) ≡ Some item
  pub size : item.len ≡ entry_limit
  pub line : line_end text ≡ line_feed ∷ []
  pub fails : Fails year whole (record { line = item.line; cause = cause.TooLong })

-- What becomes of a text to which the entries are added as any entry is: behind a line's end where the last line lacks one,
-- the end of a comment block that is left open, and an empty line.
abbrev pub Joined : Closed → Option ℕ → List ℕ → List ℕ → Option (Txn × Txn) → Type 0
Joined closed year text output None = (output ≡ []) × AreEmpty closed closed.txns
Joined closed year text output (Some entries) =
    Closes closed year (text ++ added text output) ⊎ (IsRefused closed entries year (text ++ added text output) ⊎ IsOver year text (text ++ added text output))

-- What a text was read and loaded to where its accounts are closed, and what becomes of it where the entries are added to it.
pub record IsJoined (day : ℕ) (year : Option ℕ) (asked : CloseAsked) (text output : List ℕ) : Type 0 where
  pub items : List Placed
  pub read : items_in year text ≡ Ok items
  pub book : Book
  pub loaded : load items ≡ Ok book
  pub terms : List Term
  pub query : terms_of day asked.words ≡ Ok terms
  pub joined : Joined (closed_over asked items book terms) year text output (made (closed_over asked items book terms))

-- ---- the closing entry alone

-- It loads to the book of the text, with the closing entry behind it; and then each named account is empty.
pub record Empties (closed : Closed) (year : Option ℕ) (text : List ℕ) : Type 0 where
  pub shape : Shaped
  pub line : ℕ
  pub loads : Loads year text (closed.txns ++ closing_at shape line closed ∷ [])
  pub emptied : AreEmpty closed (closed.txns ++ closing_at shape line closed ∷ [])

-- Its fault is that it is out of range, or that an entry is too long, where it is over 65,536 bytes.
pub record IsRefusedFor (closed : Closed) (entry : Txn) (year : Option ℕ) (text : List ℕ) : Type 0 where
  pub fault : Fault
  pub fails : Fails year text fault
  pub cause : (fault.cause ≡ cause.Range) ⊎ ((fault.cause ≡ cause.TooLong) × IsLong closed entry)

-- What becomes of a text with the closing entry behind it: there is none, and the named accounts are empty; or it loads so, or is
-- refused so.
abbrev pub Emptied : Closed → Option ℕ → List ℕ → List ℕ → Option (Txn × Txn) → Type 0
Emptied closed year text output None = (output ≡ []) × AreEmpty closed closed.txns
Emptied closed year text output (Some entries) = Empties closed year (text ++ output) ⊎ IsRefusedFor closed entries.0 year (text ++ output)

-- What a text was read and loaded to where its accounts are closed, and what becomes of it with the closing entry behind it.
pub record IsEmptied (day : ℕ) (year : Option ℕ) (asked : CloseAsked) (text output : List ℕ) : Type 0 where
  pub items : List Placed
  pub read : items_in year text ≡ Ok items
  pub book : Book
  pub loaded : load items ≡ Ok book
  pub terms : List Term
  pub query : terms_of day asked.words ≡ Ok terms
  pub emptied : Emptied (closed_over asked items book terms) year text output (made (closed_over asked items book terms))

-- ---- the opening entry alone

-- In a journal of this transaction alone each named account has the balance that it has in the text.
abbrev pub Carries : Closed → Txn → Type 0
Carries closed txn = (account symbol : List ℕ) → is_named closed account ≡ true → balance account symbol (txn ∷ []) ≡ balance account symbol closed.txns

-- what is written is the opening entry, and it carries the balances; or there is none, and the named accounts are empty
abbrev pub Opened : Closed → List ℕ → Option (Txn × Txn) → Type 0
Opened closed output None = (output ≡ []) × AreEmpty closed closed.txns
Opened closed output (Some entries) = (output ≡ entry_text (context_at_end closed.items) entries.1) × Carries closed entries.1

-- What a text was read and loaded to where its accounts are opened again.
pub record IsOpened (day : ℕ) (year : Option ℕ) (asked : CloseAsked) (text output : List ℕ) : Type 0 where
  pub items : List Placed
  pub read : items_in year text ≡ Ok items
  pub book : Book
  pub loaded : load items ≡ Ok book
  pub terms : List Term
  pub query : terms_of day asked.words ≡ Ok terms
  pub opened : Opened (closed_over asked items book terms) output (made (closed_over asked items book terms))

-- A text behind which an entry reads as behind some items: its directives say the same of what follows. It loads, has no posting
-- after a day, and ends as a text may at whose end entries are written.
pub record IsLike (year : Option ℕ) (items : List Placed) (last : ℕ) (head : List ℕ) : Type 0 where
  pub placed : List Placed
  pub read : items_in year head ≡ Ok placed
  pub book : Book
  pub loaded : load placed ≡ Ok book
  pub late : first_late last book.txns ≡ None
  pub same : context_of year (map (λ p. p.item) placed) ≡ context_of year (map (λ p. p.item) items)
  pub ended : IsEnded head

-- It loads to these transactions with the opening entry behind them, which carries the balances.
pub record Opens (closed : Closed) (year : Option ℕ) (txns : List Txn) (text : List ℕ) : Type 0 where
  pub shape : Shaped
  pub line : ℕ
  pub loads : Loads year text (txns ++ opening_at shape line closed ∷ [])
  pub carried : Carries closed (opening_at shape line closed)

-- What becomes of a text of these transactions with the opening entry behind it: there is none, and the named accounts are empty;
-- or it loads so, or is refused so.
abbrev pub Behind : Closed → Option ℕ → List Txn → List ℕ → List ℕ → Option (Txn × Txn) → Type 0
Behind closed year txns head output None = (output ≡ []) × AreEmpty closed closed.txns
Behind closed year txns head output (Some entries) = Opens closed year txns (head ++ output) ⊎ IsRefusedFor closed entries.1 year (head ++ output)

-- What a text was read and loaded to where its accounts are opened again, and what becomes of any text behind which the opening
-- entry reads as behind this one.
pub record IsOpenedBehind (day : ℕ) (year : Option ℕ) (asked : CloseAsked) (text output : List ℕ) : Type 0 where
  pub items : List Placed
  pub read : items_in year text ≡ Ok items
  pub book : Book
  pub loaded : load items ≡ Ok book
  pub terms : List Term
  pub query : terms_of day asked.words ≡ Ok terms
  pub opens : (head : List ℕ) → (like : IsLike year items (asked.on + 1) head)
      → Behind (closed_over asked items book terms) year (like.book).txns head output (made (closed_over asked items book terms))
  pub alone : directives_in (map (λ p. p.item) items) ≡ [] → IsLike year items (asked.on + 1) []
