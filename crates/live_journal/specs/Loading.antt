-- What a text must be for a journal, and what is made of it.
use Rattle.std.specs.Prelude.{◌≡◌, ℕ, ◌≤◌, List, nat_lt, Option, Some, None, [], ◌∷◌, IfSome, Result, Ok, Err, if◌then◌else◌, length}
use Rattle.std.specs.List.{AllByRecursion}
use Rattle.hl_base.specs.Items.{items_of}
use Rattle.hl_base.specs.Pieces.{IsWithin, bytes_in}
use Rattle.hl_base.specs.declared.items.Piece.{Piece}
use Rattle.hl_base.specs.Limits.{item_limit, text_limit}
use Rattle.book.specs.declared.item.Placed.{Placed}
use Rattle.book.specs.declared.item.Book.{Book}
use Rattle.book.specs.declared.fault.Fault.{Fault}
use Rattle.book.specs.declared.transaction.Txn.{Txn}
use Rattle.journal_reader.specs.Items.{items_in}
use Rattle.journal_reader.specs.Whole.{AreWithin}
use Rattle.balancing.specs.Load.{load}
use Rattle.live_journal.specs.declared.fault.OpenFault.{OpenFault}
use Rattle.live_journal.specs.declared.fault.OpenFault.TheVariants as unopened
use Rattle.live_journal.specs.Journals.{Journal}

-- the limit that a text is past, with its size: its bytes are judged before its items
abbrev pub past_limit : List ℕ → Option (ℕ × ℕ)
past_limit text =
    if nat_lt text_limit (length text) then Some (text_limit, length text)
    else if nat_lt item_limit (length (items_of text)) then Some (item_limit, length (items_of text))
    else None

-- the items of a text that begins in a year
abbrev pub reading_in : Option ℕ → List ℕ → Result (List Placed) Fault
reading_in year text = items_in year text

abbrev pub book_from : Result (List Placed) Fault → Result Book Fault
book_from (Ok items) = load items
book_from (Err fault) = Err fault

-- the book of a text, or the fault that it has
abbrev pub book_of : Option ℕ → List ℕ → Result Book Fault
book_of year text = book_from (reading_in year text)

-- the transactions of a text's book; none where it makes none
abbrev pub txns_from : Result Book Fault → List Txn
txns_from (Ok book) = book.txns
txns_from (Err fault) = []

abbrev pub txns_in : Option ℕ → List ℕ → List Txn
txns_in year text = txns_from (book_of year text)

-- the first that there is
abbrev pub first_of : {A : Type 0} → List (Option A) → Option A
first_of [] = None
first_of (None ∷ more) = first_of more
first_of (Some a ∷ more) = Some a

abbrev pub limit_fault : Option (ℕ × ℕ) → Option OpenFault
limit_fault None = None
limit_fault (Some past) = Some (unopened.TooLarge past.0 past.1)

abbrev pub text_fault : {X : Type 0} → Result X Fault → Option OpenFault
text_fault (Ok x) = None
text_fault (Err fault) = Some (unopened.Load fault)

-- why a text makes no journal: its limits are judged before its faults
abbrev pub fault_of : Option ℕ → List ℕ → Option OpenFault
fault_of year text = first_of (limit_fault (past_limit text) ∷ text_fault (book_of year text) ∷ [])

abbrev pub or_fault : Journal → Option OpenFault → Result Journal OpenFault
or_fault j None = Ok j
or_fault j (Some fault) = Err fault

-- a journal, or why its text makes none
abbrev pub opened : Journal → Result Journal OpenFault
opened j = or_fault j (fault_of j.year j.text)

-- the fault that an error tells; want of memory tells none
abbrev pub open_cause : OpenFault → Option OpenFault
open_cause unopened.Memory = None
open_cause (unopened.Load fault) = Some (unopened.Load fault)
open_cause (unopened.TooLarge limit size) = Some (unopened.TooLarge limit size)

-- an error tells this fault, or want of memory
abbrev pub Tells : OpenFault → Option OpenFault → Type 0
Tells e fault = IfSome (open_cause e) (λ told. fault ≡ Some told)

-- the pieces of a text that is within the limits
pub record IsCut (text : List ℕ) (pieces : List Piece) : Type 0 where
  pub few_bytes : length text ≤ text_limit
  pub few_items : length (items_of text) ≤ item_limit
  pub cut : pieces ≡ items_of text
  pub within : AllByRecursion (IsWithin (length text)) pieces
  pub readable : AreWithin text pieces
  pub whole : bytes_in pieces ≡ length text
