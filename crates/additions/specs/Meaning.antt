-- What it means that bytes come to something behind a text and its book.
use Rattle.std.specs.Prelude.{◌≡◌, ℕ, List, ◌++◌, Option, Some, None, IfSome, Result, Ok, Err}
use Rattle.book.specs.Bounds.{TurnoverFits}
use Rattle.book.specs.Postings.{postings_of, txns_of}
use Rattle.book.specs.declared.fault.Fault.{Fault}
use Rattle.book.specs.declared.item.Book.{Book}
use Rattle.book.specs.declared.item.Placed.{Placed}
use Rattle.book.specs.declared.transaction.Txn.{Txn}
use Rattle.entry_reader.specs.Causes.{◌>>=◌}
use Rattle.balancing.specs.Load.{load}
use Rattle.journal_reader.specs.Items.{items_in}
use Rattle.text_ends.specs.Going.{items_behind}
use Rattle.text_ends.specs.declared.kept.KeptEnd.{KeptEnd}
use Rattle.text_ends.specs.declared.reading.Grown.{Grown}
use Rattle.additions.specs.Coming.{Coming}
use Rattle.additions.specs.Kept.{IsBookEnd, IsKept}
use Rattle.additions.specs.declared.book_end.BookEnd.{BookEnd}
use Rattle.additions.specs.declared.book_end.Plain.{Plain}
use Rattle.additions.specs.declared.book_end.Added.{Added}
use Rattle.additions.specs.declared.fault.AddFault.{AddFault}
use Rattle.additions.specs.declared.fault.AddFault.TheVariants as add

-- the fault that an error tells; want of memory tells none
abbrev pub cause_in : AddFault → Option Fault
cause_in (add.Load fault) = Some fault
cause_in add.Memory = None

-- the book of a text that begins in a year, or the text's fault
abbrev pub load_of : Option ℕ → List ℕ → Result Book Fault
load_of year text = items_in year text >>= load

-- The whole reads as the items of the text and what was read behind it, which has these further transactions.
pub record ReadsOn (year : Option ℕ) (text bytes : List ℕ) (items : List Placed) (g : Grown) : Type 0 where
  pub read : items_in year (text ++ bytes) ≡ Ok (items_behind items g)
  pub written : txns_of (items_behind items g) ≡ txns_of items ++ txns_of g.items

-- All other transactions of the book stay what they are: it loads to them and these, of which this is kept.
pub record AddsOn (items : List Placed) (book : List Txn) (g : Grown) (p : Plain) : Type 0 where
  pub loads : load (items_behind items g) ≡ Ok (record { txns = book ++ p.txns })
  pub known : IsBookEnd (book ++ p.txns) p.end
  pub fits : TurnoverFits (postings_of (book ++ p.txns))

-- what was added is right of a text with bytes behind it, and of its book
pub record IsRight (year : Option ℕ) (text bytes : List ℕ) (items : List Placed) (book : List Txn) (a : Added) : Type 0 where
  pub reads : ReadsOn year text bytes items a.grown
  pub adds : IfSome a.plain (AddsOn items book a.grown)

abbrev pub IsTold : Option ℕ → List ℕ → List ℕ → List Placed → List Txn → Result (Option Added) AddFault → Type 0
IsTold year text bytes items book (Ok added) = IfSome added (IsRight year text bytes items book)
IsTold year text bytes items book (Err e) = IfSome (cause_in e) (λ fault. load_of year (text ++ bytes) ≡ Err fault)

-- An answer is right of any text with the bytes behind it, of whose end and whose book this is kept.
abbrev pub Means : KeptEnd → List ℕ → BookEnd → Result (Option Added) AddFault → Type 0
Means e bytes b answer =
    (year : Option ℕ) (text : List ℕ) (items : List Placed) (book : List Txn) → IsKept year text items book e b
    → IsTold year text bytes items book answer

-- What comes of the bytes is what a load of the whole gives: it reads as the text's items and what was read; where more is
-- told, it loads to the text's transactions and these; or it has the fault.
abbrev pub IsWhole : Option ℕ → List ℕ → List ℕ → List Placed → List Txn → Result (Option Coming) Fault → Type 0
IsWhole year text bytes items book (Ok None) = Unit {0}
IsWhole year text bytes items book (Ok (Some (g, None))) = ReadsOn year text bytes items g
IsWhole year text bytes items book (Ok (Some (g, Some txns))) = ReadsOn year text bytes items g × (load (items_behind items g) ≡ Ok (record { txns = book ++ txns }))
IsWhole year text bytes items book (Err fault) = load_of year (text ++ bytes) ≡ Err fault
