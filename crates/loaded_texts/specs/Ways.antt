-- What an edit makes of all that is made of a text.
use Rattle.std.specs.Prelude.{◌≡◌, ℕ, ◌+◌, ◌^◌, ◌<◌, ◌≤◌, List, ◌++◌, Option, IfSome, Ok, length}
use Rattle.std.specs.List.{AllByRecursion}
use Rattle.book.specs.declared.item.Placed.{Placed}
use Rattle.book.specs.declared.transaction.Txn.{Txn}
use Rattle.balancing.specs.Load.{load}
use Rattle.journal_reader.specs.Items.{items_in}
use Rattle.text_ends.specs.Ends.{last_of}
use Rattle.text_ends.specs.Going.{items_behind}
use Rattle.text_ends.specs.Whole.{ComesTo}
use Rattle.walked_edits.specs.Forms.{IsInside}
use Rattle.loaded_texts.specs.Changing.{CanTakeChange, ChangesTo}
use Rattle.loaded_texts.specs.Growing.{IsGrown}
use Rattle.loaded_texts.specs.Keeping.{IsLoaded}
use Rattle.loaded_texts.specs.Standing.{MakesBook}
use Rattle.loaded_texts.specs.declared.adding.Addition.{Addition}
use Rattle.loaded_texts.specs.declared.loaded.Loaded.{Loaded}
use Rattle.loaded_texts.specs.declared.made.Made.{Made}
use Rattle.loaded_texts.specs.declared.made.Made.TheVariants as ways

-- ---- bytes behind a text

-- There is room for all items and all transactions with what comes behind them.
pub record HasRoom (items : List Placed) (txns : List Txn) (a : Addition) : Type 0 where
  pub item_room : length items + length a.grown.items ≤ a.item_room
  pub txn_room : length txns + length a.parts.vacants.items ≤ a.txn_room

-- Bytes behind a text come to items there, and with what is made of them the book is that of the whole.
pub record Adds (year : Option ℕ) (text bytes : List ℕ) (items : List Placed) (txns : List Txn) (a : Addition) : Type 0 where
  pub grown : IsGrown year text bytes items a.grown
  pub makes : MakesBook (items_behind items a.grown) txns a.parts
  pub room : HasRoom items txns a

-- so it is of whatever a text reads as, and of its book
abbrev pub AddsTo : Option ℕ → List ℕ → List ℕ → Addition → Type 0
AddsTo year text bytes a = (items : List Placed) (txns : List Txn) → items_in year text ≡ Ok items → load items ≡ Ok (record { txns = txns }) → Adds year text bytes items txns a

-- ---- an edit

-- Bytes behind a text make another one.
pub record IsAdded (year : Option ℕ) (old bytes new : List ℕ) (a : Addition) : Type 0 where
  pub whole : new ≡ old ++ bytes
  pub adds : AddsTo year old bytes a

-- what an edit makes, which puts in some bytes, is all that is made of the new text, or makes it of what is made of the old one
abbrev pub IsMadeFrom : Option ℕ → List ℕ → List ℕ → List ℕ → Made → Type 0
IsMadeFrom year old bytes new (ways.Loaded l) = IsLoaded year new l
IsMadeFrom year old bytes new (ways.Added a) = IsAdded year old bytes new a
IsMadeFrom year old bytes new (ways.Changed c) = ChangesTo year old bytes new c

-- All that is made of a text can take in an addition: there is room, each form stands in the book, and the bytes come to what was
-- read behind the text's end.
pub record CanTakeIn (bytes : List ℕ) (l : Loaded) (a : Addition) : Type 0 where
  pub comes : ComesTo l.text.end bytes a.grown
  pub longer : IfSome (last_of l.items) (λ p. p.piece.len + a.grown.taken < 2 ^ 64)
  pub inside : AllByRecursion (IsInside (l.book.txns ++ a.parts.vacants.items)) a.parts.forms.items
  pub room : HasRoom l.items l.book.txns a

-- the same of what an edit makes
abbrev pub CanTake : List ℕ → Loaded → Made → Type 0
CanTake bytes l (ways.Loaded m) = Unit {0}
CanTake bytes l (ways.Added a) = CanTakeIn bytes l a
CanTake bytes l (ways.Changed c) = CanTakeChange l c
