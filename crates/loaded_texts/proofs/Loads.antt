-- What is loaded, and what is made of it.
use Rattle.std.proofs.Common.{ℕ, ◌≡◌, ◌+◌, ◌≤◌, ◌<◌, List, [], ◌++◌, length, Option, Result, Ok, Err, refl, sym, ap, subst, ◌∙◌}
use Rattle.std.specs.Prelude.{IfOk, IfSome}
use Rattle.std.specs.List.{AllByRecursion}
use Rattle.book.specs.Postings.{txns_of}
use Rattle.book.specs.declared.fault.Fault.{Fault}
use Rattle.book.specs.declared.item.Book.{Book}
use Rattle.book.specs.declared.item.Placed.{Placed}
use Rattle.book.specs.declared.transaction.Txn.{Txn}
use Rattle.balancing.specs.Load.{load}
use Rattle.balancing.specs.Solves.{Solves}
use Rattle.balancing.proofs.Solving.{load_solves, solves_loads}
use Rattle.journal_reader.specs.Items.{items_in}
use Rattle.additions.specs.Kept.{IsBookEnd}
use Rattle.additions.specs.Meaning.{AddsOn, ReadsOn}
use Rattle.additions.specs.declared.book_end.BookEnd.{BookEnd}
use Rattle.additions.specs.declared.book_end.Plain.{Plain}
use Rattle.additions.proofs.Unmarked.{reads_unmarked}
use Rattle.kept_books.specs.Keeping.{IsOf}
use Rattle.kept_books.specs.declared.kept.KeptBook.{KeptBook}
use Rattle.kept_texts.specs.Keeping as texts
use Rattle.kept_texts.specs.Keeping.{Has, IsWith}
use Rattle.hl_base.specs.Items.{items_of}
use Rattle.hl_base.specs.declared.fault.Memory.{Memory}
use Rattle.hl_base.specs.declared.items.Piece.{Piece}
use Rattle.text_ends.specs.Ends.{end_of, last_of}
use Rattle.text_ends.specs.Going.{items_behind}
use Rattle.text_ends.specs.Whole.{ComesTo}
use Rattle.text_ends.specs.declared.kept.KeptEnd.{KeptEnd}
use Rattle.text_ends.specs.declared.reading.Grown.{Grown}
use Rattle.text_ends.proofs.Measures.{roomy}
use Rattle.walked_edits.specs.Forms.{IsInside, put_forms}
use Rattle.walked_edits.specs.declared.replaced.Replaced.{Replaced}
use Rattle.walked_texts.specs.Making.{AreParts, book_with, room_for}
use Rattle.walked_texts.specs.declared.making.Parts.{Parts}
use Rattle.loaded_texts.specs.Growing.{IsGrown}
use Rattle.loaded_texts.specs.Keeping.{IsLoaded}
use Rattle.loaded_texts.specs.Standing.{MakesBook, book_by}
use Rattle.loaded_texts.specs.Ways.{Adds, AddsTo, CanTake, CanTakeIn, HasRoom, IsAdded, IsMadeFrom}
use Rattle.loaded_texts.specs.declared.adding.Addition.{Addition}
use Rattle.loaded_texts.specs.declared.loaded.Loaded.{Loaded}
use Rattle.loaded_texts.specs.declared.made.Made.{Made}
use Rattle.loaded_texts.specs.declared.made.Made.TheVariants as ways
use Rattle.loaded_texts.proofs.Pieces.{of_last, pieces_read}

-- ---- what is loaded solves its text

pub loaded_solves : (year : Option ℕ) (text : List ℕ) (l : Loaded) → IsLoaded year text l → Solves (txns_of l.items) l.book.txns
loaded_solves year text l h = load_solves l.items l.book (reads_unmarked year text l.items h.read) h.loads

pub loaded_has : (year : Option ℕ) (text : List ℕ) (l : Loaded) → IsLoaded year text l → Has l.items l.book.txns l.text
loaded_has year text l h = let of = h.of_text in record { styles = of.styles; asked = of.asked }

-- and so does what is loaded of the whole
pub whole_solves : (year : Option ℕ) (text bytes : List ℕ) (items : List Placed) (txns : List Txn) (g : Grown) (p : Plain) → IsGrown year text bytes items g → AddsOn items txns g p
    → Solves (txns_of items ++ txns_of g.items) (txns ++ p.txns)
whole_solves year text bytes items txns g p grown adds =
    let reads = grown.reads in
    subst (λ (ws : List Txn). Solves ws (txns ++ p.txns)) reads.written
    (load_solves (items_behind items g) (record { txns = txns ++ p.txns }) (reads_unmarked year (text ++ bytes) (items_behind items g) reads.read) adds.loads)

-- ---- what is made of a book

none_behind : (txns more : List Txn) (p : Parts) → p.forms.items ≡ [] → p.vacants.items ≡ more → book_by txns p ≡ txns ++ more
none_behind txns more p none are = ap (put_forms (txns ++ p.vacants.items)) none ∙ ap (λ (ts : List Txn). txns ++ ts) are

-- transactions that leave all others as they are make the book of the whole
pub plain_makes : (items : List Placed) (txns : List Txn) (g : Grown) (plain : Plain) (p : Parts) → p.forms.items ≡ [] → p.vacants.items ≡ plain.txns → p.end ≡ plain.end
    → AddsOn items txns g plain → IsWith (items_behind items g) (txns ++ plain.txns) p.edited → IsOf (txns_of (items_behind items g)) (txns ++ plain.txns) p.kept → MakesBook (items_behind items g) txns p
plain_makes items txns g plain p none are end adds edited kept =
    let whole : book_by txns p ≡ txns ++ plain.txns = none_behind txns plain.txns p none are in
    record {
      inside = subst (λ (fs : List Replaced). AllByRecursion (IsInside (txns ++ p.vacants.items)) fs) (sym none) tt;
      loads = adds.loads ∙ ap (λ (ts : List Txn). let r : Result Book Fault = Ok (record { txns = ts }) in r) (sym whole);
      fits = rw whole adds.fits;
      edited = subst (λ (ts : List Txn). IsWith (items_behind items g) ts p.edited) (sym whole) edited;
      end = subst (λ (ts : List Txn). IsBookEnd ts p.end) (sym whole) (subst (IsBookEnd (txns ++ plain.txns)) (sym end) adds.known);
      kept = subst (λ (ts : List Txn). IsOf (txns_of (items_behind items g)) ts p.kept) (sym whole) kept;
    }

-- and so do the parts of a walk
pub parts_make : (items : List Placed) (txns : List Txn) (p : Parts) → AreParts items txns p → MakesBook items txns p
parts_make items txns p are =
    let whole : book_by txns p ≡ book_with items txns p.forms.items = ap (λ (ts : List Txn). put_forms ts p.forms.items) are.room in
    record {
      inside = subst (λ (ts : List Txn). AllByRecursion (IsInside ts) p.forms.items) (sym are.room) are.inside;
      loads = solves_loads items (record { txns = book_by txns p }) (subst (Solves (txns_of items)) (sym whole) are.solves);
      fits = rw whole are.fits;
      edited = subst (λ (ts : List Txn). IsWith items ts p.edited) (sym whole) are.edited;
      end = subst (λ (ts : List Txn). IsBookEnd ts p.end) (sym whole) are.end;
      kept = subst (λ (ts : List Txn). IsOf (txns_of items) ts p.kept) (sym whole) are.kept;
    }

-- ---- bytes behind a text

pub ok_items : (xs ys : List Placed) → (let r : Result (List Placed) Fault = Ok xs in r) ≡ Ok ys → xs ≡ ys
ok_items xs ys h = cc

ok_book : (a b : Book) → (let r : Result Book Fault = Ok a in r) ≡ Ok b → a ≡ b
ok_book a b h = cc

pub ok_txns : (xs ys : List Txn) → (let r : Result Book Fault = Ok (record { txns = xs }) in r) ≡ Ok (record { txns = ys }) → xs ≡ ys
ok_txns xs ys h = ap (λ (b : Book). b.txns) (ok_book (record { txns = xs }) (record { txns = ys }) h)

-- what is made of what is loaded is so of whatever the text reads as
pub made_adds : (year : Option ℕ) (text bytes : List ℕ) (l : Loaded) (g : Grown) (p : Parts) (a : Addition) → IsLoaded year text l → IsGrown year text bytes l.items g
    → MakesBook (items_behind l.items g) l.book.txns p → a.grown ≡ g → a.parts ≡ p → HasRoom l.items l.book.txns a → AddsTo year text bytes a
made_adds year text bytes l g p a h grown makes eg ep room = λ items txns read loads.
    let one : Adds year text bytes l.items l.book.txns a = record {
      grown = subst (IsGrown year text bytes l.items) (sym eg) grown;
      makes = subst (λ (x : Grown). MakesBook (items_behind l.items x) l.book.txns a.parts) (sym eg) (subst (MakesBook (items_behind l.items g) l.book.txns) (sym ep) makes);
      room = room;
    } in
    let same : l.items ≡ items = ok_items l.items items (sym h.read ∙ read) in
    let book : l.book.txns ≡ txns = ok_txns l.book.txns txns (sym h.loads ∙ ap load same ∙ loads) in
    subst (λ (ts : List Txn). Adds year text bytes items ts a) book (subst (λ (xs : List Placed). Adds year text bytes xs l.book.txns a) same one)

-- the same of an answer
pub added_if : (year : Option ℕ) (text bytes : List ℕ) (l : Loaded) (g : Grown) (p : Parts) (r : Result Addition Memory) → IsLoaded year text l → IsGrown year text bytes l.items g
    → MakesBook (items_behind l.items g) l.book.txns p → IfOk r (λ a. a.grown ≡ g) → IfOk r (λ a. a.parts ≡ p) → IfOk r (HasRoom l.items l.book.txns) → IfOk r (AddsTo year text bytes)
added_if year text bytes l g p (Ok a) h grown makes eg ep room = made_adds year text bytes l g p a h grown makes eg ep room
added_if year text bytes l g p (Err e) h grown makes eg ep room = tt

-- ---- what can be taken in

longer_room : (year : Option ℕ) (text bytes : List ℕ) (items : List Placed) (g : Grown) → items_in year text ≡ Ok items → ComesTo (end_of year text items) bytes g
    → IfSome (last_of items) (λ p. p.piece.len + g.taken < 18446744073709551616)
longer_room year text bytes items g read comes =
    let last : IfSome (last_of (items_of text)) (λ p. p.len + g.taken < 18446744073709551616) = roomy (end_of year text items) bytes g comes in
    of_last (λ p. p.len + g.taken < 18446744073709551616) items
    (subst (λ (ps : List Piece). IfSome (last_of ps) (λ p. p.len + g.taken < 18446744073709551616)) (sym (pieces_read year text items read)) last)

pub can_add : (year : Option ℕ) (text bytes : List ℕ) (l : Loaded) (a : Addition) → IsLoaded year text l → Adds year text bytes l.items l.book.txns a → CanTakeIn bytes l a
can_add year text bytes l a h adds =
    let of = h.of_text in
    let grown = adds.grown in
    record {
      comes = subst (λ (e : KeptEnd). ComesTo e bytes a.grown) (sym of.end) grown.comes;
      longer = longer_room year text bytes l.items a.grown h.read grown.comes;
      inside = (adds.makes).inside;
      room = adds.room;
    }

-- what is loaded, as it was added to
pub taken_in : (year : Option ℕ) (text bytes : List ℕ) (old new : Loaded) (a : Addition) → Adds year text bytes old.items old.book.txns a
    → new.items ≡ items_behind old.items a.grown → new.book.txns ≡ book_by old.book.txns a.parts → new.end ≡ a.parts.end → new.kept ≡ a.parts.kept
    → texts.IsOf year (text ++ bytes) (items_behind old.items a.grown) (book_by old.book.txns a.parts) new.text → IsLoaded year (text ++ bytes) new
taken_in year text bytes old new a adds items book end kept of =
    let grown = adds.grown in
    let makes = adds.makes in
    let reads = grown.reads in
    record {
      few_bytes = grown.few_bytes;
      few_items = grown.few_items;
      read = reads.read ∙ ap (λ (xs : List Placed). let r : Result (List Placed) Fault = Ok xs in r) (sym items);
      loads = ap load items ∙ makes.loads ∙ ap (λ (ts : List Txn). let r : Result Book Fault = Ok (record { txns = ts }) in r) (sym book);
      fits = rw book makes.fits;
      of_text = subst (λ (xs : List Placed). texts.IsOf year (text ++ bytes) xs new.book.txns new.text) (sym items)
          (subst (λ (ts : List Txn). texts.IsOf year (text ++ bytes) (items_behind old.items a.grown) ts new.text) (sym book) of);
      of_end = subst (λ (ts : List Txn). IsBookEnd ts new.end) (sym book) (subst (IsBookEnd (book_by old.book.txns a.parts)) (sym end) makes.end);
      of_book =
          subst (λ (xs : List Placed). IsOf (txns_of xs) new.book.txns new.kept) (sym items)
          (subst (λ (ts : List Txn). IsOf (txns_of (items_behind old.items a.grown)) ts new.kept) (sym book)
          (subst (IsOf (txns_of (items_behind old.items a.grown)) (book_by old.book.txns a.parts)) (sym kept) makes.kept));
    }

-- what bytes make is so of what is loaded
pub added_here : (year : Option ℕ) (old bytes new : List ℕ) (l : Loaded) (a : Addition) → IsLoaded year old l → IsAdded year old bytes new a → Adds year old bytes l.items l.book.txns a
added_here year old bytes new l a h made = made.adds l.items l.book.txns h.read h.loads

-- and is then what is loaded of the new text
pub added_whole : (year : Option ℕ) (old bytes new : List ℕ) (l after : Loaded) (a : Addition) → IsLoaded year old l → IsAdded year old bytes new a
    → (Adds year old bytes l.items l.book.txns a → IsLoaded year (old ++ bytes) after) → IsLoaded year new after
added_whole year old bytes new l after a h made into =
    subst (λ (t : List ℕ). IsLoaded year t after) (sym made.whole) (into (added_here year old bytes new l a h made))
