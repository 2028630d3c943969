-- An entry in the place of another one, as it is put in.
use Rattle.std.proofs.Common.{◌≡◌, ◌==◌, ℕ, suc, ◌+◌, ◌-◌, ◌^◌, ◌<◌, ◌≤◌, Bool, true, false, List, ◌++◌, length, take, drop, set, slice_get, Option, Some, None, Result, Ok, Err, refl, sym, ap, subst, ◌∙◌, arith, length-append}
use Rattle.std.specs.Prelude.{IfOk, IsSomeAnd}
use Rattle.std.specs.List.{AllByRecursion}
use Rattle.std.proofs.lemmas.Bool.Decides.{nat_tests}
use Rattle.hl_base.specs.Counts.{Counts}
use Rattle.hl_base.specs.Items.{items_of}
use Rattle.hl_base.specs.Limits.{text_limit}
use Rattle.hl_base.specs.declared.fault.Memory.{Memory}
use Rattle.hl_base.specs.declared.items.Piece.{Piece}
use Rattle.book.specs.Postings.{txns_of}
use Rattle.book.specs.declared.fault.Fault.{Fault}
use Rattle.book.specs.declared.item.Book.{Book}
use Rattle.book.specs.declared.item.Item.{Item}
use Rattle.book.specs.declared.item.Item.TheVariants as item
use Rattle.book.specs.declared.item.Placed.{Placed}
use Rattle.book.specs.declared.transaction.Txn.{Txn}
use Rattle.balancing.specs.Load.{load}
use Rattle.journal_reader.specs.Items.{items_in}
use Rattle.additions.specs.Kept.{IsBookEnd}
use Rattle.changed_texts.specs.OneEntry.{IsMet, items_met}
use Rattle.changed_texts.specs.Replacing as old_words
use Rattle.changed_texts.specs.Replacing.{number_at, offset_of, replaced}
use Rattle.changed_texts.specs.Standing.{Replaces}
use Rattle.changed_texts.specs.declared.met.Met.{Met}
use Rattle.changed_texts.proofs.Moves.{can_move}
use Rattle.changed_texts.proofs.Txns.{old_txn}
use Rattle.kept_books.specs.Keeping.{IsOf}
use Rattle.kept_texts.specs.Keeping as texts
use Rattle.kept_texts.specs.Moving.{CanMoveEnd, IsEndMove}
use Rattle.kept_texts.specs.declared.kept.EndMove.{EndMove}
use Rattle.changed_texts.proofs.Found.{found}
use Rattle.kept_texts.proofs.Ended.{bytes_can, lines_can}
use Rattle.moved_lines.specs.Moving.{CanMovePlaced}
use Rattle.moved_lines.specs.declared.shift.Offset.{Offset}
use Rattle.text_ends.specs.Ends.{end_of, last_of}
use Rattle.text_ends.specs.declared.kept.KeptEnd.{KeptEnd}
use Rattle.walked_edits.specs.declared.fault.WalkFault.{WalkFault}
use Rattle.walked_texts.specs.Making.{Answers, IsTxn, IsTxnAt, edit_at}
use Rattle.walked_texts.specs.declared.making.Parts.{Parts}
use Rattle.walked_texts.proofs.Numbered.{inside_items}
use Rattle.loaded_texts.specs.Changing.{AreMetParts, CanTakeChange, Changes, ChangesBook, ChangesTo, IsMetIn, book_moved, edit_met}
use Rattle.loaded_texts.specs.Keeping.{IsLoaded, pieces_at}
use Rattle.loaded_texts.specs.declared.changing.Changed.{Changed}
use Rattle.loaded_texts.specs.declared.loaded.Loaded.{Loaded}
use Rattle.loaded_texts.proofs.Loads.{loaded_solves, ok_items, ok_txns}
use Rattle.loaded_texts.proofs.Moved.{answers_met, changes_book}
use Rattle.loaded_texts.proofs.Pieces.{count_read, pieces_read}

-- ---- the transactions of both entries

record TxnOf (i : Item) : Type 0 where
  pub txn : Txn
  pub is : i ≡ item.Txn txn

txn_of : (i : Item) → old_words.IsTxn i → TxnOf i
txn_of (item.Txn t) h = record { txn = t; is = refl }
txn_of item.Gap h = absurd h
txn_of item.Block h = absurd h
txn_of (item.Auto a) h = absurd h
txn_of (item.Periodic p) h = absurd h
txn_of (item.Price p) h = absurd h
txn_of (item.Directive d) h = absurd h

record OldOf (items : List Placed) (n : ℕ) : Type 0 where
  pub was : Placed
  pub got : slice_get items n ≡ Some was
  pub txn : TxnOf was.item

old_by : (items : List Placed) (n : ℕ) (p : Piece) (o : Option Placed) → slice_get items n ≡ o → IsSomeAnd o (λ q. (q.piece ≡ p) × old_words.IsTxn q.item) → OldOf items n
old_by items n p None e h = absurd h
old_by items n p (Some q) e h = record { was = q; got = e; txn = txn_of q.item h.1 }

module _ (year : Option ℕ) (text bytes new : List ℕ) (n : ℕ) (items : List Placed) (met : Met) (h : IsMetIn year text bytes new n items met) where
  old_of : OldOf items n
  old_of =
      let r = h.replaces in
      old_by items n h.piece (slice_get items n) refl (old_txn year text items n h.piece r.of r.was)

  new_of : TxnOf met.placed.item
  new_of = let m = h.fits_there in txn_of met.placed.item m.txn

  pub entry_there : IsTxnAt items n
  entry_there = subst (λ (o : Option Placed). IsSomeAnd o (λ placed. IsTxn placed.item)) (sym old_of.got) (subst IsTxn (sym (old_of.txn).is) tt)

  pub entry_is : IsTxn met.placed.item
  entry_is = subst IsTxn (sym new_of.is) tt

  pub number_there : n < length items
  number_there = inside_items items n old_of.was old_of.got

-- ---- what is made

module _ (year : Option ℕ) (text bytes new : List ℕ) (n : ℕ) (l : Loaded) (met : Met) (loaded : IsLoaded year text l) (h : IsMetIn year text bytes new n l.items met) where
  short : length text + length bytes + 1 < 2 ^ 64
  short =
      let q = h.piece in
      let few = loaded.few_bytes in
      let all = h.few_bytes in
      omega (arith, few, all, ap length h.whole, length-append (take q.at text) bytes, length-append (take q.at text ++ bytes) (drop (q.at + q.len) text))

  behind : AllByRecursion (CanMovePlaced met.by) (drop (suc n) l.items)
  behind =
      let r = h.replaces in
      subst (λ (by : Offset). AllByRecursion (CanMovePlaced by) (drop (suc n) l.items)) (sym h.by) (can_move year text bytes l.items n h.piece r.of r.was short)

  old : OldOf l.items n
  old = old_of year text bytes new n l.items met h

  become : TxnOf met.placed.item
  become = new_of year text bytes new n l.items met h

  pub met_answers : {A : Type 0} {P : A → Type 0} {before now : Counts} {r : Result A WalkFault} → Answers (edit_at l.items n met.placed) P r before now → Answers (edit_met l.items n met) P r before now
  met_answers {before = before} {now = now} {r = r} answers =
      answers_met l.items l.book.txns n met old.was (old.txn).txn become.txn old.got (old.txn).is become.is h.fits_there (loaded_solves year text l loaded) behind before now r answers

  pub changes_to : (p : Parts) (c : Changed) → AreMetParts l.items l.book.txns n met p → c.number ≡ n → c.met ≡ met → c.first ≡ suc (number_at l.items n) → c.parts ≡ p → ChangesTo year text bytes new c
  changes_to p c are en em ef ep = λ items txns read loads.
      let book : ChangesBook (items_met n l.items met) l.book.txns c =
      changes_book l.items l.book.txns n met old.was (old.txn).txn become.txn old.got (old.txn).is become.is h.fits_there (loaded_solves year text l loaded) behind p are c en em ef ep in
      let one : Changes year text bytes new l.items l.book.txns c = record {
        met = subst (λ (k : ℕ). IsMetIn year text bytes new k l.items c.met) (sym en) (subst (IsMetIn year text bytes new n l.items) (sym em) h);
        makes = subst (λ (k : ℕ). ChangesBook (items_met k l.items c.met) l.book.txns c) (sym en) (subst (λ (m : Met). ChangesBook (items_met n l.items m) l.book.txns c) (sym em) book);
      } in
      let same : l.items ≡ items = ok_items l.items items (sym loaded.read ∙ read) in
      let txns_same : l.book.txns ≡ txns = ok_txns l.book.txns txns (sym loaded.loads ∙ ap load same ∙ loads) in
      subst (λ (ts : List Txn). Changes year text bytes new items ts c) txns_same (subst (λ (xs : List Placed). Changes year text bytes new xs l.book.txns c) same one)

-- parts that are handed on
pub parts_as : (items : List Placed) (txns : List Txn) (n : ℕ) (met : Met) (p : Parts) (r : Result Changed Memory) → IfOk r (λ c. c.parts ≡ p) → AreMetParts items txns n met p → IfOk r (λ c. AreMetParts items txns n met c.parts)
parts_as items txns n met p (Ok c) same h = subst (AreMetParts items txns n met) (sym same) h
parts_as items txns n met p (Err x) same h = tt

-- ---- what can be taken in

-- whether an item is the last of some
last_by : (n size : ℕ) → n < size → (b c : Bool) → (n == (size - 1)) ≡ b → (n + 1 == size) ≡ c → b ≡ c
last_by n size h true true e f = refl
last_by n size h false false e f = refl
last_by n size h true false e f = absurd (let never : ⊥ = grind (arith, nat_tests) in never)
last_by n size h false true e f = absurd (let never : ⊥ = grind (arith, nat_tests) in never)

pub last_number : (n size : ℕ) → n < size → (n == (size - 1)) ≡ (n + 1 == size)
last_number n size h = last_by n size h (n == (size - 1)) (n + 1 == size) refl refl

pub can_change : (year : Option ℕ) (text bytes new : List ℕ) (l : Loaded) (c : Changed) → IsLoaded year text l → Changes year text bytes new l.items l.book.txns c → CanTakeChange l c
can_change year text bytes new l c loaded h =
    let m = h.met in
    let makes = h.makes in
    let r = m.replaces in
    let of = loaded.of_text in
    record {
      number = number_there year text bytes new c.number l.items c.met m;
      fits_there = m.fits_there;
      behind = behind year text bytes new c.number l c.met loaded m;
      moves = subst (λ (by : Offset). CanMoveEnd by l.text.end) (sym m.by)
          (subst (CanMoveEnd (offset_of text m.piece bytes)) (sym of.end)
          (let few = short year text bytes new c.number l c.met loaded m in
          record { lines = lines_can text bytes c.number m.piece (found text c.number m.piece r.of) few; bytes = bytes_can text bytes c.number m.piece (found text c.number m.piece r.of) few }));
      inside = makes.inside;
      first = makes.first;
      lines = makes.lines;
    }

-- what is loaded, as it was changed
pub taken_change : (year : Option ℕ) (text bytes new : List ℕ) (old now : Loaded) (c : Changed) (to : EndMove) → IsLoaded year text old → Changes year text bytes new old.items old.book.txns c
    → now.items ≡ items_met c.number old.items c.met → now.book.txns ≡ book_moved old.book.txns c → now.end ≡ c.parts.end → now.kept ≡ c.parts.kept
    → to.by ≡ c.met.by → to.last ≡ last_of (pieces_at (items_met c.number old.items c.met)) → to.was_last ≡ (c.number + 1 == length old.items)
    → ((n : ℕ) (p : Piece) (items after : List Placed) (book : List Txn) → Replaces year text items n p bytes after → IsEndMove text n p bytes to → old.text.end ≡ end_of year text items → texts.IsWith after book c.parts.edited
    → texts.IsOf year (replaced text p bytes) after book now.text)
    → IsLoaded year new now
taken_change year text bytes new old now c to loaded h items book end kept by last was put =
    let m = h.met in
    let makes = h.makes in
    let r = m.replaces in
    let of = loaded.of_text in
    let after : List Placed = items_met c.number old.items c.met in
    let txns : List Txn = book_moved old.book.txns c in
    let move : IsEndMove text c.number m.piece bytes to = record {
      by = by ∙ m.by;
      last = last ∙ ap last_of (pieces_read year (replaced text m.piece bytes) after r.is);
      was_last = was ∙ (λ i. (let e : c.number + 1 ≡ suc c.number = omega arith in e) i == count_read year text old.items loaded.read i);
    } in
    let kept_text : texts.IsOf year (replaced text m.piece bytes) after txns now.text = put c.number m.piece old.items after txns r move of.end makes.edited in
    record {
      few_bytes = m.few_bytes;
      few_items = m.few_items;
      read = ap (items_in year) m.whole ∙ r.is ∙ ap (λ (xs : List Placed). let x : Result (List Placed) Fault = Ok xs in x) (sym items);
      loads = ap load items ∙ makes.loads ∙ ap (λ (ts : List Txn). let x : Result Book Fault = Ok (record { txns = ts }) in x) (sym book);
      fits = rw book makes.fits;
      of_text = subst (λ (t : List ℕ). texts.IsOf year t now.items now.book.txns now.text) (sym m.whole)
          (subst (λ (xs : List Placed). texts.IsOf year (replaced text m.piece bytes) xs now.book.txns now.text) (sym items)
          (subst (λ (ts : List Txn). texts.IsOf year (replaced text m.piece bytes) after ts now.text) (sym book) kept_text));
      of_end = subst (λ (ts : List Txn). IsBookEnd ts now.end) (sym book) (subst (IsBookEnd txns) (sym end) makes.end);
      of_book =
          subst (λ (xs : List Placed). IsOf (txns_of xs) now.book.txns now.kept) (sym items)
          (subst (λ (ts : List Txn). IsOf (txns_of after) ts now.kept) (sym book) (subst (IsOf (txns_of after) txns) (sym kept) makes.kept));
    }
