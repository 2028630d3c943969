-- The transactions of a text in which an entry is changed.
use Rattle.std.proofs.Common.{ℕ, zero, suc, ◌≡◌, List, [], ◌∷◌, ◌++◌, length, take, drop, map, set, Option, Some, Ok, refl, sym, ap, subst, ◌∙◌}
use Rattle.std.specs.Prelude.{IsSomeAnd}
use Rattle.std.specs.List.{slice_get, AllByRecursion}
use Rattle.std.proofs.lemmas.Grind.{flat_map-append}
use Rattle.std.proofs.lemmas.Option.{none-some, same_Some}
use Rattle.hl_base.specs.Items.{kind_of}
use Rattle.hl_base.specs.Lines.{first_line}
use Rattle.hl_base.specs.declared.items.Kind.TheVariants as kinds
use Rattle.hl_base.specs.declared.items.Piece.{Piece}
use Rattle.book.specs.Postings.{txn_in, txns_of}
use Rattle.book.specs.declared.item.Item.{Item}
use Rattle.book.specs.declared.item.Item.TheVariants as item
use Rattle.book.specs.declared.item.Placed.{Placed}
use Rattle.book.specs.declared.transaction.Txn.{Txn}
use Rattle.balancing.specs.Solves.{Solves}
use Rattle.entry_reader.specs.Contexts.{context_of}
use Rattle.journal_reader.specs.Items.{items_in}
use Rattle.moved_lines.proofs.Numbering.{items-moved}
use Rattle.moved_lines.proofs.Solving.{solved-can, txns-can}
use Rattle.moved_lines.specs.Moving.{CanMovePlaced, CanMoveTxn, moved_from, moved_placed, moved_txn}
use Rattle.moved_lines.specs.declared.shift.Offset.{Offset}
use Rattle.moved_lines.specs.declared.shift.Shift.{Shift}
use Rattle.text_ends.specs.Ends.{items_at}
use Rattle.text_ends.proofs.Stepping.{placed_as}
use Rattle.changed_texts.specs.Replacing.{IsEntryOf, IsTxn, bytes_at, changed_at, number_at}
use Rattle.changed_texts.proofs.Anew.{told}
use Rattle.changed_texts.proofs.Found.{behind_number, found, parted}
use Rattle.changed_texts.proofs.Near.{first_is, reading-txn}

-- ---- lists

pub split_get : (n : ℕ) (xs : List Placed) (x : Placed) → slice_get xs n ≡ Some x → xs ≡ take n xs ++ x ∷ drop (suc n) xs
split_get n [] x h = absurd (none-some x h)
split_get zero (y ∷ ys) x h = λ i. same_Some y x h i ∷ ys
split_get (suc n) (y ∷ ys) x h = ap (λ (zs : List Placed). y ∷ zs) (split_get n ys x h)

set_at : (front : List Txn) (t u : Txn) (back : List Txn) → set (front ++ t ∷ back) (length front) u ≡ front ++ u ∷ back
set_at [] t u back = refl
set_at (f ∷ front) t u back = ap (λ (ts : List Txn). f ∷ ts) (set_at front t u back)

moved_behind : (by : Shift) (front : List Txn) (u : Txn) (back : List Txn) → moved_from (suc (length front)) by (front ++ u ∷ back) ≡ front ++ u ∷ map (moved_txn by) back
moved_behind by [] u back = refl
moved_behind by (f ∷ front) u back = ap (λ (ts : List Txn). f ∷ ts) (moved_behind by front u back)

pub get_number : {X : Type 0} (zs : List X) (q : X) (qs : List X) → slice_get (zs ++ q ∷ qs) (length zs) ≡ Some q
get_number [] q qs = refl
get_number (z ∷ zs) q qs = get_number zs q qs

pub txns_both : (xs ys : List Placed) → txns_of (xs ++ ys) ≡ txns_of xs ++ txns_of ys
txns_both xs ys = flat_map-append (λ (q : Placed). txn_in q.item) xs ys

-- ---- the transactions

-- another one stands among them, and those behind it are moved
pub txns_changed : (by : Offset) (items : List Placed) (n : ℕ) (old new : Placed) (t u : Txn) → slice_get items n ≡ Some old → old.item ≡ item.Txn t → new.item ≡ item.Txn u
    → txns_of (changed_at (moved_placed by) n new items) ≡ moved_from (suc (number_at items n)) by.lines (set (txns_of items) (number_at items n) u)
txns_changed by items n old new t u here was becomes =
    let front = txns_of (take n items) in
    let rest = drop (suc n) items in
    let back = txns_of rest in
    let before : txns_of items ≡ front ++ t ∷ back =
    ap txns_of (split_get n items old here) ∙ txns_both (take n items) (old ∷ rest) ∙ ap (λ (i : Item). front ++ (txn_in i ++ back)) was in
    txns_both (take n items) (new ∷ map (moved_placed by) rest)
    ∙ ap (λ (i : Item). front ++ (txn_in i ++ txns_of (map (moved_placed by) rest))) becomes
    ∙ ap (λ (ts : List Txn). front ++ u ∷ ts) (items-moved zero by rest)
    ∙ sym (moved_behind by.lines front u back)
    ∙ sym (ap (λ (ts : List Txn). moved_from (suc (length front)) by.lines (set ts (length front) u)) before ∙ ap (moved_from (suc (length front)) by.lines) (set_at front t u back))

-- a book that solves them can be moved behind it as far as the items
pub book_can : (items : List Placed) (n : ℕ) (by : Offset) (old : Placed) (t u : Txn) (book : List Txn) → slice_get items n ≡ Some old → old.item ≡ item.Txn t → AllByRecursion (CanMovePlaced by) (drop (suc n) items)
    → Solves (set (txns_of items) (number_at items n) u) book → AllByRecursion (CanMoveTxn by.lines) (drop (suc (number_at items n)) book)
book_can items n by old t u book here was can solves =
    let front = txns_of (take n items) in
    let rest = drop (suc n) items in
    let back = txns_of rest in
    let written = set (txns_of items) (number_at items n) u in
    let all : txns_of items ≡ front ++ t ∷ back =
    ap txns_of (split_get n items old here) ∙ txns_both (take n items) (old ∷ rest) ∙ ap (λ (i : Item). front ++ (txn_in i ++ back)) was in
    let behind : drop (suc (length front)) written ≡ back =
    ap (λ (ts : List Txn). drop (suc (length front)) (set ts (length front) u)) all ∙ ap (drop (suc (length front))) (set_at front t u back) ∙ behind_number front u back in
    solved-can by.lines (suc (length front)) written book solves (subst (AllByRecursion (CanMoveTxn by.lines)) (sym behind) (txns-can by rest can))

-- what an entry of a text says is a transaction

some_and : (o : Option Placed) (P : Placed → Type 0) (q : Placed) → o ≡ Some q → P q → IsSomeAnd o P
some_and o P q e h = subst (λ (x : Option Placed). IsSomeAnd x P) (sym e) h

pub old_txn : (year : Option ℕ) (text : List ℕ) (items : List Placed) (n : ℕ) (p : Piece) → IsEntryOf text n p → items_in year text ≡ Ok items → IsSomeAnd (slice_get items n) (λ q. (q.piece ≡ p) × IsTxn q.item)
old_txn year text items n p of read =
    let c = found text n p of in
    let t = told year text items n p c read in
    let kind : kind_of (first_line (bytes_at text p)) ≡ kinds.Entry = ap kind_of (first_is (bytes_at text p) c.first c.own (parted text n p c).own_lines) ∙ c.is_entry in
    let here : slice_get items n ≡ Some (placed_as p t.old) = (λ i. slice_get (t.items_are i) (sym t.count i)) ∙ get_number t.before (placed_as p t.old) t.later in
    some_and (slice_get items n) (λ q. (q.piece ≡ p) × IsTxn q.item) (placed_as p t.old) here
    (refl, (reading-txn (context_of year (items_at t.before)) p.line (bytes_at text p) kind).is t.old t.old_read)
