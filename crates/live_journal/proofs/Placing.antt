-- What an entry comes to that an edit puts in the place of an item.
use Rattle.std.proofs.Common.{◌≡◌, ◌==◌, ℕ, zero, suc, ◌+◌, ◌-◌, ◌^◌, ◌<◌, ◌≤◌, Bool, true, false, cond, List, [], ◌∷◌, ◌++◌, length, take, drop, slice_get, find, not, ◌&&◌, ◌||◌, Option, Some, None, is_some, Result, Ok, Err, refl, sym, ap, subst, ◌∙◌, arith, length-append}
use Rattle.std.specs.Prelude.{count_by, IfErr, IfOk, IfSome}
use Rattle.std.proofs.lemmas.Bool.{eqb-true, false≢true}
use Rattle.std.proofs.lemmas.Bool.Decides.{nat_tests}
use Rattle.hl_base.specs.Counts.{Counts}
use Rattle.hl_base.specs.Items.{items_of}
use Rattle.hl_base.specs.Limits.{item_limit, text_limit}
use Rattle.hl_base.specs.declared.items.Kind.{Kind}
use Rattle.hl_base.specs.declared.items.Kind.TheVariants as kinds
use Rattle.hl_base.specs.declared.items.Piece.{Piece}
use Rattle.book.specs.Postings.{txns_of}
use Rattle.book.specs.declared.fault.Fault.{Fault}
use Rattle.book.specs.declared.item.Placed.{Placed}
use Rattle.entry_reader.specs.Causes as causes
use Rattle.entry_reader.specs.declared.fault.ReadFault.{ReadFault}
use Rattle.entry_reader.specs.declared.fault.ReadFault.TheVariants as reads
use Rattle.journal_reader.specs.Items.{items_in}
use Rattle.changed_texts.specs.Meeting.{AreEntries, are_entries}
use Rattle.changed_texts.specs.OneEntry.{HasOneEntry, IsMet, is_entry_piece, items_met, more_items}
use Rattle.changed_texts.specs.Replacing.{IsEntryOf, number_at, offset_of, replaced}
use Rattle.changed_texts.specs.Standing.{Replaces}
use Rattle.changed_texts.specs.declared.met.Met.{Met}
use Rattle.changed_texts.proofs.Testing.{entries_are, entries_none}
use Rattle.kept_books.specs.Counting.{AsksWritten}
use Rattle.reached_walk.specs.Closed as walks
use Rattle.loaded_texts.specs.Changing.{Changes, ChangesTo, IsMetIn, book_moved, edit_met}
use Rattle.loaded_texts.specs.Keeping.{IsLoaded}
use Rattle.loaded_texts.specs.Ways.{IsMadeFrom}
use Rattle.loaded_texts.specs.declared.changing.Changed.{Changed}
use Rattle.loaded_texts.specs.declared.loaded.Loaded.{Loaded}
use Rattle.loaded_texts.specs.declared.made.Made.{Made}
use Rattle.loaded_texts.specs.declared.made.Made.TheVariants as ways
use Rattle.loaded_texts.proofs.MetCounts.{met_count}
use Rattle.loaded_texts.proofs.Pieces.{count_read}
use Rattle.live_journal.specs.declared.edit.Edit.{Edit}
use Rattle.live_journal.specs.declared.edit.Edit.TheVariants.{Add, Change, Replace}
use Rattle.live_journal.specs.declared.editing.Editing.{Editing}
use Rattle.live_journal.specs.declared.fault.EditFault.{EditFault}
use Rattle.live_journal.specs.declared.fault.EditFault.TheVariants as refused
use Rattle.live_journal.specs.Checking.{CountsBytes}
use Rattle.live_journal.specs.Edits as edits
use Rattle.live_journal.specs.Edits.{applied, ended, numbered, splice_of}
use Rattle.live_journal.specs.Loading.{book_from, fault_of, reading_in}
use Rattle.live_journal.specs.Placing.{IsChange, IsChangeOf, IsMetAt, IsMetInside, IsThere, IsUnread}
use Rattle.live_journal.specs.Reading.{is_misread, is_quiet}
use Rattle.live_journal.specs.Loading.{first_of}
use Rattle.live_journal.specs.Refusals.{TellsRefusal, is_entry, no_such_item, not_an_entry, not_transactions, other_piece}
use Rattle.live_journal.specs.Trying.{Comes, IsAnew, IsEditing, IsOpen, IsOther, IsTried, journal_at}
use Rattle.live_journal.specs.Walking.{before_item, edit_made, is_one_entry, is_plain_edit, written_from, written_in}
use Rattle.live_journal.proofs.Checking.{none_refused, put_refused, walk_counts, walk_refused}
use Rattle.live_journal.proofs.Coming.{put_length, size_length}
use Rattle.live_journal.proofs.Limits.{sound_text}
use Rattle.live_journal.proofs.Trying.{bytes_tried, past_checked, past_read, put_bytes, reads_of}

-- ---- the edit

pub record OfChange (edit : Edit) (item : ℕ) : Type 0 where
  pub base : ℕ
  pub entry : List ℕ
  pub is : edit ≡ Change base item entry

pub change_of : (edit : Edit) (item : ℕ) → IsChange edit item → OfChange edit item
change_of (Add entry) item h = absurd h
change_of (Change base named entry) item h = record { base = base; entry = entry; is = ap (λ (n : ℕ). Change base n entry) (sym h) }
change_of (Replace base text) item h = absurd h

pub change_at : (e : Editing) (item : ℕ) → IsChange e.edit.now item → IsChangeOf e (item - 1)
change_at e item h = let of = change_of e.edit.now item h in record { base = of.base; item = item; entry = of.entry; is = of.is; at = refl }

-- ---- exactly one entry

pub one_of : (bytes : List ℕ) → HasOneEntry bytes → is_one_entry bytes ≡ true
one_of bytes h =
    both (count_by is_entry_piece (items_of bytes) == 1) (are_entries bytes (items_of bytes)) (ap (λ (n : ℕ). n == 1) h.one) (are (are_entries bytes (items_of bytes)) refl)
  where
    both : (a b : Bool) → a ≡ true → b ≡ true → (a && b) ≡ true
    both a b ea eb = λ i. ea i && eb i

    are : (b : Bool) → are_entries bytes (items_of bytes) ≡ b → b ≡ true
    are true e = refl
    are false e = absurd (entries_none bytes (items_of bytes) refl e h.entries)

left_true : (a b : Bool) → (a && b) ≡ true → a ≡ true
left_true true b h = refl
left_true false b h = absurd (false≢true h)

right_true : (a b : Bool) → (a && b) ≡ true → b ≡ true
right_true true b h = h
right_true false b h = absurd (false≢true h)

pub has_one : (bytes : List ℕ) → is_one_entry bytes ≡ true → HasOneEntry bytes
has_one bytes h =
    let count = left_true (count_by is_entry_piece (items_of bytes) == 1) (are_entries bytes (items_of bytes)) h in
    let are = right_true (count_by is_entry_piece (items_of bytes) == 1) (are_entries bytes (items_of bytes)) h in
    record {
      entries = entries_are bytes (items_of bytes) refl are;
      one = eqb-true (count_by is_entry_piece (items_of bytes)) 1 count;
    }

-- ---- where it stands

kind_entry : (k : Kind) → is_entry k ≡ true → k ≡ kinds.Entry
kind_entry kinds.Entry h = refl
kind_entry kinds.Gap h = absurd (false≢true h)
kind_entry kinds.Block h = absurd (false≢true h)
kind_entry kinds.Head h = absurd (false≢true h)
kind_entry kinds.Stray h = absurd (false≢true h)

-- the piece of the item that is changed
record Named (o : Option Piece) : Type 0 where
  pub piece : Piece
  pub is : o ≡ Some piece
  pub kind : piece.kind ≡ kinds.Entry

entry_by : (p : Piece) (b : Bool) → is_entry p.kind ≡ b → (let o : Option EditFault = cond b None (Some (refused.NotTransactions 0)) in o) ≡ None → is_entry p.kind ≡ true
entry_by p true e h = e
entry_by p false e h = absurd (let never : ⊥ = cc in never)

named_by : (o : Option Piece) (n size : ℕ) → (let r : Option EditFault = cond (is_some o) None (Some (refused.NoSuchItem n size)) in r) ≡ None → not_an_entry o ≡ None → Named o
named_by None n size h k = absurd (let never : ⊥ = cc in never)
named_by (Some p) n size h k = record { piece = p; is = refl; kind = kind_entry p.kind (entry_by p (is_entry p.kind) refl k) }

first_none : (a b : Option EditFault) → first_of (a ∷ b ∷ []) ≡ None → a ≡ None
first_none None b h = refl
first_none (Some x) b h = absurd (let never : ⊥ = cc in never)

not_zero : (n : ℕ) → (suc n == 0) ≡ false
not_zero n = grind (arith, nat_tests)

numbered_got : (ps : List Piece) (n : ℕ) (p : Piece) → numbered ps n ≡ Some p → (0 < n) × (slice_get ps (n - 1) ≡ Some p)
numbered_got ps zero p h = absurd (let never : ⊥ = cc in never)
numbered_got ps (suc n) p h = (omega arith, ap (λ (b : Bool). let o : Option Piece = cond b None (slice_get ps (suc n - 1)) in o) (sym (not_zero n)) ∙ h)

module _ (e : Editing) (item : ℕ) (is : IsEditing e) (change : IsChange e.edit.now item) (there : no_such_item (items_of e.text.now) e.edit.now ≡ None) (entries : not_transactions (items_of e.text.now) e.edit.now ≡ None) where
  of : OfChange e.edit.now item
  of = change_of e.edit.now item change

  abbrev pieces : List Piece
  pieces = items_of e.text.now

  named : Named (numbered pieces item)
  named =
      named_by (numbered pieces item) item (length pieces) (sym (ap (no_such_item pieces) of.is) ∙ there)
      (first_none (not_an_entry (numbered pieces item)) (other_piece (items_of of.entry)) (sym (ap (not_transactions pieces) of.is) ∙ entries))

  bytes_are : e.bytes.now ≡ ended of.entry
  bytes_are = is.put ∙ ap (λ (d : Edit). (splice_of e.text.now d).inserted) of.is ∙ ap (λ (o : Option Piece). (edits.replacing o (ended of.entry)).inserted) named.is

  pub item_some : 0 < item
  item_some = (numbered_got pieces item named.piece named.is).0

  pub is_there : IsThere e (item - 1)
  is_there = record {
    piece = named.piece;
    of = record { here = (numbered_got pieces item named.piece named.is).1; kind = named.kind };
    whole = is.makes ∙ ap (applied e.text.now) of.is ∙ ap (λ (o : Option Piece). edits.replaced e.text.now o (ended of.entry)) named.is ∙ ap (replaced e.text.now named.piece) (sym bytes_are);
  }

  plain_is : is_plain_edit e.edit.now ≡ is_one_entry e.bytes.now
  plain_is = ap is_plain_edit of.is ∙ ap is_one_entry (sym bytes_are)

  pub open_entry : HasOneEntry e.bytes.now → IsOpen e
  open_entry one = record {
    plain = plain_is ∙ one_of e.bytes.now one;
    sound = ap (is_misread (journal_at e)) of.is;
    loud = ap (is_quiet (journal_at e)) of.is;
  }

  pub other_entry : (HasOneEntry e.bytes.now → ⊥) → IsOther e.edit.now
  other_entry none = plain_is ∙ by (is_one_entry e.bytes.now) refl
    where
      by : (b : Bool) → is_one_entry e.bytes.now ≡ b → b ≡ false
      by true e1 = absurd (none (has_one e.bytes.now e1))
      by false e1 = refl

  pub change_here : IsChangeOf e (item - 1)
  change_here = change_at e item change

-- how many bytes there are
pub short_site : (e : Editing) (n : ℕ) → IsThere e n → length e.text.now ≤ text_limit → length e.new.now ≤ text_limit → length e.text.now + length e.bytes.now + 1 < 2 ^ 64
short_site e n h few short =
    let p = h.piece in
    omega (arith, few, short, ap length h.whole, length-append (take p.at e.text.now) e.bytes.now, length-append (take p.at e.text.now ++ e.bytes.now) (drop (p.at + p.len) e.text.now))

inside_pieces : (ps : List Piece) (n : ℕ) (p : Piece) → slice_get ps n ≡ Some p → n < length ps
inside_pieces [] n p h = absurd (let never : ⊥ = cc in never)
inside_pieces (q ∷ qs) zero p h = omega arith
inside_pieces (q ∷ qs) (suc n) p h = let more = inside_pieces qs n p h in omega (arith, more)

pub entry_inside : (e : Editing) (n : ℕ) (l : Loaded) → IsThere e n → IsLoaded e.year e.text.now l → n < length l.items
entry_inside e n l there loaded =
    let of = there.of in
    let inside = inside_pieces (items_of e.text.now) n there.piece of.here in
    omega (arith, inside, count_read e.year e.text.now l.items loaded.read)

pub number_met : (e : Editing) (n : ℕ) (items : List Placed) (met : Met) → IsMetAt e n items met → n < length items
number_met e n items met h =
    let r = h.replaces in
    let of = r.of in
    let inside = inside_pieces (items_of e.text.now) n h.piece of.here in
    omega (arith, inside, count_read e.year e.text.now items r.was)

-- how many items the new text has
pub count_met : (e : Editing) (n : ℕ) (items : List Placed) (met : Met) → IsMetAt e n items met → length items + more_items n items met ≡ length (items_of e.new.now)
count_met e n items met h =
    let r = h.replaces in
    sym (met_count n items met (number_met e n items met h) h.fits_there)
    ∙ count_read e.year (replaced e.text.now h.piece e.bytes.now) (items_met n items met) r.is
    ∙ ap (λ (t : List ℕ). length (items_of t)) (sym h.whole)

-- ---- what was read

pub met_at : (e : Editing) (n : ℕ) (items : List Placed) (r : Result Met ReadFault) (there : IsThere e n)
    → IfOk r (λ met. Replaces e.year e.text.now items n there.piece e.bytes.now (items_met n items met)) → IfOk r (λ met. met.by ≡ offset_of e.text.now there.piece e.bytes.now) → IfOk r (IsMet n items)
    → IfOk r (IsMetAt e n items)
met_at e n items (Ok met) there replaces by fits_ = record { piece = there.piece; replaces = replaces; whole = there.whole; by = by; fits_there = fits_ }
met_at e n items (Err x) there replaces by fits_ = tt

pub unread_at : (e : Editing) (n : ℕ) (r : Result Met ReadFault) (there : IsThere e n)
    → IfErr r (λ x. IfSome (causes.cause_in x) (λ fault. (after : List Placed) → items_in e.year (replaced e.text.now there.piece e.bytes.now) ≡ Ok after → ⊥)) → IfErr r (IsUnread e)
unread_at e n (Ok met) there h = tt
unread_at e n (Err reads.Memory) there h = tt
unread_at e n (Err (reads.Read fault)) there h = λ after is. h after (sym (ap (items_in e.year) there.whole) ∙ is)

pub met_inside : (e : Editing) (n : ℕ) (items : List Placed) (met : Met) → IsMetAt e n items met → length e.new.now ≤ text_limit → length (items_of e.new.now) ≤ item_limit → IsMetInside e n items met
met_inside e n items met h few many = record { piece = h.piece; replaces = h.replaces; whole = h.whole; by = h.by; fits_there = h.fits_there; few_bytes = few; few_items = many }

-- ---- what it comes to

-- the edit, told by the transactions
pub change_reach : (e : Editing) (n : ℕ) (l : Loaded) (met : Met) → IsEditing e → IsChangeOf e n → IsLoaded e.year e.text.now l → IsMetInside e n l.items met → edit_made (journal_at e) e.edit.now ≡ edit_met l.items n met
change_reach e n l met is change loaded h =
    let r = h.replaces in
    let front : written_in e.year e.text.now ≡ txns_of l.items = ap written_from loaded.read in
    let number : before_item (reading_in e.year e.text.now) change.item ≡ number_at l.items n =
    ap (λ (x : Result (List Placed) Fault). before_item x change.item) loaded.read ∙ ap (number_at l.items) (sym change.at) in
    let all : written_in e.year (applied e.text.now (Change change.base change.item change.entry)) ≡ txns_of (items_met n l.items met) =
    ap (written_in e.year) (ap (applied e.text.now) (sym change.is) ∙ sym is.makes ∙ h.whole) ∙ ap written_from r.is in
    ap (edit_made (journal_at e)) change.is ∙ (λ i. walks.edits_of (λ k. k == number i) (front i) (all i))

-- memory is wanting, or there are too many items, after the bytes were read
pub refused_since : (e : Editing) (x : EditFault) (before after : Counts) → IsEditing e → IsOpen e → TellsRefusal x (fault_of e.year e.new.now) → CountsBytes (length e.bytes.now) before after → Comes e (Err x) before after
refused_since e x before after is unclosed fault read = record {
  made = tt;
  loads = tt;
  few = tt;
  fault = fault;
  counts = tt;
  refused = put_refused (journal_at e) e.edit.now before after unclosed.plain (put_bytes e before after is read);
}

-- before that
pub refused_early : (e : Editing) (x : EditFault) (c : Counts) → TellsRefusal x (fault_of e.year e.new.now) → Comes e (Err x) c c
refused_early e x c fault = record {
  made = tt;
  loads = tt;
  few = tt;
  fault = fault;
  counts = tt;
  refused = none_refused (journal_at e) e.edit.now c;
}

-- bytes that don't read: the new text has no items
pub unread_past : (e : Editing) (answer : Result Made EditFault) (before mid after : Counts) → IsEditing e → IsOpen e → ((items : List Placed) → items_in e.year e.new.now ≡ Ok items → ⊥) → CountsBytes (length e.bytes.now) before mid → IsAnew e answer mid after → Comes e answer before after
unread_past e (Ok made) before mid after is unclosed never read h = let reads = reads_of e.year e.new.now h.loads in absurd (never reads.items reads.is)
unread_past e (Err x) before mid after is unclosed never read h =
    let tried = bytes_tried e before mid read in
    record {
      made = tt;
      loads = tt;
      few = tt;
      fault = h.fault;
      counts = tt;
      refused = walk_refused (journal_at e) e.edit.now before after unclosed.plain unclosed.sound (past_read e before mid after is tried h.counts) (past_checked e before mid after _ tried h.counts);
    }

-- what a walk makes of it
pub changed_comes : (e : Editing) (n : ℕ) (l : Loaded) (met : Met) (c : Changed) (before after : Counts) → IsEditing e → IsOpen e → IsLoaded e.year e.text.now l → ChangesTo e.year e.text.now e.bytes.now e.new.now c
    → IsTried e before after → AsksWritten (edit_made (journal_at e) e.edit.now) before after → Comes e (Ok (ways.Changed c)) before after
changed_comes e n l met c before after is unclosed loaded changes tried asks =
    let here = changes l.items l.book.txns loaded.read loaded.loads in
    let m = here.met in
    let makes = here.makes in
    let r = m.replaces in
    let first = tried.read in
    record {
      made = changes;
      loads = sound_text e.year e.new.now (record { txns = book_moved l.book.txns c }) m.few_bytes m.few_items (ap book_from (ap (items_in e.year) m.whole ∙ r.is) ∙ makes.loads);
      few = m.few_bytes;
      fault = tt;
      counts = walk_counts (journal_at e) e.edit.now before after unclosed.plain unclosed.loud (omega (arith, first, put_length e is)) tried.checked asks;
      refused = tt;
    }
