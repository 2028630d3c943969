-- What a walk of an edit tells of the new text, and the parts that are made of it.
use Rattle.std.proofs.Common.{◌≡◌, ◌==◌, ℕ, ◌+◌, ◌<◌, ◌≤◌, List, [], ◌∷◌, ◌++◌, length, set, Option, IfSome, Result, Ok, Err, IfOk, refl, sym, ap, subst, ◌∙◌, arith}
use Rattle.std.specs.Prelude.{nat_le, IfErr}
use Rattle.std.specs.List.{AllByRecursion}
use Rattle.std.proofs.lemmas.List.{append-nil}
use Rattle.hl_base.specs.Counts.{Counts}
use Rattle.hl_base.specs.declared.fault.Memory.{Memory}
use Rattle.book.specs.Bounds.{TurnoverFits}
use Rattle.book.specs.Postings.{postings_of, txns_of}
use Rattle.book.specs.declared.item.Item.TheVariants as item
use Rattle.book.specs.declared.item.Placed.{Placed}
use Rattle.book.specs.declared.transaction.Txn.{Txn}
use Rattle.balancing.specs.Solves.{Solves}
use Rattle.entry_balance.specs.Entry.{moved}
use Rattle.kept_turnover.specs.Keeping.{IsTurnover}
use Rattle.index_cells.specs.Books.{KeepsBook}
use Rattle.index_cells.specs.declared.kept.Kept.{Kept}
use Rattle.reached_walk.specs.Closed.{Edit, edits_of, size_in}
use Rattle.reached_walk.specs.Spots.{AreOnce}
use Rattle.walked_edits.specs.Causes.{IsCause}
use Rattle.walked_edits.specs.Forms.{IsInside, put_forms, spots_of, with_room}
use Rattle.walked_edits.specs.declared.fault.WalkFault.{WalkFault}
use Rattle.walked_edits.specs.declared.fault.WalkFault.TheVariants as faults
use Rattle.walked_edits.specs.declared.replaced.Replaced.{Replaced}
use Rattle.kept_books.specs.Counting.{AsksWritten, ChecksFew}
use Rattle.kept_books.specs.Keeping.{IsOf}
use Rattle.kept_books.specs.Reaching.{HasNoPlainReach}
use Rattle.kept_books.specs.Rewriting.{Rewrite, Behind, At, edit_by}
use Rattle.kept_books.specs.Walking.{IsWalk, IsWalkOf}
use Rattle.kept_books.specs.declared.kept.KeptBook.{KeptBook}
use Rattle.kept_books.specs.declared.walk.Walk.{Walk}
use Rattle.text_ends.specs.Going.{items_behind}
use Rattle.text_ends.specs.declared.reading.Grown.{Grown}
use Rattle.kept_texts.specs.Keeping.{IsWith}
use Rattle.kept_texts.specs.declared.edited.Edited.{Edited}
use Rattle.additions.specs.Kept.{IsBookEnd}
use Rattle.additions.proofs.Joining.{txns_behind}
use Rattle.walked_texts.specs.Making.{Answers, AreParts, CanMake, CanPut, IsTxnAt, IsWalkFor, book_with, edit_at, edit_behind, number_at, room_for}
use Rattle.walked_texts.specs.declared.making.Parts.{Parts}
use Rattle.walked_texts.proofs.Numbered.{number_inside, stands_at, txns_changed, vacants_of}

-- ---- in the words of the new text's items

pub answers_behind : (items : List Placed) (g : Grown) (book : List Txn) (more : List Placed) (result : Result Walk WalkFault) (before after : Counts) → more ≡ g.items
    → Answers (edit_by (txns_of items) (Behind (txns_of more))) (IsWalk (txns_of items) book (Behind (txns_of more))) result before after
    → Answers (edit_behind items g) (IsWalkFor (items_behind items g) book) result before after
answers_behind items g book more result before after same h =
    let old = txns_of items in
    let whole : old ++ txns_of more ≡ txns_of (items_behind items g) = ap (λ (ps : List Placed). old ++ txns_of ps) same ∙ sym (txns_behind items g) in
    subst (λ (ts : List Txn). Answers (edits_of (λ n. nat_le (length old) n) old ts) (λ (w : Walk). IsWalkOf ts (with_room ts book) w) result before after) whole h

pub answers_at : (items : List Placed) (n : ℕ) (placed : Placed) (book : List Txn) (k : ℕ) (t : Txn) (result : Result Walk WalkFault) (before after : Counts) → IsTxnAt items n → placed.item ≡ item.Txn t → k ≡ number_at items n
    → Answers (edit_by (txns_of items) (At k t)) (IsWalk (txns_of items) book (At k t)) result before after
    → Answers (edit_at items n placed) (IsWalkFor (set items n placed) book) result before after
answers_at items n placed book k t result before after there is number h =
    let old = txns_of items in
    let at = stands_at items n there in
    let told : Answers (edits_of (λ m. m == number_at items n) old (set old (number_at items n) t)) (λ (w : Walk). IsWalkOf (set old (number_at items n) t) (with_room (set old (number_at items n) t) book) w) result before after =
    subst (λ (j : ℕ). Answers (edits_of (λ m. m == j) old (set old j t)) (λ (w : Walk). IsWalkOf (set old j t) (with_room (set old j t) book) w) result before after) number h in
    subst (λ (ts : List Txn). Answers (edits_of (λ m. m == number_at items n) old ts) (λ (w : Walk). IsWalkOf ts (with_room ts book) w) result before after)
    (sym (txns_changed placed at.old t is items n at.was at.got at.is)) told

pub at_inside : (items : List Placed) (n k : ℕ) → IsTxnAt items n → k ≡ number_at items n → k < length (txns_of items)
at_inside items n k there is =
    let at = stands_at items n there in
    subst (λ (j : ℕ). j < length (txns_of items)) (sym is) (number_inside items n at.was at.old at.got at.is)

-- ---- what is answered

-- what a walk tells of a slice that has the items
pub answers_of : (items slice : List Placed) (book : List Txn) (r : Rewrite) (result : Result Walk WalkFault) (before after : Counts) → slice ≡ items
    → IfOk result (IsWalk (txns_of slice) book r) → ChecksFew (edit_by (txns_of slice) r) before after → after.bytes_read ≡ before.bytes_read
    → IfOk result (λ _. AsksWritten (edit_by (txns_of slice) r) before after) → IfErr result (λ fault. IsCause fault (HasNoPlainReach (edit_by (txns_of slice) r)))
    → Answers (edit_by (txns_of items) r) (IsWalk (txns_of items) book r) result before after
answers_of items slice book r result before after same made few read nodes load =
    subst (λ (ps : List Placed). Answers (edit_by (txns_of ps) r) (IsWalk (txns_of ps) book r) result before after) same
    (record { made = made; few = few; read = read; nodes = nodes; load = load })

no_more : (m n : ℕ) → m ≤ m + n
no_more m n = omega arith

module _ {A : Type 0} (edit : Edit) (P : A → Type 0) where
  -- memory was wanting before a walk
  pub not_begun : (c : Counts) → Answers edit P (Err (faults.Memory)) c c
  not_begun c = record { made = tt; few = λ set closed. no_more c.checked (size_in set edit.after); read = refl; nodes = tt; load = tt }

  module _ {B : Type 0} (Q : B → Type 0) (before after : Counts) where
    pub answered : (a : A) (b : B) → Answers edit P (Ok a) before after → Q b → Answers edit Q (Ok b) before after
    answered a b h q = record { made = q; few = h.few; read = h.read; nodes = h.nodes; load = tt }

    -- memory was wanting after it
    pub not_ended : (r : Result A WalkFault) → Answers edit P r before after → Answers edit Q (Err (faults.Memory)) before after
    not_ended r h = record { made = tt; few = h.few; read = h.read; nodes = tt; load = tt }

    pub refused : (fault : WalkFault) → Answers edit P (Err fault) before after → Answers edit Q (Err fault) before after
    refused fault h = record { made = tt; few = h.few; read = h.read; nodes = tt; load = h.load }

-- ---- the parts

module _ (items : List Placed) (book vacants : List Txn) (edited : Edited) (walk : Walk) (can : CanMake items book vacants edited walk) where
  whole_is : put_forms (book ++ vacants) walk.forms.items ≡ book_with items book walk.forms.items
  whole_is = ap (λ (b : List Txn). put_forms b walk.forms.items) can.room

  kept_whole : (k : KeptBook) (sums : Option Kept) → k ≡ record { walks = walk.walks; sums = sums } → IfSome sums (KeepsBook (put_forms (book ++ vacants) walk.forms.items)) → IsOf (txns_of items) (book_with items book walk.forms.items) k
  kept_whole k sums is keep =
      subst (λ (x : KeptBook). IsOf (txns_of items) (book_with items book walk.forms.items) x) (sym is) (record { walks = can.walked.walks; sums = subst (λ (b : List Txn). IfSome sums (KeepsBook b)) whole_is keep })

  pub made_parts : (vs : List Txn) (fs : List Replaced) (p : Parts) (sums : Option Kept) → vs ≡ vacants → fs ≡ walk.forms.items → p.forms ≡ walk.forms → p.vacants.items ≡ vacants → p.kept ≡ record { walks = walk.walks; sums = sums }
      → IfSome sums (KeepsBook (put_forms (book ++ vacants) walk.forms.items))
      → ((ps : List Placed) → IsWith ps (book ++ vs) edited → IsWith ps (put_forms (book ++ vs) fs) p.edited)
      → ((ps : List Placed) (b : List Txn) → IsWith ps b p.edited → IsTurnover walk.walks.kept.turnover (moved (postings_of b)) → IsBookEnd b p.end)
      → AreParts items book p
  made_parts vs fs p sums vs_are fs_are forms held kept keep goes ends =
      let all : (ps : List Placed) → IsWith ps (book ++ vacants) edited → IsWith ps (put_forms (book ++ vacants) walk.forms.items) p.edited =
      subst (λ (f : List Replaced). (ps : List Placed) → IsWith ps (book ++ vacants) edited → IsWith ps (put_forms (book ++ vacants) f) p.edited) fs_are
      (subst (λ (v : List Txn). (ps : List Placed) → IsWith ps (book ++ v) edited → IsWith ps (put_forms (book ++ v) fs) p.edited) vs_are goes) in
      let own : IsWith items (book_with items book walk.forms.items) p.edited =
      subst (λ (b : List Txn). IsWith items b p.edited) whole_is (all items can.begun) in
      record {
        room = ap (λ (v : List Txn). book ++ v) held ∙ can.room;
        inside = subst (λ fs. AllByRecursion (IsInside (room_for items book)) fs.items) (sym forms) can.walked.inside;
        solves = subst (λ fs. Solves (txns_of items) (book_with items book fs.items)) (sym forms) can.walked.solves;
        fits = subst (λ fs. TurnoverFits (postings_of (book_with items book fs.items))) (sym forms) can.walked.fits;
        edited = subst (λ fs. IsWith items (book_with items book fs.items) p.edited) (sym forms) own;
        end = subst (λ fs. IsBookEnd (book_with items book fs.items) p.end) (sym forms) (ends items (book_with items book walk.forms.items) own can.walked.walks.kept.turnover);
        kept = subst (λ fs. IsOf (txns_of items) (book_with items book fs.items) p.kept) (sym forms) (kept_whole p.kept sums kept keep);
      }

-- of a slice that has the book, and of vacants as they were put in
pub parts_of : (r : Result Parts Memory) (items : List Placed) (book slice vacants : List Txn) (edited : Edited) (walk : Walk) → slice ≡ book → CanMake items book vacants edited walk
    → IfOk r (λ p. (ps : List Placed) → CanMake ps slice vacants edited walk → AreParts ps slice p) → IfOk r (AreParts items book)
parts_of (Ok p) items book slice vacants edited walk same can h =
    subst (λ (b : List Txn). (ps : List Placed) → CanMake ps b vacants edited walk → AreParts ps b p) same h items can
parts_of (Err e) items book slice vacants edited walk same can h = tt

-- forms that can be put into a book with its room can be put in where that is a slice and some vacants
pub inside_room : (items : List Placed) (book slice vacants : List Txn) (walk : Walk) → slice ≡ book → book ++ vacants ≡ room_for items book → IsWalkFor items book walk → AllByRecursion (IsInside (slice ++ vacants)) walk.forms.items
inside_room items book slice vacants walk same room h =
    subst (λ (b : List Txn). AllByRecursion (IsInside (b ++ vacants)) walk.forms.items) (sym same)
    (subst (λ (b : List Txn). AllByRecursion (IsInside b) walk.forms.items) (sym room) h.inside)

pub inside_slices : (book vacants vs : List Txn) (forms fs : List Replaced) → vs ≡ vacants → fs ≡ forms → AllByRecursion (IsInside (book ++ vacants)) forms → AllByRecursion (IsInside (book ++ vs)) fs
inside_slices book vacants vs forms fs same_vs same_fs h =
    subst (λ (v : List Txn). AllByRecursion (IsInside (book ++ v)) fs) (sym same_vs) (subst (λ (f : List Replaced). AllByRecursion (IsInside (book ++ vacants)) f) (sym same_fs) h)

-- the same of what is kept of the book with them, and of its range
pub sums_slices : (sums : Option Kept) (book vacants vs : List Txn) (forms fs : List Replaced) → vs ≡ vacants → fs ≡ forms → IfSome sums (KeepsBook (put_forms (book ++ vs) fs)) → IfSome sums (KeepsBook (put_forms (book ++ vacants) forms))
sums_slices sums book vacants vs forms fs same_vs same_fs h =
    subst (λ (f : List Replaced). IfSome sums (KeepsBook (put_forms (book ++ vacants) f))) same_fs (subst (λ (v : List Txn). IfSome sums (KeepsBook (put_forms (book ++ v) fs))) same_vs h)

pub fits_slices : (book vacants vs : List Txn) (forms fs : List Replaced) → vs ≡ vacants → fs ≡ forms → TurnoverFits (postings_of (put_forms (book ++ vacants) forms)) → TurnoverFits (postings_of (put_forms (book ++ vs) fs))
fits_slices book vacants vs forms fs same_vs same_fs h =
    subst (λ (v : List Txn). TurnoverFits (postings_of (put_forms (book ++ v) fs))) (sym same_vs) (subst (λ (f : List Replaced). TurnoverFits (postings_of (put_forms (book ++ vacants) f))) (sym same_fs) h)

-- what a walk told can be put into a slice that has the book, with places held behind it
pub can_put : (items : List Placed) (book slice vacants : List Txn) (sums : Option Kept) (walk : Walk) → slice ≡ book → book ++ vacants ≡ room_for items book → AllByRecursion (λ (t : Txn). t.postings ≡ []) vacants → IfSome sums (KeepsBook book)
    → IsWalkFor items book walk → CanPut slice vacants sums walk
can_put items book slice vacants sums walk same room blank keep h = record {
  sums_are = subst (λ (b : List Txn). IfSome sums (KeepsBook b)) (sym same) keep;
  blank = blank;
  inside = inside_room items book slice vacants walk same room h;
  once = h.once;
  fits = subst (λ (b : List Txn). TurnoverFits (postings_of (put_forms (b ++ vacants) walk.forms.items))) (sym same)
      (subst (λ (b : List Txn). TurnoverFits (postings_of (put_forms b walk.forms.items))) (sym room) h.fits);
}

pub blank_vacants : (ts : List Txn) → AllByRecursion (λ (t : Txn). t.postings ≡ []) (vacants_of ts)
blank_vacants [] = tt
blank_vacants (t ∷ ts) = (refl, blank_vacants ts)

pub once_slice : (forms fs : List Replaced) → fs ≡ forms → AreOnce (spots_of forms) → AreOnce (spots_of fs)
once_slice forms fs same h = subst (λ (f : List Replaced). AreOnce (spots_of f)) (sym same) h

pub with_none : (items : List Placed) (book vacants : List Txn) (edited : Edited) → vacants ≡ [] → IsWith items book edited → IsWith items (book ++ vacants) edited
with_none items book vacants edited none h = subst (λ (b : List Txn). IsWith items b edited) (sym (ap (λ (v : List Txn). book ++ v) none ∙ append-nil book)) h
