-- What is made of an entry in the place of another one, whose lines all behind it move.
use Rattle.std.proofs.Common.{◌≡◌, ◌==◌, ℕ, zero, suc, ◌+◌, ◌<◌, ◌≤◌, Bool, List, [], ◌∷◌, ◌++◌, length, map, take, drop, set, get_or, slice_get, Option, Some, None, Result, Ok, Err, refl, sym, ap, subst, ◌∙◌, arith, append-nil, length-append}
use Rattle.std.specs.Prelude.{IfErr, IfOk, IfSome, IsSomeAnd}
use Rattle.std.specs.List.{AllByRecursion}
use Rattle.std.proofs.lemmas.List.{length-set}
use Rattle.hl_base.specs.Counts.{Counts}
use Rattle.hl_base.specs.declared.fault.Memory.{Memory as NoMemory}
use Rattle.book.proofs.Items.{txns_more}
use Rattle.book.specs.Bounds.{TurnoverFits}
use Rattle.book.specs.Postings.{postings_of, txn_in, txns_of}
use Rattle.book.specs.declared.fault.Fault.{Fault}
use Rattle.book.specs.declared.item.Book.{Book}
use Rattle.book.specs.declared.item.Item.{Item}
use Rattle.book.specs.declared.item.Item.TheVariants as item
use Rattle.book.specs.declared.item.Placed.{Placed}
use Rattle.book.specs.declared.transaction.Txn.{Txn}
use Rattle.balancing.specs.Load.{load}
use Rattle.balancing.specs.Solves.{Solves}
use Rattle.balancing.proofs.Solving.{solves_loads}
use Rattle.additions.specs.Kept.{IsBookEnd}
use Rattle.book_laws.specs.Reaching.{HasNoPlainReach}
use Rattle.book_laws.proofs.Lined.{fits-same}
use Rattle.book_laws.proofs.Reached.{none-moved}
use Rattle.changed_texts.specs.OneEntry.{IsMet, items_met}
use Rattle.changed_texts.specs.Replacing.{number_at}
use Rattle.changed_texts.specs.declared.met.Met.{Met}
use Rattle.changed_texts.proofs.Standing.{met_txns_are}
use Rattle.kept_books.specs.Counting.{AsksWritten, ChecksFew}
use Rattle.kept_books.specs.Keeping.{IsOf}
use Rattle.kept_texts.specs.Keeping.{IsWith}
use Rattle.kept_texts.proofs.Lineless.{book_asks}
use Rattle.moved_lines.specs.Moving.{CanMovePlaced, CanMoveTxn, line_from, moved_from}
use Rattle.moved_lines.proofs.Numbering.{moved-is, solves-moved}
use Rattle.moved_lines.proofs.Solving.{items-can, solved-can}
use Rattle.moved_walks.proofs.Ends.{end-moved}
use Rattle.moved_walks.proofs.Walks.{asked-moved, checked-moved, of-moved}
use Rattle.reached_walk.specs.Closed.{Edit, edits_of}
use Rattle.walked_edits.specs.Causes.{IsCause}
use Rattle.walked_edits.specs.Forms.{IsInside, put_forms}
use Rattle.walked_edits.specs.declared.fault.WalkFault.{WalkFault}
use Rattle.walked_edits.specs.declared.fault.WalkFault.TheVariants as faults
use Rattle.walked_edits.proofs.Loading.{solves_size}
use Rattle.walked_texts.specs.Making.{Answers, AreParts, IsTxn, IsTxnAt, book_with, edit_at, room_for}
use Rattle.walked_texts.specs.declared.making.Parts.{Parts}
use Rattle.walked_texts.proofs.Numbered.{number_inside, same_room, stood_there, txns_changed}
use Rattle.loaded_texts.specs.Changing.{AreMetParts, ChangesBook, book_moved, edit_met}
use Rattle.loaded_texts.specs.declared.changing.Changed.{Changed}

-- ---- lists

drop_past : {X : Type 0} (xs : List X) (k : ℕ) (x : X) → drop (suc k) (set xs k x) ≡ drop (suc k) xs
drop_past [] k x = refl
drop_past (y ∷ ys) zero x = refl
drop_past (y ∷ ys) (suc k) x = drop_past ys k x

got_here : {X : Type 0} (xs : List X) (n : ℕ) (x : X) → slice_get xs n ≡ Some x → (n < length xs) × (x ≡ get_or xs n x)
got_here [] n x h = absurd (let never : ⊥ = cc in never)
got_here (y ∷ ys) zero x h = (omega arith, (let same : y ≡ x = cc in sym same))
got_here (y ∷ ys) (suc n) x h = let more = got_here ys n x h in (omega (arith, more.0), more.1)

put_size : (txns : List Txn) (p : Parts) (mid : List Txn) → Solves mid (put_forms txns p.forms.items) → length (put_forms txns p.forms.items) ≡ length mid
put_size txns p mid s = solves_size mid (put_forms txns p.forms.items) s

module _ (items : List Placed) (txns : List Txn) (n : ℕ) (met : Met) (was : Placed) (old u : Txn) (got : slice_get items n ≡ Some was) (is_old : was.item ≡ item.Txn old) (is_new : met.placed.item ≡ item.Txn u)
    (fits : IsMet n items met) (solves : Solves (txns_of items) txns) (behind : AllByRecursion (CanMovePlaced met.by) (drop (suc n) items)) where
  abbrev first : ℕ
  first = suc (number_at items n)

  -- the transactions as they stood, and as they stand
  abbrev mid : List Txn
  mid = txns_of (set items n met.placed)

  abbrev after : List Txn
  after = txns_of (items_met n items met)

  mid_is : mid ≡ set (txns_of items) (number_at items n) u
  mid_is = txns_changed met.placed old u is_new items n was got is_old

  after_is : after ≡ moved_from first met.by.lines mid
  after_is = met_txns_are items n met was old u fits got is_old is_new ∙ ap (moved_from first met.by.lines) (sym mid_is)

  -- how many stand before and with the entry
  through : length (txns_of (take (suc n) items)) ≡ first
  through =
      let here = got_here items n was got in
      let more : txns_of (take (n + 1) items) ≡ txns_of (take n items) ++ txn_in was.item = txns_more items n was here.0 here.1 in
      let one : txn_in was.item ≡ old ∷ [] = ap txn_in is_old in
      let next : length (txns_of (take (suc n) items)) ≡ length (txns_of (take (n + 1) items)) = ap (λ (k : ℕ). length (txns_of (take k items))) (let e : suc n ≡ n + 1 = omega arith in e) in
      omega (arith, next, ap length more, length-append (txns_of (take n items)) (txn_in was.item), ap length one)

  mid_can : AllByRecursion (CanMoveTxn met.by.lines) (drop first mid)
  mid_can =
      let all : AllByRecursion (CanMoveTxn met.by.lines) (drop (length (txns_of (take (suc n) items))) (txns_of items)) = items-can (suc n) met.by items behind in
      let from : AllByRecursion (CanMoveTxn met.by.lines) (drop first (txns_of items)) = subst (λ (k : ℕ). AllByRecursion (CanMoveTxn met.by.lines) (drop k (txns_of items))) through all in
      subst (AllByRecursion (CanMoveTxn met.by.lines)) (sym (ap (drop first) mid_is ∙ drop_past (txns_of items) (number_at items n) u)) from

  -- ---- what a walk counted and found

  abbrev edited : ℕ → Bool
  edited k = k == number_at items n

  few_met : (before now : Counts) → ChecksFew (edit_at items n met.placed) before now → ChecksFew (edit_met items n met) before now
  few_met before now few = subst (λ (ts : List Txn). ChecksFew (edits_of edited (txns_of items) ts) before now) (sym after_is) (checked-moved first met.by.lines edited (txns_of items) mid before now few)

  asks_met : (before now : Counts) → AsksWritten (edit_at items n met.placed) before now → AsksWritten (edit_met items n met) before now
  asks_met before now asks = subst (λ (ts : List Txn). AsksWritten (edits_of edited (txns_of items) ts) before now) (sym after_is) (asked-moved first met.by.lines edited (txns_of items) mid before now asks)

  none_met : HasNoPlainReach (edit_at items n met.placed) → HasNoPlainReach (edit_met items n met)
  none_met none = subst (λ (ts : List Txn). HasNoPlainReach (edits_of edited (txns_of items) ts)) (sym after_is) (none-moved first met.by.lines edited (txns_of items) mid mid_can none)

  cause_met : (fault : WalkFault) → IsCause fault (HasNoPlainReach (edit_at items n met.placed)) → IsCause fault (HasNoPlainReach (edit_met items n met))
  cause_met faults.Load h = none_met h
  cause_met faults.Memory h = tt

  pub answers_met : {A : Type 0} {P : A → Type 0} (before now : Counts) (r : Result A WalkFault) → Answers (edit_at items n met.placed) P r before now → Answers (edit_met items n met) P r before now
  answers_met before now (Ok a) h = record { made = h.made; few = few_met before now h.few; read = h.read; nodes = asks_met before now h.nodes; load = tt }
  answers_met before now (Err fault) h = record { made = tt; few = few_met before now h.few; read = h.read; nodes = tt; load = cause_met fault h.load }

  -- ---- the book

  module _ (p : Parts) (are : AreMetParts items txns n met p) where
    abbrev forms : List Txn
    forms = put_forms txns p.forms.items

    at_there : IsTxnAt items n
    at_there = subst (λ (o : Option Placed). IsSomeAnd o (λ placed. IsTxn placed.item)) (sym got) (subst IsTxn (sym is_old) tt)

    room_is : room_for (set items n met.placed) txns ≡ txns
    room_is = sym (same_room items n met.placed txns at_there (subst IsTxn (sym is_new) tt) (solves_size (txns_of items) txns solves)) ∙ append-nil txns

    forms_are : book_with (set items n met.placed) txns p.forms.items ≡ forms
    forms_are = ap (λ (ts : List Txn). put_forms ts p.forms.items) room_is

    solved : Solves mid forms
    solved = subst (Solves mid) forms_are are.solves

    first_inside : first ≤ length forms
    first_inside =
        let inside = number_inside items n was old got is_old in
        omega (arith, inside, put_size txns p mid solved, ap length mid_is, length-set (txns_of items) (number_at items n) u)

    abbrev moved_forms : List Txn
    moved_forms = moved_from first met.by.lines forms

    whole : Solves after moved_forms
    whole = subst (λ (ws : List Txn). Solves ws moved_forms) (sym after_is) (solves-moved first met.by.lines mid forms solved)

    edited_moved : IsWith (items_met n items met) moved_forms p.edited
    edited_moved =
        let h = subst (λ (ts : List Txn). IsWith (items_met n items met) ts p.edited) forms_are are.edited in
        record { styles = h.styles; asked = book_asks first met.by.lines forms p.edited.asked h.asked }

    made : Changed
    made = record { number = n; met = met; first = first; parts = p }

    changes_here : ChangesBook (items_met n items met) txns (record { number = n; met = met; first = first; parts = p })
    changes_here = record {
      inside = subst (λ (ts : List Txn). AllByRecursion (IsInside ts) p.forms.items) room_is are.inside;
      first = first_inside;
      lines = solved-can met.by.lines first mid forms solved mid_can;
      loads = solves_loads (items_met n items met) (record { txns = moved_forms }) whole;
      fits = subst (λ (ts : List Txn). TurnoverFits (postings_of ts)) (sym (moved-is first met.by.lines forms))
          (fits-same (line_from first met.by.lines) forms (subst (λ (ts : List Txn). TurnoverFits (postings_of ts)) forms_are are.fits));
      edited = edited_moved;
      end = end-moved first met.by.lines forms p.end (subst (λ (ts : List Txn). IsBookEnd ts p.end) forms_are are.end);
      kept = subst (λ (ws : List Txn). IsOf ws moved_forms p.kept) (sym after_is)
          (of-moved first met.by.lines mid forms p.kept (subst (λ (ts : List Txn). IsOf mid ts p.kept) forms_are are.kept));
    }

    -- of what was made so
    pub changes_book : (c : Changed) → c.number ≡ n → c.met ≡ met → c.first ≡ first → c.parts ≡ p → ChangesBook (items_met n items met) txns c
    changes_book c en em ef ep = subst (ChangesBook (items_met n items met) txns) (λ i. record { number = sym en i; met = sym em i; first = sym ef i; parts = sym ep i }) changes_here
