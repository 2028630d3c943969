-- A book that solves what is written has its lines, so that it can be moved as far.
use Rattle.std.proofs.Common.{◌≡◌, ℕ, zero, suc, Bool, true, false, cond, ◌&&◌, List, [], ◌∷◌, ◌++◌, map, length, take, drop, Option, Some, None, is_none, sym, ap, subst, ◌∙◌, take-append-drop}
use Rattle.std.specs.List.{flat_map, AllByRecursion}
use Rattle.std.proofs.Math.Seq.{drop-append_seam}
use Rattle.std.proofs.lemmas.Grind.{flat_map-append}
use Rattle.book.specs.declared.amount.Amount.{Amount}
use Rattle.book.specs.declared.amount.Assertion.{Assertion}
use Rattle.book.specs.declared.amount.Cost.TheVariants.{Total}
use Rattle.book.specs.declared.item.Item.{Item}
use Rattle.book.specs.declared.item.Item.TheVariants as item
use Rattle.book.specs.declared.item.Placed.{Placed}
use Rattle.book.specs.declared.transaction.Posting.{Posting}
use Rattle.book.specs.declared.transaction.Txn.{Txn}
use Rattle.book.specs.Postings.{txn_in, txns_of}
use Rattle.entry_balance.specs.Entry.{costed_posting, found_posting, found_values, is_real_of, plain_amount, recorded_cost, settled, solved_posting}
use Rattle.entry_balance.specs.Values.{Value}
use Rattle.balancing.specs.Solves.{AreMade, AreMadeTxns, IsMadeBy, IsMadeTxn, Solves}
use Rattle.moved_lines.specs.Moving.{CanMoveItem, CanMovePlaced, CanMovePosting, CanMoveTxn}
use Rattle.moved_lines.specs.declared.shift.Offset.{Offset}
use Rattle.moved_lines.specs.declared.shift.Shift.{Shift}

both-all : {X : Type 0} (P : X → Type 0) (xs ys : List X) → AllByRecursion P xs → AllByRecursion P ys → AllByRecursion P (xs ++ ys)
both-all P [] ys h k = k
both-all P (x ∷ xs) ys h k = (h.0, both-all P xs ys h.1 k)

module _ (by : Shift) where
  -- ---- what balancing finds

  found-can : (p : Posting) (vs : List Value) → CanMovePosting by p → AllByRecursion (CanMovePosting by) (map (found_posting p) vs)
  found-can p [] h = tt
  found-can p (v ∷ vs) h = (h, found-can p vs h)

  costed-can : (cost : Option (List ℕ × Value)) (p : Posting) → CanMovePosting by p → CanMovePosting by (costed_posting cost p)
  costed-can None p h = h
  costed-can (Some cost) p h = here (is_real_of cost.0 p && is_none p.cost)
    where
      here : (b : Bool) → CanMovePosting by (cond b (record p { cost = Some (Total (plain_amount cost.1)); costed = true }) p)
      here true = h
      here false = h

  one-can : (all : List Posting) (p : Posting) (a : Option Amount) → CanMovePosting by p → AllByRecursion (CanMovePosting by) (solved_posting all p a)
  one-can all p None h = found-can p (found_values p.side all) h
  one-can all p (Some a) h = (costed-can (recorded_cost all) p h, tt)

  each-can : (all ps : List Posting) → AllByRecursion (CanMovePosting by) ps → AllByRecursion (CanMovePosting by) (flat_map (λ p. solved_posting all p p.amount) ps)
  each-can all [] h = tt
  each-can all (p ∷ ps) h =
      both-all (CanMovePosting by) (solved_posting all p p.amount) (flat_map (λ q. solved_posting all q q.amount) ps) (one-can all p p.amount h.0) (each-can all ps h.1)

  settled-can : (t : Txn) → CanMoveTxn by t → CanMoveTxn by (settled t)
  settled-can t h = record { line = h.line; postings = each-can t.postings t.postings h.postings }

  -- ---- amounts for assignments

  given-can : (a : Option Amount) (o : Option Assertion) (w q : Posting) → IsMadeBy a o w q → CanMovePosting by w → CanMovePosting by q
  given-can (Some a) o w q h can = subst (CanMovePosting by) (sym h) can
  given-can None None w q h can = subst (CanMovePosting by) (sym h) can
  given-can None (Some x) w q h can = subst (CanMovePosting by) (sym h.1) can

  made-postings-can : (ws qs : List Posting) → AreMade ws qs → AllByRecursion (CanMovePosting by) ws → AllByRecursion (CanMovePosting by) qs
  made-postings-can [] [] h can = tt
  made-postings-can [] (q ∷ qs) h can = absurd h
  made-postings-can (w ∷ ws) [] h can = absurd h
  made-postings-can (w ∷ ws) (q ∷ qs) h can = (given-can w.amount w.wanted w q h.0 can.0, made-postings-can ws qs h.1 can.1)

  made-can : (w m : Txn) → IsMadeTxn w m → CanMoveTxn by w → CanMoveTxn by m
  made-can w m h can = subst (CanMoveTxn by) (sym h.rest) (record { line = can.line; postings = made-postings-can w.postings m.postings h.postings can.postings })

  -- ---- a book

  made-all-can : (n : ℕ) (ws ms : List Txn) → AreMadeTxns ws ms → AllByRecursion (CanMoveTxn by) (drop n ws) → AllByRecursion (CanMoveTxn by) (drop n ms)
  made-all-can n [] [] h can = can
  made-all-can n [] (m ∷ ms) h can = absurd h
  made-all-can n (w ∷ ws) [] h can = absurd h
  made-all-can zero (w ∷ ws) (m ∷ ms) h can = (made-can w m h.0 can.0, made-all-can zero ws ms h.1 can.1)
  made-all-can (suc n) (w ∷ ws) (m ∷ ms) h can = made-all-can n ws ms h.1 can

  settled-all-can : (n : ℕ) (ms : List Txn) → AllByRecursion (CanMoveTxn by) (drop n ms) → AllByRecursion (CanMoveTxn by) (drop n (map settled ms))
  settled-all-can n [] can = can
  settled-all-can zero (m ∷ ms) can = (settled-can m can.0, settled-all-can zero ms can.1)
  settled-all-can (suc n) (m ∷ ms) can = settled-all-can n ms can

  pub solved-can : (n : ℕ) (written book : List Txn) → Solves written book → AllByRecursion (CanMoveTxn by) (drop n written) → AllByRecursion (CanMoveTxn by) (drop n book)
  solved-can n written book s can =
      subst (λ (ts : List Txn). AllByRecursion (CanMoveTxn by) (drop n ts)) (sym s.found) (settled-all-can n s.made (made-all-can n written s.made s.kept can))

  -- ---- items

  txn-can : (i : Item) → CanMoveItem by i → AllByRecursion (CanMoveTxn by) (txn_in i)
  txn-can (item.Txn t) h = (h, tt)
  txn-can (item.Auto r) h = tt
  txn-can (item.Periodic r) h = tt
  txn-can item.Gap h = tt
  txn-can item.Block h = tt
  txn-can (item.Price p) h = tt
  txn-can (item.Directive d) h = tt

pub txns-can : (by : Offset) (items : List Placed) → AllByRecursion (CanMovePlaced by) items → AllByRecursion (CanMoveTxn by.lines) (txns_of items)
txns-can by [] h = tt
txns-can by (p ∷ items) h = both-all (CanMoveTxn by.lines) (txn_in p.item) (txns_of items) (txn-can by.lines p.item h.0.item) (txns-can by items h.1)

pub items-can : (n : ℕ) (by : Offset) (items : List Placed) → AllByRecursion (CanMovePlaced by) (drop n items) → AllByRecursion (CanMoveTxn by.lines) (drop (length (txns_of (take n items))) (txns_of items))
items-can n by items h =
    let front = txns_of (take n items) in
    let back = txns_of (drop n items) in
    let all : txns_of items ≡ front ++ back = ap txns_of (sym (take-append-drop n items)) ∙ flat_map-append (λ (q : Placed). txn_in q.item) (take n items) (drop n items) in
    subst (AllByRecursion (CanMoveTxn by.lines)) (sym (ap (drop (length front)) all ∙ drop-append_seam front back)) (txns-can by (drop n items) h)
