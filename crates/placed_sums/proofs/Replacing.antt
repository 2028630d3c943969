-- The rows of a book in which a transaction gets another form.
use Rattle.std.proofs.Common.{◌≡◌, ℕ, ℤ, pos, zero, suc, ◌-◌, ◌*◌, ◌^◌, ◌<◌, ◌+ℤ◌, ◌*ℤ◌, neg_ℤ, Bool, true, false, ◌&&◌, cond, ltb, List, [], ◌∷◌, ◌++◌, map, filter, set, slice_get, Option, Some, None, refl, sym, ap, subst, ◌∙◌, arith}
use Rattle.std.specs.List.{flat_map}
use Rattle.std.proofs.lemmas.Grind.{flat_map-append}
use Rattle.std.proofs.lemmas.Int.{ints}
use Rattle.std.proofs.lemmas.List.{append-nil, append_assoc, map-append}
use Rattle.std.proofs.lemmas.Option.{none-some, same_Some}
use Rattle.hl_num.specs.Decimal.{units_of}
use Rattle.hl_num.proofs.DecimalLemmas.{mul-add}
use Rattle.book.specs.Bounds as amounts
use Rattle.book.specs.Postings.{postings_of}
use Rattle.book.specs.declared.amount.Amount.{Amount}
use Rattle.book.specs.declared.transaction.Posting.{Posting}
use Rattle.book.specs.declared.transaction.Txn.{Txn}
use Rattle.entry_balance.specs.Entry.{from_amount}
use Rattle.live_index.specs.Net.{SameNet, negated_row, net, weight}
use Rattle.live_index.specs.Rows as rows
use Rattle.live_index.specs.Standing.{Preparing, standing}
use Rattle.live_index.specs.declared.row.Row.{Row}
use Rattle.live_index.proofs.NetLaws.{fits-by, same-after}
use Rattle.live_index.proofs.Sums.{sum-append}
use Rattle.placed_sums.specs.Replaced.{Replaces, rows_replacing}
use Rattle.placed_sums.specs.Rows.{Stand, Tell, row_of, rows_of, rows_of_posting, rows_of_txn}
use Rattle.placed_sums.specs.Taken.{taken_of_posting, taken_of_txn}
use Rattle.placed_sums.proofs.Fitting.{rows_fit}

-- ---- more transactions

net_both : (q : Row) (one two : List Row) → net q (one ++ two) ≡ net q one +ℤ net q two
net_both q [] two = omega (arith, ints)
net_both q (row ∷ one) two = omega (arith, ints, net_both q one two)

-- the sum of two lists before a day
sum_both : (one two : List Row) (account symbol : List ℕ) (below : Bool) (end : ℕ) → rows.sum_before (one ++ two) account symbol below end ≡ rows.sum_before one account symbol below end +ℤ rows.sum_before two account symbol below end
sum_both one two account symbol below end = sum-append (λ row. units_of row.value) (λ row. rows.counts account symbol below row && ltb row.day.0 end) one two

pub stand_more : (kept : List Row) (book more : List Txn) → Stand kept book → Stand (kept ++ rows_of more) (book ++ more)
stand_more kept book more s = record {
  told = λ account symbol below end.
      sum_both kept (rows_of more) account symbol below end
      ∙ ap (λ (z : ℤ). z +ℤ rows.sum_before (rows_of more) account symbol below end) (s.told account symbol below end)
      ∙ sym (sum_both (rows_of book) (rows_of more) account symbol below end)
      ∙ ap (λ (rs : List Row). rows.sum_before rs account symbol below end) (sym (flat_map-append rows_of_txn book more));
  net = λ q.
      ap (net q) (flat_map-append rows_of_txn book more)
      ∙ net_both q (rows_of book) (rows_of more)
      ∙ ap (λ (z : ℤ). z +ℤ net q (rows_of more)) (s.net q)
      ∙ sym (net_both q kept (rows_of more));
}

-- a transaction without postings has no rows
pub stand_blank : (kept : List Row) (book : List Txn) (blank : Txn) → Stand kept book → blank.postings ≡ [] → Stand kept (book ++ blank ∷ [])
stand_blank kept book blank s none =
    let no_rows : rows_of (blank ∷ []) ≡ [] = ap (λ (ps : List Posting). flat_map (rows_of_posting blank) ps ++ []) none in
    subst (λ (rs : List Row). Stand rs (book ++ blank ∷ [])) (ap (λ (rs : List Row). kept ++ rs) no_rows ∙ append-nil kept) (stand_more kept book (blank ∷ []) s)

-- ---- the rows of one transaction among all

record IsCut (book : List Txn) (number : ℕ) (old new : Txn) : Type 0 where
  front : List Row
  back : List Row
  was : rows_of book ≡ front ++ (rows_of_txn old ++ back)
  is : rows_of (set book number new) ≡ front ++ (rows_of_txn new ++ back)

cut : (book : List Txn) (number : ℕ) (old new : Txn) → slice_get book number ≡ Some old → IsCut book number old new
cut [] number old new h = absurd (none-some old h)
cut (t ∷ ts) zero old new h = record {
  front = [];
  back = rows_of ts;
  was = ap (λ (u : Txn). rows_of_txn u ++ rows_of ts) (same_Some t old h);
  is = refl;
}
cut (t ∷ ts) (suc k) old new h =
    let c = cut ts k old new h in
    record {
      front = rows_of_txn t ++ c.front;
      back = c.back;
      was = ap (λ (rs : List Row). rows_of_txn t ++ rs) c.was ∙ sym (append_assoc (rows_of_txn t) c.front (rows_of_txn old ++ c.back));
      is = ap (λ (rs : List Row). rows_of_txn t ++ rs) c.is ∙ sym (append_assoc (rows_of_txn t) c.front (rows_of_txn new ++ c.back));
    }

-- ---- rows that are taken off

cancelled : (m n : ℤ) → neg_ℤ m +ℤ m ≡ pos 0
cancelled m n = omega (arith, ints)

no_times : (n : ℕ) → pos 0 *ℤ pos n ≡ pos 0
no_times n = let e : 0 * n ≡ 0 = omega arith in ap pos e

units_gone : (m : ℤ) (n : ℕ) → neg_ℤ m *ℤ pos n +ℤ m *ℤ pos n ≡ pos 0
units_gone m n = sym (mul-add (neg_ℤ m) m n) ∙ ap (λ (z : ℤ). z *ℤ pos n) (cancelled m m) ∙ no_times n

two_gone : (a b c d : ℤ) → a +ℤ b ≡ pos 0 → c +ℤ d ≡ pos 0 → (a +ℤ c) +ℤ (b +ℤ d) ≡ pos 0
two_gone a b c d h k = omega (arith, ints, h, k)

module _ (account symbol : List ℕ) (below : Bool) (end : ℕ) where
  abbrev told : Row → Bool
  told row = rows.counts account symbol below row && ltb row.day.0 end

  taken_sum : (rs : List Row) → rows.total (filter told (map negated_row rs)) +ℤ rows.total (filter told rs) ≡ pos 0
  taken_sum [] = refl
  taken_sum (row ∷ rs) =
      let rest = taken_sum rs in
      elim (told row) as (λ b. rows.total (cond b (negated_row row ∷ filter told (map negated_row rs)) (filter told (map negated_row rs))) +ℤ rows.total (cond b (row ∷ filter told rs) (filter told rs)) ≡ pos 0) [
        | true ↦ two_gone (units_of (negated_row row).value) (units_of row.value) (rows.total (filter told (map negated_row rs))) (rows.total (filter told rs)) (units_gone row.value.mantissa (10 ^ (36 - row.value.places))) rest
        | false ↦ rest
      ]

  exchanged : (kept put was is front old back new taken fnb nb fob ob tn : ℤ) → kept ≡ was → was ≡ fob → fob ≡ front +ℤ ob → ob ≡ old +ℤ back → is ≡ fnb → fnb ≡ front +ℤ nb → nb ≡ new +ℤ back → put ≡ kept +ℤ tn → tn ≡ taken +ℤ new → taken +ℤ old ≡ pos 0 → put ≡ is
  exchanged kept put was is front old back new taken fnb nb fob ob tn h1 h2 h3 h4 h5 h6 h7 h8 h9 h10 = omega (arith, ints, h1, h2, h3, h4, h5, h6, h7, h8, h9, h10)

  abbrev at : List Row → ℤ
  at rs = rows.sum_before rs account symbol below end

  both_at : (one two : List Row) → at (one ++ two) ≡ at one +ℤ at two
  both_at one two = sum_both one two account symbol below end

  replaced_at : (kept : List Row) (book : List Txn) (number : ℕ) (old new : Txn) → Tell kept book → IsCut book number old new → at (kept ++ rows_replacing old new) ≡ at (rows_of (set book number new))
  replaced_at kept book number old new told c =
      exchanged (at kept) (at (kept ++ rows_replacing old new)) (at (rows_of book)) (at (rows_of (set book number new)))
      (at c.front) (at (rows_of_txn old)) (at c.back) (at (rows_of_txn new)) (at (map negated_row (rows_of_txn old)))
      (at (c.front ++ (rows_of_txn new ++ c.back))) (at (rows_of_txn new ++ c.back)) (at (c.front ++ (rows_of_txn old ++ c.back))) (at (rows_of_txn old ++ c.back)) (at (rows_replacing old new))
      (told account symbol below end) (ap at c.was) (both_at c.front (rows_of_txn old ++ c.back)) (both_at (rows_of_txn old) c.back)
      (ap at c.is) (both_at c.front (rows_of_txn new ++ c.back)) (both_at (rows_of_txn new) c.back)
      (both_at kept (rows_replacing old new)) (both_at (map negated_row (rows_of_txn old)) (rows_of_txn new)) (taken_sum (rows_of_txn old))

pub stand_replaced : (kept : List Row) (book : List Txn) (number : ℕ) (old new : Txn) → Stand kept book → slice_get book number ≡ Some old → Stand (kept ++ rows_replacing old new) (set book number new)
stand_replaced kept book number old new s h =
    let c = cut book number old new h in
    record {
      told = λ account symbol below end. replaced_at account symbol below end kept book number old new s.told c;
      net = λ q. ap (net q) c.is ∙ same-after c.front (rows_of_txn old) c.back (rows_of_txn new) kept (λ r. ap (net r) (sym c.was) ∙ s.net r) q;
    }

-- the rows that stand afterwards are in range
pub replaced_fits : (kept : List Row) (old new : Txn) → Replaces kept old new → rows.TurnoverFits (standing (kept ++ rows_replacing old new))
replaced_fits kept old new r =
    fits-by (rows_of (set r.book r.number new)) (kept ++ rows_replacing old new)
    (stand_replaced kept r.book r.number old new r.kept r.is).net
    (rows_fit (set r.book r.number new) r.fits)

-- ---- as they are made

taken_one : (t : Txn) (p : Posting) (o : Option Amount) → from_amount (λ a. negated_row (row_of t p a) ∷ []) o ≡ map negated_row (from_amount (λ a. row_of t p a ∷ []) o)
taken_one t p None = refl
taken_one t p (Some a) = refl

taken_all : (t : Txn) (ps : List Posting) → flat_map (taken_of_posting t) ps ≡ map negated_row (flat_map (rows_of_posting t) ps)
taken_all t [] = refl
taken_all t (p ∷ ps) =
    (λ i. taken_one t p p.amount i ++ taken_all t ps i)
    ∙ sym (map-append negated_row (rows_of_posting t p) (flat_map (rows_of_posting t) ps))

pub made_rows : (none some all : List Row) (old new : Txn) → none ≡ [] → some ≡ none ++ taken_of_txn old → all ≡ some ++ rows_of_txn new → all ≡ rows_replacing old new
made_rows none some all old new e taken put =
    put
    ∙ ap (λ (rs : List Row). rs ++ rows_of_txn new) (taken ∙ ap (λ (rs : List Row). rs ++ taken_of_txn old) e ∙ taken_all old old.postings)

-- over a vector that is lent as a slice
pub prepared_fits : (kept put : List Row) (old new : Txn) → put ≡ rows_replacing old new → Replaces kept old new → rows.TurnoverFits (standing (kept ++ put))
prepared_fits kept put old new is r = subst (λ (rs : List Row). rows.TurnoverFits (standing (kept ++ rs))) (sym is) (replaced_fits kept old new r)

pub prepared_is : (kept put : List Row) (old new : Txn) (p : Preparing) → p ≡ record { before = kept; after = kept ++ put } → put ≡ rows_replacing old new → p ≡ record { before = kept; after = kept ++ rows_replacing old new }
prepared_is kept put old new p made is =
    let with_rows : List Row → Preparing = λ rs. record { before = kept; after = kept ++ rs } in
    made ∙ ap with_rows is
