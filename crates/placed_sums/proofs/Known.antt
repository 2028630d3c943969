-- What the rows of an index and the transactions of a day tell of a book.
use Rattle.std.proofs.Common.{◌≡◌, ℕ, ℤ, pos, ◌≤◌, ◌+ℤ◌, unsigned_abs, Bool, true, false, ◌&&◌, not, eqb, max, List, refl, sym, ap, ◌∙◌, subst, arith}
use Rattle.std.specs.Str.{bytes_eq}
use Rattle.std.proofs.lemmas.Bool.{eqb-true, false≢true}
use Rattle.std.proofs.lemmas.Int.{ints}
use Rattle.hl_num.specs.Decimal.{Decimal, IsTrimmed, add_fits, units_of}
use Rattle.book.specs.Bounds as amounts
use Rattle.book.specs.Postings.{postings_of}
use Rattle.book.specs.Sums.{is_nonzero, sum_of}
use Rattle.live_index.specs.Rows as rows
use Rattle.live_index.specs.Standing.{standing}
use Rattle.live_index.proofs.InRange.{add_fits-within}
use Rattle.live_index.proofs.StandingLaws.{before-standing}
use Rattle.placed_sums.specs.Accounts.{is_beside}
use Rattle.placed_sums.specs.Own.{IsSumIn, own_under}
use Rattle.placed_sums.specs.Placed.{IsKnown, Known, place_of, sum_placed}
use Rattle.placed_sums.specs.Rows.{rows_of}
use Rattle.placed_sums.proofs.Bounding.{before_bounded, earlier_bounded, rows_bounded, sum_within}
use Rattle.placed_sums.proofs.Fitting.{book_places}
use Rattle.placed_sums.proofs.Telling.{sum_parts}
use Rattle.placed_sums.proofs.Whole.{before_whole, trimmed_few}

module _ (k : Known) (account symbol : List ℕ) (below : Bool) (is : IsKnown k) where
  abbrev past : ℤ
  past = rows.sum_before (rows_of k.book) account symbol below k.day.0

  abbrev today : ℤ
  today = sum_of symbol (own_under k.book account below k.day.0 k.earlier)

  -- what the index answers up to the day
  pub past_is : (x : ℤ) → x ≡ rows.sum_before (standing k.rows) account symbol below k.day.0 → x ≡ past
  past_is x e = e ∙ before-standing k.rows account symbol below k.day.0 ∙ is.told account symbol below k.day.0

  -- with what the day's earlier transactions have
  pub both_are : past +ℤ today ≡ sum_placed k account below symbol
  both_are =
      ap (λ (ks : List ℕ). past +ℤ sum_of symbol (own_under k.book account below k.day.0 ks)) is.earlier
      ∙ sym (sum_parts k.book account symbol below k.day.0 k.number)

  pub day_bounded : amounts.turnover symbol (own_under k.book account below k.day.0 k.earlier) ≤ amounts.turnover symbol (postings_of k.book)
  day_bounded =
      subst (λ (ks : List ℕ). amounts.turnover symbol (own_under k.book account below k.day.0 ks) ≤ amounts.turnover symbol (postings_of k.book)) (sym is.earlier)
      (earlier_bounded k.book account symbol below k.day.0 k.number)

  today_bounded : unsigned_abs today ≤ amounts.turnover symbol (postings_of k.book)
  today_bounded = omega (arith, day_bounded, sum_within symbol (own_under k.book account below k.day.0 k.earlier))

  -- both can be added
  pub past_fits : (a b : Decimal) → units_of a ≡ past → IsTrimmed a → IsSumIn (postings_of k.book) symbol today b → a.places ≤ 36 → b.places ≤ 36 → add_fits a b ≡ true
  past_fits a b of_a trim of_b few_a few_b =
      let all = postings_of k.book in
      let q = amounts.places_of symbol all in
      let few : rows.places_of symbol (rows_of k.book) ≤ q = omega (arith, book_places symbol k.book) in
      let both : units_of a +ℤ units_of b ≡ sum_placed k account below symbol = (λ i. of_a i +ℤ of_b.value i) ∙ both_are in
      add_fits-within a b q (amounts.turnover symbol all) few_a few_b
      (trimmed_few a past q trim few_a of_a (before_whole (rows_of k.book) account symbol below k.day.0 q few))
      of_b.places
      (rw of_a (rows_bounded k.book account symbol below k.day.0))
      (rw of_b.value today_bounded)
      (rw both (before_bounded k.book account symbol below (place_of k.day k.number)))
      (is.fits symbol)

  -- and their sum is what is asked for
  pub sum_is : (a b r : Decimal) → units_of a ≡ past → IsSumIn (postings_of k.book) symbol today b → units_of r ≡ units_of a +ℤ units_of b → units_of r ≡ sum_placed k account below symbol
  sum_is a b r of_a of_b e = e ∙ (λ i. of_a i +ℤ of_b.value i) ∙ both_are

zero_of : (z : ℤ) → unsigned_abs z ≡ 0 → z ≡ pos 0
zero_of z h = omega (arith, ints, h)

pub nonzero_is : (r : Bool) (z : ℤ) → (r ≡ true → z ≡ pos 0) → (z ≡ pos 0 → r ≡ true) → not r ≡ is_nonzero z
nonzero_is r z f h = by r (eqb (unsigned_abs z) 0) refl refl
  where
    by : (a b : Bool) → r ≡ a → eqb (unsigned_abs z) 0 ≡ b → not a ≡ not b
    by true true p q = refl
    by false false p q = refl
    by true false p q = absurd (false≢true (sym q ∙ ap (λ (x : ℤ). eqb (unsigned_abs x) 0) (f p)))
    by false true p q = absurd (false≢true (sym p ∙ h (zero_of z (eqb-true (unsigned_abs z) 0 q))))

-- the given symbol isn't another one
pub itself_not_beside : (symbol other : List ℕ) (sum : List ℕ → ℤ) → bytes_eq other symbol ≡ true → false ≡ is_beside symbol sum other
itself_not_beside symbol other sum h = sym (ap (λ (b : Bool). not b && is_nonzero (sum other)) h)

-- another one is where its sum isn't zero
pub other_beside : (symbol other : List ℕ) (sum : List ℕ → ℤ) (r : Bool) (z : ℤ) → bytes_eq other symbol ≡ false → r ≡ is_nonzero z → z ≡ sum other → r ≡ is_beside symbol sum other
other_beside symbol other sum r z h is same = is ∙ ap is_nonzero same ∙ sym (ap (λ (b : Bool). not b && is_nonzero (sum other)) h)
