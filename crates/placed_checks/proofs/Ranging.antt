-- What is told of an account stays in range beside what a transaction moves, where all that a book moves does.
use Rattle.std.proofs.Common.{◌≡◌, ℕ, ℤ, suc, ◌≤◌, Bool, true, false, ◌&&◌, cond, List, [], ◌∷◌, ◌++◌, length, map, filter, unsigned_abs, Option, Some, None, inl, inr, refl, sym, ap, subst, ◌∙◌, arith}
use Rattle.std.specs.List.{AllByRecursion, fold}
use Rattle.std.specs.Str.{bytes_eq}
use Rattle.std.proofs.lemmas.Bool.Decides.{Decides-ltb}
use Rattle.std.proofs.lemmas.Grind.{flat_map-append}
use Rattle.hl_num.specs.Decimal.{Decimal, mantissa_at, units_of}
use Rattle.book.specs.Mixed.{plus}
use Rattle.book.specs.Postings.{postings_of}
use Rattle.book.specs.SumsBefore.{Place, is_before, is_of, placed_from, postings_before, sum_before}
use Rattle.book.specs.declared.amount.Amount.{Amount}
use Rattle.book.specs.declared.amount.Assertion.{Assertion}
use Rattle.book.specs.declared.transaction.Posting.{Posting}
use Rattle.book.specs.declared.transaction.Txn.{Txn}
use Rattle.entry_balance.specs.Entry.{from_amount, moved, moved_by}
use Rattle.entry_balance.specs.Tally.{is_within, no_sum, numbers_of, total_of, turnover_fits}
use Rattle.entry_balance.specs.Values.{Value, absolute, cost_values, trimmed, value_of}
use Rattle.entry_balance.proofs.Covers.{Covers, IsPart, at_most-append, covered-fits, covers_both, covers_left, covers_none, covers_right, part_within}
use Rattle.entry_balance.proofs.Named.{both_true}
use Rattle.entry_balance.proofs.Turnover.{AllAtMost, alike, at_most-left, at_most-right, exact-abs, fits-from_each, magnitude, magnitude-append, magnitude-more, numbers-append, numbers-here, places_within, sum_places-all, total_within}
use Rattle.balancing.specs.Solves.{HasFew, HaveFew, values_before, values_of}
use Rattle.balancing.proofs.Adding.{sum-small}
use Rattle.balancing.proofs.Fewest.{fewest, same_at, trimmed_value}
use Rattle.balancing.proofs.SolvingBook.{text_names}
use Rattle.balancing.proofs.SolvingUnits.{sum_at}
use Rattle.entry_check.specs.Checked.{Told, asked_fit, wanted_fits}
use Rattle.placed_checks.proofs.Elsewhere.{Entry, counted}
use Rattle.placed_checks.proofs.Own.{IsOnDay, place_at}
use Rattle.placed_checks.proofs.Through.{before_it, firsts, lasts}

-- ---- a number in the place of a sum

-- what has no greater magnitudes at the decimals of others stays in range where those do
within_at : (xs ys : List Decimal) → AllAtMost (fold plus no_sum ys).places xs → magnitude (fold plus no_sum ys).places xs ≤ magnitude (fold plus no_sum ys).places ys → is_within (fold plus no_sum (map absolute ys)) ≡ true → is_within (fold plus no_sum (map absolute xs)) ≡ true
within_at xs ys few less h =
    let p = (fold plus no_sum xs).places in
    let q = (fold plus no_sum ys).places in
    let small = (Decides-ltb _ _).0 h in
    (Decides-ltb _ _).1 (omega (arith, ap unsigned_abs (exact-abs xs), ap unsigned_abs (exact-abs ys), small, less, magnitude-more p q xs (places_within no_sum q xs (omega arith) few)))

worth_within : (xs ys : List Decimal) (d : Decimal) → d.places ≤ (fold plus no_sum xs).places → ((q : ℕ) → (fold plus no_sum xs).places ≤ q → mantissa_at d q ≡ mantissa_at (fold plus no_sum xs) q) →
    is_within (fold plus no_sum (map absolute (xs ++ ys))) ≡ true → is_within (fold plus no_sum (map absolute (d ∷ ys))) ≡ true
worth_within xs ys d few same h =
    let total = fold plus no_sum xs in
    let q = (fold plus no_sum (xs ++ ys)).places in
    let all : AllAtMost q (xs ++ ys) = sum_places-all no_sum (xs ++ ys) in
    let most : total.places ≤ q = places_within no_sum q xs (omega arith) (at_most-left q xs ys all) in
    let worth : unsigned_abs (mantissa_at d q) ≡ unsigned_abs (mantissa_at total q) = ap unsigned_abs (same q most) in
    let of_total = sum-small xs q most in
    within_at (d ∷ ys) (xs ++ ys) (omega (arith, few, most), at_most-right q xs ys all) (omega (arith, worth, of_total, magnitude-append q xs ys)) h

-- a number that is worth a sum, with no more decimals
pub worth_fits : (s : List ℕ) (vs ms : List Value) (d : Decimal) → d.places ≤ (total_of s vs).places → ((q : ℕ) → (total_of s vs).places ≤ q → mantissa_at d q ≡ mantissa_at (total_of s vs) q) → turnover_fits (vs ++ ms) ≡ true → turnover_fits ((s, d) ∷ ms) ≡ true
worth_fits s vs ms d few same fits = fits-from_each ((s, d) ∷ ms) each
  where
    own : is_within (fold plus no_sum (map absolute (numbers_of s ((s, d) ∷ ms)))) ≡ true
    own =
        ap (λ (ds : List Decimal). is_within (fold plus no_sum (map absolute ds))) (numbers-here s d ms)
        ∙ worth_within (numbers_of s vs) (numbers_of s ms) d few same
        (ap (λ (ds : List Decimal). is_within (fold plus no_sum (map absolute ds))) (sym (numbers-append s vs ms)) ∙ total_within s (vs ++ ms) fits)

    other : (k : List ℕ) → bytes_eq s k ≡ false → is_within (fold plus no_sum (map absolute (numbers_of k ((s, d) ∷ ms)))) ≡ true
    other k apart =
        ap (λ (b : Bool). is_within (fold plus no_sum (map absolute (map (λ (v : Value). v.1) (cond b ((s, d) ∷ filter (λ (v : Value). bytes_eq v.0 k) ms) (filter (λ (v : Value). bytes_eq v.0 k) ms)))))) apart
        ∙ part_within (numbers_of k ms) (numbers_of k (vs ++ ms)) ((covers_right vs ms).each k) (total_within k (vs ++ ms) fits)

    each : (k : List ℕ) → is_within (fold plus no_sum (map absolute (numbers_of k ((s, d) ∷ ms)))) ≡ true
    each k = elim (alike s k) [
      | inl is ↦ subst (λ (k : List ℕ). is_within (fold plus no_sum (map absolute (numbers_of k ((s, d) ∷ ms)))) ≡ true) is own
      | inr apart ↦ other k apart
    ]

-- ---- what a book moves covers what some of its entries are worth

covers_one : (p : Posting) (o : Option Amount) → Covers (from_amount (λ a. value_of a ∷ cost_values a p.cost) o) (from_amount (λ a. value_of a ∷ []) o)
covers_one p None = covers_none []
covers_one p (Some a) = covers_left (value_of a ∷ []) (cost_values a p.cost)

abbrev names : List Entry → List Posting
names es = map (λ (e : Entry). e.1) es

covers_some : (test : Entry → Bool) (es : List Entry) → Covers (moved (names es)) (values_of (names (filter test es)))
covers_some test [] = covers_none []
covers_some test (e ∷ es) =
    let rest = covers_some test es in
    elim (test e) as (λ b. Covers (moved_by e.1 ++ moved (names es)) (values_of (names (cond b (e ∷ filter test es) (filter test es))))) [
      | true ↦ covers_both (from_amount (λ a. value_of a ∷ []) e.1.amount) (moved_by e.1) (values_of (names (filter test es))) (moved (names es)) (covers_one e.1 e.1.amount) rest
      | false ↦ covers_both [] (moved_by e.1) (values_of (names (filter test es))) (moved (names es)) (covers_none (moved_by e.1)) rest
    ]

part_swap : (a b c x y : List Decimal) → IsPart x a → IsPart y c → IsPart ((x ++ y) ++ b) (a ++ (b ++ c))
part_swap a b c x y h k = record {
  less = λ q. omega (arith, magnitude-append q (x ++ y) b, magnitude-append q x y, magnitude-append q a (b ++ c), magnitude-append q b c, h.less q, k.less q);
  few = λ q all.
      let rest = at_most-right q a (b ++ c) all in
      at_most-append q (x ++ y) b (at_most-append q x y (h.few q (at_most-left q a (b ++ c) all)) (k.few q (at_most-right q b c rest))) (at_most-left q b c rest);
}

covers_swap : (A B C X Y : List Value) → Covers A X → Covers C Y → Covers (A ++ (B ++ C)) ((X ++ Y) ++ B)
covers_swap A B C X Y h k = record {
  each = λ s.
      let left : numbers_of s ((X ++ Y) ++ B) ≡ (numbers_of s X ++ numbers_of s Y) ++ numbers_of s B = numbers-append s (X ++ Y) B ∙ ap (λ (ds : List Decimal). ds ++ numbers_of s B) (numbers-append s X Y) in
      let right : numbers_of s (A ++ (B ++ C)) ≡ numbers_of s A ++ (numbers_of s B ++ numbers_of s C) = numbers-append s A (B ++ C) ∙ ap (λ (ds : List Decimal). numbers_of s A ++ ds) (numbers-append s B C) in
      subst (λ (ds : List Decimal). IsPart ds (numbers_of s (A ++ (B ++ C)))) (sym left)
      (subst (λ (ds : List Decimal). IsPart ((numbers_of s X ++ numbers_of s Y) ++ numbers_of s B) ds) (sym right)
      (part_swap (numbers_of s A) (numbers_of s B) (numbers_of s C) (numbers_of s X) (numbers_of s Y) (h.each s) (k.each s)));
}

-- ---- the decimals of a sum at a place

each_few : (symbol : List ℕ) (ps : List Posting) → AllByRecursion (λ p. HasFew p.amount) ps → AllAtMost 36 (numbers_of symbol (values_of ps))
each_few symbol [] h = tt
each_few symbol (p ∷ ps) h = by p.amount h.0 (each_few symbol ps h.1)
  where
    by : (o : Option Amount) → HasFew o → AllAtMost 36 (numbers_of symbol (values_of ps)) → AllAtMost 36 (numbers_of symbol (from_amount (λ a. value_of a ∷ []) o ++ values_of ps))
    by None k rest = rest
    by (Some a) k rest =
        elim (bytes_eq a.symbol symbol) as (λ b. AllAtMost 36 (map (λ (v : Value). v.1) (cond b (value_of a ∷ filter (λ (v : Value). bytes_eq v.0 symbol) (values_of ps)) (filter (λ (v : Value). bytes_eq v.0 symbol) (values_of ps))))) [
          | true ↦ (k, rest)
          | false ↦ rest
        ]

those_of : (P : Posting → Type 0) (test : Entry → Bool) (es : List Entry) → AllByRecursion P (names es) → AllByRecursion P (names (filter test es))
those_of P test [] h = tt
those_of P test (e ∷ es) h =
    let rest = those_of P test es h.1 in
    elim (test e) as (λ b. AllByRecursion P (names (cond b (e ∷ filter test es) (filter test es)))) [ true ↦ (h.0, rest) | false ↦ rest ]

total_few : (book : List Txn) (account symbol : List ℕ) (below : Bool) (place : Place) → HaveFew book → (total_of symbol (values_before book account below place)).places ≤ 36
total_few book account symbol below place few =
    let P : Posting → Type 0 = λ p. HasFew p.amount in
    let all = those_of P (λ e. is_before e.0 place && is_of account below e.1.account) (placed_from 0 book) (subst (AllByRecursion P) (sym (text_names 0 book)) few) in
    places_within no_sum 36 (numbers_of symbol (values_before book account below place)) (omega arith) (each_few symbol (postings_before book account below place) all)

-- ---- in a book

module _ (book front back : List Txn) (t : Txn) (n : ℕ) (is : book ≡ front ++ t ∷ back) (long : length front ≡ n) (days : AllByRecursion (IsOnDay t) t.postings)
    (few : HaveFew book) (fits : turnover_fits (moved (postings_of book)) ≡ true) where
  -- what an account holds before a transaction, and all that this moves
  held_fits : (account : List ℕ) (below : Bool) → turnover_fits (values_before book account below (place_at t n 0) ++ moved t.postings) ≡ true
  held_fits account below =
      let A : List Value = moved (postings_of front) in
      let B : List Value = moved t.postings in
      let C : List Value = moved (postings_of back) in
      let first_ones : List Posting = firsts book front back t n is long days account below in
      let last_ones : List Posting = lasts book front back t n is long days account below in
      let all : moved (postings_of book) ≡ A ++ (B ++ C) =
      ap (λ (ts : List Txn). moved (postings_of ts)) is ∙ ap moved (flat_map-append (λ (u : Txn). u.postings) front (t ∷ back))
      ∙ flat_map-append moved_by (postings_of front) (t.postings ++ postings_of back) ∙ ap (λ (vs : List Value). A ++ vs) (flat_map-append moved_by t.postings (postings_of back)) in
      let those : values_before book account below (place_at t n 0) ≡ values_of first_ones ++ values_of last_ones =
      ap values_of (before_it book front back t n is long days account below)
      ∙ flat_map-append (λ (p : Posting). from_amount (λ a. value_of a ∷ []) p.amount) first_ones last_ones in
      let first : Covers A (values_of first_ones) = subst (λ (ps : List Posting). Covers (moved ps) (values_of first_ones)) (text_names 0 front) (covers_some (counted account below t.day.0 n 0) (placed_from 0 front)) in
      let last : Covers C (values_of last_ones) = subst (λ (ps : List Posting). Covers (moved ps) (values_of last_ones)) (text_names (suc n) back) (covers_some (counted account below t.day.0 n 0) (placed_from (suc n) back)) in
      ap (λ (vs : List Value). turnover_fits (vs ++ B)) those
      ∙ covered-fits (A ++ (B ++ C)) ((values_of first_ones ++ values_of last_ones) ++ B) (covers_swap A B C (values_of first_ones) (values_of last_ones) first last) (ap turnover_fits (sym all) ∙ fits)

  told_fits : (account symbol : List ℕ) (below : Bool) (z : ℤ) → z ≡ sum_before book account symbol below (place_at t n 0) → turnover_fits ((symbol, trimmed z 36) ∷ moved t.postings) ≡ true
  told_fits account symbol below z is_sum =
      let held : List Value = values_before book account below (place_at t n 0) in
      let total : Decimal = total_of symbol held in
      let few_total : total.places ≤ 36 = total_few book account symbol below (place_at t n 0) few in
      let value : units_of total ≡ z = sum_at book few account below (place_at t n 0) symbol ∙ sym is_sum in
      ap (λ (u : ℤ). turnover_fits ((symbol, trimmed u 36) ∷ moved t.postings)) (sym value)
      ∙ worth_fits symbol held (moved t.postings) (trimmed (units_of total) 36) (fewest total few_total) (same_at (trimmed (units_of total) 36) total (fewest total few_total) few_total (trimmed_value (units_of total))) (held_fits account below)

  module _ (told : Told) (sum : Bool → List ℕ → List ℕ → ℤ) (is_told : (below : Bool) (account symbol : List ℕ) → told below account symbol ≡ trimmed (sum below account symbol) 36)
      (right : (below : Bool) (account symbol : List ℕ) → sum below account symbol ≡ sum_before book account symbol below (place_at t n 0)) where
    one_fits : (account : List ℕ) (o : Option Assertion) → wanted_fits told account o t.postings ≡ true
    one_fits account None = refl
    one_fits account (Some w) =
        ap (λ (d : Decimal). turnover_fits ((w.amount.symbol, d) ∷ moved t.postings)) (is_told w.below account w.amount.symbol)
        ∙ told_fits account w.amount.symbol w.below (sum w.below account w.amount.symbol) (right w.below account w.amount.symbol)

    -- whatever postings ask for
    pub all_fit : (asking : List Posting) → asked_fit told t.postings asking ≡ true
    all_fit [] = refl
    all_fit (p ∷ ps) = both_true (wanted_fits told p.account p.wanted t.postings) (asked_fit told t.postings ps) (one_fits p.account p.wanted) (all_fit ps)
