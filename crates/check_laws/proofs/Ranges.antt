-- What an account holds before a transaction, and what the transaction moves, stay in range where all that is moved up to its
-- group does.
use Rattle.std.proofs.Common.{◌≡◌, ℕ, ℤ, suc, ◌≤◌, Bool, true, false, ◌&&◌, cond, List, [], ◌∷◌, ◌++◌, length, map, filter, Option, Some, None, refl, sym, ap, subst, ◌∙◌, append_assoc, arith}
use Rattle.std.specs.List.{AllByRecursion}
use Rattle.std.specs.Str.{bytes_eq}
use Rattle.std.proofs.lemmas.Bool.{false≢true}
use Rattle.std.proofs.lemmas.Bool.Decides.{nat_tests}
use Rattle.std.proofs.lemmas.List.{map-append}
use Rattle.std.proofs.lemmas.Grind.{flat_map-append}
use Rattle.hl_num.specs.Decimal.{Decimal, units_of}
use Rattle.book.specs.SumsBefore.{Place, is_before, is_of, placed_from, postings_before, sum_before}
use Rattle.book.specs.declared.amount.Amount.{Amount}
use Rattle.book.specs.declared.amount.Assertion.{Assertion}
use Rattle.book.specs.declared.transaction.Posting.{Posting}
use Rattle.book.specs.declared.transaction.Txn.{Txn}
use Rattle.entry_balance.specs.Entry.{from_amount, moved, moved_by}
use Rattle.entry_balance.specs.Tally.{no_sum, numbers_of, total_of, turnover_fits}
use Rattle.entry_balance.specs.Values.{Value, cost_values, trimmed, value_of}
use Rattle.entry_balance.proofs.Covers.{Covers, covered-fits, covers_both, covers_left, covers_none, covers_same}
use Rattle.entry_balance.proofs.Named.{both_true, left_true}
use Rattle.entry_balance.proofs.Turnover.{AllAtMost, places_within}
use Rattle.balancing.specs.Faults.{fits_through, placed_through}
use Rattle.balancing.specs.Solves.{HasFew, HaveFew, values_before, values_of}
use Rattle.balancing.proofs.Fewest.{fewest, same_at, trimmed_value}
use Rattle.balancing.proofs.FaultingPlaces.{is_through}
use Rattle.balancing.proofs.SolvingBook.{text_names}
use Rattle.balancing.proofs.SolvingOrders.{Reorders, after_front, by_equal, joined, parts_swapped}
use Rattle.balancing.proofs.SolvingSums.{fits_same}
use Rattle.balancing.proofs.SolvingUnits.{sum_at}
use Rattle.entry_check.specs.Checked.{Told, asked_fit, wanted_fits}
use Rattle.placed_checks.proofs.Elsewhere.{Entry, counted}
use Rattle.placed_checks.proofs.Own.{IsOnDay, place_at}
use Rattle.placed_checks.proofs.Ranging.{worth_fits}
use Rattle.placed_checks.proofs.Through.{before_it, firsts, lasts}
use Rattle.check_laws.proofs.Around.{own_group, own_ones, placed_names, through_is}

abbrev names : List Entry → List Posting
names es = map (λ (e : Entry). e.1) es

-- ---- what some entries move covers the amounts of those that are chosen

covers_one : (p : Posting) (o : Option Amount) → Covers (from_amount (λ a. value_of a ∷ cost_values a p.cost) o) (from_amount (λ a. value_of a ∷ []) o)
covers_one p None = covers_none []
covers_one p (Some a) = covers_left (value_of a ∷ []) (cost_values a p.cost)

covers_some : (test : Entry → Bool) (es : List Entry) → Covers (moved (names es)) (values_of (names (filter test es)))
covers_some test [] = covers_none []
covers_some test (e ∷ es) =
    let rest = covers_some test es in
    elim (test e) as (λ b. Covers (moved_by e.1 ++ moved (names es)) (values_of (names (cond b (e ∷ filter test es) (filter test es))))) [
      | true ↦ covers_both (from_amount (λ a. value_of a ∷ []) e.1.amount) (moved_by e.1) (values_of (names (filter test es))) (moved (names es)) (covers_one e.1 e.1.amount) rest
      | false ↦ covers_both [] (moved_by e.1) (values_of (names (filter test es))) (moved (names es)) (covers_none (moved_by e.1)) rest
    ]

filter_within : (p q : Entry → Bool) → ((e : Entry) → q e ≡ true → p e ≡ true) → (es : List Entry) → filter q (filter p es) ≡ filter q es
filter_within p q f [] = refl
filter_within p q f (e ∷ es) =
    elim (p e) as (λ b. p e ≡ b → filter q (cond b (e ∷ filter p es) (filter p es)) ≡ cond (q e) (e ∷ filter q es) (filter q es)) [
      | true ↦ λ h. ap (λ (xs : List Entry). cond (q e) (e ∷ xs) xs) (filter_within p q f es)
      | false ↦ λ h. filter_within p q f es ∙ ap (λ (b : Bool). cond b (e ∷ filter q es) (filter q es)) (sym (is_false (q e) (λ k. false≢true (sym h ∙ f e k))))
    ] refl
  where
    is_false : (b : Bool) → (b ≡ true → ⊥) → b ≡ false
    is_false true h = absurd (h refl)
    is_false false h = refl

-- ---- the decimals of a sum at a place

each_few : (symbol : List ℕ) (ps : List Posting) → AllByRecursion (λ p. HasFew p.amount) ps → AllAtMost 36 (numbers_of symbol (values_of ps))
each_few symbol [] h = tt
each_few symbol (p ∷ ps) h = by p.amount h.0 (each_few symbol ps h.1)
  where
    by : (o : Option Amount) → HasFew o → AllAtMost 36 (numbers_of symbol (values_of ps)) → AllAtMost 36 (numbers_of symbol (from_amount (λ a. value_of a ∷ []) o ++ values_of ps))
    by None k rest = rest
    by (Some a) k rest =
        elim (bytes_eq a.symbol symbol) as (λ b. AllAtMost 36 (map (λ (v : Value). v.1) (cond b (value_of a ∷ filter (λ (v : Value). bytes_eq v.0 symbol) (values_of ps)) (filter (λ (v : Value). bytes_eq v.0 symbol) (values_of ps))))) [
          | true ↦ (k, rest)
          | false ↦ rest
        ]

those_of : (P : Posting → Type 0) (test : Entry → Bool) (es : List Entry) → AllByRecursion P (names es) → AllByRecursion P (names (filter test es))
those_of P test [] h = tt
those_of P test (e ∷ es) h =
    let rest = those_of P test es h.1 in
    elim (test e) as (λ b. AllByRecursion P (names (cond b (e ∷ filter test es) (filter test es)))) [ true ↦ (h.0, rest) | false ↦ rest ]

total_few : (book : List Txn) (account symbol : List ℕ) (below : Bool) (place : Place) → HaveFew book → (total_of symbol (values_before book account below place)).places ≤ 36
total_few book account symbol below place few =
    let P : Posting → Type 0 = λ p. HasFew p.amount in
    let all = those_of P (λ e. is_before e.0 place && is_of account below e.1.account) (placed_from 0 book) (subst (AllByRecursion P) (sym (text_names 0 book)) few) in
    places_within no_sum 36 (numbers_of symbol (values_before book account below place)) (omega arith) (each_few symbol (postings_before book account below place) all)

-- ---- in a book

before_end : (a : Place) (day n : ℕ) → is_before a (record { day = day; txn = n; posting = 0 }) ≡ true → is_before a (record { day = day; txn = suc n; posting = 0 }) ≡ true
before_end a day n h = grind (arith, nat_tests, h)

module _ (book front back : List Txn) (t : Txn) (n : ℕ) (is : book ≡ front ++ t ∷ back) (long : length front ≡ n) (days : AllByRecursion (IsOnDay t) t.postings)
    (few : HaveFew book) (fits : fits_through book (own_group t n) ≡ true) where
  abbrev those : List Entry → List Entry
  those es = filter (is_through (own_group t n)) es

  abbrev firsts_moved : List Value
  firsts_moved = moved (names (those (placed_from 0 front)))

  abbrev lasts_moved : List Value
  lasts_moved = moved (names (those (placed_from (suc n) back)))

  parts_moved : moved (names (placed_through book (own_group t n))) ≡ firsts_moved ++ (moved t.postings ++ lasts_moved)
  parts_moved =
      let A : List Entry = those (placed_from 0 front) in
      let O : List Entry = own_ones book front back t n is long days in
      let C : List Entry = those (placed_from (suc n) back) in
      ap (λ (es : List Entry). moved (names es)) (through_is book front back t n is long days)
      ∙ ap moved (map-append (λ (e : Entry). e.1) A (O ++ C) ∙ ap (λ (ps : List Posting). names A ++ ps) (map-append (λ (e : Entry). e.1) O C ∙ ap (λ (ps : List Posting). ps ++ names C) (placed_names t n 0 t.postings)))
      ∙ flat_map-append moved_by (names A) (t.postings ++ names C)
      ∙ ap (λ (vs : List Value). firsts_moved ++ vs) (flat_map-append moved_by t.postings (names C))

  all_fits : turnover_fits (firsts_moved ++ (moved t.postings ++ lasts_moved)) ≡ true
  all_fits = ap turnover_fits (sym parts_moved) ∙ fits

  -- its own amounts and costs
  pub own_fits : turnover_fits (moved t.postings) ≡ true
  own_fits =
      covered-fits (firsts_moved ++ (moved t.postings ++ lasts_moved)) ([] ++ moved t.postings)
      (covers_both [] firsts_moved (moved t.postings) (moved t.postings ++ lasts_moved) (covers_none firsts_moved) (covers_left (moved t.postings) lasts_moved)) all_fits

  counted_within : (account : List ℕ) (below : Bool) (e : Entry) → counted account below t.day.0 n 0 e ≡ true → is_through (own_group t n) e ≡ true
  counted_within account below e h = before_end e.0 t.day.0 n (left_true (is_before e.0 (place_at t n 0)) (is_of account below e.1.account) h)

  covers_counted : (account : List ℕ) (below : Bool) (es : List Entry) → Covers (moved (names (those es))) (values_of (names (filter (counted account below t.day.0 n 0) es)))
  covers_counted account below es =
      subst (λ (xs : List Entry). Covers (moved (names (those es))) (values_of (names xs)))
      (filter_within (is_through (own_group t n)) (counted account below t.day.0 n 0) (counted_within account below) es)
      (covers_some (counted account below t.day.0 n 0) (those es))

  -- what an account holds before it, and all that it moves
  held_fits : (account : List ℕ) (below : Bool) → turnover_fits (values_before book account below (place_at t n 0) ++ moved t.postings) ≡ true
  held_fits account below =
      let O : List Value = moved t.postings in
      let F : List Value = values_of (firsts book front back t n is long days account below) in
      let L : List Value = values_of (lasts book front back t n is long days account below) in
      let held : values_before book account below (place_at t n 0) ≡ F ++ L =
      ap values_of (before_it book front back t n is long days account below)
      ∙ flat_map-append (λ (p : Posting). from_amount (λ a. value_of a ∷ []) p.amount) (firsts book front back t n is long days account below) (lasts book front back t n is long days account below) in
      let covers : Covers (firsts_moved ++ (O ++ lasts_moved)) (F ++ (O ++ L)) =
      covers_both F firsts_moved (O ++ L) (O ++ lasts_moved) (covers_counted account below (placed_from 0 front))
      (covers_both O O L lasts_moved (covers_same O) (covers_counted account below (placed_from (suc n) back))) in
      let order : Reorders (F ++ (O ++ L)) ((F ++ L) ++ O) = joined (after_front F (parts_swapped O L)) (by_equal (sym (append_assoc F L O))) in
      ap (λ (vs : List Value). turnover_fits (vs ++ O)) held
      ∙ sym (fits_same order)
      ∙ covered-fits (firsts_moved ++ (O ++ lasts_moved)) (F ++ (O ++ L)) covers all_fits

  told_fits : (account symbol : List ℕ) (below : Bool) (z : ℤ) → z ≡ sum_before book account symbol below (place_at t n 0) → turnover_fits ((symbol, trimmed z 36) ∷ moved t.postings) ≡ true
  told_fits account symbol below z is_sum =
      let held : List Value = values_before book account below (place_at t n 0) in
      let total : Decimal = total_of symbol held in
      let few_total : total.places ≤ 36 = total_few book account symbol below (place_at t n 0) few in
      let value : units_of total ≡ z = sum_at book few account below (place_at t n 0) symbol ∙ sym is_sum in
      ap (λ (u : ℤ). turnover_fits ((symbol, trimmed u 36) ∷ moved t.postings)) (sym value)
      ∙ worth_fits symbol held (moved t.postings) (trimmed (units_of total) 36) (fewest total few_total) (same_at (trimmed (units_of total) 36) total (fewest total few_total) few_total (trimmed_value (units_of total))) (held_fits account below)

  module _ (told : Told) (sum : Bool → List ℕ → List ℕ → ℤ) (is_told : (below : Bool) (account symbol : List ℕ) → told below account symbol ≡ trimmed (sum below account symbol) 36)
      (right : (below : Bool) (account symbol : List ℕ) → sum below account symbol ≡ sum_before book account symbol below (place_at t n 0)) where
    one_fits : (account : List ℕ) (o : Option Assertion) → wanted_fits told account o t.postings ≡ true
    one_fits account None = refl
    one_fits account (Some w) =
        ap (λ (d : Decimal). turnover_fits ((w.amount.symbol, d) ∷ moved t.postings)) (is_told w.below account w.amount.symbol)
        ∙ told_fits account w.amount.symbol w.below (sum w.below account w.amount.symbol) (right w.below account w.amount.symbol)

    -- whatever postings ask for
    pub asked_fits : (asking : List Posting) → asked_fit told t.postings asking ≡ true
    asked_fits [] = refl
    asked_fits (p ∷ ps) = both_true (wanted_fits told p.account p.wanted t.postings) (asked_fit told t.postings ps) (one_fits p.account p.wanted) (asked_fits ps)
