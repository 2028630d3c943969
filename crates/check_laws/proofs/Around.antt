-- The postings of a book up to the group of a transaction whose postings are all of its day.
use Rattle.std.proofs.Common.{◌≡◌, ℕ, suc, ◌+◌, ◌<◌, ◌≤◌, Bool, true, false, ◌&&◌, eqb, List, [], ◌∷◌, ◌++◌, length, map, filter, refl, ap, ◌∙◌, arith}
use Rattle.std.specs.List.{AllByRecursion}
use Rattle.std.proofs.lemmas.Bool.Decides.{nat_tests}
use Rattle.std.proofs.lemmas.List.{append-nil}
use Rattle.std.proofs.lemmas.List.Elements.{filter-append}
use Rattle.book.specs.SumsBefore.{placed_from, placed_in}
use Rattle.book.specs.declared.transaction.Posting.{Posting}
use Rattle.book.specs.declared.transaction.Txn.{Txn}
use Rattle.balancing.specs.Faults.{after_group, placed_of, placed_through}
use Rattle.balancing.specs.Groups.{Group}
use Rattle.balancing.proofs.FaultingPlaces.{is_in_group, is_through}
use Rattle.balancing.proofs.SolvingPlaces.{earlier_txn}
use Rattle.balancing.proofs.SolvingRising.{all_append, all_kept, none_kept}
use Rattle.placed_checks.proofs.Elsewhere.{Entry, placed_both}
use Rattle.placed_checks.proofs.Own.{IsOnDay, entry_at}

pub placed_names : (t : Txn) (n k : ℕ) (ps : List Posting) → map (λ (e : Entry). e.1) (placed_in t n k ps) ≡ ps
placed_names t n k [] = refl
placed_names t n k (p ∷ ps) = ap (λ (qs : List Posting). p ∷ qs) (placed_names t n (suc k) ps)

-- ---- places in the group

same_both : (a b c d : ℕ) → a ≡ c → b ≡ d → (eqb a c && eqb b d) ≡ true
same_both a b c d h k = grind (arith, nat_tests)

lower_not : (a b c d : ℕ) → b < d → (eqb a c && eqb b d) ≡ false
lower_not a b c d h = grind (arith, nat_tests)

higher_not : (a b c d : ℕ) → d < b → (eqb a c && eqb b d) ≡ false
higher_not a b c d h = grind (arith, nat_tests)

module _ (t : Txn) (n : ℕ) where
  abbrev pub own_group : Group
  own_group = (t.day.0, n)

  own_through : (k : ℕ) (ps : List Posting) → AllByRecursion (IsOnDay t) ps → AllByRecursion (λ e. is_through own_group e ≡ true) (placed_in t n k ps)
  own_through k [] days = tt
  own_through k (p ∷ ps) days = (earlier_txn (entry_at t n k p).0 (after_group own_group) days.0 (omega arith), own_through (suc k) ps days.1)

  own_in : (k : ℕ) (ps : List Posting) → AllByRecursion (IsOnDay t) ps → AllByRecursion (λ e. is_in_group own_group e ≡ true) (placed_in t n k ps)
  own_in k [] days = tt
  own_in k (p ∷ ps) days = (same_both (entry_at t n k p).0.day n t.day.0 n days.0 refl, own_in (suc k) ps days.1)

  others_low : (u : Txn) (m k : ℕ) (ps : List Posting) → m < n → AllByRecursion (λ e. is_in_group own_group e ≡ false) (placed_in u m k ps)
  others_low u m k [] h = tt
  others_low u m k (p ∷ ps) h = (lower_not (entry_at u m k p).0.day m t.day.0 n h, others_low u m (suc k) ps h)

  others_high : (u : Txn) (m k : ℕ) (ps : List Posting) → n < m → AllByRecursion (λ e. is_in_group own_group e ≡ false) (placed_in u m k ps)
  others_high u m k [] h = tt
  others_high u m k (p ∷ ps) h = (higher_not (entry_at u m k p).0.day m t.day.0 n h, others_high u m (suc k) ps h)

  front_out : (m : ℕ) (us : List Txn) → m + length us ≤ n → AllByRecursion (λ e. is_in_group own_group e ≡ false) (placed_from m us)
  front_out m [] h = tt
  front_out m (u ∷ us) h = all_append (λ e. is_in_group own_group e ≡ false) (placed_in u m 0 u.postings) (placed_from (suc m) us) (others_low u m 0 u.postings (omega (arith, h))) (front_out (suc m) us (omega (arith, h)))

  back_out : (m : ℕ) (us : List Txn) → n < m → AllByRecursion (λ e. is_in_group own_group e ≡ false) (placed_from m us)
  back_out m [] h = tt
  back_out m (u ∷ us) h = all_append (λ e. is_in_group own_group e ≡ false) (placed_in u m 0 u.postings) (placed_from (suc m) us) (others_high u m 0 u.postings h) (back_out (suc m) us (omega (arith, h)))

module _ (book front back : List Txn) (t : Txn) (n : ℕ) (is : book ≡ front ++ t ∷ back) (long : length front ≡ n) (days : AllByRecursion (IsOnDay t) t.postings) where
  abbrev pub first_ones : List Entry
  first_ones = placed_from 0 front

  abbrev pub own_ones : List Entry
  own_ones = placed_in t n 0 t.postings

  abbrev pub last_ones : List Entry
  last_ones = placed_from (suc n) back

  whole : placed_from 0 book ≡ first_ones ++ (own_ones ++ last_ones)
  whole =
      let number : 0 + length front ≡ n = omega (arith, long) in
      ap (placed_from 0) is ∙ placed_both 0 front (t ∷ back) ∙ (λ i. first_ones ++ placed_from (number i) (t ∷ back))

  in_parts : (p : Entry → Bool) → filter p (placed_from 0 book) ≡ filter p first_ones ++ (filter p own_ones ++ filter p last_ones)
  in_parts p =
      ap (filter p) whole ∙ filter-append p first_ones (own_ones ++ last_ones)
      ∙ ap (λ (es : List Entry). filter p first_ones ++ es) (filter-append p own_ones last_ones)

  -- those up to the group
  pub through_is : placed_through book (own_group t n) ≡ filter (is_through (own_group t n)) first_ones ++ (own_ones ++ filter (is_through (own_group t n)) last_ones)
  through_is =
      let p : Entry → Bool = is_through (own_group t n) in
      in_parts p ∙ ap (λ (es : List Entry). filter p first_ones ++ (es ++ filter p last_ones)) (all_kept p own_ones (own_through t n 0 t.postings days))

  -- those of the group are its own
  pub of_is : placed_of book (own_group t n) ≡ own_ones
  of_is =
      let p : Entry → Bool = is_in_group (own_group t n) in
      in_parts p
      ∙ (λ i. none_kept p first_ones (front_out t n 0 front (omega (arith, long))) i ++ (all_kept p own_ones (own_in t n 0 t.postings days) i ++ none_kept p last_ones (back_out t n (suc n) back (omega arith)) i))
      ∙ append-nil own_ones
