-- What accounts hold at the places of a transaction in a book: what they held before it, and its own earlier postings.
use Rattle.std.proofs.Common.{◌≡◌, ℕ, ℤ, suc, ◌+◌, ◌+ℤ◌, Bool, List, [], ◌∷◌, ◌++◌, length, map, filter, refl, sym, ap, ◌∙◌, arith}
use Rattle.std.specs.List.{AllByRecursion}
use Rattle.std.proofs.lemmas.Int.{ints}
use Rattle.std.proofs.lemmas.List.{map-append}
use Rattle.std.proofs.lemmas.List.Elements.{filter-append}
use Rattle.book.specs.Sums.{sum_of}
use Rattle.book.specs.SumsBefore.{is_of, placed_in, placed_from, postings_before, sum_before}
use Rattle.book.specs.declared.transaction.Posting.{Posting}
use Rattle.book.specs.declared.transaction.Txn.{Txn}
use Rattle.placed_checks.proofs.Elsewhere.{Entry, counted, placed_both, same_back, same_front}
use Rattle.placed_checks.proofs.Held.{sum_both}
use Rattle.placed_checks.proofs.Own.{IsOnDay, early, own, place_at}

turned : (x y z : ℤ) → x +ℤ (y +ℤ z) ≡ (x +ℤ z) +ℤ y
turned x y z = omega (arith, ints)

module _ (book front back : List Txn) (t : Txn) (n : ℕ) (is : book ≡ front ++ t ∷ back) (long : length front ≡ n) (days : AllByRecursion (IsOnDay t) t.postings) where
  abbrev first_ones : List Entry
  first_ones = placed_from 0 front

  abbrev own_ones : List Entry
  own_ones = placed_in t n 0 t.postings

  abbrev last_ones : List Entry
  last_ones = placed_from (suc n) back

  whole : placed_from 0 book ≡ first_ones ++ (own_ones ++ last_ones)
  whole =
      let number : 0 + length front ≡ n = omega (arith, long) in
      ap (placed_from 0) is ∙ placed_both 0 front (t ∷ back) ∙ (λ i. first_ones ++ placed_from (number i) (t ∷ back))

  module _ (account : List ℕ) (below : Bool) where
    abbrev at : ℕ → Entry → Bool
    at = counted account below t.day.0 n

    abbrev of_it : Posting → Bool
    of_it p = is_of account below p.account

    -- those of other transactions before it
    abbrev pub firsts : List Posting
    firsts = map (λ (e : Entry). e.1) (filter (at 0) first_ones)

    abbrev pub lasts : List Posting
    lasts = map (λ (e : Entry). e.1) (filter (at 0) last_ones)

    before_at : (m : ℕ) (xs ys : List Posting) → t.postings ≡ xs ++ ys → length xs ≡ m → postings_before book account below (place_at t n m) ≡ firsts ++ (filter of_it (early t xs) ++ lasts)
    before_at m xs ys split count =
        let front_same = same_front account below t.day.0 n m 0 0 front (omega (arith, long)) in
        let back_same = same_back account below t.day.0 n m 0 (suc n) back (omega arith) in
        let its_own = own t n account below m xs ys split count days in
        ap (λ (es : List Entry). map (λ (e : Entry). e.1) (filter (at m) es)) whole
        ∙ ap (map (λ (e : Entry). e.1)) (filter-append (at m) first_ones (own_ones ++ last_ones))
        ∙ ap (λ (es : List Entry). map (λ (e : Entry). e.1) (filter (at m) first_ones ++ es)) (filter-append (at m) own_ones last_ones)
        ∙ map-append (λ (e : Entry). e.1) (filter (at m) first_ones) (filter (at m) own_ones ++ filter (at m) last_ones)
        ∙ ap (λ (ps : List Posting). map (λ (e : Entry). e.1) (filter (at m) first_ones) ++ ps) (map-append (λ (e : Entry). e.1) (filter (at m) own_ones) (filter (at m) last_ones))
        ∙ (λ i. map (λ (e : Entry). e.1) (front_same i) ++ (its_own i ++ map (λ (e : Entry). e.1) (back_same i)))

    pub before_it : postings_before book account below (place_at t n 0) ≡ firsts ++ lasts
    before_it = before_at 0 [] t.postings refl refl

    -- the sum before a place is that before all its postings, and that of its own before the place
    pub sum_through : (symbol : List ℕ) (m : ℕ) (xs ys : List Posting) → t.postings ≡ xs ++ ys → length xs ≡ m →
        sum_before book account symbol below (place_at t n m) ≡ sum_before book account symbol below (place_at t n 0) +ℤ sum_of symbol (filter of_it (early t xs))
    sum_through symbol m xs ys split count =
        let mine : List Posting = filter of_it (early t xs) in
        ap (sum_of symbol) (before_at m xs ys split count)
        ∙ sum_both symbol firsts (mine ++ lasts)
        ∙ ap (λ (z : ℤ). sum_of symbol firsts +ℤ z) (sum_both symbol mine lasts)
        ∙ turned (sum_of symbol firsts) (sum_of symbol mine) (sum_of symbol lasts)
        ∙ ap (λ (z : ℤ). z +ℤ sum_of symbol mine) (sym (ap (sum_of symbol) before_it ∙ sum_both symbol firsts lasts))
