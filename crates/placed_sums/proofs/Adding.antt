-- Sums that are made of further parts, and why they are in range.
use Rattle.std.proofs.Common.{◌≡◌, ℕ, ℤ, pos, ◌+◌, ◌-◌, ◌*◌, ◌^◌, ◌<◌, ◌≤◌, ◌+ℤ◌, ◌*ℤ◌, max, unsigned_abs, Bool, true, false, cond, List, [], ◌∷◌, ◌++◌, length, get_or, take, drop, map, filter, slice_get, Option, Some, None, refl, sym, ap, subst, ◌∙◌, arith}
use Rattle.std.specs.List.{flat_map}
use Rattle.std.specs.Str.{bytes_eq}
use Rattle.std.proofs.lemmas.Grind.{flat_map-append}
use Rattle.std.proofs.lemmas.Int.{ints}
use Rattle.std.proofs.lemmas.List.{append-nil, get_or-map, get_or_default, length-map, take-append-drop, take_all, take_more}
use Rattle.std.proofs.lemmas.List.Elements.{filter-append}
use Rattle.hl_num.specs.Decimal.{Decimal, add_fits, units_of}
use Rattle.book.specs.Bounds.{TurnoverFits, places_in, places_of, turnover}
use Rattle.book.specs.Sums.{share, sum_of}
use Rattle.book.specs.Postings.{postings_of}
use Rattle.book.specs.declared.amount.Amount.{Amount}
use Rattle.book.specs.declared.transaction.Posting.{Posting}
use Rattle.book.specs.declared.transaction.Txn.{Txn}
use Rattle.live_index.proofs.InRange.{add_fits-within}
use Rattle.placed_sums.specs.Days.{numbers_in}
use Rattle.placed_sums.specs.Own.{IsSumIn, is_posted, own_at, own_postings, own_under}
use Rattle.placed_sums.specs.declared.on_day.OnDay.{OnDay}
use Rattle.placed_sums.proofs.Bounding.{places_both, sum_within, turn_both, turn_part, txn_in}
use Rattle.placed_sums.proofs.Telling.{sum_both}

no_units : (n : ℕ) → pos 0 *ℤ pos n ≡ pos 0
no_units n = let e : 0 * n ≡ 0 = omega arith in ap pos e

-- nothing is summed yet
pub none_in : (ps : List Posting) (symbol : List ℕ) (d : Decimal) → d ≡ record { mantissa = pos 0; places = 0 } → IsSumIn ps symbol (pos 0) d
none_in ps symbol d is = record {
  value = ap units_of is ∙ no_units (10 ^ 36);
  places = subst (λ (n : ℕ). n ≤ places_of symbol ps) (sym (ap (λ (d : Decimal). d.places) is)) (omega arith);
}

-- a further part, where the parts so far, this one and both are sums of postings that move no more than all
module _ (all so_far part : List Posting) (symbol : List ℕ) (a b : Decimal) where
  pub can_add : TurnoverFits all → turnover symbol (so_far ++ part) ≤ turnover symbol all → IsSumIn all symbol (sum_of symbol so_far) a → IsSumIn all symbol (sum_of symbol part) b → a.places ≤ 36 → b.places ≤ 36 → add_fits a b ≡ true
  can_add fits within of_a of_b few_a few_b =
      let turns = turn_both symbol so_far part in
      let both : units_of a +ℤ units_of b ≡ sum_of symbol (so_far ++ part) = (λ i. of_a.value i +ℤ of_b.value i) ∙ sym (sum_both symbol so_far part) in
      add_fits-within a b (places_of symbol all) (turnover symbol all) few_a few_b of_a.places of_b.places
      (rw of_a.value (omega (arith, within, turns, sum_within symbol so_far)))
      (rw of_b.value (omega (arith, within, turns, sum_within symbol part)))
      (rw both (omega (arith, within, sum_within symbol (so_far ++ part))))
      (fits symbol)

  pub added : (next : List Posting) (r : Decimal) → next ≡ so_far ++ part → IsSumIn all symbol (sum_of symbol so_far) a → IsSumIn all symbol (sum_of symbol part) b → units_of r ≡ units_of a +ℤ units_of b → r.places ≡ max a.places b.places → IsSumIn all symbol (sum_of symbol next) r
  added next r is of_a of_b value places = record {
    value = value ∙ (λ i. of_a.value i +ℤ of_b.value i) ∙ sym (sum_both symbol so_far part) ∙ sym (ap (sum_of symbol) is);
    places = omega (arith, places, of_a.places, of_b.places);
  }

-- ---- postings one by one

module _ (test : Posting → Bool) (symbol : List ℕ) where
  abbrev pub chosen : Posting → List Posting
  chosen p = filter test (p ∷ [])

  pub one_chosen : (p : Posting) (z : ℤ) → z ≡ cond (test p) (share symbol p.amount) (pos 0) → z ≡ sum_of symbol (chosen p)
  one_chosen p z is =
      is ∙ elim (test p) as (λ b. cond b (share symbol p.amount) (pos 0) ≡ sum_of symbol (cond b (p ∷ []) [])) [ true ↦ alone (share symbol p.amount) | false ↦ refl ]
    where
      alone : (x : ℤ) → x ≡ x +ℤ pos 0
      alone x = omega (arith, ints)

  -- the postings so far, and the next
  pub chosen_more : (ps : List Posting) (i : ℕ) (p : Posting) → i < length ps → p ≡ get_or ps i p → filter test (take (i + 1) ps) ≡ filter test (take i ps) ++ chosen p
  chosen_more ps i p less is =
      ap (filter test) (take_more ps i p less ∙ ap (λ (x : Posting). take i ps ++ x ∷ []) (sym is))
      ∙ filter-append test (take i ps) (p ∷ [])

  take_turn : (ps : List Posting) (i : ℕ) → turnover symbol (take i ps) ≤ turnover symbol ps
  take_turn ps i = omega (arith, turn_both symbol (take i ps) (drop i ps), ap (turnover symbol) (take-append-drop i ps))

  pub chosen_turn : (ps : List Posting) (i : ℕ) (p : Posting) → i < length ps → p ≡ get_or ps i p → turnover symbol (filter test (take i ps) ++ chosen p) ≤ turnover symbol ps
  chosen_turn ps i p less is =
      omega (arith, ap (turnover symbol) (chosen_more ps i p less is), turn_part symbol test (take (i + 1) ps), take_turn ps (i + 1))

  place_in : (ps : List Posting) (i : ℕ) → i < length ps → (p : Posting) → p ≡ get_or ps i p → places_in symbol p.amount ≤ places_of symbol ps
  place_in ps i less p is =
      let first = take_more ps i p less ∙ ap (λ (x : Posting). take i ps ++ x ∷ []) (sym is) in
      omega (arith, ap (places_of symbol) first, places_both symbol (take i ps) (p ∷ []), ap (places_of symbol) (take-append-drop (i + 1) ps), places_both symbol (take (i + 1) ps) (drop (i + 1) ps))

  pub part_in : (ps : List Posting) (i : ℕ) (p : Posting) (d : Decimal) → i < length ps → p ≡ get_or ps i p → units_of d ≡ cond (test p) (share symbol p.amount) (pos 0) → d.places ≤ places_in symbol p.amount → IsSumIn ps symbol (sum_of symbol (chosen p)) d
  part_in ps i p d less is value few = record {
    value = one_chosen p (units_of d) value;
    places = omega (arith, few, place_in ps i less p is);
  }

-- ---- transactions one by one

module _ (f : ℕ → List Posting) (symbol : List ℕ) where
  number_at : (places : List OnDay) (i : ℕ) (on : OnDay) → i < length places → on ≡ get_or places i on → take (i + 1) (numbers_in places) ≡ take i (numbers_in places) ++ on.number ∷ []
  number_at places i on less is =
      let long : i < length (numbers_in places) = omega (arith, length-map places (λ (p : OnDay). p.number), less) in
      take_more (numbers_in places) i on.number long
      ∙ ap (λ (n : ℕ). take i (numbers_in places) ++ n ∷ []) (get_or-map (λ (p : OnDay). p.number) places i on on.number less ∙ ap (λ (p : OnDay). p.number) (sym is))

  pub under_more : (places : List OnDay) (i : ℕ) (on : OnDay) → i < length places → on ≡ get_or places i on → flat_map f (take (i + 1) (numbers_in places)) ≡ flat_map f (take i (numbers_in places)) ++ f on.number
  under_more places i on less is =
      ap (flat_map f) (number_at places i on less is)
      ∙ flat_map-append f (take i (numbers_in places)) (on.number ∷ [])
      ∙ ap (λ (ps : List Posting). flat_map f (take i (numbers_in places)) ++ ps) (append-nil (f on.number))

  under_turn : (ks : List ℕ) (i : ℕ) → turnover symbol (flat_map f (take i ks)) ≤ turnover symbol (flat_map f ks)
  under_turn ks i =
      omega (arith, turn_both symbol (flat_map f (take i ks)) (flat_map f (drop i ks)), ap (turnover symbol) (flat_map-append f (take i ks) (drop i ks)), ap (λ (xs : List ℕ). turnover symbol (flat_map f xs)) (take-append-drop i ks))

  pub under_bounded : (places : List OnDay) (i m : ℕ) (on : OnDay) → i < length places → on ≡ get_or places i on → turnover symbol (flat_map f (numbers_in places)) ≤ m → turnover symbol (flat_map f (take i (numbers_in places)) ++ f on.number) ≤ m
  under_bounded places i m on less is most =
      omega (arith, ap (turnover symbol) (under_more places i on less is), under_turn (numbers_in places) (i + 1), most)

-- ---- the loops

module _ (account symbol : List ℕ) (below : Bool) (day : ℕ) (t : Txn) where
  abbrev test : Posting → Bool
  test = is_posted account below day t

  -- the sum of the first postings
  abbrev pub IsSumTo : ℕ → Decimal → Type 0
  IsSumTo i d = IsSumIn t.postings symbol (sum_of symbol (filter (is_posted account below day t) (take i t.postings))) d

  pub can_add_posting : (i : ℕ) (p : Posting) (a b : Decimal) → i < length t.postings → p ≡ get_or t.postings i p → TurnoverFits t.postings → IsSumTo i a → units_of b ≡ cond (is_posted account below day t p) (share symbol p.amount) (pos 0) → b.places ≤ places_in symbol p.amount → a.places ≤ 36 → b.places ≤ 36 → add_fits a b ≡ true
  can_add_posting i p a b less is fits of_a value few few_a few_b =
      can_add t.postings (filter test (take i t.postings)) (chosen test symbol p) symbol a b fits (chosen_turn test symbol t.postings i p less is) of_a (part_in test symbol t.postings i p b less is value few) few_a few_b

  pub posting_added : (i : ℕ) (p : Posting) (a b r : Decimal) → i < length t.postings → p ≡ get_or t.postings i p → IsSumTo i a → units_of b ≡ cond (is_posted account below day t p) (share symbol p.amount) (pos 0) → b.places ≤ places_in symbol p.amount → units_of r ≡ units_of a +ℤ units_of b → r.places ≡ max a.places b.places → IsSumTo (i + 1) r
  posting_added i p a b r less is of_a value few sum places =
      added t.postings (filter test (take i t.postings)) (chosen test symbol p) symbol a b (filter test (take (i + 1) t.postings)) r (chosen_more test symbol t.postings i p less is) of_a (part_in test symbol t.postings i p b less is value few) sum places

  pub postings_done : (i : ℕ) (a : Decimal) → length t.postings ≤ i → IsSumTo i a → IsSumIn t.postings symbol (sum_of symbol (own_postings account below day t)) a
  postings_done i a all h = subst (λ (ps : List Posting). IsSumIn t.postings symbol (sum_of symbol (filter (is_posted account below day t) ps)) a) (take_all i t.postings all) h

module _ (book : List Txn) (account symbol : List ℕ) (below : Bool) (day : ℕ) (places : List OnDay) where
  abbrev under : ℕ → List Posting
  under n = own_at account below day (slice_get book n)

  -- the sum of the first transactions
  abbrev pub IsSumThrough : ℕ → Decimal → Type 0
  IsSumThrough i d = IsSumIn (postings_of book) symbol (sum_of symbol (own_under book account below day (take i (numbers_in places)))) d

  -- the sum of one
  abbrev pub IsSumUnder : ℕ → Decimal → Type 0
  IsSumUnder n d = IsSumIn (postings_of book) symbol (sum_of symbol (own_at account below day (slice_get book n))) d

  pub can_add_number : (i : ℕ) (other : OnDay) (a b : Decimal) → i < length places → TurnoverFits (postings_of book) → turnover symbol (own_under book account below day (numbers_in places)) ≤ turnover symbol (postings_of book) → IsSumThrough i a → IsSumUnder (get_or places i other).number b → a.places ≤ 36 → b.places ≤ 36 → add_fits a b ≡ true
  can_add_number i other a b less fits most of_a of_b few_a few_b =
      let on = get_or places i other in
      let is : on ≡ get_or places i on = get_or_default places i other on less in
      can_add (postings_of book) (flat_map under (take i (numbers_in places))) (under on.number) symbol a b fits (under_bounded under symbol places i (turnover symbol (postings_of book)) on less is most) of_a of_b few_a few_b

  pub number_added : (i : ℕ) (other : OnDay) (a b r : Decimal) → i < length places → IsSumThrough i a → IsSumUnder (get_or places i other).number b → units_of r ≡ units_of a +ℤ units_of b → r.places ≡ max a.places b.places → IsSumThrough (i + 1) r
  number_added i other a b r less of_a of_b sum few =
      let on = get_or places i other in
      let is : on ≡ get_or places i on = get_or_default places i other on less in
      added (postings_of book) (flat_map under (take i (numbers_in places))) (under on.number) symbol a b (flat_map under (take (i + 1) (numbers_in places))) r (under_more under symbol places i on less is) of_a of_b sum few

  pub numbers_done : (i : ℕ) (a : Decimal) → length places ≤ i → IsSumThrough i a → IsSumIn (postings_of book) symbol (sum_of symbol (own_under book account below day (numbers_in places))) a
  numbers_done i a all h =
      let long : length (numbers_in places) ≤ i = omega (arith, length-map places (λ (on : OnDay). on.number), all) in
      subst (λ (ns : List ℕ). IsSumIn (postings_of book) symbol (sum_of symbol (own_under book account below day ns)) a) (take_all i (numbers_in places) long) h

-- ---- one transaction and one amount

-- what one of a book's transactions has is told of the book
pub told_of_book : (book : List Txn) (account symbol : List ℕ) (below : Bool) (day k : ℕ) (t : Txn) (d : Decimal) → slice_get book k ≡ Some t → IsSumIn t.postings symbol (sum_of symbol (own_postings account below day t)) d → IsSumIn (postings_of book) symbol (sum_of symbol (own_at account below day (slice_get book k))) d
told_of_book book account symbol below day k t d is h = record {
  value = h.value ∙ sym (ap (λ (o : Option Txn). sum_of symbol (own_at account below day o)) is);
  places = omega (arith, h.places, (txn_in symbol book k t is).places);
}

pub none_of_book : (book : List Txn) (account symbol : List ℕ) (below : Bool) (day k : ℕ) (d : Decimal) → slice_get book k ≡ None → d ≡ record { mantissa = pos 0; places = 0 } → IsSumIn (postings_of book) symbol (sum_of symbol (own_at account below day (slice_get book k))) d
none_of_book book account symbol below day k d is zero =
    let none = none_in (postings_of book) symbol d zero in
    record {
      value = none.value ∙ sym (ap (λ (o : Option Txn). sum_of symbol (own_at account below day o)) is);
      places = none.places;
    }

-- nothing
pub no_value : (d : Decimal) → d ≡ record { mantissa = pos 0; places = 0 } → units_of d ≡ pos 0
no_value d is = ap units_of is ∙ no_units (10 ^ 36)

pub no_places : (d : Decimal) (n : ℕ) → d ≡ record { mantissa = pos 0; places = 0 } → d.places ≤ n
no_places d n is = subst (λ (k : ℕ). k ≤ n) (sym (ap (λ (d : Decimal). d.places) is)) (omega arith)

-- an amount in its own symbol, and in another one
pub own_value : (a : Amount) (symbol : List ℕ) → bytes_eq a.symbol symbol ≡ true → units_of a.value ≡ share symbol (Some a)
own_value a symbol h = sym (ap (λ (b : Bool). cond b (units_of a.value) (pos 0)) h)

pub own_places : (a : Amount) (symbol : List ℕ) → bytes_eq a.symbol symbol ≡ true → a.value.places ≤ places_in symbol (Some a)
own_places a symbol h = subst (λ (n : ℕ). a.value.places ≤ n) (sym (ap (λ (b : Bool). cond b a.value.places 0) h)) (omega arith)

pub other_value : (a : Amount) (symbol : List ℕ) (d : Decimal) → bytes_eq a.symbol symbol ≡ false → d ≡ record { mantissa = pos 0; places = 0 } → units_of d ≡ share symbol (Some a)
other_value a symbol d h is = no_value d is ∙ sym (ap (λ (b : Bool). cond b (units_of a.value) (pos 0)) h)

-- a posting that counts, and one that doesn't
pub counted_value : (b : Bool) (z x : ℤ) → b ≡ true → x ≡ z → x ≡ cond b z (pos 0)
counted_value b z x h is = is ∙ sym (ap (λ (t : Bool). cond t z (pos 0)) h)

pub uncounted_value : (b : Bool) (z : ℤ) (d : Decimal) → b ≡ false → d ≡ record { mantissa = pos 0; places = 0 } → units_of d ≡ cond b z (pos 0)
uncounted_value b z d h is = no_value d is ∙ sym (ap (λ (t : Bool). cond t z (pos 0)) h)
