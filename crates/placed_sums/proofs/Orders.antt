-- The order of places by day and number, and what is found by halves.
use Rattle.std.proofs.Common.{◌≡◌, ℕ, zero, suc, ◌+◌, ◌-◌, ◌<◌, ◌≤◌, Bool, true, false, ◌&&◌, ◌||◌, not, cond, eqb, ltb, leb, nat_lt, ◌==◌, List, [], ◌∷◌, ◌++◌, length, get_or, take, drop, filter, slice_get, Option, Some, None, ◌⊎◌, inl, inr, refl, sym, ap, subst, ◌∙◌, arith}
use Rattle.std.specs.List.{list_all, insert}
use Rattle.std.specs.Prelude.{slice_range}
use Rattle.std.proofs.lemmas.Bool.{cases_lt, false≢true}
use Rattle.std.proofs.lemmas.Bool.Decides.{nat_tests}
use Rattle.hl_time.specs.declared.day.Day.{Day}
use Rattle.placed_sums.specs.Days.{is_below, places_before, rise}
use Rattle.placed_sums.specs.Placing.{below_count, is_found, is_same, with_place}
use Rattle.placed_sums.specs.declared.on_day.OnDay.{OnDay}

-- ---- tests

pub left : (a b : Bool) → (a && b) ≡ true → a ≡ true
left true b h = refl
left false b h = absurd (false≢true h)

pub right : (a b : Bool) → (a && b) ≡ true → b ≡ true
right true b h = h
right false b h = absurd (false≢true h)

pub both : (a b : Bool) → a ≡ true → b ≡ true → (a && b) ≡ true
both true true h k = refl
both true false h k = k
both false b h k = h

-- two places, as numbers
abbrev below_at : ℕ → ℕ → ℕ → ℕ → Bool
below_at x m y n = ltb x y || (eqb x y && ltb m n)

abbrev pub IsBelow : OnDay → OnDay → Type 0
IsBelow a b = (a.day.0 < b.day.0) ⊎ ((a.day.0 ≡ b.day.0) × (a.number < b.number))

abbrev pub IsFrom : OnDay → OnDay → Type 0
IsFrom a b = (b.day.0 < a.day.0) ⊎ ((a.day.0 ≡ b.day.0) × (b.number ≤ a.number))

ltb_yes : (a b : ℕ) → a < b → ltb a b ≡ true
ltb_yes a b h = grind (arith, nat_tests)

ltb_no : (a b : ℕ) → b ≤ a → ltb a b ≡ false
ltb_no a b h = grind (arith, nat_tests)

ltb_from : (a b : ℕ) → ltb a b ≡ true → a < b
ltb_from a b h = grind (arith, nat_tests)

ltb_not : (a b : ℕ) → ltb a b ≡ false → b ≤ a
ltb_not a b h = grind (arith, nat_tests)

pub eqb_yes : (a b : ℕ) → a ≡ b → eqb a b ≡ true
eqb_yes a b h = grind (arith, nat_tests)

pub eqb_no : (a b : ℕ) → (a < b) ⊎ (b < a) → eqb a b ≡ false
eqb_no a b (inl h) = grind (arith, nat_tests)
eqb_no a b (inr h) = grind (arith, nat_tests)

pub eqb_from : (a b : ℕ) → eqb a b ≡ true → a ≡ b
eqb_from a b h = grind (arith, nat_tests)

eqb_not : (a b : ℕ) → eqb a b ≡ false → (a < b) ⊎ (b < a)
eqb_not a b h =
    elim (cases_lt a b) [
      | inl less ↦ inl less
      | inr more ↦ elim (cases_lt b a) [
        | inl less ↦ inr less
        | inr no_more ↦ absurd (false≢true (sym h ∙ eqb_yes a b (omega arith)))
      ]
    ]

first_or : (a b : Bool) → a ≡ true → (a || b) ≡ true
first_or true b h = refl
first_or false b h = absurd (false≢true h)

second_or : (a b : Bool) → b ≡ true → (a || b) ≡ true
second_or true b h = refl
second_or false b h = h

pub below_yes : (a b : OnDay) → IsBelow a b → is_below a b ≡ true
below_yes a b (inl h) = first_or (ltb a.day.0 b.day.0) _ (ltb_yes a.day.0 b.day.0 h)
below_yes a b (inr h) = second_or (ltb a.day.0 b.day.0) _ (both (eqb a.day.0 b.day.0) (ltb a.number b.number) (eqb_yes a.day.0 b.day.0 h.0) (ltb_yes a.number b.number h.1))

by_tests : (a b : OnDay) (x y z : Bool) → ltb a.day.0 b.day.0 ≡ x → eqb a.day.0 b.day.0 ≡ y → ltb a.number b.number ≡ z → (x || (y && z)) ≡ true → IsBelow a b
by_tests a b true y z e f g h = inl (ltb_from a.day.0 b.day.0 e)
by_tests a b false true true e f g h = inr (eqb_from a.day.0 b.day.0 f, ltb_from a.number b.number g)
by_tests a b false true false e f g h = absurd (false≢true h)
by_tests a b false false z e f g h = absurd (false≢true h)

pub below_from : (a b : OnDay) → is_below a b ≡ true → IsBelow a b
below_from a b h = by_tests a b (ltb a.day.0 b.day.0) (eqb a.day.0 b.day.0) (ltb a.number b.number) refl refl refl h

not_tests : (a b : OnDay) (x y z : Bool) → ltb a.day.0 b.day.0 ≡ x → eqb a.day.0 b.day.0 ≡ y → ltb a.number b.number ≡ z → (x || (y && z)) ≡ false → IsFrom a b
not_tests a b true y z e f g h = absurd (false≢true (sym h))
not_tests a b false true true e f g h = absurd (false≢true (sym h))
not_tests a b false true false e f g h = inr (eqb_from a.day.0 b.day.0 f, ltb_not a.number b.number g)
not_tests a b false false z e f g h = inl (later (eqb_not a.day.0 b.day.0 f) (ltb_not a.day.0 b.day.0 e))
  where
    later : {p q : ℕ} → (p < q) ⊎ (q < p) → q ≤ p → q < p
    later (inl less) h = absurd (omega arith)
    later (inr more) h = more

pub below_not : (a b : OnDay) → is_below a b ≡ false → IsFrom a b
below_not a b h = not_tests a b (ltb a.day.0 b.day.0) (eqb a.day.0 b.day.0) (ltb a.number b.number) refl refl refl h

below_next : (a b c : OnDay) → IsBelow a b → IsBelow b c → IsBelow a c
below_next a b c (inl h) (inl k) = inl (omega (arith, h, k))
below_next a b c (inl h) (inr k) = inl (omega (arith, h, k.0))
below_next a b c (inr h) (inl k) = inl (omega (arith, h.0, k))
below_next a b c (inr h) (inr k) = inr (omega (arith, h.0, k.0), omega (arith, h.1, k.1))

pub below_all : (a b c : OnDay) → is_below a b ≡ true → is_below b c ≡ true → is_below a c ≡ true
below_all a b c h k = below_yes a c (below_next a b c (below_from a b h) (below_from b c k))

-- one that isn't below a place and isn't the same comes after it
after_next : (a b : OnDay) → IsFrom a b → is_same a b ≡ false → IsBelow b a
after_next a b (inl h) other = inl h
after_next a b (inr h) other =
    elim (cases_lt b.number a.number) [
      | inl less ↦ inr (sym h.0, less)
      | inr no_more ↦ absurd (false≢true (sym other ∙ both (eqb a.day.0 b.day.0) (eqb a.number b.number) (eqb_yes a.day.0 b.day.0 h.0) (eqb_yes a.number b.number (omega (arith, h.1)))))
    ]

pub after_all : (a b : OnDay) → is_below a b ≡ false → is_same a b ≡ false → is_below b a ≡ true
after_all a b h other = below_yes b a (after_next a b (below_not a b h) other)

-- ---- lists

pub all_lower : (a b : OnDay) (xs : List OnDay) → is_below a b ≡ true → list_all (is_below b) xs ≡ true → list_all (is_below a) xs ≡ true
all_lower a b [] h k = refl
all_lower a b (x ∷ xs) h k =
    both (is_below a x) (list_all (is_below a) xs) (below_all a b x h (left (is_below b x) (list_all (is_below b) xs) k)) (all_lower a b xs h (right (is_below b x) (list_all (is_below b) xs) k))

all_with : (a place : OnDay) (xs : List OnDay) → is_below a place ≡ true → list_all (is_below a) xs ≡ true → list_all (is_below a) (with_place place xs) ≡ true
all_with a place [] h k = both (is_below a place) true h refl
all_with a place (x ∷ xs) h k =
    let first = left (is_below a x) (list_all (is_below a) xs) k in
    let rest = right (is_below a x) (list_all (is_below a) xs) k in
    elim (is_below x place) as (λ b. list_all (is_below a) (cond b (x ∷ with_place place xs) (cond (is_same x place) (x ∷ xs) (place ∷ x ∷ xs))) ≡ true) [
      | true ↦ both (is_below a x) (list_all (is_below a) (with_place place xs)) first (all_with a place xs h rest)
      | false ↦ elim (is_same x place) as (λ c. list_all (is_below a) (cond c (x ∷ xs) (place ∷ x ∷ xs)) ≡ true) [
        | true ↦ k
        | false ↦ both (is_below a place) (list_all (is_below a) (x ∷ xs)) h k
      ]
    ]

-- a place more leaves the others in their order
pub rise_with : (place : OnDay) (xs : List OnDay) → rise xs ≡ true → rise (with_place place xs) ≡ true
rise_with place [] h = refl
rise_with place (x ∷ xs) h = by (rise_with place xs (right (list_all (is_below x) xs) (rise xs) h)) (is_below x place) (is_same x place) refl refl
  where
    by : rise (with_place place xs) ≡ true → (b c : Bool) → is_below x place ≡ b → is_same x place ≡ c → rise (cond b (x ∷ with_place place xs) (cond c (x ∷ xs) (place ∷ x ∷ xs))) ≡ true
    by rest true c e f = both (list_all (is_below x) (with_place place xs)) (rise (with_place place xs)) (all_with x place xs e (left (list_all (is_below x) xs) (rise xs) h)) rest
    by rest false true e f = h
    by rest false false e f =
        let less = after_all x place e f in
        both (list_all (is_below place) (x ∷ xs)) (rise (x ∷ xs))
        (both (is_below place x) (list_all (is_below place) xs) less (all_lower place x xs less (left (list_all (is_below x) xs) (rise xs) h))) h

all_part : (a : OnDay) (test : OnDay → Bool) (xs : List OnDay) → list_all (is_below a) xs ≡ true → list_all (is_below a) (filter test xs) ≡ true
all_part a test [] h = refl
all_part a test (x ∷ xs) h =
    let rest = all_part a test xs (right (is_below a x) (list_all (is_below a) xs) h) in
    elim (test x) as (λ b. list_all (is_below a) (cond b (x ∷ filter test xs) (filter test xs)) ≡ true) [
      | true ↦ both (is_below a x) (list_all (is_below a) (filter test xs)) (left (is_below a x) (list_all (is_below a) xs) h) rest
      | false ↦ rest
    ]

-- and so does one less
pub rise_part : (test : OnDay → Bool) (xs : List OnDay) → rise xs ≡ true → rise (filter test xs) ≡ true
rise_part test [] h = refl
rise_part test (x ∷ xs) h =
    let rest = rise_part test xs (right (list_all (is_below x) xs) (rise xs) h) in
    elim (test x) as (λ b. rise (cond b (x ∷ filter test xs) (filter test xs)) ≡ true) [
      | true ↦ both (list_all (is_below x) (filter test xs)) (rise (filter test xs)) (all_part x test xs (left (list_all (is_below x) xs) (rise xs) h)) rest
      | false ↦ rest
    ]

-- ---- by halves

all_at : (a : OnDay) (xs : List OnDay) (i : ℕ) (d : OnDay) → list_all (is_below a) xs ≡ true → i < length xs → is_below a (get_or xs i d) ≡ true
all_at a [] i d h less = absurd (omega arith)
all_at a (x ∷ xs) zero d h less = left (is_below a x) (list_all (is_below a) xs) h
all_at a (x ∷ xs) (suc i) d h less = all_at a xs i d (right (is_below a x) (list_all (is_below a) xs) h) (omega (arith, less))

pub count_within : (place : OnDay) (xs : List OnDay) → below_count place xs ≤ length xs
count_within place [] = omega arith
count_within place (x ∷ xs) =
    let rest = count_within place xs in
    elim (is_below x place) as (λ b. cond b (suc (below_count place xs)) 0 ≤ suc (length xs)) [ true ↦ omega (arith, rest) | false ↦ omega arith ]

-- one below it is counted with all before it
pub counted_through : (place : OnDay) (xs : List OnDay) (i : ℕ) (d : OnDay) → rise xs ≡ true → i < length xs → is_below (get_or xs i d) place ≡ true → i + 1 ≤ below_count place xs
counted_through place [] i d h less e = absurd (omega arith)
counted_through place (x ∷ xs) zero d h less e = subst (λ (b : Bool). 0 + 1 ≤ cond b (suc (below_count place xs)) 0) (sym e) (omega arith)
counted_through place (x ∷ xs) (suc i) d h less e =
    let inside : i < length xs = omega (arith, less) in
    let first = below_all x (get_or xs i d) place (all_at x xs i d (left (list_all (is_below x) xs) (rise xs) h) inside) e in
    let rest = counted_through place xs i d (right (list_all (is_below x) xs) (rise xs) h) inside e in
    subst (λ (b : Bool). suc i + 1 ≤ cond b (suc (below_count place xs)) 0) (sym first) (omega (arith, rest))

-- one that isn't isn't
pub counted_below : (place : OnDay) (xs : List OnDay) (i : ℕ) (d : OnDay) → i < length xs → is_below (get_or xs i d) place ≡ false → below_count place xs ≤ i
counted_below place [] i d less e = omega arith
counted_below place (x ∷ xs) zero d less e = subst (λ (b : Bool). cond b (suc (below_count place xs)) 0 ≤ 0) (sym e) (omega arith)
counted_below place (x ∷ xs) (suc i) d less e =
    let rest = counted_below place xs i d (omega (arith, less)) e in
    elim (is_below x place) as (λ b. cond b (suc (below_count place xs)) 0 ≤ suc i) [ true ↦ omega (arith, rest) | false ↦ omega arith ]

-- ---- put in at its place

pub found_same : (place : OnDay) (xs : List OnDay) → is_found place (slice_get xs (below_count place xs)) ≡ true → with_place place xs ≡ xs
found_same place [] h = absurd (false≢true h)
found_same place (x ∷ xs) h = by (found_same place xs) (is_below x place) (is_same x place) refl refl h
  where
    by : (is_found place (slice_get xs (below_count place xs)) ≡ true → with_place place xs ≡ xs) → (b c : Bool) → is_below x place ≡ b → is_same x place ≡ c → is_found place (slice_get (x ∷ xs) (cond b (suc (below_count place xs)) 0)) ≡ true → cond b (x ∷ with_place place xs) (cond c (x ∷ xs) (place ∷ x ∷ xs)) ≡ x ∷ xs
    by rest true c e f k = ap (λ (ys : List OnDay). x ∷ ys) (rest k)
    by rest false true e f k = refl
    by rest false false e f k = absurd (false≢true (sym f ∙ k))

pub put_other : (place : OnDay) (xs : List OnDay) → is_found place (slice_get xs (below_count place xs)) ≡ false → with_place place xs ≡ insert xs (below_count place xs) place
put_other place [] h = refl
put_other place (x ∷ xs) h = by (put_other place xs) (is_below x place) (is_same x place) refl refl h
  where
    by : (is_found place (slice_get xs (below_count place xs)) ≡ false → with_place place xs ≡ insert xs (below_count place xs) place) → (b c : Bool) → is_below x place ≡ b → is_same x place ≡ c → is_found place (slice_get (x ∷ xs) (cond b (suc (below_count place xs)) 0)) ≡ false → cond b (x ∷ with_place place xs) (cond c (x ∷ xs) (place ∷ x ∷ xs)) ≡ insert (x ∷ xs) (cond b (suc (below_count place xs)) 0) place
    by rest true c e f k = ap (λ (ys : List OnDay). x ∷ ys) (rest k)
    by rest false true e f k = absurd (false≢true (sym k ∙ f))
    by rest false false e f k = refl

-- ---- the places of a day before a number

module _ (day : Day) (n : ℕ) where
  abbrev start : OnDay
  start = record { day = day; number = 0 }

  abbrev end : OnDay
  end = record { day = day; number = n }

  abbrev chosen : OnDay → Bool
  chosen place = (place.day.0 == day.0) && nat_lt place.number n

  chosen_below : (x : OnDay) → chosen x ≡ true → is_below x end ≡ true
  chosen_below x h = below_yes x end (inr (eqb_from x.day.0 day.0 (left (eqb x.day.0 day.0) (ltb x.number n) h), ltb_from x.number n (right (eqb x.day.0 day.0) (ltb x.number n) h)))

  -- from a place on that isn't below the end none is chosen
  none_after : (a : OnDay) (xs : List OnDay) → is_below a end ≡ false → list_all (is_below a) xs ≡ true → filter chosen xs ≡ []
  none_after a [] h k = refl
  none_after a (x ∷ xs) h k =
      by (chosen x) refl ∙ none_after a xs h (right (is_below a x) (list_all (is_below a) xs) k)
    where
      by : (b : Bool) → chosen x ≡ b → cond (chosen x) (x ∷ filter chosen xs) (filter chosen xs) ≡ filter chosen xs
      by true e = absurd (false≢true (sym h ∙ below_all a x end (left (is_below a x) (list_all (is_below a) xs) k) (chosen_below x e)))
      by false e = ap (λ (c : Bool). cond c (x ∷ filter chosen xs) (filter chosen xs)) e

  -- from the day on those below the end are chosen
  abbrev IsLate : OnDay → Type 0
  IsLate x = day.0 ≤ x.day.0

  late_from : (a x : OnDay) → IsLate a → is_below a x ≡ true → IsLate x
  late_from a x late h = by (below_from a x h)
    where
      by : IsBelow a x → day.0 ≤ x.day.0
      by (inl k) = omega (arith, late, k)
      by (inr k) = omega (arith, late, k.0)

  late_chosen : (x : OnDay) → IsLate x → is_below x end ≡ true → chosen x ≡ true
  late_chosen x late h = by (below_from x end h)
    where
      by : IsBelow x end → chosen x ≡ true
      by (inl k) = absurd (omega (arith, late, k))
      by (inr k) = both (eqb x.day.0 day.0) (ltb x.number n) (eqb_yes x.day.0 day.0 k.0) (ltb_yes x.number n k.1)

  not_chosen : (x : OnDay) (c : Bool) → is_below x end ≡ false → chosen x ≡ c → chosen x ≡ false
  not_chosen x true e f = absurd (false≢true (sym e ∙ chosen_below x f))
  not_chosen x false e f = f

  first_is : (x : OnDay) (xs : List OnDay) → IsLate x → list_all (is_below x) xs ≡ true → take (below_count end xs) xs ≡ filter chosen xs → take (below_count end (x ∷ xs)) (x ∷ xs) ≡ filter chosen (x ∷ xs)
  first_is x xs here above rest = by (is_below x end) refl
    where
      by : (b : Bool) → is_below x end ≡ b → take (cond (is_below x end) (suc (below_count end xs)) 0) (x ∷ xs) ≡ cond (chosen x) (x ∷ filter chosen xs) (filter chosen xs)
      by true e =
          ap (λ (c : Bool). take (cond c (suc (below_count end xs)) 0) (x ∷ xs)) e
          ∙ ap (λ (ys : List OnDay). x ∷ ys) rest
          ∙ sym (ap (λ (c : Bool). cond c (x ∷ filter chosen xs) (filter chosen xs)) (late_chosen x here e))
      by false e =
          ap (λ (c : Bool). take (cond c (suc (below_count end xs)) 0) (x ∷ xs)) e
          ∙ sym (ap (λ (c : Bool). cond c (x ∷ filter chosen xs) (filter chosen xs)) (not_chosen x (chosen x) e refl) ∙ none_after x xs e above)

  front_is : (a : OnDay) (xs : List OnDay) → IsLate a → list_all (is_below a) xs ≡ true → rise xs ≡ true → take (below_count end xs) xs ≡ filter chosen xs
  front_is a [] late k h = refl
  front_is a (x ∷ xs) late k h =
      let here = late_from a x late (left (is_below a x) (list_all (is_below a) xs) k) in
      let above = left (list_all (is_below x) xs) (rise xs) h in
      first_is x xs here above (front_is x xs here above (right (list_all (is_below x) xs) (rise xs) h))

  -- before the day nothing is chosen, and all is below the end
  early_below : (x : OnDay) → is_below x start ≡ true → is_below x end ≡ true
  early_below x h = by (below_from x start h)
    where
      by : IsBelow x start → is_below x end ≡ true
      by (inl k) = below_yes x end (inl k)
      by (inr k) = absurd (omega (arith, k.1))

  early_apart : (x : OnDay) → is_below x start ≡ true → chosen x ≡ false
  early_apart x h = by (below_from x start h)
    where
      by : IsBelow x start → chosen x ≡ false
      by (inl k) = ap (λ (b : Bool). b && ltb x.number n) (eqb_no x.day.0 day.0 (inl k))
      by (inr k) = absurd (omega (arith, k.1))

  late_start : (x : OnDay) → is_below x start ≡ false → IsLate x
  late_start x h = by (below_not x start h)
    where
      by : IsFrom x start → day.0 ≤ x.day.0
      by (inl k) = omega (arith, k)
      by (inr k) = omega (arith, k.0)

  pub starts_first : (xs : List OnDay) → below_count start xs ≤ below_count end xs
  starts_first [] = omega arith
  starts_first (x ∷ xs) = by (is_below x start) refl (starts_first xs)
    where
      by : (b : Bool) → is_below x start ≡ b → below_count start xs ≤ below_count end xs → cond (is_below x start) (suc (below_count start xs)) 0 ≤ cond (is_below x end) (suc (below_count end xs)) 0
      by true e rest =
          subst (λ (b : Bool). cond b (suc (below_count start xs)) 0 ≤ cond (is_below x end) (suc (below_count end xs)) 0) (sym e)
          (subst (λ (b : Bool). suc (below_count start xs) ≤ cond b (suc (below_count end xs)) 0) (sym (early_below x e)) (omega (arith, rest)))
      by false e rest =
          subst (λ (b : Bool). cond b (suc (below_count start xs)) 0 ≤ cond (is_below x end) (suc (below_count end xs)) 0) (sym e) (omega arith)

  pub range_is : (xs : List OnDay) → rise xs ≡ true → slice_range xs (below_count start xs) (below_count end xs) ≡ places_before day n xs
  range_is [] h = refl
  range_is (x ∷ xs) h = by (is_below x start) refl (range_is xs (right (list_all (is_below x) xs) (rise xs) h))
    where
      by : (b : Bool) → is_below x start ≡ b → slice_range xs (below_count start xs) (below_count end xs) ≡ filter chosen xs → slice_range (x ∷ xs) (cond (is_below x start) (suc (below_count start xs)) 0) (below_count end (x ∷ xs)) ≡ cond (chosen x) (x ∷ filter chosen xs) (filter chosen xs)
      by true e rest =
          let less : suc (below_count end xs) - suc (below_count start xs) ≡ below_count end xs - below_count start xs = omega arith in
          ap (λ (b : Bool). slice_range (x ∷ xs) (cond b (suc (below_count start xs)) 0) (below_count end (x ∷ xs))) e
          ∙ ap (λ (b : Bool). take (cond b (suc (below_count end xs)) 0 - suc (below_count start xs)) (drop (below_count start xs) xs)) (early_below x e)
          ∙ ap (λ (k : ℕ). take k (drop (below_count start xs) xs)) less
          ∙ rest
          ∙ sym (ap (λ (b : Bool). cond b (x ∷ filter chosen xs) (filter chosen xs)) (early_apart x e))
      by false e rest =
          let all : below_count end (x ∷ xs) - 0 ≡ below_count end (x ∷ xs) = omega arith in
          let here = late_start x e in
          let above = left (list_all (is_below x) xs) (rise xs) h in
          ap (λ (b : Bool). slice_range (x ∷ xs) (cond b (suc (below_count start xs)) 0) (below_count end (x ∷ xs))) e
          ∙ ap (λ (k : ℕ). take k (x ∷ xs)) all
          ∙ first_is x xs here above (front_is x xs here above (right (list_all (is_below x) xs) (rise xs) h))

-- ---- over a vector that is lent as a slice

pub rise_at : (lent xs : List OnDay) → lent ≡ xs → rise xs ≡ true → rise lent ≡ true
rise_at lent xs is h = ap rise is ∙ h

module _ (place : OnDay) (lent again xs : List OnDay) (at : ℕ) (is : lent ≡ xs) (same : again ≡ xs) (counted : at ≡ below_count place lent) where
  there : at ≡ below_count place xs
  there = counted ∙ ap (below_count place) is

  pub found_at : is_found place (slice_get again at) ≡ true → xs ≡ with_place place xs
  found_at h = sym (found_same place xs ((λ i. is_found place (slice_get (sym same i) (sym there i))) ∙ h))

  pub put_at : is_found place (slice_get again at) ≡ false → insert xs at place ≡ with_place place xs
  put_at h =
      ap (λ (n : ℕ). insert xs n place) there
      ∙ sym (put_other place xs ((λ i. is_found place (slice_get (sym same i) (sym there i))) ∙ h))

pub inside_at : (place : OnDay) (lent xs : List OnDay) (at : ℕ) → lent ≡ xs → at ≡ below_count place lent → at ≤ length xs
inside_at place lent xs at is counted = subst (λ (n : ℕ). n ≤ length xs) (sym (counted ∙ ap (below_count place) is)) (count_within place xs)
