-- The numbers of transactions under each day.
use Rattle.std.proofs.Common.{Bor, ◌≡◌, ℕ, zero, suc, ◌+◌, ◌-◌, ◌<◌, ◌≤◌, Bool, true, false, ◌&&◌, ◌||◌, not, cond, eqb, ltb, leb, ◌==◌, List, [], ◌∷◌, ◌++◌, length, get_or, drop, map, filter, set, ◌⊎◌, inl, inr, refl, sym, ap, subst, ◌∙◌, arith}
use Rattle.std.specs.Prelude.{unwrap_or}
use Rattle.std.specs.Fn.{Mut, Called, ComputesKey}
use Rattle.std.specs.List.{list_all, list_any}
use Rattle.std.specs.List.Sorted.{IsNonDecreasingBy, IsSortedByKey, IsStableByKey}
use Rattle.std.specs.Ordering.{nat_cmp, is_lt}
use Rattle.std.proofs.lemmas.Bool.{cases_lt, false≢true}
use Rattle.std.proofs.lemmas.Bool.Decides.{nat_tests}
use Rattle.std.proofs.lemmas.Fn.{always_returns_same}
use Rattle.std.proofs.lemmas.List.{append_assoc, drop_more, map-append}
use Rattle.std.proofs.lemmas.List.Elements.{filter-append}
use Rattle.std.proofs.lemmas.List.Sorted.{IsNonDecreasingBy-from_sort_by_key}
use Rattle.book.specs.declared.transaction.Posting.{Posting}
use Rattle.book.specs.declared.transaction.Txn.{Txn}
use Rattle.placed_sums.specs.Days.{AreDaysOf, is_below, numbers_at, numbers_in, rise}
use Rattle.placed_sums.specs.Numbers.{has_on, is_on, numbered_from, numbers_from, numbers_on}
use Rattle.placed_sums.specs.Placing.{is_same, place_on, text_places, with_place, with_postings, with_txn, without_number}
use Rattle.placed_sums.specs.declared.on_day.OnDay.{OnDay}
use Rattle.placed_sums.proofs.Orders.{IsBelow, after_all, all_lower, below_from, below_yes, both, eqb_from, eqb_no, eqb_yes, left, right, rise_part, rise_with}

lt_yes : (a b : ℕ) → a < b → ltb a b ≡ true
lt_yes a b h = grind (arith, nat_tests)

lt_no : (a b : ℕ) → b ≤ a → ltb a b ≡ false
lt_no a b h = grind (arith, nat_tests)

lt_from : (a b : ℕ) → ltb a b ≡ true → a < b
lt_from a b h = grind (arith, nat_tests)

lt_not : (a b : ℕ) → ltb a b ≡ false → b ≤ a
lt_not a b h = grind (arith, nat_tests)

le_yes : (a b : ℕ) → a ≤ b → leb a b ≡ true
le_yes a b h = grind (arith, nat_tests)

le_from : (a b : ℕ) → leb a b ≡ true → a ≤ b
le_from a b h = grind (arith, nat_tests)

-- ---- a number among others in their order

abbrev pub with_number : ℕ → List ℕ → List ℕ
with_number n [] = n ∷ []
with_number n (j ∷ js) = cond (ltb j n) (j ∷ with_number n js) (cond (eqb j n) (j ∷ js) (n ∷ j ∷ js))

abbrev pub without : ℕ → List ℕ → List ℕ
without n ks = filter (λ j. not (eqb j n)) ks

with_lower : (n j : ℕ) (js : List ℕ) → j < n → with_number n (j ∷ js) ≡ j ∷ with_number n js
with_lower n j js h = ap (λ (b : Bool). cond b (j ∷ with_number n js) (cond (eqb j n) (j ∷ js) (n ∷ j ∷ js))) (lt_yes j n h)

with_itself : (n j : ℕ) (js : List ℕ) → j ≡ n → with_number n (j ∷ js) ≡ j ∷ js
with_itself n j js h =
    ap (λ (b : Bool). cond b (j ∷ with_number n js) (cond (eqb j n) (j ∷ js) (n ∷ j ∷ js))) (lt_no j n (omega (arith, h)))
    ∙ ap (λ (b : Bool). cond b (j ∷ js) (n ∷ j ∷ js)) (eqb_yes j n h)

with_greater : (n j : ℕ) (js : List ℕ) → n < j → with_number n (j ∷ js) ≡ n ∷ j ∷ js
with_greater n j js h =
    ap (λ (b : Bool). cond b (j ∷ with_number n js) (cond (eqb j n) (j ∷ js) (n ∷ j ∷ js))) (lt_no j n (omega (arith, h)))
    ∙ ap (λ (b : Bool). cond b (j ∷ js) (n ∷ j ∷ js)) (eqb_no j n (inr h))

-- twice is once
with_again : (n : ℕ) (ks : List ℕ) → with_number n (with_number n ks) ≡ with_number n ks
with_again n [] = with_itself n n [] refl
with_again n (j ∷ js) = by (ltb j n) (eqb j n) refl refl (with_again n js)
  where
    by : (a b : Bool) → ltb j n ≡ a → eqb j n ≡ b → with_number n (with_number n js) ≡ with_number n js → with_number n (cond (ltb j n) (j ∷ with_number n js) (cond (eqb j n) (j ∷ js) (n ∷ j ∷ js))) ≡ cond (ltb j n) (j ∷ with_number n js) (cond (eqb j n) (j ∷ js) (n ∷ j ∷ js))
    by true b e f rest =
        subst (λ (t : Bool). with_number n (cond t (j ∷ with_number n js) (cond (eqb j n) (j ∷ js) (n ∷ j ∷ js))) ≡ cond t (j ∷ with_number n js) (cond (eqb j n) (j ∷ js) (n ∷ j ∷ js))) (sym e)
        (with_lower n j (with_number n js) (lt_from j n e) ∙ ap (λ (ks : List ℕ). j ∷ ks) rest)
    by false true e f rest =
        subst (λ (t : Bool). with_number n (cond t (j ∷ with_number n js) (cond (eqb j n) (j ∷ js) (n ∷ j ∷ js))) ≡ cond t (j ∷ with_number n js) (cond (eqb j n) (j ∷ js) (n ∷ j ∷ js))) (sym e)
        (subst (λ (t : Bool). with_number n (cond t (j ∷ js) (n ∷ j ∷ js)) ≡ cond t (j ∷ js) (n ∷ j ∷ js)) (sym f) (with_itself n j js (eqb_from j n f)))
    by false false e f rest =
        subst (λ (t : Bool). with_number n (cond t (j ∷ with_number n js) (cond (eqb j n) (j ∷ js) (n ∷ j ∷ js))) ≡ cond t (j ∷ with_number n js) (cond (eqb j n) (j ∷ js) (n ∷ j ∷ js))) (sym e)
        (subst (λ (t : Bool). with_number n (cond t (j ∷ js) (n ∷ j ∷ js)) ≡ cond t (j ∷ js) (n ∷ j ∷ js)) (sym f) (with_itself n n (j ∷ js) refl))

-- ---- the numbers under a day

pub number_head : (d : ℕ) (x : OnDay) (xs : List OnDay) → numbers_at d (x ∷ xs) ≡ cond (eqb x.day.0 d) (x.number ∷ numbers_at d xs) (numbers_at d xs)
number_head d x xs =
    elim (eqb x.day.0 d) as (λ b. map (λ (p : OnDay). p.number) (cond b (x ∷ filter (λ p. p.day.0 == d) xs) (filter (λ p. p.day.0 == d) xs)) ≡ cond b (x.number ∷ numbers_at d xs) (numbers_at d xs)) [ true ↦ refl | false ↦ refl ]

number_on : (d : ℕ) (x : OnDay) (xs : List OnDay) → x.day.0 ≡ d → numbers_at d (x ∷ xs) ≡ x.number ∷ numbers_at d xs
number_on d x xs h = number_head d x xs ∙ ap (λ (b : Bool). cond b (x.number ∷ numbers_at d xs) (numbers_at d xs)) (eqb_yes x.day.0 d h)

pub numbers_both : (d : ℕ) (xs ys : List OnDay) → numbers_at d (xs ++ ys) ≡ numbers_at d xs ++ numbers_at d ys
numbers_both d xs ys = ap numbers_in (filter-append (λ (p : OnDay). p.day.0 == d) xs ys) ∙ map-append (λ (p : OnDay). p.number) (filter (λ p. p.day.0 == d) xs) (filter (λ p. p.day.0 == d) ys)

-- one below all others of its day comes first
with_first : (place : OnDay) (xs : List OnDay) → list_all (is_below place) xs ≡ true → with_number place.number (numbers_at place.day.0 xs) ≡ place.number ∷ numbers_at place.day.0 xs
with_first place [] h = refl
with_first place (x ∷ xs) h =
    let d = place.day.0 in
    let rest = with_first place xs (right (is_below place x) (list_all (is_below place) xs) h) in
    ap (with_number place.number) (number_head d x xs)
    ∙ by (eqb x.day.0 d) refl (below_from place x (left (is_below place x) (list_all (is_below place) xs) h)) rest
    ∙ ap (λ (ks : List ℕ). place.number ∷ ks) (sym (number_head d x xs))
  where
    by : (b : Bool) → eqb x.day.0 place.day.0 ≡ b → IsBelow place x → with_number place.number (numbers_at place.day.0 xs) ≡ place.number ∷ numbers_at place.day.0 xs → with_number place.number (cond (eqb x.day.0 place.day.0) (x.number ∷ numbers_at place.day.0 xs) (numbers_at place.day.0 xs)) ≡ place.number ∷ cond (eqb x.day.0 place.day.0) (x.number ∷ numbers_at place.day.0 xs) (numbers_at place.day.0 xs)
    by b e (inl less) rest =
        subst (λ (t : Bool). with_number place.number (cond t (x.number ∷ numbers_at place.day.0 xs) (numbers_at place.day.0 xs)) ≡ place.number ∷ cond t (x.number ∷ numbers_at place.day.0 xs) (numbers_at place.day.0 xs)) (sym (eqb_no x.day.0 place.day.0 (inr less))) rest
    by b e (inr same) rest =
        subst (λ (t : Bool). with_number place.number (cond t (x.number ∷ numbers_at place.day.0 xs) (numbers_at place.day.0 xs)) ≡ place.number ∷ cond t (x.number ∷ numbers_at place.day.0 xs) (numbers_at place.day.0 xs)) (sym (eqb_yes x.day.0 place.day.0 (sym same.0))) (with_greater place.number x.number (numbers_at place.day.0 xs) same.1)

-- below a place, on its day
lower_on : (d : ℕ) (x place : OnDay) → is_below x place ≡ true → x.day.0 ≡ d → place.day.0 ≡ d → x.number < place.number
lower_on d x place h here there = by (below_from x place h)
  where
    by : IsBelow x place → x.number < place.number
    by (inl less) = absurd (omega (arith, here, there, less))
    by (inr same) = same.1

module _ (d : ℕ) (place : OnDay) where
  abbrev K : List OnDay → List ℕ
  K xs = numbers_at d xs

  abbrev put : List ℕ → List ℕ
  put ks = cond (eqb place.day.0 d) (with_number place.number ks) ks

  passed : (x : OnDay) (xs : List OnDay) (p q : Bool) → eqb place.day.0 d ≡ p → eqb x.day.0 d ≡ q → is_below x place ≡ true
      → cond q (x.number ∷ cond p (with_number place.number (K xs)) (K xs)) (cond p (with_number place.number (K xs)) (K xs)) ≡ cond p (with_number place.number (cond q (x.number ∷ K xs) (K xs))) (cond q (x.number ∷ K xs) (K xs))
  passed x xs true true e f h = sym (with_lower place.number x.number (K xs) (lower_on d x place h (eqb_from x.day.0 d f) (eqb_from place.day.0 d e)))
  passed x xs true false e f h = refl
  passed x xs false true e f h = refl
  passed x xs false false e f h = refl

  met : (x : OnDay) (xs : List OnDay) (p : Bool) → eqb place.day.0 d ≡ p → is_same x place ≡ true → K (x ∷ xs) ≡ cond p (with_number place.number (K (x ∷ xs))) (K (x ∷ xs))
  met x xs false e h = refl
  met x xs true e h =
      let on : x.day.0 ≡ d = eqb_from x.day.0 place.day.0 (left (eqb x.day.0 place.day.0) (eqb x.number place.number) h) ∙ eqb_from place.day.0 d e in
      let same : x.number ≡ place.number = eqb_from x.number place.number (right (eqb x.day.0 place.day.0) (eqb x.number place.number) h) in
      number_on d x xs on ∙ sym (with_itself place.number x.number (K xs) same) ∙ sym (ap (with_number place.number) (number_on d x xs on))

  came : (xs : List OnDay) (p : Bool) → eqb place.day.0 d ≡ p → list_all (is_below place) xs ≡ true → cond p (place.number ∷ K xs) (K xs) ≡ cond p (with_number place.number (K xs)) (K xs)
  came xs false e h = refl
  came xs true e h =
      subst (λ (n : ℕ). place.number ∷ numbers_at n xs ≡ with_number place.number (numbers_at n xs)) (eqb_from place.day.0 d e) (sym (with_first place xs h))

  -- a place more
  pub at_with : (xs : List OnDay) → rise xs ≡ true → numbers_at d (with_place place xs) ≡ cond (eqb place.day.0 d) (with_number place.number (numbers_at d xs)) (numbers_at d xs)
  at_with [] h = number_head d place []
  at_with (x ∷ xs) h = by (is_below x place) (is_same x place) refl refl (at_with xs (right (list_all (is_below x) xs) (rise xs) h))
    where
      by : (a b : Bool) → is_below x place ≡ a → is_same x place ≡ b → K (with_place place xs) ≡ put (K xs) → K (cond a (x ∷ with_place place xs) (cond b (x ∷ xs) (place ∷ x ∷ xs))) ≡ put (K (x ∷ xs))
      by true b e f rest =
          number_head d x (with_place place xs)
          ∙ ap (λ (ks : List ℕ). cond (eqb x.day.0 d) (x.number ∷ ks) ks) rest
          ∙ passed x xs (eqb place.day.0 d) (eqb x.day.0 d) refl refl e
          ∙ sym (ap put (number_head d x xs))
      by false true e f rest = met x xs (eqb place.day.0 d) refl f
      by false false e f rest =
          let less = after_all x place e f in
          number_head d place (x ∷ xs)
          ∙ came (x ∷ xs) (eqb place.day.0 d) refl (both (is_below place x) (list_all (is_below place) xs) less (all_lower place x xs less (left (list_all (is_below x) xs) (rise xs) h)))

-- ---- a transaction's places

two_put : (n : ℕ) (ks : List ℕ) (a b : Bool) → cond b (with_number n (cond a (with_number n ks) ks)) (cond a (with_number n ks) ks) ≡ cond (a || b) (with_number n ks) ks
two_put n ks true true = with_again n ks
two_put n ks true false = refl
two_put n ks false true = refl
two_put n ks false false = refl

pub at_postings : (d n : ℕ) (t : Txn) (ps : List Posting) (xs : List OnDay) → rise xs ≡ true → numbers_at d (with_postings n t xs ps) ≡ cond (list_any (is_on d t) ps) (with_number n (numbers_at d xs)) (numbers_at d xs)
at_postings d n t [] xs h = refl
at_postings d n t (p ∷ ps) xs h =
    let place = place_on n t p in
    at_postings d n t ps (with_place place xs) (rise_with place xs h)
    ∙ ap (λ (ks : List ℕ). cond (list_any (is_on d t) ps) (with_number n ks) ks) (at_with d place xs h)
    ∙ two_put n (numbers_at d xs) (is_on d t p) (list_any (is_on d t) ps)

pub rise_postings : (n : ℕ) (t : Txn) (ps : List Posting) (xs : List OnDay) → rise xs ≡ true → rise (with_postings n t xs ps) ≡ true
rise_postings n t [] xs h = h
rise_postings n t (p ∷ ps) xs h = rise_postings n t ps (with_place (place_on n t p) xs) (rise_with (place_on n t p) xs h)

pub at_without : (d n : ℕ) (xs : List OnDay) → numbers_at d (without_number n xs) ≡ without n (numbers_at d xs)
at_without d n [] = refl
at_without d n (x ∷ xs) =
    by (eqb x.number n) (eqb x.day.0 d) refl refl (at_without d n xs)
    ∙ sym (ap (without n) (number_head d x xs))
  where
    by : (a b : Bool) → eqb x.number n ≡ a → eqb x.day.0 d ≡ b → numbers_at d (without_number n xs) ≡ without n (numbers_at d xs) → numbers_at d (cond (not (eqb x.number n)) (x ∷ without_number n xs) (without_number n xs)) ≡ without n (cond (eqb x.day.0 d) (x.number ∷ numbers_at d xs) (numbers_at d xs))
    by true true e f rest =
        ap (λ (t : Bool). numbers_at d (cond (not t) (x ∷ without_number n xs) (without_number n xs))) e
        ∙ rest
        ∙ sym (ap (λ (t : Bool). without n (cond t (x.number ∷ numbers_at d xs) (numbers_at d xs))) f ∙ ap (λ (t : Bool). cond (not t) (x.number ∷ without n (numbers_at d xs)) (without n (numbers_at d xs))) e)
    by true false e f rest =
        ap (λ (t : Bool). numbers_at d (cond (not t) (x ∷ without_number n xs) (without_number n xs))) e
        ∙ rest
        ∙ sym (ap (λ (t : Bool). without n (cond t (x.number ∷ numbers_at d xs) (numbers_at d xs))) f)
    by false true e f rest =
        ap (λ (t : Bool). numbers_at d (cond (not t) (x ∷ without_number n xs) (without_number n xs))) e
        ∙ number_head d x (without_number n xs)
        ∙ ap (λ (t : Bool). cond t (x.number ∷ numbers_at d (without_number n xs)) (numbers_at d (without_number n xs))) f
        ∙ ap (λ (ks : List ℕ). x.number ∷ ks) rest
        ∙ sym (ap (λ (t : Bool). without n (cond t (x.number ∷ numbers_at d xs) (numbers_at d xs))) f ∙ ap (λ (t : Bool). cond (not t) (x.number ∷ without n (numbers_at d xs)) (without n (numbers_at d xs))) e)
    by false false e f rest =
        ap (λ (t : Bool). numbers_at d (cond (not t) (x ∷ without_number n xs) (without_number n xs))) e
        ∙ number_head d x (without_number n xs)
        ∙ ap (λ (t : Bool). cond t (x.number ∷ numbers_at d (without_number n xs)) (numbers_at d (without_number n xs))) f
        ∙ rest
        ∙ sym (ap (λ (t : Bool). without n (cond t (x.number ∷ numbers_at d xs) (numbers_at d xs))) f)

-- ---- the numbers of a book in which a transaction gets another form

pub txn_head : (d m : ℕ) (t : Txn) (ts : List Txn) → numbers_from d m (t ∷ ts) ≡ cond (has_on d t) (m ∷ numbers_from d (suc m) ts) (numbers_from d (suc m) ts)
txn_head d m t ts =
    elim (has_on d t) as (λ b. map (λ (e : ℕ × Txn). e.0) (cond b ((m, t) ∷ filter (λ e. has_on d e.1) (numbered_from (suc m) ts)) (filter (λ e. has_on d e.1) (numbered_from (suc m) ts))) ≡ cond b (m ∷ numbers_from d (suc m) ts) (numbers_from d (suc m) ts)) [ true ↦ refl | false ↦ refl ]

-- among greater numbers it isn't, and comes first
without_lower : (d m n : ℕ) (ts : List Txn) → n < m → without n (numbers_from d m ts) ≡ numbers_from d m ts
without_lower d m n [] h = refl
without_lower d m n (t ∷ ts) h =
    let rest = without_lower d (suc m) n ts (omega (arith, h)) in
    let R = numbers_from d (suc m) ts in
    ap (without n) (txn_head d m t ts)
    ∙ (elim (has_on d t) as (λ b. without n (cond b (m ∷ R) R) ≡ cond b (m ∷ R) R) [
      | true ↦ ap (λ (b : Bool). cond (not b) (m ∷ without n R) (without n R)) (eqb_no m n (inr h)) ∙ ap (λ (ks : List ℕ). m ∷ ks) rest
      | false ↦ rest
    ])
    ∙ sym (txn_head d m t ts)

with_lowest : (d m n : ℕ) (ts : List Txn) → n < m → with_number n (numbers_from d m ts) ≡ n ∷ numbers_from d m ts
with_lowest d m n [] h = refl
with_lowest d m n (t ∷ ts) h =
    let rest = with_lowest d (suc m) n ts (omega (arith, h)) in
    let R = numbers_from d (suc m) ts in
    ap (with_number n) (txn_head d m t ts)
    ∙ (elim (has_on d t) as (λ b. with_number n (cond b (m ∷ R) R) ≡ n ∷ cond b (m ∷ R) R) [
      | true ↦ with_greater n m R h
      | false ↦ rest
    ])
    ∙ ap (λ (ks : List ℕ). n ∷ ks) (sym (txn_head d m t ts))

-- a transaction in another's place, or behind all
abbrev pub with_at : List Txn → ℕ → Txn → List Txn
with_at [] k t = t ∷ []
with_at (u ∷ us) zero t = t ∷ us
with_at (u ∷ us) (suc k) t = u ∷ with_at us k t

abbrev changed : ℕ → Bool → List ℕ → List ℕ
changed n b ks = cond b (with_number n (without n ks)) (without n ks)

first_changed : (d m : ℕ) (u : Txn) (us : List Txn) (b : Bool) → changed m b (numbers_from d m (u ∷ us)) ≡ cond b (m ∷ numbers_from d (suc m) us) (numbers_from d (suc m) us)
first_changed d m u us b =
    let R = numbers_from d (suc m) us in
    let less : m < suc m = omega arith in
    let gone : without m (numbers_from d m (u ∷ us)) ≡ R =
    ap (without m) (txn_head d m u us)
    ∙ (elim (has_on d u) as (λ c. without m (cond c (m ∷ R) R) ≡ R) [
      | true ↦ ap (λ (c : Bool). cond (not c) (m ∷ without m R) (without m R)) (eqb_yes m m refl) ∙ without_lower d (suc m) m us less
      | false ↦ without_lower d (suc m) m us less
    ]) in
    ap (λ (ks : List ℕ). cond b (with_number m ks) ks) gone
    ∙ ap (λ (ks : List ℕ). cond b ks R) (with_lowest d (suc m) m us less)

later_changed : (d m n : ℕ) (u : Txn) (us : List Txn) (b : Bool) → m < n → changed n b (numbers_from d m (u ∷ us)) ≡ cond (has_on d u) (m ∷ changed n b (numbers_from d (suc m) us)) (changed n b (numbers_from d (suc m) us))
later_changed d m n u us b less =
    let R = numbers_from d (suc m) us in
    ap (changed n b) (txn_head d m u us)
    ∙ (elim (has_on d u) as (λ c. changed n b (cond c (m ∷ R) R) ≡ cond c (m ∷ changed n b R) (changed n b R)) [
      | true ↦
          ap (λ (ks : List ℕ). cond b (with_number n ks) ks) (ap (λ (c : Bool). cond (not c) (m ∷ without n R) (without n R)) (eqb_no m n (inl less)))
          ∙ (elim b as (λ c. cond c (with_number n (m ∷ without n R)) (m ∷ without n R) ≡ m ∷ cond c (with_number n (without n R)) (without n R)) [
            | true ↦ with_lower n m (without n R) less
            | false ↦ refl
          ])
      | false ↦ refl
    ])

pub book_with : (d m k : ℕ) (ts : List Txn) (t : Txn) → k ≤ length ts → numbers_from d m (with_at ts k t) ≡ changed (m + k) (has_on d t) (numbers_from d m ts)
book_with d m k [] t few =
    let here : m ≡ m + k = omega (arith, few) in
    txn_head d m t [] ∙ ap (λ (n : ℕ). cond (has_on d t) (n ∷ []) []) here
book_with d m zero (u ∷ us) t few =
    let here : m ≡ m + 0 = omega arith in
    txn_head d m t us
    ∙ sym (first_changed d m u us (has_on d t))
    ∙ ap (λ (n : ℕ). changed n (has_on d t) (numbers_from d m (u ∷ us))) here
book_with d m (suc k) (u ∷ us) t few =
    let there : suc m + k ≡ m + suc k = omega arith in
    txn_head d m u (with_at us k t)
    ∙ ap (λ (ks : List ℕ). cond (has_on d u) (m ∷ ks) ks) (book_with d (suc m) k us t (omega (arith, few)) ∙ ap (λ (n : ℕ). changed n (has_on d t) (numbers_from d (suc m) us)) there)
    ∙ sym (later_changed d m (m + suc k) u us (has_on d t) (omega arith))

pub days_with : (xs : List OnDay) (book : List Txn) (k : ℕ) (t : Txn) → rise xs ≡ true → AreDaysOf xs book → k ≤ length book → AreDaysOf (with_txn k t (without_number k xs)) (with_at book k t)
days_with xs book k t h days few d =
    let here : 0 + k ≡ k = omega arith in
    at_postings d k t t.postings (without_number k xs) (rise_part (λ place. not (place.number == k)) xs h)
    ∙ ap (λ (ks : List ℕ). cond (has_on d t) (with_number k ks) ks) (at_without d k xs ∙ ap (without k) (days d))
    ∙ sym (book_with d 0 k book t few ∙ ap (λ (n : ℕ). changed n (has_on d t) (numbers_from d 0 book)) here)

set_is : (ts : List Txn) (k : ℕ) (t : Txn) → k < length ts → with_at ts k t ≡ set ts k t
set_is [] k t h = absurd (omega (arith, h))
set_is (u ∷ us) zero t h = refl
set_is (u ∷ us) (suc k) t h = ap (λ (ts : List Txn). u ∷ ts) (set_is us k t (omega (arith, h)))

end_is : (ts : List Txn) (k : ℕ) (t : Txn) → k ≡ length ts → with_at ts k t ≡ ts ++ t ∷ []
end_is [] k t h = refl
end_is (u ∷ us) zero t h = absurd (omega (arith, h))
end_is (u ∷ us) (suc k) t h = ap (λ (ts : List Txn). u ∷ ts) (end_is us k t (omega (arith, h)))

pub days_set : (xs new : List OnDay) (book : List Txn) (k : ℕ) (t : Txn) → rise xs ≡ true → new ≡ with_txn k t (without_number k xs) → AreDaysOf xs book → k < length book → AreDaysOf new (set book k t)
days_set xs new book k t h is days less =
    subst (λ (ps : List OnDay). AreDaysOf ps (set book k t)) (sym is)
    (subst (AreDaysOf (with_txn k t (without_number k xs))) (set_is book k t less) (days_with xs book k t h days (omega (arith, less))))

pub days_end : (xs new : List OnDay) (book : List Txn) (k : ℕ) (t : Txn) → rise xs ≡ true → new ≡ with_txn k t (without_number k xs) → AreDaysOf xs book → k ≡ length book → AreDaysOf new (book ++ t ∷ [])
days_end xs new book k t h is days last =
    subst (λ (ps : List OnDay). AreDaysOf ps (book ++ t ∷ [])) (sym is)
    (subst (AreDaysOf (with_txn k t (without_number k xs))) (end_is book k t last) (days_with xs book k t h days (omega (arith, last))))

-- ---- of a whole book

-- the places of a text tell its days
pub text_days : (m : ℕ) (ts : List Txn) (d : ℕ) → numbers_at d (text_places m ts) ≡ numbers_from d m ts
text_days m [] d = refl
text_days m (t ∷ ts) d =
    numbers_both d (with_txn m t []) (text_places (suc m) ts)
    ∙ (λ i. at_postings d m t t.postings [] refl i ++ text_days (suc m) ts d i)
    ∙ (elim (has_on d t) as (λ b. cond b (m ∷ []) [] ++ numbers_from d (suc m) ts ≡ cond b (m ∷ numbers_from d (suc m) ts) (numbers_from d (suc m) ts)) [ true ↦ refl | false ↦ refl ])
    ∙ sym (txn_head d m t ts)

-- numbers that rise
abbrev rising : List ℕ → Bool
rising [] = true
rising (k ∷ ks) = list_all (ltb k) ks && rising ks

numbers_above : (d m n : ℕ) (ts : List Txn) → n < m → list_all (ltb n) (numbers_from d m ts) ≡ true
numbers_above d m n [] h = refl
numbers_above d m n (t ∷ ts) h =
    let rest = numbers_above d (suc m) n ts (omega (arith, h)) in
    let R = numbers_from d (suc m) ts in
    ap (list_all (ltb n)) (txn_head d m t ts)
    ∙ (elim (has_on d t) as (λ b. list_all (ltb n) (cond b (m ∷ R) R) ≡ true) [
      | true ↦ both (ltb n m) (list_all (ltb n) R) (lt_yes n m h) rest
      | false ↦ rest
    ])

numbers_rise : (d m : ℕ) (ts : List Txn) → rising (numbers_from d m ts) ≡ true
numbers_rise d m [] = refl
numbers_rise d m (t ∷ ts) =
    let rest = numbers_rise d (suc m) ts in
    let R = numbers_from d (suc m) ts in
    ap rising (txn_head d m t ts)
    ∙ (elim (has_on d t) as (λ b. rising (cond b (m ∷ R) R) ≡ true) [
      | true ↦ both (list_all (ltb m) R) (rising R) (numbers_above d (suc m) m ts (omega arith)) rest
      | false ↦ rest
    ])

abbrev from_day : ℕ → List OnDay → Bool
from_day d xs = list_all (λ x. leb d x.day.0) xs

abbrev ordered : List OnDay → Bool
ordered [] = true
ordered (x ∷ xs) = from_day x.day.0 xs && ordered xs

-- a place is below those of later days, and below those of its day whose numbers are greater
below_later : (y : OnDay) (zs : List OnDay) → from_day y.day.0 zs ≡ true → list_all (ltb y.number) (numbers_at y.day.0 zs) ≡ true → list_all (is_below y) zs ≡ true
below_later y [] h k = refl
below_later y (z ∷ zs) h k =
    by (eqb z.day.0 y.day.0) refl (sym (ap (list_all (ltb y.number)) (number_head y.day.0 z zs)) ∙ k) (below_later y zs (right (leb y.day.0 z.day.0) (from_day y.day.0 zs) h))
  where
    late : y.day.0 ≤ z.day.0
    late = le_from y.day.0 z.day.0 (left (leb y.day.0 z.day.0) (from_day y.day.0 zs) h)

    by : (b : Bool) → eqb z.day.0 y.day.0 ≡ b → list_all (ltb y.number) (cond (eqb z.day.0 y.day.0) (z.number ∷ numbers_at y.day.0 zs) (numbers_at y.day.0 zs)) ≡ true → (list_all (ltb y.number) (numbers_at y.day.0 zs) ≡ true → list_all (is_below y) zs ≡ true) → list_all (is_below y) (z ∷ zs) ≡ true
    by true e m rest =
        let all : list_all (ltb y.number) (z.number ∷ numbers_at y.day.0 zs) ≡ true = sym (ap (λ (b : Bool). list_all (ltb y.number) (cond b (z.number ∷ numbers_at y.day.0 zs) (numbers_at y.day.0 zs))) e) ∙ m in
        both (is_below y z) (list_all (is_below y) zs)
        (below_yes y z (inr (sym (eqb_from z.day.0 y.day.0 e), lt_from y.number z.number (left (ltb y.number z.number) (list_all (ltb y.number) (numbers_at y.day.0 zs)) all))))
        (rest (right (ltb y.number z.number) (list_all (ltb y.number) (numbers_at y.day.0 zs)) all))
    by false e m rest =
        let all : list_all (ltb y.number) (numbers_at y.day.0 zs) ≡ true = sym (ap (λ (b : Bool). list_all (ltb y.number) (cond b (z.number ∷ numbers_at y.day.0 zs) (numbers_at y.day.0 zs))) e) ∙ m in
        both (is_below y z) (list_all (is_below y) zs) (below_yes y z (inl (strict (cases_lt y.day.0 z.day.0) e))) (rest all)
      where
        strict : (y.day.0 < z.day.0) ⊎ (z.day.0 ≤ y.day.0) → eqb z.day.0 y.day.0 ≡ false → y.day.0 < z.day.0
        strict (inl less) e = less
        strict (inr no_more) e = absurd (false≢true (sym e ∙ eqb_yes z.day.0 y.day.0 (omega (arith, late, no_more))))

tail_rises : (d : ℕ) (y : OnDay) (ys : List OnDay) → rising (numbers_at d (y ∷ ys)) ≡ true → rising (numbers_at d ys) ≡ true
tail_rises d y ys h =
    let all : rising (cond (eqb y.day.0 d) (y.number ∷ numbers_at d ys) (numbers_at d ys)) ≡ true = sym (ap rising (number_head d y ys)) ∙ h in
    (elim (eqb y.day.0 d) as (λ b. rising (cond b (y.number ∷ numbers_at d ys) (numbers_at d ys)) ≡ true → rising (numbers_at d ys) ≡ true) [
      | true ↦ λ k. right (list_all (ltb y.number) (numbers_at d ys)) (rising (numbers_at d ys)) k
      | false ↦ λ k. k
    ]) all

rise_from : (ys : List OnDay) → ordered ys ≡ true → ((d : ℕ) → rising (numbers_at d ys) ≡ true) → rise ys ≡ true
rise_from [] h k = refl
rise_from (y ∷ ys) h k =
    let here : rising (y.number ∷ numbers_at y.day.0 ys) ≡ true = sym (ap rising (number_on y.day.0 y ys refl)) ∙ k y.day.0 in
    both (list_all (is_below y) ys) (rise ys)
    (below_later y ys (left (from_day y.day.0 ys) (ordered ys) h) (left (list_all (ltb y.number) (numbers_at y.day.0 ys)) (rising (numbers_at y.day.0 ys)) here))
    (rise_from ys (right (from_day y.day.0 ys) (ordered ys) h) (λ d. tail_rises d y ys (k d)))

-- ---- what a stable sort by the day gives

all_from : (d : ℕ) (ys : List OnDay) → ((j : ℕ) (e : OnDay) → j < length ys → d ≤ (get_or ys j e).day.0) → from_day d ys ≡ true
all_from d [] h = refl
all_from d (y ∷ ys) h = both (leb d y.day.0) (from_day d ys) (le_yes d y.day.0 (h 0 y (omega arith))) (all_from d ys (λ j e lt. h (suc j) e (omega (arith, lt))))

ordered_from : (ys : List OnDay) → IsNonDecreasingBy (λ (p : OnDay). p.day.0) ys → ordered ys ≡ true
ordered_from [] h = refl
ordered_from (y ∷ ys) h =
    both (from_day y.day.0 ys) (ordered ys)
    (all_from y.day.0 ys (λ j e lt. h 0 (suc j) e (omega arith) (omega (arith, lt))))
    (ordered_from ys (λ i j d le lt. h (suc i) (suc j) d (omega (arith, le)) (omega (arith, lt))))

tie_by : (a b : ℕ) (s t : Bool) → ltb a b ≡ s → ltb b a ≡ t → (not (is_lt (nat_cmp a b)) && not (is_lt (nat_cmp b a))) ≡ (b == a)
tie_by a b true true e f = absurd (omega (arith, lt_from a b e, lt_from b a f))
tie_by a b true false e f = rw (e, eqb_no b a (inr (lt_from a b e))) refl
tie_by a b false true e f = rw (e, f, eqb_no b a (inl (lt_from b a f)), eqb_no a b (inr (lt_from b a f))) refl
tie_by a b false false e f =
    let k : a ≡ b = omega (arith, lt_not a b e, lt_not b a f) in
    rw (e, f, eqb_yes a b k, eqb_yes b a (sym k)) refl

filter_same : (p q : OnDay → Bool) (xs : List OnDay) → ((y : OnDay) → p y ≡ q y) → filter p xs ≡ filter q xs
filter_same p q [] h = refl
filter_same p q (x ∷ xs) h = ap (λ b. cond b (x ∷ filter p xs) (filter p xs)) (h x) ∙ ap (λ r. cond (q x) (x ∷ r) r) (filter_same p q xs h)

days_stay : (xs ys : List OnDay) → IsStableByKey (λ (p : OnDay). p.day.0) nat_cmp xs ys → (d : ℕ) → numbers_at d ys ≡ numbers_at d xs
days_stay xs ys stable d =
    let z : OnDay = record { day = record { 0 = d }; number = 0 } in
    let p : OnDay → Bool = λ y. not (is_lt (nat_cmp d y.day.0)) && not (is_lt (nat_cmp y.day.0 d)) in
    let q : OnDay → Bool = λ y. y.day.0 == d in
    let same : (y : OnDay) → p y ≡ q y = λ y. tie_by d y.day.0 (ltb d y.day.0) (ltb y.day.0 d) refl refl in
    ap numbers_in (sym (filter_same p q ys same) ∙ stable z ∙ filter_same p q xs same)

pub sorted_days : {F : Type 0} {g : Mut F (Bor OnDay × Unit {0}) ℕ} {f : F} (xs ys : List OnDay) (book : List Txn) → xs ≡ text_places 0 book
    → ((key : OnDay → ℕ) → ComputesKey g key f → IsStableByKey key nat_cmp xs ys)
    → ((a : Bor OnDay × Unit {0}) (r : ℕ) (f' : F) → Called g f a r f' → (r ≡ a.0.now.day.0) × (f' ≡ f)) → AreDaysOf ys book
sorted_days {g = g} {f = f} xs ys book is stable h d =
    days_stay xs ys (stable (λ (p : OnDay). p.day.0) (always_returns_same g (λ a r. r ≡ a.0.now.day.0) f h)) d
    ∙ ap (numbers_at d) is
    ∙ text_days 0 book d

pub sorted_rise : {F : Type 0} {g : Mut F (Bor OnDay × Unit {0}) ℕ} {f : F} (xs ys : List OnDay) (book : List Txn) → xs ≡ text_places 0 book
    → ((key : OnDay → ℕ) → ComputesKey g key f → IsSortedByKey key nat_cmp ys) → ((key : OnDay → ℕ) → ComputesKey g key f → IsStableByKey key nat_cmp xs ys)
    → ((a : Bor OnDay × Unit {0}) (r : ℕ) (f' : F) → Called g f a r f' → (r ≡ a.0.now.day.0) × (f' ≡ f)) → rise ys ≡ true
sorted_rise {g = g} {f = f} xs ys book is up stable h =
    rise_from ys (ordered_from ys (IsNonDecreasingBy-from_sort_by_key (λ (p : OnDay). p.day.0) ys up h))
    (λ d. ap rising (sorted_days xs ys book is stable h d) ∙ numbers_rise d 0 book)

-- ---- the loops

pub text_more : (all places new : List OnDay) (book : List Txn) (k : ℕ) (t : Txn) → k < length book → t ≡ get_or book k t → places ++ text_places k (drop k book) ≡ all → new ≡ places ++ with_txn k t [] → new ++ text_places (k + 1) (drop (k + 1) book) ≡ all
text_more all places new book k t less is so_far put =
    let next : suc k ≡ k + 1 = omega arith in
    let rest : drop k book ≡ t ∷ drop (k + 1) book = drop_more book k t less ∙ ap (λ (u : Txn). u ∷ drop (k + 1) book) (sym is) in
    ap (λ (ps : List OnDay). ps ++ text_places (k + 1) (drop (k + 1) book)) put
    ∙ append_assoc places (with_txn k t []) (text_places (k + 1) (drop (k + 1) book))
    ∙ ap (λ (n : ℕ). places ++ (with_txn k t [] ++ text_places n (drop (k + 1) book))) (sym next)
    ∙ sym (ap (λ (ts : List Txn). places ++ text_places k ts) rest)
    ∙ so_far

pub postings_more : (all places new : List OnDay) (n : ℕ) (t : Txn) (ps : List Posting) (i : ℕ) (p : Posting) → i < length ps → p ≡ get_or ps i p → with_postings n t places (drop i ps) ≡ all → new ≡ with_place (place_on n t p) places → with_postings n t new (drop (i + 1) ps) ≡ all
postings_more all places new n t ps i p less is so_far put =
    let rest : drop i ps ≡ p ∷ drop (i + 1) ps = drop_more ps i p less ∙ ap (λ (q : Posting). q ∷ drop (i + 1) ps) (sym is) in
    ap (λ (xs : List OnDay). with_postings n t xs (drop (i + 1) ps)) put
    ∙ sym (ap (with_postings n t places) rest)
    ∙ so_far
