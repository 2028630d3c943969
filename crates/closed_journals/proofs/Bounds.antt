-- The lines of a closing entry are of symbols and accounts of the book, and stay within its turnover.
use Rattle.std.proofs.Common.{ℕ, ℤ, zero, suc, pos, negsuc, ◌≡◌, ◌+◌, ◌-◌, ◌*◌, ◌/◌, ◌%◌, ◌^◌, ◌<◌, ◌≤◌, ◌+ℤ◌, ◌*ℤ◌, neg_ℤ, max, Bool, true, false, cond, ◌==◌, int_lt, List, [], ◌∷◌, ◌++◌, map, filter, Option, Some, None, unsigned_abs, refl, sym, ap, subst, ◌∙◌, arith, inl, inr, ◌⊎◌}
use Rattle.std.specs.List.{flat_map, AllByRecursion}
use Rattle.std.specs.Ordering.{nat_cmp}
use Rattle.std.specs.Cmp.Lexicographic.{slice_cmp}
use Rattle.std.specs.Str.{bytes_eq, is_utf8}
use Rattle.std.proofs.lemmas.Bool.{cases_lt}
use Rattle.std.proofs.lemmas.Int.{ints, unsigned_abs-mul}
use Rattle.std.proofs.Math.Nat.{mul-le-mul_left, div-le_self}
use Rattle.std.proofs.lemmas.Nat.{pow-add}
use Rattle.hl_num.specs.Decimal.{Decimal, IsTrimmed, units_of}
use Rattle.hl_num.specs.Rounding.{with_sign}
use Rattle.hl_num.proofs.DecimalLemmas.{mul-add, mul-mul}
use Rattle.hl_num.proofs.RoundingLemmas.{pow_ten_positive}
use Rattle.book.specs.Accounts.{account_cmp, accounts_of}
use Rattle.book.specs.Bounds.{TurnoverFits, places_in, places_of, turnover}
use Rattle.book.specs.Postings.{postings_of}
use Rattle.book.specs.Sums.{is_nonzero, mixed_of, of_account, share, sum_of, symbol_in, symbols_of}
use Rattle.book.specs.declared.amount.Amount.{Amount}
use Rattle.book.specs.declared.transaction.Posting.{Posting}
use Rattle.entry_balance.specs.Values.{trimmed}
use Rattle.book_care.specs.Asked.{Asked as Closed, is_named, named_postings}
use Rattle.book_care.specs.Lines.{Moved, all_closed, closed, closing_lines, line_of, shortest, taken_into, turned}
use Rattle.book_care.proofs.Shortened.{units_negated}
use Rattle.hl_num.proofs.Trimmed.{shortened_is, trimmed-is, trimmed-places, trimmed-units}
use Rattle.written_logs.proofs.Lines.{all_parts}
use Rattle.closed_journals.proofs.Booked.{BookedIs, IsBooked, once_keeps}
use Rattle.closed_journals.proofs.Told.{IsTold}

-- ---- a sum of multiples

-- A number is so many times another one.
record IsTimes (z : ℤ) (k : ℕ) : Type 0 where
  times : ℤ
  is : z ≡ times *ℤ pos k

-- ---- sums of some postings

abbrev Bound : List ℕ → List Posting → Type 0
Bound symbol ps = unsigned_abs (sum_of symbol ps) ≤ turnover symbol ps

abs_sum : (x y : ℤ) (a b : ℕ) → unsigned_abs x ≤ a → unsigned_abs y ≤ b → unsigned_abs (x +ℤ y) ≤ a + b
abs_sum x y a b h k = omega (arith, ints, h, k)

sum_bound : (symbol : List ℕ) (ps : List Posting) → Bound symbol ps
sum_bound symbol [] = omega arith
sum_bound symbol (p ∷ ps) =
    abs_sum (share symbol p.amount) (sum_of symbol ps) (unsigned_abs (share symbol p.amount)) (turnover symbol ps) (let same : unsigned_abs (share symbol p.amount) ≤ unsigned_abs (share symbol p.amount) = omega arith in same) (sum_bound symbol ps)

-- fewer postings move less, with fewer decimals
module _ (test : Posting → Bool) (symbol : List ℕ) where
  turned_less : (ps : List Posting) → turnover symbol (filter test ps) ≤ turnover symbol ps
  turned_less [] = omega arith
  turned_less (p ∷ ps) =
      let rest = turned_less ps in
      elim (test p) as (λ b. turnover symbol (cond b (p ∷ filter test ps) (filter test ps)) ≤ unsigned_abs (share symbol p.amount) + turnover symbol ps) [
        | true ↦ omega (arith, rest)
        | false ↦ omega (arith, rest)
      ]

  placed_less : (ps : List Posting) → places_of symbol (filter test ps) ≤ places_of symbol ps
  placed_less [] = omega arith
  placed_less (p ∷ ps) =
      let rest = placed_less ps in
      elim (test p) as (λ b. places_of symbol (cond b (p ∷ filter test ps) (filter test ps)) ≤ max (places_in symbol p.amount) (places_of symbol ps)) [
        | true ↦ omega (arith, rest)
        | false ↦ omega (arith, rest)
      ]

-- in units of so many decimals each amount is whole
step : (n k : ℕ) → n ≤ k → k ≤ 36 → 10 ^ (36 - n) ≡ 10 ^ (k - n) * 10 ^ (36 - k)
step n k h most = let split : 36 - n ≡ (k - n) + (36 - k) = omega arith in ap (λ (e : ℕ). 10 ^ e) split ∙ pow-add 10 (k - n) (36 - k)

scaled : (d : Decimal) (k : ℕ) → d.places ≤ k → k ≤ 36 → IsTimes (units_of d) (10 ^ (36 - k))
scaled d k h most = record {
  times = d.mantissa *ℤ pos (10 ^ (k - d.places));
  is = ap (λ (x : ℕ). d.mantissa *ℤ pos x) (step d.places k h most) ∙ sym (mul-mul d.mantissa (10 ^ (k - d.places)) (10 ^ (36 - k)));
}

zero_times : (k : ℕ) → pos 0 ≡ pos 0 *ℤ pos k
zero_times k = omega (arith, ints)

share_times : (symbol : List ℕ) (amount : Option Amount) (k : ℕ) → BookedIs amount → places_in symbol amount ≤ k → k ≤ 36 → IsTimes (share symbol amount) (10 ^ (36 - k))
share_times symbol None k h few most = record { times = pos 0; is = zero_times (10 ^ (36 - k)) }
share_times symbol (Some a) k h few most = by (bytes_eq a.symbol symbol) few
  where
    by : (t : Bool) → cond t (a.value).places 0 ≤ k → IsTimes (cond t (units_of a.value) (pos 0)) (10 ^ (36 - k))
    by true less = scaled a.value k less most
    by false less = record { times = pos 0; is = zero_times (10 ^ (36 - k)) }

add_times : (x y : ℤ) (k : ℕ) → IsTimes x k → IsTimes y k → IsTimes (x +ℤ y) k
add_times x y k a b = record { times = a.times +ℤ b.times; is = (λ i. a.is i +ℤ b.is i) ∙ sym (mul-add a.times b.times k) }

sum_times : (symbol : List ℕ) (ps : List Posting) (k : ℕ) → AllByRecursion IsBooked ps → places_of symbol ps ≤ k → k ≤ 36 → IsTimes (sum_of symbol ps) (10 ^ (36 - k))
sum_times symbol [] k are few most = record { times = pos 0; is = zero_times (10 ^ (36 - k)) }
sum_times symbol (p ∷ ps) k are few most =
    add_times (share symbol p.amount) (sum_of symbol ps) (10 ^ (36 - k))
    (share_times symbol p.amount k (are.0).amount (omega (arith, few)) most)
    (sum_times symbol ps k are.1 (omega (arith, few)) most)

-- ---- the shortest form

trimmed_less : (m : ℤ) (n : ℕ) → unsigned_abs (trimmed m n).mantissa ≤ unsigned_abs m
trimmed_less m zero = omega arith
trimmed_less m (suc n) = by (unsigned_abs m % 10 == 0) (trimmed_less (with_sign (int_lt m (pos 0)) (unsigned_abs m / 10)) n)
  where
    signed_abs : (t : Bool) (k : ℕ) → unsigned_abs (with_sign t k) ≡ k
    signed_abs true zero = refl
    signed_abs true (suc k) = refl
    signed_abs false k = refl

    by : (t : Bool) → unsigned_abs (trimmed (with_sign (int_lt m (pos 0)) (unsigned_abs m / 10)) n).mantissa ≤ unsigned_abs (with_sign (int_lt m (pos 0)) (unsigned_abs m / 10))
        → unsigned_abs (cond t (trimmed (with_sign (int_lt m (pos 0)) (unsigned_abs m / 10)) n) (record { mantissa = m; places = suc n })).mantissa ≤ unsigned_abs m
    by true rest =
        let less : unsigned_abs m / 10 ≤ unsigned_abs m = div-le_self (unsigned_abs m) 10 in
        let same = signed_abs (int_lt m (pos 0)) (unsigned_abs m / 10) in
        omega (arith, rest, less, same)
    by false rest = omega arith

-- a number of so many units, below a bound in these
less_units : (t c u : ℕ) → 0 < u → t * u < c * u → t < c
less_units t c u some h = by (cases_lt t c)
  where
    by : (t < c) ⊎ (c ≤ t) → t < c
    by (inl less) = less
    by (inr more) = absurd (let most : u * c ≤ u * t = mul-le-mul_left u more in omega (arith, most, h))

-- a number without zeros at its end is the shortest one of its value
shortest_is : (d p : Decimal) → p.places ≤ 36 → IsTrimmed p → units_of p ≡ units_of d → p ≡ shortest (units_of d)
unfolding shortest
shortest_is d p few trim same = shortened_is d p few trim same

shortest_small : (z : ℤ) (k : ℕ) → k ≤ 36 → IsTimes z (10 ^ (36 - k)) → unsigned_abs z < 2 ^ 127 * 10 ^ (36 - k) → unsigned_abs (shortest z).mantissa < 2 ^ 127
shortest_small z k most is bound =
    let u = 10 ^ (36 - k) in
    let some : 0 < u = pow_ten_positive (36 - k) in
    let t = is.times in
    let d : Decimal = record { mantissa = t; places = k } in
    let p = trimmed t k in
    let few : p.places ≤ 36 = (let less = trimmed-places t k in omega (arith, less, most)) in
    let same : p ≡ shortest z = shortest_is d p few (trimmed-is t k) (trimmed-units t k most) ∙ ap shortest (sym is.is) in
    let whole : unsigned_abs z ≡ unsigned_abs t * u = ap unsigned_abs is.is ∙ unsigned_abs-mul t (pos u) in
    let small : unsigned_abs t < 2 ^ 127 = less_units (unsigned_abs t) (2 ^ 127) u some (subst (λ (n : ℕ). n < 2 ^ 127 * u) whole bound) in
    let less = trimmed_less t k in
    subst (λ (x : Decimal). unsigned_abs x.mantissa < 2 ^ 127) same (omega (arith, less, small))

unsigned_neg : (z : ℤ) → unsigned_abs (neg_ℤ z) ≡ unsigned_abs z
unsigned_neg (pos zero) = refl
unsigned_neg (pos (suc n)) = refl
unsigned_neg (negsuc n) = refl

neg_times : (z : ℤ) (k : ℕ) → IsTimes z (10 ^ (36 - k)) → IsTimes (neg_ℤ z) (10 ^ (36 - k))
neg_times z k is = record { times = neg_ℤ is.times; is = ap neg_ℤ is.is ∙ sym (units_negated (record { mantissa = is.times; places = k })) }

-- ---- lines

-- A line that is of a symbol and an account that were read, with few enough digits.
pub record IsBounded (m : Moved) : Type 0 where
  pub symbol : IsTold m.symbol
  pub account : is_utf8 m.account ≡ true
  pub small : unsigned_abs (m.value).mantissa < 2 ^ 127

few_in : (symbol : List ℕ) (amount : Option Amount) → BookedIs amount → places_in symbol amount ≤ 36
few_in symbol None h = omega arith
few_in symbol (Some a) h = by (bytes_eq a.symbol symbol) h.few
  where
    by : (t : Bool) → (a.value).places ≤ 36 → cond t (a.value).places 0 ≤ 36
    by true few = few
    by false few = omega arith

few_of : (symbol : List ℕ) (ps : List Posting) → AllByRecursion IsBooked ps → places_of symbol ps ≤ 36
few_of symbol [] are = omega arith
few_of symbol (p ∷ ps) are =
    let one = few_in symbol p.amount (are.0).amount in
    let more = few_of symbol ps are.1 in
    omega (arith, one, more)

some_filter : {A : Type 0} (P : A → Type 0) (p : A → Bool) (xs : List A) → AllByRecursion P xs → AllByRecursion P (filter p xs)
some_filter P p [] h = tt
some_filter {A} P p (x ∷ xs) h = by (p x) (some_filter P p xs h.1)
  where
    by : (t : Bool) → AllByRecursion P (filter p xs) → AllByRecursion P (cond t (x ∷ filter p xs) (filter p xs))
    by true rest = (h.0, rest)
    by false rest = rest

every_map : {A B : Type 0} (P : A → Type 0) (Q : B → Type 0) (f : A → B) → ((x : A) → P x → Q (f x)) → (xs : List A) → AllByRecursion P xs → AllByRecursion Q (map f xs)
every_map P Q f g [] h = tt
every_map P Q f g (x ∷ xs) h = (g x h.0, every_map P Q f g xs h.1)

every_flat : {A B : Type 0} (P : A → Type 0) (Q : B → Type 0) (f : A → List B) → ((x : A) → P x → AllByRecursion Q (f x)) → (xs : List A) → AllByRecursion P xs → AllByRecursion Q (flat_map f xs)
every_flat P Q f g [] h = tt
every_flat P Q f g (x ∷ xs) h = all_parts Q (f x) (flat_map f xs) (g x h.0) (every_flat P Q f g xs h.1)

-- a sum of some postings
record IsSum (ps : List Posting) (e : List ℕ × ℤ) : Type 0 where
  symbol : IsTold e.0
  sum : e.1 ≡ sum_of e.0 ps

symbol_told : (amount : Option Amount) → BookedIs amount → AllByRecursion IsTold (symbol_in amount)
symbol_told None h = tt
symbol_told (Some a) h = (h.symbol, tt)

mixed_sums : (ps : List Posting) → AllByRecursion IsBooked ps → AllByRecursion (IsSum ps) (mixed_of ps)
mixed_sums ps are =
    some_filter (IsSum ps) (λ (sum : List ℕ × ℤ). is_nonzero sum.1) (map (λ symbol. (symbol, sum_of symbol ps)) (symbols_of ps))
    (every_map IsTold (IsSum ps) (λ symbol. (symbol, sum_of symbol ps)) (λ symbol told. record { symbol = told; sum = refl }) (symbols_of ps)
    (once_keeps IsTold (slice_cmp nat_cmp) (flat_map (λ (p : Posting). symbol_in p.amount) ps) (every_flat IsBooked IsTold (λ (p : Posting). symbol_in p.amount) (λ p h. symbol_told p.amount h.amount) ps are)))

-- some of the postings
record IsSome (all ps : List Posting) : Type 0 where
  booked : AllByRecursion IsBooked ps
  less : (symbol : List ℕ) → turnover symbol ps ≤ turnover symbol all
  few : (symbol : List ℕ) → places_of symbol ps ≤ places_of symbol all

at_most : (a b c : ℕ) → a ≤ b → b ≤ c → a ≤ c
at_most a b c h k = omega (arith, h, k)

chosen : (all ps : List Posting) (test : Posting → Bool) → IsSome all ps → IsSome all (filter test ps)
chosen all ps test is = record {
  booked = some_filter IsBooked test ps is.booked;
  less = λ symbol. at_most (turnover symbol (filter test ps)) (turnover symbol ps) (turnover symbol all) (turned_less test symbol ps) (is.less symbol);
  few = λ symbol. at_most (places_of symbol (filter test ps)) (places_of symbol ps) (places_of symbol all) (placed_less test symbol ps) (is.few symbol);
}

module _ (all : List Posting) (fits : TurnoverFits all) (told : AllByRecursion IsBooked all) where
  whole : IsSome all all
  whole = record { booked = told; less = λ symbol. (let same : turnover symbol all ≤ turnover symbol all = omega arith in same); few = λ symbol. (let same : places_of symbol all ≤ places_of symbol all = omega arith in same) }

  small_sum : (ps : List Posting) (symbol : List ℕ) → IsSome all ps → unsigned_abs (sum_of symbol ps) < 2 ^ 127 * 10 ^ (36 - places_of symbol all)
  small_sum ps symbol is =
      let one = sum_bound symbol ps in
      let two = is.less symbol in
      let three = fits symbol in
      omega (arith, one, two, three)

  times_of : (ps : List Posting) (symbol : List ℕ) → IsSome all ps → IsTimes (sum_of symbol ps) (10 ^ (36 - places_of symbol all))
  times_of ps symbol is = sum_times symbol ps (places_of symbol all) is.booked (is.few symbol) (few_of symbol all told)

  -- a line of an account for a sum, or for the opposite of one
  taken_line : (ps : List Posting) (account : List ℕ) (e : List ℕ × ℤ) → IsSome all ps → is_utf8 account ≡ true → IsSum ps e → IsBounded (line_of account e)
  taken_line ps account e is utf8 sum = record {
    symbol = sum.symbol;
    account = utf8;
    small =
        subst (λ (z : ℤ). unsigned_abs (shortest z).mantissa < 2 ^ 127) (sym sum.sum)
        (shortest_small (sum_of e.0 ps) (places_of e.0 all) (few_of e.0 all told) (times_of ps e.0 is) (small_sum ps e.0 is));
  }

  closed_line : (ps : List Posting) (account : List ℕ) (e : List ℕ × ℤ) → IsSome all ps → is_utf8 account ≡ true → IsSum ps e → IsBounded (line_of account (turned e))
  closed_line ps account e is utf8 sum = record {
    symbol = sum.symbol;
    account = utf8;
    small =
        subst (λ (z : ℤ). unsigned_abs (shortest (neg_ℤ z)).mantissa < 2 ^ 127) (sym sum.sum)
        (shortest_small (neg_ℤ (sum_of e.0 ps)) (places_of e.0 all) (few_of e.0 all told) (neg_times (sum_of e.0 ps) (places_of e.0 all) (times_of ps e.0 is))
        (subst (λ (n : ℕ). n < 2 ^ 127 * 10 ^ (36 - places_of e.0 all)) (sym (unsigned_neg (sum_of e.0 ps))) (small_sum ps e.0 is)));
  }

  closed_lines : (ps : List Posting) (account : List ℕ) → IsSome all ps → is_utf8 account ≡ true → AllByRecursion IsBounded (closed ps account)
  closed_lines ps account is utf8 =
      let own = chosen all ps (λ (p : Posting). bytes_eq p.account account) is in
      every_map (IsSum (of_account account ps)) IsBounded (λ (sum : List ℕ × ℤ). line_of account (turned sum)) (λ e sum. closed_line (of_account account ps) account e own utf8 sum)
      (mixed_of (of_account account ps)) (mixed_sums (of_account account ps) own.booked)

  accounts_utf8 : (ps : List Posting) → AllByRecursion IsBooked ps → AllByRecursion (λ (a : List ℕ). is_utf8 a ≡ true) (accounts_of ps)
  accounts_utf8 ps are =
      once_keeps (λ (a : List ℕ). is_utf8 a ≡ true) account_cmp (map (λ (p : Posting). p.account) ps) (every_map IsBooked (λ (a : List ℕ). is_utf8 a ≡ true) (λ (p : Posting). p.account) (λ p h. h.account) ps are)

  some_lines : (ps : List Posting) (into : List ℕ) → IsSome all ps → is_utf8 into ≡ true → AllByRecursion IsBounded (all_closed ps ++ taken_into into ps)
  some_lines ps into is utf8 =
      all_parts IsBounded (all_closed ps) (taken_into into ps)
      (every_flat (λ (a : List ℕ). is_utf8 a ≡ true) IsBounded (closed ps) (λ account h. closed_lines ps account is h) (accounts_of ps) (accounts_utf8 ps is.booked))
      (every_map (IsSum ps) IsBounded (line_of into) (λ e sum. taken_line ps into e is utf8 sum) (mixed_of ps) (mixed_sums ps is.booked))

-- The lines of a closing entry over a book that was read.
pub bounded_lines : (closed_ : Closed) → TurnoverFits (postings_of closed_.txns) → AllByRecursion IsBooked (postings_of closed_.txns) → is_utf8 closed_.into ≡ true → AllByRecursion IsBounded (closing_lines closed_)
bounded_lines closed_ fits told utf8 =
    let all = postings_of closed_.txns in
    some_lines all fits told (named_postings closed_) closed_.into (chosen all all (λ (p : Posting). is_named closed_ p.account) (whole all fits told)) utf8
