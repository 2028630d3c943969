-- Why the rows that stand keep the bound on turnovers where some rows with the same net counts do.
use Rattle.std.proofs.Common.{◌≡◌, ℕ, ℤ, pos, suc, ◌+◌, ◌-◌, ◌^◌, ◌≤◌, ◌+ℤ◌, ◌-ℤ◌, neg_ℤ, ◌==◌, max, unsigned_abs, Bool, true, false, cond, filter, ◌&&◌, List, [], ◌∷◌, ◌++◌, map, refl, sym, ap, subst, ◌∙◌, lit<, arith}
use Rattle.std.specs.Str.{bytes_eq}
use Rattle.std.proofs.lemmas.Int.{ints}
use Rattle.std.proofs.lemmas.Bool.{false≢true}
use Rattle.std.proofs.lemmas.Bool.Decides.{nat_tests}
use Rattle.std.proofs.lemmas.Slice.Eq.{bytes_eq-Decides}
use Rattle.std.proofs.Math.Nat.{pow-le-pow_right, mul-le-mul_left}
use Rattle.hl_num.specs.Decimal.{units_of}
use Rattle.live_index.specs.declared.row.Row.{Row}
use Rattle.live_index.specs.Rows.{sum_by, turnover, places_of, TurnoverFits}
use Rattle.live_index.specs.Standing.{are_alike, are_opposite, is_zero, with_row, with_rows, standing}
use Rattle.live_index.specs.Net.{is_same, sign, weight, net, SameNet, negated_row}
use Rattle.live_index.proofs.StandingLaws.{standing-sum, opposite-is}

-- ---- tests

and-left : (a b : Bool) → (a && b) ≡ true → a ≡ true
and-left true b h = refl
and-left false b h = h

and-right : (a b : Bool) → (a && b) ≡ true → b ≡ true
and-right true b h = h
and-right false b h = absurd (false≢true h)

and-both : (a b : Bool) → a ≡ true → b ≡ true → (a && b) ≡ true
and-both a b h k = rw (h, k) refl

eq-of : (n k : ℕ) → (n == k) ≡ true → n ≡ k
eq-of n k h = grind (arith, nat_tests)

eq-true : (n k : ℕ) → n ≡ k → (n == k) ≡ true
eq-true n k h = grind (arith, nat_tests)

eq-false : (n k : ℕ) → (n ≡ k → ⊥) → (n == k) ≡ false
eq-false n k h = grind (arith, nat_tests)

false-of : (n k : ℕ) → (n == k) ≡ false → n ≡ k → ⊥
false-of n k h e = grind (arith, nat_tests)

-- ---- weights

-- a number and its opposite are as far from another
turned : (x y z : ℤ) → unsigned_abs (x +ℤ y) ≡ 0 → unsigned_abs (x -ℤ z) ≡ unsigned_abs (y +ℤ z)
turned x y z h = omega (arith, ints, h)

turned-back : (x y z : ℤ) → unsigned_abs (x +ℤ y) ≡ 0 → unsigned_abs (x +ℤ z) ≡ unsigned_abs (y -ℤ z)
turned-back x y z h = omega (arith, ints, h)

alike-along : (a b q : Row) → are_opposite a b ≡ true → are_alike a q ≡ are_alike b q
alike-along a b q h =
    let o = opposite-is a b h in
    λ i. bytes_eq (o.account i) q.account && bytes_eq (o.symbol i) q.symbol && (o.day i == q.day.0) && (o.places i == q.value.places)

same-turns : (a b q : Row) → are_opposite a b ≡ true → is_same a q ≡ are_opposite b q
same-turns a b q h =
    let o = opposite-is a b h in
    let far = turned a.value.mantissa b.value.mantissa q.value.mantissa o.mantissa in
    λ i. alike-along a b q h i && (far i == 0)

opposite-turns : (a b q : Row) → are_opposite a b ≡ true → are_opposite a q ≡ is_same b q
opposite-turns a b q h =
    let o = opposite-is a b h in
    let far = turned-back a.value.mantissa b.value.mantissa q.value.mantissa o.mantissa in
    λ i. alike-along a b q h i && (far i == 0)

swapped : (x y : Bool) → sign x y +ℤ sign y x ≡ pos 0
swapped true true = refl
swapped true false = refl
swapped false true = refl
swapped false false = refl

equal-signs : (x y : Bool) → x ≡ y → sign x y ≡ pos 0
equal-signs true true e = refl
equal-signs false false e = refl
equal-signs true false e = absurd (false≢true (sym e))
equal-signs false true e = absurd (false≢true e)

weight-cancels : (q a b : Row) → are_opposite a b ≡ true → weight q a +ℤ weight q b ≡ pos 0
weight-cancels q a b h =
    (λ i. sign (is_same a q) (are_opposite a q) +ℤ sign (sym (opposite-turns a b q h) i) (sym (same-turns a b q h) i))
    ∙ swapped (is_same a q) (are_opposite a q)

zero-far : (x z : ℤ) → unsigned_abs x ≡ 0 → unsigned_abs (x -ℤ z) ≡ unsigned_abs (x +ℤ z)
zero-far x z h = omega (arith, ints, h)

weight-zero : (q a : Row) → is_zero a ≡ true → weight q a ≡ pos 0
weight-zero q a h =
    let far = zero-far a.value.mantissa q.value.mantissa (eq-of (unsigned_abs a.value.mantissa) 0 h) in
    equal-signs (is_same a q) (are_opposite a q) (λ i. are_alike a q && (far i == 0))

all-kept : (rows : List Row) → filter (λ row. true) rows ≡ rows
all-kept [] = refl
all-kept (row ∷ rows) = ap (λ (t : List Row). row ∷ t) (all-kept rows)

-- the rows that stand have the net counts of all
net-standing : (q : Row) (rows : List Row) → net q (standing rows) ≡ net q rows
net-standing q rows =
    ap (sum_by (weight q)) (sym (all-kept (standing rows)))
    ∙ standing-sum (weight q) (weight-cancels q) (weight-zero q) (λ account symbol day places. true) rows
    ∙ ap (sum_by (weight q)) (all-kept rows)

-- ---- no two of the rows that stand are opposite

abbrev NoneOpposite : Row → List Row → Type 0
NoneOpposite row [] = Unit {0}
NoneOpposite row (other ∷ rows) = (are_opposite row other ≡ false) × NoneOpposite row rows

abbrev IsNet : List Row → Type 0
IsNet [] = Unit {0}
IsNet (row ∷ rows) = (is_zero row ≡ false) × (NoneOpposite row rows × IsNet rows)

none-with : (row : Row) (rows : List Row) (new : Row) → NoneOpposite row rows → are_opposite row new ≡ false → NoneOpposite row (with_row rows new)
none-with row [] new h e = elim (is_zero new) as (λ b. NoneOpposite row (cond b [] (new ∷ []))) [ true ↦ tt | false ↦ (e, tt) ]
none-with row (other ∷ rows) new h e =
    let rest = none-with row rows new h.1 e in
    elim (are_opposite other new) as (λ b. NoneOpposite row (cond b rows (other ∷ with_row rows new))) [ true ↦ h.1 | false ↦ (h.0, rest) ]

net-with : (rows : List Row) (new : Row) → IsNet rows → IsNet (with_row rows new)
net-with [] new h = elim (is_zero new) as (λ b. is_zero new ≡ b → IsNet (cond b [] (new ∷ []))) [ true ↦ λ e. tt | false ↦ λ e. (e, (tt, tt)) ] refl
net-with (other ∷ rows) new h =
    let rest = net-with rows new h.1.1 in
    elim (are_opposite other new) as (λ b. are_opposite other new ≡ b → IsNet (cond b rows (other ∷ with_row rows new))) [
      | true ↦ λ e. h.1.1
      | false ↦ λ e. (h.0, (none-with other rows new h.1.0 e, rest))
    ] refl

net-all : (rows more : List Row) → IsNet rows → IsNet (with_rows rows more)
net-all rows [] h = h
net-all rows (row ∷ more) h = net-all (with_row rows row) more (net-with rows row h)

-- ---- rows of a net count above zero

alike-self : (row : Row) → are_alike row row ≡ true
alike-self row =
    and-both _ _ (and-both _ _ (and-both _ _ ((bytes_eq-Decides row.account row.account).1 refl) ((bytes_eq-Decides row.symbol row.symbol).1 refl)) (eq-true row.day.0 row.day.0 refl)) (eq-true row.value.places row.value.places refl)

no-distance : (x : ℤ) → unsigned_abs (x -ℤ x) ≡ 0
no-distance x = omega (arith, ints)

twice-zero : (x : ℤ) → unsigned_abs (x +ℤ x) ≡ 0 → unsigned_abs x ≡ 0
twice-zero x h = omega (arith, ints, h)

second-false : (a b : Bool) → b ≡ false → (a && b) ≡ false
second-false true b h = h
second-false false b h = refl

weight-self : (row : Row) → is_zero row ≡ false → weight row row ≡ pos 1
weight-self row h =
    let same : is_same row row ≡ true = and-both _ _ (alike-self row) (eq-true (unsigned_abs (row.value.mantissa -ℤ row.value.mantissa)) 0 (no-distance row.value.mantissa)) in
    let apart : are_opposite row row ≡ false = second-false (are_alike row row) _ (eq-false (unsigned_abs (row.value.mantissa +ℤ row.value.mantissa)) 0 (λ e. false-of (unsigned_abs row.value.mantissa) 0 h (twice-zero row.value.mantissa e))) in
    λ i. sign (same i) (apart i)

commuted : (x y : ℤ) → unsigned_abs (x +ℤ y) ≡ unsigned_abs (y +ℤ x)
commuted x y = omega (arith, ints)

bool-same : (a b : Bool) → (a ≡ true → b ≡ true) → (b ≡ true → a ≡ true) → a ≡ b
bool-same true b f g = sym (f refl)
bool-same false true f g = g refl
bool-same false false f g = refl

turn-round : (a b : Row) → are_opposite a b ≡ true → are_opposite b a ≡ true
turn-round a b h =
    let o = opposite-is a b h in
    and-both _ _
    (and-both _ _ (and-both _ _ (and-both _ _ ((bytes_eq-Decides b.account a.account).1 (sym o.account)) ((bytes_eq-Decides b.symbol a.symbol).1 (sym o.symbol))) (eq-true b.day.0 a.day.0 (sym o.day))) (eq-true b.value.places a.value.places (sym o.places)))
    (eq-true (unsigned_abs (b.value.mantissa +ℤ a.value.mantissa)) 0 (commuted b.value.mantissa a.value.mantissa ∙ o.mantissa))

opposite-round : (a b : Row) → are_opposite a b ≡ are_opposite b a
opposite-round a b = bool-same _ _ (turn-round a b) (turn-round b a)

-- a net count that isn't below zero
record IsCount (z : ℤ) : Type 0 where
  count : ℕ
  is : z ≡ pos count

count-more : (s o : Bool) (z : ℤ) → o ≡ false → IsCount z → IsCount (sign s o +ℤ z)
count-more true true z e h = absurd (false≢true (sym e))
count-more false true z e h = absurd (false≢true (sym e))
count-more true false z e h = record { count = suc h.count; is = omega (arith, ints, h.is) }
count-more false false z e h = record { count = h.count; is = omega (arith, ints, h.is) }

none-counted : (row : Row) (rows : List Row) → NoneOpposite row rows → IsCount (net row rows)
none-counted row [] h = record { count = 0; is = refl }
none-counted row (other ∷ rows) h =
    count-more (is_same other row) (are_opposite other row) (net row rows) (opposite-round other row ∙ h.0) (none-counted row rows h.1)

same-is : (x y : Row) → is_same x y ≡ true → x ≡ y
same-is x y h =
    let alike = and-left (are_alike x y) _ h in
    let three = and-left (bytes_eq x.account y.account && bytes_eq x.symbol y.symbol && (x.day.0 == y.day.0)) _ alike in
    let two = and-left (bytes_eq x.account y.account && bytes_eq x.symbol y.symbol) _ three in
    let account = (bytes_eq-Decides x.account y.account).0 (and-left (bytes_eq x.account y.account) _ two) in
    let symbol = (bytes_eq-Decides x.symbol y.symbol).0 (and-right (bytes_eq x.account y.account) _ two) in
    let day = eq-of x.day.0 y.day.0 (and-right (bytes_eq x.account y.account && bytes_eq x.symbol y.symbol) _ three) in
    let places = eq-of x.value.places y.value.places (and-right (bytes_eq x.account y.account && bytes_eq x.symbol y.symbol && (x.day.0 == y.day.0)) _ alike) in
    let mantissa = no_distance x.value.mantissa y.value.mantissa (eq-of (unsigned_abs (x.value.mantissa -ℤ y.value.mantissa)) 0 (and-right (are_alike x y) _ h)) in
    λ i. record { account = account i; symbol = symbol i; day = record { 0 = day i }; value = record { mantissa = mantissa i; places = places i } }
  where
    no_distance : (a b : ℤ) → unsigned_abs (a -ℤ b) ≡ 0 → a ≡ b
    no_distance a b h = omega (arith, ints, h)

-- what one row adds to a turnover, and its number of decimals
abbrev moved : List ℕ → Row → ℕ
moved symbol row = cond (bytes_eq row.symbol symbol) (unsigned_abs (units_of row.value)) 0

abbrev shown : List ℕ → Row → ℕ
shown symbol row = cond (bytes_eq row.symbol symbol) row.value.places 0

-- a list that has a row, without it
record Taken (row : Row) (rows : List Row) : Type 0 where
  rest : List Row
  counts : (q : Row) → net q rows ≡ weight q row +ℤ net q rest
  turnover_is : (symbol : List ℕ) → turnover symbol rows ≡ moved symbol row + turnover symbol rest
  places_are : (symbol : List ℕ) → places_of symbol rows ≡ max (shown symbol row) (places_of symbol rest)

later-count : (o : Bool) (z : ℤ) (n : ℕ) → sign false o +ℤ z ≡ pos (suc n) → (m : ℕ) × (z ≡ pos (suc m))
later-count true z n h = (suc n, omega (arith, ints, h))
later-count false z n h = (n, omega (arith, ints, h))

passed : (a b c d : ℤ) → c ≡ b +ℤ d → a +ℤ c ≡ b +ℤ (a +ℤ d)
passed a b c d h = omega (arith, ints, h)

none_taken : (n : ℕ) → pos 0 ≡ pos (suc n) → ⊥
none_taken n h = absurd (omega (arith, ints, h))

take-out : (row : Row) (rows : List Row) (n : ℕ) → net row rows ≡ pos (suc n) → Taken row rows
take-out row [] n h = absurd (none_taken n h)
take-out row (other ∷ rows) n h =
    let later : (m : ℕ) → net row rows ≡ pos (suc m) → Taken row rows = take-out row rows in
    elim (is_same other row) as (λ b. is_same other row ≡ b → Taken row (other ∷ rows)) [
      | true ↦ λ e.
          let one : other ≡ row = same-is other row e in
          record {
            rest = rows;
            counts = λ q. ap (λ (r : Row). weight q r +ℤ net q rows) one;
            turnover_is = λ symbol. ap (λ (r : Row). moved symbol r + turnover symbol rows) one;
            places_are = λ symbol. ap (λ (r : Row). max (shown symbol r) (places_of symbol rows)) one;
          }
      | false ↦ λ e.
          let found = later-count (are_opposite other row) (net row rows) n (ap (λ (b : Bool). sign b (are_opposite other row) +ℤ net row rows) (sym e) ∙ h) in
          let t = later found.0 found.1 in
          record {
            rest = other ∷ t.rest;
            counts = λ q. passed (weight q other) (weight q row) (net q rows) (net q t.rest) (t.counts q);
            turnover_is = λ symbol. omega (arith, t.turnover_is symbol);
            places_are = λ symbol. omega (arith, t.places_are symbol);
          }
    ] refl

record IsWithin (some all : List Row) (symbol : List ℕ) : Type 0 where
  turnover_is : turnover symbol some ≤ turnover symbol all
  places_are : places_of symbol some ≤ places_of symbol all

one_and : (a b : ℤ) (n : ℕ) → a ≡ pos 1 → b ≡ pos n → a +ℤ b ≡ pos (suc n)
one_and a b n h k = omega (arith, ints, h, k)

taken_off : (a b c : ℤ) → a +ℤ b ≡ a +ℤ c → b ≡ c
taken_off a b c h = omega (arith, ints, h)

-- rows of which no two are opposite move no more than rows with the same net counts
within : (rows all : List Row) → IsNet rows → SameNet rows all → (symbol : List ℕ) → IsWithin rows all symbol
within [] all h same symbol = record { turnover_is = omega arith; places_are = omega arith }
within (row ∷ rows) all h same symbol =
    let c = none-counted row rows h.1.0 in
    let t = take-out row all c.count (sym (same row) ∙ one_and (weight row row) (net row rows) c.count (weight-self row h.0) c.is) in
    let rest = within rows t.rest h.1.1 (λ q. taken_off (weight q row) (net q rows) (net q t.rest) (same q ∙ t.counts q)) symbol in
    record {
      turnover_is = omega (arith, rest.turnover_is, t.turnover_is symbol);
      places_are = omega (arith, rest.places_are, t.places_are symbol);
    }

-- The rows that stand keep the bound on turnovers where some rows with the same net counts do.
pub fits-by : (rows put : List Row) → SameNet rows put → TurnoverFits rows → TurnoverFits (standing put)
fits-by rows put same fits = λ symbol.
    let w = within (standing put) rows (net-all [] put tt) (λ q. net-standing q put ∙ sym (same q)) symbol in
    let powers : 10 ^ (36 - places_of symbol rows) ≤ 10 ^ (36 - places_of symbol (standing put)) = pow-le-pow_right {n = 10} (lit< tt) (omega (arith, w.places_are)) in
    omega (arith, w.turnover_is, mul-le-mul_left (2 ^ 127) powers, fits symbol)

-- some rows put into an index that has none keep it
pub fits-into_none : (old rows : List Row) → old ≡ [] → TurnoverFits (standing rows) → TurnoverFits (standing (old ++ rows))
fits-into_none old rows none fits = subst (λ (o : List Row). TurnoverFits (standing (o ++ rows))) (sym none) fits

-- ---- old rows that are taken off, and new ones

net-append : (q : Row) (one two : List Row) → net q (one ++ two) ≡ net q one +ℤ net q two
net-append q [] two = omega (arith, ints)
net-append q (row ∷ one) two = omega (arith, ints, net-append q one two)

negated-opposite : (row : Row) → are_opposite (negated_row row) row ≡ true
negated-opposite row = and-both _ _ (alike-self row) (eq-true (unsigned_abs (neg_ℤ row.value.mantissa +ℤ row.value.mantissa)) 0 (gone row.value.mantissa))
  where
    gone : (x : ℤ) → unsigned_abs (neg_ℤ x +ℤ x) ≡ 0
    gone x = omega (arith, ints)

net-negated : (q : Row) (rows : List Row) → net q (map negated_row rows) +ℤ net q rows ≡ pos 0
net-negated q [] = refl
net-negated q (row ∷ rows) = both (weight q (negated_row row)) (weight q row) (net q (map negated_row rows)) (net q rows) (weight-cancels q (negated_row row) row (negated-opposite row)) (net-negated q rows)
  where
    both : (a b c d : ℤ) → a +ℤ b ≡ pos 0 → c +ℤ d ≡ pos 0 → (a +ℤ c) +ℤ (b +ℤ d) ≡ pos 0
    both a b c d h k = omega (arith, ints, h, k)

-- After old rows, negated, and new ones the net counts are those of the rows with the new ones in place of the old.
pub same-after : (front old back new put : List Row) → SameNet (front ++ (old ++ back)) put → SameNet (front ++ (new ++ back)) (put ++ (map negated_row old ++ new))
same-after front old back new put same = λ q.
    exchanged (net q front) (net q old) (net q back) (net q new) (net q put) (net q (map negated_row old))
    _ _ _ _ _ _
    (net-append q front (new ++ back)) (net-append q new back) (net-append q front (old ++ back)) (net-append q old back)
    (net-append q put (map negated_row old ++ new)) (net-append q (map negated_row old) new) (same q) (net-negated q old)
  where
    exchanged : (f o b n p m fnb nb fob ob pmn mn : ℤ) → fnb ≡ f +ℤ nb → nb ≡ n +ℤ b → fob ≡ f +ℤ ob → ob ≡ o +ℤ b → pmn ≡ p +ℤ mn → mn ≡ m +ℤ n → fob ≡ p → m +ℤ o ≡ pos 0 → fnb ≡ pmn
    exchanged f o b n p m fnb nb fob ob pmn mn h1 h2 h3 h4 h5 h6 h7 h8 = omega (arith, ints, h1, h2, h3, h4, h5, h6, h7, h8)
