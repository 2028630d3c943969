-- Sums of two lists of values, and what is wanted less such a sum.
use Rattle.std.proofs.Common.{◌≡◌, ℕ, pos, ◌+◌, ◌-◌, ◌*◌, ◌^◌, ◌<◌, ◌≤◌, ℤ, ◌+ℤ◌, ◌*ℤ◌, unsigned_abs, true, false, ◌&&◌, ltb, max, List, [], ◌∷◌, ◌++◌, refl, sym, ap, ◌∙◌, subst, arith}
use Rattle.std.specs.List.{fold}
use Rattle.std.proofs.lemmas.Bool.{false≢true}
use Rattle.std.proofs.lemmas.Bool.Decides.{Decides-ltb}
use Rattle.std.proofs.lemmas.Int.{unsigned_abs-mul, ints}
use Rattle.hl_num.specs.Decimal.{Decimal, units_of, mantissa_at, add_fits, negated}
use Rattle.hl_num.proofs.DecimalLaws.{unsigned_abs-mantissa_at}
use Rattle.book.specs.declared.amount.Amount.{Amount}
use Rattle.book.specs.Mixed.{plus}
use Rattle.entry_balance.specs.Values.{Value}
use Rattle.entry_balance.specs.Tally.{numbers_of, no_sum, total_of, turnover_fits}
use Rattle.entry_balance.proofs.Adding.{false-from}
use Rattle.entry_balance.proofs.Named.{both_true}
use Rattle.entry_balance.proofs.Turnover.{AllAtMost, magnitude, magnitude-append, mantissa_at-plus, numbers-append, numbers-here, plus_none, nothing, sum-within, sum_places-all, exact-abs, total_within}
use Rattle.balancing.specs.declared.form.Form.{Form}
use Rattle.balancing.specs.declared.form.Form.TheVariants as form
use Rattle.balancing.specs.Assigned.{shortened}
use Rattle.balancing.specs.Entering.{entering}
use Rattle.balancing.specs.Giving.{fits_after, fits_after_by}
use Rattle.balancing.proofs.Fewest.{fewest, same_at, trimmed_value}

same-decimal : (a b : Decimal) → a.places ≡ b.places → a.mantissa ≡ b.mantissa → a ≡ b
same-decimal a b p m = λ i. record { mantissa = m i; places = p i }

at_own : (m : ℤ) (p : ℕ) → m *ℤ pos (10 ^ (p - p)) ≡ m
at_own m p = let none : p - p ≡ 0 = omega arith in ap (λ (k : ℕ). m *ℤ pos (10 ^ k)) none ∙ one m
  where
    one : (m : ℤ) → m *ℤ pos (10 ^ 0) ≡ m
    one m = omega (arith, ints)

add_assoc : (a b c : ℤ) → (a +ℤ b) +ℤ c ≡ a +ℤ (b +ℤ c)
add_assoc a b c = omega (arith, ints)

pub plus_assoc : (a b c : Decimal) → plus (plus a b) c ≡ plus a (plus b c)
plus_assoc a b c =
    let q = max a.places (max b.places c.places) in
    let left : max (max a.places b.places) c.places ≡ q = omega arith in
    same-decimal (plus (plus a b) c) (plus a (plus b c)) left
    (ap (λ (k : ℕ). mantissa_at (plus a b) k +ℤ mantissa_at c k) left
    ∙ ap (λ (x : ℤ). x +ℤ mantissa_at c q) (mantissa_at-plus a b q (omega arith) (omega arith))
    ∙ add_assoc (mantissa_at a q) (mantissa_at b q) (mantissa_at c q)
    ∙ ap (λ (x : ℤ). mantissa_at a q +ℤ x) (sym (mantissa_at-plus b c q (omega arith) (omega arith))))

none_plus : (v : Decimal) → plus v no_sum ≡ v
none_plus v =
    let p : max v.places 0 ≡ v.places = omega arith in
    same-decimal (plus v no_sum) v p
    (ap (λ (x : ℤ). mantissa_at v (max v.places 0) +ℤ x) (nothing (max v.places 0)) ∙ add_none (mantissa_at v (max v.places 0)) ∙ ap (mantissa_at v) p ∙ at_own v.mantissa v.places)
  where
    add_none : (a : ℤ) → a +ℤ pos 0 ≡ a
    add_none a = omega (arith, ints)

fold-from : (acc : Decimal) (ds : List Decimal) → fold plus acc ds ≡ plus acc (fold plus no_sum ds)
fold-from acc [] = sym (none_plus acc)
fold-from acc (d ∷ ds) =
    fold-from (plus acc d) ds ∙ plus_assoc acc d (fold plus no_sum ds)
    ∙ ap (plus acc) (sym (fold-from (plus no_sum d) ds ∙ ap (λ (x : Decimal). plus x (fold plus no_sum ds)) (plus_none d)))

fold-append : (acc : Decimal) (ds es : List Decimal) → fold plus acc (ds ++ es) ≡ fold plus (fold plus acc ds) es
fold-append acc [] es = refl
fold-append acc (d ∷ ds) es = fold-append (plus acc d) ds es

-- the sum of two lists of values
pub total-append : (s : List ℕ) (xs ys : List Value) → total_of s (xs ++ ys) ≡ plus (total_of s xs) (total_of s ys)
total-append s xs ys =
    ap (fold plus no_sum) (numbers-append s xs ys) ∙ fold-append no_sum (numbers_of s xs) (numbers_of s ys) ∙ fold-from (total_of s xs) (numbers_of s ys)

-- ---- bounds

at_most-more : (p q : ℕ) (ds : List Decimal) → p ≤ q → AllAtMost p ds → AllAtMost q ds
at_most-more p q [] h all = tt
at_most-more p q (d ∷ ds) h all = (omega (arith, all.0), at_most-more p q ds h all.1)

-- a sum is no more than the magnitudes of what is added
pub sum-small : (ds : List Decimal) (q : ℕ) → (fold plus no_sum ds).places ≤ q → unsigned_abs (mantissa_at (fold plus no_sum ds) q) ≤ magnitude q ds
sum-small ds q h =
    let within = sum-within no_sum ds q (omega arith) (at_most-more (fold plus no_sum ds).places q ds h (sum_places-all no_sum ds)) in
    let none = ap unsigned_abs (nothing q) in
    omega (arith, within, none)

magnitude-small : (s : List ℕ) (vs : List Value) → turnover_fits vs ≡ true → magnitude (total_of s vs).places (numbers_of s vs) < 2 ^ 127
magnitude-small s vs fits =
    let small = (Decides-ltb _ _).0 (total_within s vs fits) in
    let exact = ap unsigned_abs (exact-abs (numbers_of s vs)) in
    omega (arith, small, exact)

ltb-yes : (a b : ℕ) → a < b → ltb a b ≡ true
ltb-yes a b h = (Decides-ltb a b).1 h

add_small : (a b : ℤ) → unsigned_abs (a +ℤ b) ≤ unsigned_abs a + unsigned_abs b
add_small a b = omega (arith, ints)

add_left : (a b : ℤ) → unsigned_abs a ≤ unsigned_abs (a +ℤ b) + unsigned_abs b
add_left a b = omega (arith, ints)

all_small : (a b : ℤ) (n : ℕ) → unsigned_abs a < n → unsigned_abs b < n → unsigned_abs (a +ℤ b) < n → ((ltb (unsigned_abs a) n && ltb (unsigned_abs b) n) && ltb (unsigned_abs (a +ℤ b)) n) ≡ true
all_small a b n x y z = both_true _ _ (both_true _ _ (ltb-yes _ _ x) (ltb-yes _ _ y)) (ltb-yes _ _ z)

-- sums of values that fit can be added
pub sums_fit : (s : List ℕ) (xs ys : List Value) → turnover_fits (xs ++ ys) ≡ true → add_fits (total_of s xs) (total_of s ys) ≡ true
sums_fit s xs ys fits =
    let a = total_of s xs in
    let b = total_of s ys in
    let q = max a.places b.places in
    let places : (total_of s (xs ++ ys)).places ≡ q = ap (λ (d : Decimal). d.places) (total-append s xs ys) in
    let all : magnitude q (numbers_of s (xs ++ ys)) < 2 ^ 127 = subst (λ (k : ℕ). magnitude k (numbers_of s (xs ++ ys)) < 2 ^ 127) places (magnitude-small s (xs ++ ys) fits) in
    let split = ap (magnitude q) (numbers-append s xs ys) ∙ magnitude-append q (numbers_of s xs) (numbers_of s ys) in
    let of_a = sum-small (numbers_of s xs) q (omega arith) in
    let of_b = sum-small (numbers_of s ys) q (omega arith) in
    let both = add_small (mantissa_at a q) (mantissa_at b q) in
    all_small (mantissa_at a q) (mantissa_at b q) (2 ^ 127) (omega (arith, all, split, of_a, of_b)) (omega (arith, all, split, of_a, of_b)) (omega (arith, all, split, of_a, of_b, both))

neg-at : (d : Decimal) (q : ℕ) → unsigned_abs (mantissa_at (negated d) q) ≡ unsigned_abs (mantissa_at d q)
neg-at d q = unsigned_abs-mul (negated d).mantissa (pos (10 ^ (q - d.places))) ∙ ap (λ (k : ℕ). k * 10 ^ (q - d.places)) (neg_abs d.mantissa) ∙ sym (unsigned_abs-mul d.mantissa (pos (10 ^ (q - d.places))))
  where
    neg_abs : (z : ℤ) → unsigned_abs (negated (record { mantissa = z; places = 0 })).mantissa ≡ unsigned_abs z
    neg_abs z = omega (arith, ints)

-- what is wanted can be told less a number that is worth what is held, where both stay within the bound
less_fits : (s : List ℕ) (held : List Value) (w d : Decimal) → ((q : ℕ) → (total_of s held).places ≤ q → mantissa_at d q ≡ mantissa_at (total_of s held) q) → turnover_fits (held ++ (s, plus w (negated d)) ∷ []) ≡ true → add_fits w (negated d) ≡ true
less_fits s held w d same fits =
    let total = total_of s held in
    let v = plus w (negated d) in
    let ds = numbers_of s held in
    let p = max w.places d.places in
    let q = max total.places v.places in
    let here : numbers_of s ((s, v) ∷ []) ≡ v ∷ [] = numbers-here s v [] in
    let numbers : numbers_of s (held ++ (s, v) ∷ []) ≡ ds ++ v ∷ [] = numbers-append s held ((s, v) ∷ []) ∙ ap (λ (es : List Decimal). ds ++ es) here in
    let one : total_of s ((s, v) ∷ []) ≡ v = ap (fold plus no_sum) here ∙ plus_none v in
    let places : (total_of s (held ++ (s, v) ∷ [])).places ≡ q = ap (λ (d : Decimal). d.places) (total-append s held ((s, v) ∷ []) ∙ ap (plus total) one) in
    let all : magnitude q (ds ++ v ∷ []) < 2 ^ 127 = subst (λ (k : ℕ). magnitude k (ds ++ v ∷ []) < 2 ^ 127) places
    (subst (λ (es : List Decimal). magnitude (total_of s (held ++ (s, v) ∷ [])).places es < 2 ^ 127) numbers (magnitude-small s (held ++ (s, v) ∷ []) fits)) in
    let split = magnitude-append q ds (v ∷ []) in
    let of_total = sum-small ds q (omega arith) in
    let worth : unsigned_abs (mantissa_at (negated d) q) ≡ unsigned_abs (mantissa_at total q) = neg-at d q ∙ ap unsigned_abs (same q (omega arith)) in
    let sum : unsigned_abs (mantissa_at v q) ≡ unsigned_abs (mantissa_at w q +ℤ mantissa_at (negated d) q) = ap unsigned_abs (mantissa_at-plus w (negated d) q (omega arith) (omega arith)) in
    let left = add_left (mantissa_at w q) (mantissa_at (negated d) q) in
    let of_w = unsigned_abs-mantissa_at w p q (omega arith) in
    let of_d = unsigned_abs-mantissa_at (negated d) p q (omega arith) in
    let of_v = unsigned_abs-mantissa_at v p q (omega arith) in
    let own : unsigned_abs (mantissa_at v p) ≡ unsigned_abs (mantissa_at w p +ℤ mantissa_at (negated d) p) = ap unsigned_abs (at_own v.mantissa p) in
    all_small (mantissa_at w p) (mantissa_at (negated d) p) (2 ^ 127)
    (omega (arith, all, split, of_total, worth, sum, left, of_w)) (omega (arith, all, split, of_total, worth, of_d)) (omega (arith, all, split, own, of_v))

-- what is wanted can be told less what is held, where both stay within the bound
difference_fits : (held : List Value) (w : Amount) → (total_of w.symbol held).places ≤ 36 → fits_after held w ≡ true → add_fits w.value (negated (shortened (total_of w.symbol held))) ≡ true
difference_fits held w few fits =
    let total = total_of w.symbol held in
    less_fits w.symbol held w.value (shortened total) (same_at (shortened total) total (fewest total few) few (trimmed_value (units_of total))) fits

-- it can't, so they don't
pub difference_range_by : (f : Form) (held : List Value) (w : Amount) (total : Decimal) → total.places ≤ 36 → total ≡ total_of w.symbol held → add_fits w.value (negated (entering f total)) ≡ false → fits_after_by (entering f) held w ≡ false
difference_range_by form.Shortened held w total few is differs = false-from _ (λ fits. false≢true (sym differs ∙ ap (λ (d : Decimal). add_fits w.value (negated (shortened d))) is
    ∙ difference_fits held w (subst (λ (d : Decimal). d.places ≤ 36) is few) fits))
difference_range_by form.Whole held w total few is differs = false-from _ (λ fits. false≢true (sym differs ∙ ap (λ (d : Decimal). add_fits w.value (negated d)) is
    ∙ less_fits w.symbol held w.value (total_of w.symbol held) (λ q h. refl) fits))
