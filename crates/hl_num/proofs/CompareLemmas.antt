-- The order of two values by their whole parts, and where these are equal by what is above them.
use Rattle.std.proofs.Common.{ℕ, ℤ, pos, negsuc, ◌≡◌, ◌+◌, ◌-◌, ◌*◌, ◌/◌, ◌%◌, ◌^◌, ◌<◌, ◌≤◌, ◌+ℤ◌, ◌*ℤ◌, unsigned_abs, refl, sym, ap, ◌∙◌, arith, ⊎_elim}
use Rattle.std.specs.declared.cmp.Ordering.{Ordering}
use Rattle.std.specs.declared.cmp.Ordering.TheVariants.{Less, Equal, Greater}
use Rattle.std.specs.Ordering.{int_cmp, nat_cmp, ordering_then}
use Rattle.std.specs.Int.{int_div_euclid, int_rem_euclid}
use Rattle.std.proofs.Math.IntN.{+ℤ_idr}
use Rattle.std.proofs.Math.Nat.{mul-le-mul_right, mul-lt-mul_of_pos_right}
use Rattle.std.proofs.lemmas.Bool.{cases_order}
use Rattle.std.proofs.lemmas.Bool.Decides.{nat_tests}
use Rattle.std.proofs.lemmas.Nat.{div-add-mod', mod_below, pow-add}
use borrow.Author.Differences.{up, down, sum_is_lem, same_in}
use Rattle.hl_num.specs.Decimal.{Decimal, units_of}
use Rattle.hl_num.proofs.DecimalLemmas.{mul-add, mul-mul, up-mul, down-mul}
use Rattle.hl_num.proofs.RoundingLemmas.{pow_ten_positive}

int_cmp-less : (x y : ℤ) → up x + down y < up y + down x → int_cmp x y ≡ Less
int_cmp-less (pos a) (pos b) h = grind (arith, nat_tests)
int_cmp-less (pos a) (negsuc b) h = absurd (omega arith)
int_cmp-less (negsuc a) (pos b) h = refl
int_cmp-less (negsuc a) (negsuc b) h = grind (arith, nat_tests)

int_cmp-greater : (x y : ℤ) → up y + down x < up x + down y → int_cmp x y ≡ Greater
int_cmp-greater (pos a) (pos b) h = grind (arith, nat_tests)
int_cmp-greater (pos a) (negsuc b) h = refl
int_cmp-greater (negsuc a) (pos b) h = absurd (omega arith)
int_cmp-greater (negsuc a) (negsuc b) h = grind (arith, nat_tests)

int_cmp-equal : (x y : ℤ) → up x + down y ≡ up y + down x → int_cmp x y ≡ Equal
int_cmp-equal (pos a) (pos b) h = grind (arith, nat_tests)
int_cmp-equal (pos a) (negsuc b) h = absurd (omega arith)
int_cmp-equal (negsuc a) (pos b) h = absurd (omega arith)
int_cmp-equal (negsuc a) (negsuc b) h = grind (arith, nat_tests)

nat_cmp-int_cmp : (x y : ℤ) (g h : ℕ) → up x + down y + h ≡ up y + down x + g → int_cmp x y ≡ nat_cmp g h
nat_cmp-int_cmp x y g h e =
    ⊎_elim
    (λ same. int_cmp-equal x y (omega arith) ∙ grind (arith, nat_tests))
    (⊎_elim
    (λ less. int_cmp-less x y (omega arith) ∙ grind (arith, nat_tests))
    (λ more. int_cmp-greater x y (omega arith) ∙ grind (arith, nat_tests)))
    (cases_order g h)

-- a whole part and what is above it
made_of : (w : ℤ) (g n : ℕ) → up (w *ℤ pos n +ℤ pos g) + down w * n ≡ down (w *ℤ pos n +ℤ pos g) + up w * n + g
made_of w g n = omega (arith, sum_is_lem (w *ℤ pos n) (pos g), up-mul w n, down-mul w n)

-- the whole parts decide, and then what is above them
pub int_cmp-parts : (v w : ℤ) (g h n : ℕ) → g < n → h < n → int_cmp (v *ℤ pos n +ℤ pos g) (w *ℤ pos n +ℤ pos h) ≡ ordering_then (int_cmp v w) (nat_cmp g h)
int_cmp-parts v w g h n g_below h_below =
    let x = v *ℤ pos n +ℤ pos g in
    let y = w *ℤ pos n +ℤ pos h in
    let of_x = made_of v g n in
    let of_y = made_of w h n in
    ⊎_elim
    (λ same. nat_cmp-int_cmp x y g h (omega (arith, ap (λ (k : ℕ). k * n) same)) ∙ ap (λ (o : Ordering). ordering_then o (nat_cmp g h)) (sym (int_cmp-equal v w same)))
    (⊎_elim
    (λ less. int_cmp-less x y (omega (arith, mul-le-mul_right n less)) ∙ ap (λ (o : Ordering). ordering_then o (nat_cmp g h)) (sym (int_cmp-less v w less)))
    (λ more. int_cmp-greater x y (omega (arith, mul-le-mul_right n more)) ∙ ap (λ (o : Ordering). ordering_then o (nat_cmp g h)) (sym (int_cmp-greater v w more))))
    (cases_order (up v + down w) (up w + down v))

then_equal : (o : Ordering) → ordering_then o Equal ≡ o
then_equal Less = refl
then_equal Equal = refl
then_equal Greater = refl

-- a positive factor keeps the order
pub int_cmp-mul : (v w : ℤ) (n : ℕ) → 0 < n → int_cmp (v *ℤ pos n) (w *ℤ pos n) ≡ int_cmp v w
int_cmp-mul v w n positive =
    ap (λ (x : ℤ). int_cmp x (w *ℤ pos n)) (sym (+ℤ_idr (v *ℤ pos n)))
    ∙ ap (λ (x : ℤ). int_cmp (v *ℤ pos n +ℤ pos 0) x) (sym (+ℤ_idr (w *ℤ pos n)))
    ∙ int_cmp-parts v w 0 0 n positive positive
    ∙ then_equal (int_cmp v w)

-- a number is its floor and what is above it
pub floor-parts : (m : ℤ) (n : ℕ) → 0 < n → m ≡ int_div_euclid m (pos n) *ℤ pos n +ℤ pos (unsigned_abs (int_rem_euclid m (pos n)))
floor-parts (pos a) n h = ap pos (sym (div-add-mod' a n))
floor-parts (negsuc a) n h =
    let rest = n - 1 - a % n in
    let whole : ℤ = negsuc (a / n) *ℤ pos n +ℤ pos rest in
    same_in (negsuc a) whole (omega (arith, made_of (negsuc (a / n)) rest n, div-add-mod' a n, mod_below a n h))

pub above_floor-below : (m : ℤ) (n : ℕ) → 0 < n → unsigned_abs (int_rem_euclid m (pos n)) < n
above_floor-below (pos a) n h = mod_below a n h
above_floor-below (negsuc a) n h = omega arith

-- the same in units of 10 ^ -36
pub units_of-parts : (d : Decimal) → d.places ≤ 36 → units_of d ≡ int_div_euclid d.mantissa (pos (10 ^ d.places)) *ℤ pos (10 ^ 36) +ℤ pos (unsigned_abs (int_rem_euclid d.mantissa (pos (10 ^ d.places))) * 10 ^ (36 - d.places))
units_of-parts d few =
    let scale = 10 ^ d.places in
    let unit = 10 ^ (36 - d.places) in
    let whole = int_div_euclid d.mantissa (pos scale) in
    let above = unsigned_abs (int_rem_euclid d.mantissa (pos scale)) in
    let all : d.places + (36 - d.places) ≡ 36 = omega arith in
    let one : scale * unit ≡ 10 ^ 36 = sym (pow-add 10 d.places (36 - d.places)) ∙ ap (λ (k : ℕ). 10 ^ k) all in
    ap (λ (m : ℤ). m *ℤ pos unit) (floor-parts d.mantissa scale (pow_ten_positive d.places))
    ∙ mul-add (whole *ℤ pos scale) (pos above) unit
    ∙ ap (λ (x : ℤ). x +ℤ pos (above * unit)) (mul-mul whole scale unit ∙ ap (λ (k : ℕ). whole *ℤ pos k) one)

pub above_floor-units : (d : Decimal) → d.places ≤ 36 → unsigned_abs (int_rem_euclid d.mantissa (pos (10 ^ d.places))) * 10 ^ (36 - d.places) < 10 ^ 36
above_floor-units d few =
    let all : d.places + (36 - d.places) ≡ 36 = omega arith in
    let one : 10 ^ d.places * 10 ^ (36 - d.places) ≡ 10 ^ 36 = sym (pow-add 10 d.places (36 - d.places)) ∙ ap (λ (k : ℕ). 10 ^ k) all in
    let less = above_floor-below d.mantissa (10 ^ d.places) (pow_ten_positive d.places) in
    let scaled = mul-lt-mul_of_pos_right {k = 10 ^ (36 - d.places)} less (pow_ten_positive (36 - d.places)) in
    omega (arith, scaled, one)

-- at one number of places the mantissas decide
pub compare-same : (a b : Decimal) (o : Ordering) → a.places ≡ b.places → o ≡ int_cmp a.mantissa b.mantissa → o ≡ int_cmp (units_of a) (units_of b)
compare-same a b o same is_order =
    let n = 10 ^ (36 - a.places) in
    is_order
    ∙ sym (int_cmp-mul a.mantissa b.mantissa n (pow_ten_positive (36 - a.places)))
    ∙ ap (λ (s : ℕ). int_cmp (a.mantissa *ℤ pos n) (b.mantissa *ℤ pos (10 ^ (36 - s)))) same

floor_of : Decimal → ℤ
floor_of d = int_div_euclid d.mantissa (pos (10 ^ d.places))

above_of : Decimal → ℕ
above_of d = unsigned_abs (int_rem_euclid d.mantissa (pos (10 ^ d.places))) * 10 ^ (36 - d.places)

compare-parts : (a b : Decimal) → a.places ≤ 36 → b.places ≤ 36 → int_cmp (units_of a) (units_of b) ≡ ordering_then (int_cmp (floor_of a) (floor_of b)) (nat_cmp (above_of a) (above_of b))
unfolding floor_of above_of
compare-parts a b few few' =
    ap (λ (x : ℤ). int_cmp x (units_of b)) (units_of-parts a few)
    ∙ ap (λ (x : ℤ). int_cmp (floor_of a *ℤ pos (10 ^ 36) +ℤ pos (above_of a)) x) (units_of-parts b few')
    ∙ int_cmp-parts (floor_of a) (floor_of b) (above_of a) (above_of b) (10 ^ 36) (above_floor-units a few) (above_floor-units b few')

then_other : (o p : Ordering) → (o ≡ Equal → ⊥) → ordering_then o p ≡ o
then_other Less p h = refl
then_other Equal p h = absurd (h refl)
then_other Greater p h = refl

-- different floors decide
pub compare-floors : (a b : Decimal) (o : Ordering) → a.places ≤ 36 → b.places ≤ 36 → (o ≡ Equal → ⊥)
    → o ≡ int_cmp (int_div_euclid a.mantissa (pos (10 ^ a.places))) (int_div_euclid b.mantissa (pos (10 ^ b.places))) → o ≡ int_cmp (units_of a) (units_of b)
unfolding floor_of above_of
compare-floors a b o few few' differ is_order =
    sym (then_other o (nat_cmp (above_of a) (above_of b)) differ)
    ∙ ap (λ (p : Ordering). ordering_then p (nat_cmp (above_of a) (above_of b))) is_order
    ∙ sym (compare-parts a b few few')

-- equal floors leave it to what is above them
pub compare-above : (a b : Decimal) (o : Ordering) (g h : ℕ) → a.places ≤ 36 → b.places ≤ 36
    → Equal ≡ int_cmp (int_div_euclid a.mantissa (pos (10 ^ a.places))) (int_div_euclid b.mantissa (pos (10 ^ b.places)))
    → g ≡ unsigned_abs (int_rem_euclid a.mantissa (pos (10 ^ a.places))) * 10 ^ (36 - a.places)
    → h ≡ unsigned_abs (int_rem_euclid b.mantissa (pos (10 ^ b.places))) * 10 ^ (36 - b.places)
    → o ≡ nat_cmp g h → o ≡ int_cmp (units_of a) (units_of b)
unfolding floor_of above_of
compare-above a b o g h few few' same is_g is_h is_order =
    is_order
    ∙ ap (λ (x : ℕ). nat_cmp x h) is_g
    ∙ ap (λ (x : ℕ). nat_cmp (above_of a) x) is_h
    ∙ ap (λ (p : Ordering). ordering_then p (nat_cmp (above_of a) (above_of b))) same
    ∙ sym (compare-parts a b few few')
