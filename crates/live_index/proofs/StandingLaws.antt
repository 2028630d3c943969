-- What is told of rows of which opposite ones cancel is told of all.
use Rattle.std.proofs.Common.{◌≡◌, ℕ, ℤ, pos, ◌≤◌, ◌+ℤ◌, ◌*ℤ◌, ◌-◌, ◌/◌, ◌^◌, ◌==◌, nat_lt, unsigned_abs, Bool, true, false, cond, ◌&&◌, List, [], ◌∷◌, ◌++◌, filter, zero-mul, refl, sym, ap, ◌∙◌, arith}
use Rattle.std.specs.Str.{bytes_eq}
use Rattle.std.specs.List.{AllByRecursion}
use Rattle.std.proofs.lemmas.Int.{ints}
use Rattle.std.proofs.lemmas.Bool.{false≢true}
use Rattle.std.proofs.lemmas.Bool.Decides.{nat_tests}
use Rattle.std.proofs.lemmas.Slice.Eq.{bytes_eq-Decides}
use Rattle.hl_num.specs.Decimal.{units_of}
use Rattle.hl_num.proofs.DecimalLemmas.{mul-add}
use Rattle.book.specs.SumsBefore.{is_of}
use Rattle.live_index.specs.declared.row.Row.{Row}
use Rattle.live_index.proofs.Sums.{sum-append}
use Rattle.live_index.specs.Rows.{sum_by, counts, node_sum, sum_before}
use Rattle.live_index.specs.Standing.{are_opposite, is_zero, with_row, with_rows, standing}

and-left : (a b : Bool) → (a && b) ≡ true → a ≡ true
and-left true b h = refl
and-left false b h = h

and-right : (a b : Bool) → (a && b) ≡ true → b ≡ true
and-right true b h = h
and-right false b h = absurd (false≢true h)

eq-of : (n k : ℕ) → (n == k) ≡ true → n ≡ k
eq-of n k h = grind (arith, nat_tests)

-- what two opposite rows have in common
pub record Opposite (a b : Row) : Type 0 where
  pub account : a.account ≡ b.account
  pub symbol : a.symbol ≡ b.symbol
  pub day : a.day.0 ≡ b.day.0
  pub places : a.value.places ≡ b.value.places
  pub mantissa : unsigned_abs (a.value.mantissa +ℤ b.value.mantissa) ≡ 0

pub opposite-is : (a b : Row) → are_opposite a b ≡ true → Opposite a b
opposite-is a b h =
    parts (bytes_eq a.account b.account) (bytes_eq a.symbol b.symbol) (a.day.0 == b.day.0) (a.value.places == b.value.places) (unsigned_abs (a.value.mantissa +ℤ b.value.mantissa) == 0) h
    (λ x y z p m. record {
      account = (bytes_eq-Decides a.account b.account).0 x;
      symbol = (bytes_eq-Decides a.symbol b.symbol).0 y;
      day = eq-of a.day.0 b.day.0 z;
      places = eq-of a.value.places b.value.places p;
      mantissa = eq-of (unsigned_abs (a.value.mantissa +ℤ b.value.mantissa)) 0 m;
    })
  where
    parts : {P : Type 0} (x y z p m : Bool) → (x && y && z && p && m) ≡ true → (x ≡ true → y ≡ true → z ≡ true → p ≡ true → m ≡ true → P) → P
    parts true true true true true h f = f refl refl refl refl refl
    parts true true true true false h f = absurd (false≢true h)
    parts true true true false m h f = absurd (false≢true h)
    parts true true false p m h f = absurd (false≢true h)
    parts true false z p m h f = absurd (false≢true h)
    parts false y z p m h f = absurd (false≢true h)

-- the sum of a row where a test holds
abbrev weighed : (Row → ℤ) → Bool → Row → ℤ
weighed w b row = cond b (w row) (pos 0)

module _ (w : Row → ℤ) (cancel : (a b : Row) → are_opposite a b ≡ true → w a +ℤ w b ≡ pos 0) (nothing : (a : Row) → is_zero a ≡ true → w a ≡ pos 0) (g : List ℕ → List ℕ → ℕ → ℕ → Bool) where
  abbrev test : Row → Bool
  test row = g row.account row.symbol row.day.0 row.value.places

  alike : (a b : Row) → are_opposite a b ≡ true → test a ≡ test b
  alike a b h =
      let o = opposite-is a b h in
      λ i. g (o.account i) (o.symbol i) (o.day i) (o.places i)

  gone : (a b : Row) (rest : List Row) (x y : Bool) → x ≡ y → w a +ℤ w b ≡ pos 0 → sum_by w rest ≡ sum_by w (cond x (a ∷ rest) rest) +ℤ weighed w y b
  gone a b rest true true e h = omega (arith, ints, h)
  gone a b rest false false e h = omega (arith, ints)
  gone a b rest true false e h = absurd (false≢true (sym e))
  gone a b rest false true e h = absurd (false≢true e)

  stays : (a b : Row) (rest more : List Row) (x y : Bool) → sum_by w more ≡ sum_by w rest +ℤ weighed w y b → sum_by w (cond x (a ∷ more) more) ≡ sum_by w (cond x (a ∷ rest) rest) +ℤ weighed w y b
  stays a b rest more true y h = omega (arith, ints, h)
  stays a b rest more false y h = h

  alone : (b : Row) (y z : Bool) → (z ≡ true → w b ≡ pos 0) → sum_by w (filter test (cond z [] (b ∷ []))) ≡ pos 0 +ℤ weighed w (test b) b
  alone b y true h = zero_is (test b)
    where
      zero_is : (t : Bool) → pos 0 ≡ pos 0 +ℤ weighed w t b
      zero_is true = omega (arith, ints, h refl)
      zero_is false = refl
  alone b y false h = one_is (test b)
    where
      one_is : (t : Bool) → sum_by w (cond t (b ∷ []) []) ≡ pos 0 +ℤ weighed w t b
      one_is true = omega (arith, ints)
      one_is false = refl

  -- one row more
  with_row-sum : (rows : List Row) (row : Row) → sum_by w (filter test (with_row rows row)) ≡ sum_by w (filter test rows) +ℤ weighed w (test row) row
  with_row-sum [] row = alone row true (is_zero row) (nothing row)
  with_row-sum (other ∷ rows) row =
      elim (are_opposite other row) as (λ b. are_opposite other row ≡ b → sum_by w (filter test (cond b rows (other ∷ with_row rows row))) ≡ sum_by w (filter test (other ∷ rows)) +ℤ weighed w (test row) row) [
        | true ↦ λ e. gone other row (filter test rows) (test other) (test row) (alike other row e) (cancel other row e)
        | false ↦ λ e. stays other row (filter test rows) (filter test (with_row rows row)) (test other) (test row) (with_row-sum rows row)
      ] refl

  next : (row : Row) (rest : List Row) (y : Bool) (before whole : ℤ) → whole ≡ (before +ℤ weighed w y row) +ℤ sum_by w rest → whole ≡ before +ℤ sum_by w (cond y (row ∷ rest) rest)
  next row rest true before whole h = omega (arith, ints, h)
  next row rest false before whole h = omega (arith, ints, h)

  with_rows-sum : (rows more : List Row) → sum_by w (filter test (with_rows rows more)) ≡ sum_by w (filter test rows) +ℤ sum_by w (filter test more)
  with_rows-sum rows [] = omega (arith, ints)
  with_rows-sum rows (row ∷ more) =
      next row (filter test more) (test row) (sum_by w (filter test rows)) _
      (with_rows-sum (with_row rows row) more ∙ ap (λ (z : ℤ). z +ℤ sum_by w (filter test more)) (with_row-sum rows row))

  -- the sum of the rows that stand is that of all
  pub standing-sum : (rows : List Row) → sum_by w (filter (λ row. g row.account row.symbol row.day.0 row.value.places) (standing rows)) ≡ sum_by w (filter (λ row. g row.account row.symbol row.day.0 row.value.places) rows)
  standing-sum rows = with_rows-sum [] rows ∙ omega (arith, ints)

zero-of : (z : ℤ) → unsigned_abs z ≡ 0 → z ≡ pos 0
zero-of z h = omega (arith, ints, h)

pub mantissas-zero : (a : Row) → is_zero a ≡ true → a.value.mantissa ≡ pos 0
mantissas-zero a h = zero-of a.value.mantissa (eq-of (unsigned_abs a.value.mantissa) 0 h)

pub mantissas-cancel : (a b : Row) → are_opposite a b ≡ true → a.value.mantissa +ℤ b.value.mantissa ≡ pos 0
mantissas-cancel a b h = zero-of (a.value.mantissa +ℤ b.value.mantissa) (opposite-is a b h).mantissa

scaled : (x y : ℤ) (n : ℕ) → x +ℤ y ≡ pos 0 → x *ℤ pos n +ℤ y *ℤ pos n ≡ pos 0
scaled x y n h = sym (mul-add x y n) ∙ ap (λ (z : ℤ). z *ℤ pos n) h ∙ ap pos (zero-mul n)

pub units-cancel : (a b : Row) → are_opposite a b ≡ true → units_of a.value +ℤ units_of b.value ≡ pos 0
units-cancel a b h =
    let o = opposite-is a b h in
    ap (λ (n : ℕ). a.value.mantissa *ℤ pos (10 ^ (36 - n)) +ℤ units_of b.value) o.places
    ∙ scaled a.value.mantissa b.value.mantissa (10 ^ (36 - b.value.places)) (mantissas-cancel a b h)

pub units-zero : (a : Row) → is_zero a ≡ true → units_of a.value ≡ pos 0
units-zero a h = ap (λ (z : ℤ). z *ℤ pos (10 ^ (36 - a.value.places))) (mantissas-zero a h) ∙ ap pos (zero-mul (10 ^ (36 - a.value.places)))

-- ---- rows that stand have at most 36 decimals

with_row-few : (rows : List Row) (row : Row) → AllByRecursion (λ r. r.value.places ≤ 36) rows → row.value.places ≤ 36 → AllByRecursion (λ r. r.value.places ≤ 36) (with_row rows row)
with_row-few [] row h k = elim (is_zero row) as (λ b. AllByRecursion (λ r. r.value.places ≤ 36) (cond b [] (row ∷ []))) [ true ↦ tt | false ↦ (k, tt) ]
with_row-few (other ∷ rows) row h k =
    elim (are_opposite other row) as (λ b. AllByRecursion (λ r. r.value.places ≤ 36) (cond b rows (other ∷ with_row rows row))) [
      | true ↦ h.1
      | false ↦ (h.0, with_row-few rows row h.1 k)
    ]

with_rows-few : (rows more : List Row) → AllByRecursion (λ r. r.value.places ≤ 36) rows → AllByRecursion (λ r. r.value.places ≤ 36) more → AllByRecursion (λ r. r.value.places ≤ 36) (with_rows rows more)
with_rows-few rows [] h k = h
with_rows-few rows (row ∷ more) h k = with_rows-few (with_row rows row) more (with_row-few rows row h k.0) k.1

pub standing-few : (rows : List Row) → AllByRecursion (λ r. r.value.places ≤ 36) rows → AllByRecursion (λ r. r.value.places ≤ 36) (standing rows)
standing-few rows h = with_rows-few [] rows tt h

-- ---- the sums of the rows that stand are those of all rows

pub node-standing : (rows : List Row) (account symbol : List ℕ) (below : Bool) (level at : ℕ) → node_sum (standing rows) account symbol below level at ≡ node_sum rows account symbol below level at
node-standing rows account symbol below level at =
    standing-sum (λ row. units_of row.value) units-cancel units-zero (λ own its day places. bytes_eq its symbol && is_of account below own && (day / 2 ^ level == at)) rows

pub before-standing : (rows : List Row) (account symbol : List ℕ) (below : Bool) (end : ℕ) → sum_before (standing rows) account symbol below end ≡ sum_before rows account symbol below end
before-standing rows account symbol below end =
    standing-sum (λ row. units_of row.value) units-cancel units-zero (λ own its day places. bytes_eq its symbol && is_of account below own && nat_lt day end) rows

-- After more rows a sum is the one before and theirs.
pub before-after : (rows more : List Row) (account symbol : List ℕ) (below : Bool) (end : ℕ) → sum_before (standing (rows ++ more)) account symbol below end ≡ sum_before (standing rows) account symbol below end +ℤ sum_before more account symbol below end
before-after rows more account symbol below end =
    before-standing (rows ++ more) account symbol below end
    ∙ sum-append (λ row. units_of row.value) (λ row. counts account symbol below row && nat_lt row.day.0 end) rows more
    ∙ ap (λ (z : ℤ). z +ℤ sum_before more account symbol below end) (sym (before-standing rows account symbol below end))
