-- Laws of decimals, for crates that add and print them.
use Rattle.std.proofs.Common.{ℕ, ℤ, pos, ◌≡◌, ◌+◌, ◌-◌, ◌^◌, ◌<◌, ◌≤◌, ◌+ℤ◌, max, true, nat_lt, ◌&&◌, unsigned_abs, ap, arith, lit<}
use Rattle.std.proofs.lemmas.Int.{ints, unsigned_abs-mul}
use Rattle.std.proofs.lemmas.Bool.Decides.{nat_tests}
use Rattle.std.proofs.Math.Nat.{pow-le-pow_right, mul-le-mul_left}
use Rattle.hl_num.specs.declared.printing.Shape.{Shape}
use Rattle.hl_num.specs.Decimal.{Decimal, units_of, mantissa_at, add_fits}
use Rattle.hl_num.specs.Printing.{printed_number, printed_units}

-- the absolute value of a sum
pub unsigned_abs-add : (x y : ℤ) → unsigned_abs (x +ℤ y) ≤ unsigned_abs x + unsigned_abs y
unsigned_abs-add x y = omega (arith, ints)

-- more places only make a mantissa larger
pub unsigned_abs-mantissa_at : (d : Decimal) (p q : ℕ) → p ≤ q → unsigned_abs (mantissa_at d p) ≤ unsigned_abs (mantissa_at d q)
unsigned_abs-mantissa_at d p q more =
    let powers : 10 ^ (p - d.places) ≤ 10 ^ (q - d.places) = pow-le-pow_right {n = 10} (lit< tt) (omega arith) in
    rw (unsigned_abs-mul d.mantissa (pos (10 ^ (p - d.places))), unsigned_abs-mul d.mantissa (pos (10 ^ (q - d.places))))
    (mul-le-mul_left (unsigned_abs d.mantissa) powers)

all_three : (x y z m : ℕ) → x < m → y < m → z < m → (nat_lt x m && nat_lt y m && nat_lt z m) ≡ true
all_three x y z m h k l = grind (arith, nat_tests)

-- two numbers can be added where their absolute values, in units that hold both, sum to less than 2 ^ 127
pub add_fits-from_sum : (a b : Decimal) (q : ℕ) → a.places ≤ q → b.places ≤ q → unsigned_abs (mantissa_at a q) + unsigned_abs (mantissa_at b q) < 2 ^ 127 → add_fits a b ≡ true
add_fits-from_sum a b q of_a of_b small =
    let p = max a.places b.places in
    let within : p ≤ q = omega arith in
    let first = unsigned_abs-mantissa_at a p q within in
    let second = unsigned_abs-mantissa_at b p q within in
    all_three (unsigned_abs (mantissa_at a p)) (unsigned_abs (mantissa_at b p)) (unsigned_abs (mantissa_at a p +ℤ mantissa_at b p)) (2 ^ 127) (omega arith) (omega arith) (omega (arith, unsigned_abs-add (mantissa_at a p) (mantissa_at b p)))

-- numbers of equal value print alike
pub printed_number-same : (a b : Decimal) (places : ℕ) (shape : Shape) → units_of a ≡ units_of b → printed_number a places shape ≡ printed_number b places shape
printed_number-same a b places shape same = ap (λ (u : ℤ). printed_units u places shape) same
