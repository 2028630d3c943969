-- What values move, by symbol and number of decimals.
use Rattle.std.specs.Prelude.{ℕ, zero, suc, ◌+◌, ◌*◌, ◌≤◌, ◌==◌, nat_lt, List, [], ◌∷◌, filter, length, unsigned_abs, if◌then◌else◌}
use Rattle.std.specs.List.{AllByRecursion}
use Rattle.hl_num.specs.Decimal.{Decimal}
use Rattle.entry_balance.specs.Tally.{numbers_of}
use Rattle.entry_balance.specs.Values.{Value}

-- ---- by number of decimals

-- the numbers that have just so many decimals
abbrev pub with_places : ℕ → List Decimal → List Decimal
with_places n ds = filter (λ d. d.places == n) ds

-- the sum of the mantissas of some numbers, without their signs
abbrev pub mantissas : List Decimal → ℕ
mantissas [] = 0
mantissas (d ∷ ds) = unsigned_abs d.mantissa + mantissas ds

-- how many have so many decimals, and what their mantissas sum to
abbrev pub count_of : List Decimal → ℕ → ℕ
count_of ds n = length (with_places n ds)

abbrev pub sum_of : List Decimal → ℕ → ℕ
sum_of ds n = mantissas (with_places n ds)

-- the same of the numbers of a symbol among some values
abbrev pub count_at : List ℕ → List Value → ℕ → ℕ
count_at symbol values n = count_of (numbers_of symbol values) n

abbrev pub moved_at : List ℕ → List Value → ℕ → ℕ
moved_at symbol values n = sum_of (numbers_of symbol values) n

-- ---- as a whole

-- the sums at so many first numbers of decimals, in units of the last of these
abbrev pub in_units : (ℕ → ℕ) → ℕ → ℕ
in_units sums zero = 0
in_units sums (suc n) = in_units sums n * 10 + sums n

-- the same in units of the greatest number of decimals that is there
abbrev pub whole : (ℕ → ℕ) → (ℕ → ℕ) → ℕ → ℕ
whole counts sums zero = 0
whole counts sums (suc n) = if nat_lt 0 (counts n) then in_units sums (suc n) else whole counts sums n

-- all that values move in a symbol, in units of the greatest number of decimals among them, 0 to 36
abbrev pub turnover_in : List ℕ → List Value → ℕ
turnover_in symbol values = whole (count_at symbol values) (moved_at symbol values) 37

-- no value has more than 36 decimals
abbrev pub AreFew : List Value → Type 0
AreFew values = AllByRecursion (λ v. v.1.places ≤ 36) values
