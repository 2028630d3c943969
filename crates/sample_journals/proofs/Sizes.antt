-- How long the entries of a sample are.
use Rattle.std.proofs.Common.{ℕ, suc, ◌≡◌, ◌+◌, ◌/◌, ◌%◌, ◌^◌, ◌<◌, ◌≤◌, Bool, true, false, List, [], ◌∷◌, ◌++◌, length, codes, refl, ap, arith, min, max, length-append}
use Rattle.std.specs.Fmt.{decimal}
use Rattle.std.proofs.lemmas.Fmt.{length-decimal-le}
use Rattle.hl_num.specs.Printing.{zero_padded}
use Rattle.hl_time.specs.Calendar.{last_day}
use Rattle.hl_time.specs.Shown.{day_text}
use Rattle.journal_printer.specs.Texts.{calendar_text}
use Rattle.sample_text.specs.Sample.{entry_of as text_of, kind_of, number_of, spent_by}
use Rattle.written_logs.proofs.Lines.{joined}
use Rattle.written_logs.proofs.Numbers.{number_bytes}
use Rattle.sample_journals.specs.Journal.{cents_in, day_of, tells, title}
use Rattle.sample_journals.proofs.Amounts.{amount_bytes}
use Rattle.sample_journals.proofs.Contents.{claim_bytes, entry_is, entry_lines, head_bytes, pay_bytes, spend_bytes}
use Rattle.sample_journals.proofs.Numbers.{cents_few, padded, spent_few}

-- what the lines of an entry say
abbrev pub lines : ℕ → ℕ → List (List ℕ)
lines count i = entry_lines i (kind_of (number_of count i)) (cents_in count i) (spent_by count (suc i))

abbrev pub size : ℕ → ℕ → ℕ
size count i = length (joined (lines count i))

pub small_cents : (count i : ℕ) → cents_in count i < 2 ^ 127
small_cents count i = let few = cents_few (number_of count i) in omega arith

pub small_spent : (count i : ℕ) → i < 100000 → spent_by count (suc i) < 2 ^ 127
small_spent count i few = let most = spent_few count (suc i) in omega arith

pub text_is : (count i : ℕ) → i < 100000 → text_of count i ≡ joined (lines count i)
text_is count i few = entry_is i (number_of count i) (spent_by count (suc i)) few

-- ---- their lengths

day_length : (day : ℕ) → length (day_text day) ≡ 10
unfolding day_text
day_length day = refl

decimal_length : (k n : ℕ) → 0 < k → n < 10 ^ k → n < 2 ^ 64 → length (decimal n) ≤ k
decimal_length k n some few small = length-decimal-le k n some few small

number_length : (cents k : ℕ) → length (decimal (cents / 100)) ≤ k → length (number_bytes cents) ≤ k + 3
number_length cents k whole =
    let small : cents % 100 < 100 = omega arith in
    let two : length (zero_padded 2 (cents % 100)) ≡ 2 = ap length (padded (cents % 100) small) in
    omega (arith, whole, two, length-append (decimal (cents / 100)) (46 ∷ zero_padded 2 (cents % 100)))

amount_length : (cents k : ℕ) (rest : List ℕ) → length (number_bytes cents) ≤ k → length (amount_bytes cents rest) ≤ k + 4 + length rest
amount_length cents k rest h = omega (arith, h, length-append (number_bytes cents) (32 ∷ 69 ∷ 85 ∷ 82 ∷ rest))

head_length : (i : ℕ) → i < 100000 → length (head_bytes i) ≤ 24
head_length i few =
    let digits = decimal_length 6 i (omega arith) (omega arith) (omega arith) in
    omega (arith, digits, calendar_length (day_of i), length-append (calendar_text (day_of i)) (32 ∷ title i), length-append (codes "sample ") (decimal i))
  where
    calendar_length : (day : ℕ) → length (calendar_text day) ≡ 10
    calendar_length day = day_length (max 1 (min day last_day))

some_cents : (cents : ℕ) → cents ≤ 100000 → length (number_bytes cents) ≤ 7
some_cents cents few = number_length cents 4 (decimal_length 4 (cents / 100) (omega arith) (omega arith) (omega arith))

some_spent : (spent : ℕ) → spent ≤ 10000000000 → length (number_bytes spent) ≤ 12
some_spent spent few = number_length spent 9 (decimal_length 9 (spent / 100) (omega arith) (omega arith) (omega arith))

spend_length : (kind cents : ℕ) → cents ≤ 100000 → length (spend_bytes kind cents) ≤ 28
spend_length kind cents few =
    let amount = amount_length cents 7 [] (some_cents cents few) in
    omega (arith, amount)

pay_length : (t : Bool) (cents spent : ℕ) → cents ≤ 100000 → spent ≤ 10000000000 → length (pay_bytes t cents spent) ≤ 49
pay_length true cents spent few most =
    let claim = amount_length spent 12 [] (some_spent spent most) in
    let amount = amount_length cents 7 (claim_bytes spent) (some_cents cents few) in
    omega (arith, claim, amount)
pay_length false cents spent few most = omega arith

three_length : (h s p : List ℕ) → length (joined (h ∷ s ∷ p ∷ [])) ≡ length h + 1 + (length s + 1) + (length p + 1)
three_length h s p =
    omega (arith, length-append h (10 ∷ (s ++ 10 ∷ (p ++ 10 ∷ []))), length-append s (10 ∷ (p ++ 10 ∷ [])), length-append p (10 ∷ []))

-- an entry has at most 120 bytes
pub size_few : (count i : ℕ) → i < 100000 → size count i ≤ 120
size_few count i few =
    let kind = kind_of (number_of count i) in
    let cents = cents_in count i in
    let spent = spent_by count (suc i) in
    let one = cents_few (number_of count i) in
    let all = spent_few count (suc i) in
    let most : spent ≤ 10000000000 = omega (arith, all) in
    omega (
      arith,
      head_length i few,
      spend_length kind cents one,
      pay_length (tells i) cents spent one most,
      three_length (head_bytes i) (spend_bytes kind cents) (pay_bytes (tells i) cents spent),
    )
