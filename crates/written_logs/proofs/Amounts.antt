-- An amount of hours reads again.
use Rattle.std.proofs.Common.{◌≡◌, ℕ, ◌<◌, ◌^◌, true, false, cond, ◌==◌, List, [], ◌∷◌, ◌++◌, Option, Result, Ok, Err, refl, ap, ◌∙◌, arith, append-nil}
use Rattle.std.specs.List.{take_while}
use Rattle.std.proofs.lemmas.Bool.{false≢true}
use Rattle.std.proofs.lemmas.Bool.Decides.{nat_tests}
use Rattle.hl_base.specs.Items.{is_white}
use Rattle.hl_num.specs.Reading.{is_digit, is_number_byte, reading}
use Rattle.hl_num.specs.declared.reading.BadNumber.{BadNumber}
use Rattle.hl_num.specs.declared.reading.Number.{Number}
use Rattle.book.specs.declared.amount.Amount.{Amount}
use Rattle.book.specs.declared.fault.Fault.{Fault}
use Rattle.book.specs.declared.fault.Cause.TheVariants as cause
use Rattle.entry_reader.specs.Amounts.{Left, Right, after_sign, left_of, left_from, left_at, right_of, right_at, right_with, number_or_fault, amount_from, written_symbol, amount_at}
use Rattle.entry_reader.specs.Causes.{fault_at, ◌>>=◌}
use Rattle.entry_reader.specs.Contexts.{Context, decided_mark}
use Rattle.entry_reader.specs.Lines.{first_is}
use Rattle.entry_reader.specs.Symbols.{is_sign, is_symbol_byte, ends_amount}
use Rattle.journal_printer.specs.Amounts.{amount_text}
use Rattle.time_logs.specs.Days.{hours}
use Rattle.time_logs.specs.Quantities.{hundredths}
use Rattle.written_logs.proofs.Accounts.{bare}
use Rattle.written_logs.proofs.Bytes.{front_stops, rest_stops}
use Rattle.written_logs.proofs.Numbers.{number_bytes, number_is, number_back, number_all, number_first}

-- an amount as it is written: a number, and `h` behind it
abbrev pub amount_bytes : ℕ → List ℕ
amount_bytes count = number_bytes count ++ 104 ∷ []

pub amount_is : (count : ℕ) → amount_text (hours (hundredths count)).shape false (hours (hundredths count)) ≡ amount_bytes count
amount_is count =
    ap (λ (n : List ℕ). ((n ++ []) ++ []) ++ 104 ∷ []) (number_is count)
    ∙ ap (λ (n : List ℕ). n ++ 104 ∷ []) (append-nil (number_bytes count ++ []) ∙ append-nil (number_bytes count))

-- ---- what a digit isn't

digit_sign : (d : ℕ) → is_digit d ≡ true → is_sign d ≡ false
digit_sign d h = grind (arith, nat_tests)

digit_quote : (d : ℕ) → is_digit d ≡ true → (d == 34) ≡ false
digit_quote d h = grind (arith, nat_tests)

digit_minus : (d : ℕ) → is_digit d ≡ true → (d == 45) ≡ false
digit_minus d h = grind (arith, nat_tests)

digit_symbol : (d : ℕ) → is_digit d ≡ true → is_symbol_byte d ≡ false
digit_symbol d h = grind (arith, nat_tests)

pub digit_white : (d : ℕ) → is_digit d ≡ true → is_white d ≡ false
digit_white d h = grind (arith, nat_tests)

digit_number : (d : ℕ) → is_digit d ≡ true → is_number_byte d ≡ true
digit_number d h = grind (arith, nat_tests)

pub digit_ends : (d : ℕ) (rest : List ℕ) → is_digit d ≡ true → ends_amount (d ∷ rest) ≡ false
digit_ends d rest h =
    let a : (d == 59) ≡ false = grind (arith, nat_tests) in
    let b : (d == 61) ≡ false = grind (arith, nat_tests) in
    let c : (d == 64) ≡ false = grind (arith, nat_tests) in
    let e : (d == 40) ≡ false = grind (arith, nat_tests) in
    rw (a, b, c, e) refl

-- ---- before the number, and behind it

after_sign_digit : (d : ℕ) (rest : List ℕ) → is_digit d ≡ true → after_sign (d ∷ rest) ≡ d ∷ rest
after_sign_digit d rest h =
    let sign = digit_sign d h in
    rw sign refl

left_from_digit : (line d : ℕ) (rest : List ℕ) → is_digit d ≡ true → left_from line (d ∷ rest) (d ∷ rest) ≡ Ok (left_of false [] false (d ∷ rest))
left_from_digit line d rest h =
    let sign = digit_sign d h in
    let symbol = digit_symbol d h in
    let white = digit_white d h in
    let quote = digit_quote d h in
    let minus = digit_minus d h in
    let number = digit_number d h in
    rw (symbol, quote, white, sign, minus, number) refl

left_digit : (line d : ℕ) (rest : List ℕ) → is_digit d ≡ true → left_at line (d ∷ rest) ≡ Ok (left_of false [] false (d ∷ rest))
unfolding left_at
left_digit line d rest h = ap (left_from line (d ∷ rest)) (after_sign_digit d rest h) ∙ left_from_digit line d rest h

pub left_plain : (line : ℕ) (text : List ℕ) → first_is is_digit text ≡ true → left_at line text ≡ Ok (left_of false [] false text)
left_plain line [] h = absurd (false≢true h)
left_plain line (d ∷ rest) h = left_digit line d rest h

right_plain : right_at false (104 ∷ []) ≡ right_with (104 ∷ []) false true []
unfolding right_at
right_plain = refl

-- what is made of the parts
abbrev finish : Context → ℕ → Left → List ℕ → Right → Result (Amount × List ℕ) Fault
finish context line left digits right =
    number_or_fault line (reading digits (decided_mark context (written_symbol left right)))
    >>= λ number. cond right.is_good (Ok (amount_from context left right number, right.rest)) (Err (fault_at line cause.Quote))

opened : (context : Context) (line : ℕ) (text : List ℕ)
    → amount_at context line text ≡ (left_at line text >>= λ left. finish context line left (take_while is_number_byte left.rest) (right_of left))
unfolding amount_at
opened context line text = refl

pub amount_read : (year : Option ℕ) (line count : ℕ) → count < 2 ^ 127 → amount_at (bare year) line (amount_bytes count) ≡ Ok (hours (hundredths count), [])
amount_read year line count small =
    let context = bare year in
    let text = amount_bytes count in
    let left = left_of false [] false text in
    let all = number_all count small in
    opened context line text
    ∙ ap (λ (r : Result Left Fault). r >>= λ l. finish context line l (take_while is_number_byte l.rest) (right_of l)) (left_plain line text (number_first count (104 ∷ []) small))
    ∙ ap (λ (rest : List ℕ). finish context line left (take_while is_number_byte text) (right_at false rest)) (rest_stops is_number_byte (number_bytes count) 104 [] all refl)
    ∙ ap (λ (r : Right). finish context line left (take_while is_number_byte text) r) right_plain
    ∙ ap (λ (digits : List ℕ). finish context line left digits (right_with (104 ∷ []) false true [])) (front_stops is_number_byte (number_bytes count) 104 [] all refl)
    ∙ ap (λ (r : Result Number BadNumber). number_or_fault line r >>= λ number. Ok (amount_from context left (right_with (104 ∷ []) false true []) number, [])) (number_back count small)
