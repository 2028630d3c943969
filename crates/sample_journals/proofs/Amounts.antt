-- An amount in euros reads again, also where an assertion stands behind it.
use Rattle.std.proofs.Common.{ℕ, ◌≡◌, ◌<◌, ◌^◌, pos, Bool, true, false, cond, ◌==◌, List, [], ◌∷◌, ◌++◌, codes, Option, Result, Ok, Err, refl, ap, ◌∙◌, arith}
use Rattle.std.specs.List.{take_while}
use Rattle.std.proofs.lemmas.Bool.{false≢true}
use Rattle.std.proofs.lemmas.Bool.Decides.{nat_tests}
use Rattle.hl_num.specs.Reading.{is_digit, is_number_byte, reading}
use Rattle.hl_num.specs.declared.reading.BadNumber.{BadNumber}
use Rattle.hl_num.specs.declared.reading.Number.{Number}
use Rattle.book.specs.declared.amount.Amount.{Amount}
use Rattle.book.specs.declared.fault.Fault.{Fault}
use Rattle.book.specs.declared.fault.Cause.TheVariants as cause
use Rattle.entry_reader.specs.Amounts.{Left, Right, left_of, left_from, left_at, right_of, right_at, right_with, number_or_fault, amount_from, written_symbol, amount_at}
use Rattle.entry_reader.specs.Causes.{fault_at, ◌>>=◌}
use Rattle.entry_reader.specs.Contexts.{Context, decided_mark}
use Rattle.entry_reader.specs.Lines.{first_is}
use Rattle.entry_reader.specs.Symbols.{is_sign, is_symbol_byte}
use Rattle.written_logs.proofs.Accounts.{bare}
use Rattle.written_logs.proofs.Amounts.{digit_white, left_plain}
use Rattle.written_logs.proofs.Bytes.{after_white_solid, front_stops, rest_stops}
use Rattle.written_logs.proofs.Numbers.{hours_number, number_all, number_back, number_bytes, number_first}
use Rattle.sample_journals.specs.Journal.{amount_of, owed}

-- an amount, and what stands behind it
abbrev pub amount_bytes : ℕ → List ℕ → List ℕ
amount_bytes cents rest = number_bytes cents ++ 32 ∷ 69 ∷ 85 ∷ 82 ∷ rest

-- ---- before the number

digit_sign : (d : ℕ) → is_digit d ≡ true → is_sign d ≡ false
digit_sign d h = grind (arith, nat_tests)

digit_quote : (d : ℕ) → is_digit d ≡ true → (d == 34) ≡ false
digit_quote d h = grind (arith, nat_tests)

digit_symbol : (d : ℕ) → is_digit d ≡ true → is_symbol_byte d ≡ false
digit_symbol d h = grind (arith, nat_tests)

digit_number : (d : ℕ) → is_digit d ≡ true → is_number_byte d ≡ true
digit_number d h = rw h refl

left_from_minus : (line d : ℕ) (rest : List ℕ) → is_digit d ≡ true → left_from line (45 ∷ d ∷ rest) (d ∷ rest) ≡ Ok (left_of true [] false (d ∷ rest))
left_from_minus line d rest h =
    let sign = digit_sign d h in
    let symbol = digit_symbol d h in
    let white = digit_white d h in
    let quote = digit_quote d h in
    let number = digit_number d h in
    rw (symbol, quote, white, sign, number) refl

left_minus : (line d : ℕ) (rest : List ℕ) → is_digit d ≡ true → left_at line (45 ∷ d ∷ rest) ≡ Ok (left_of true [] false (d ∷ rest))
unfolding left_at
left_minus line d rest h =
    ap (left_from line (45 ∷ d ∷ rest)) (after_white_solid (d ∷ rest) (digit_white d h)) ∙ left_from_minus line d rest h

left_negative : (line : ℕ) (text : List ℕ) → first_is is_digit text ≡ true → left_at line (45 ∷ text) ≡ Ok (left_of true [] false text)
left_negative line [] h = absurd (false≢true h)
left_negative line (d ∷ rest) h = left_minus line d rest h

-- ---- behind it

-- the symbol alone, or before an assertion
pub right_alone : right_at false (32 ∷ 69 ∷ 85 ∷ 82 ∷ []) ≡ right_with (codes "EUR") true true []
unfolding right_at
right_alone = refl

pub right_before : (more : List ℕ) → right_at false (32 ∷ 69 ∷ 85 ∷ 82 ∷ 32 ∷ 61 ∷ more) ≡ right_with (codes "EUR") true true (61 ∷ more)
unfolding right_at
right_before more = refl

-- ---- the amount

abbrev finish : Context → ℕ → Left → List ℕ → Right → Result (Amount × List ℕ) Fault
finish context line left digits right =
    number_or_fault line (reading digits (decided_mark context (written_symbol left right)))
    >>= λ number. cond right.is_good (Ok (amount_from context left right number, right.rest)) (Err (fault_at line cause.Quote))

opened : (context : Context) (line : ℕ) (text : List ℕ)
    → amount_at context line text ≡ (left_at line text >>= λ left. finish context line left (take_while is_number_byte left.rest) (right_of left))
unfolding amount_at
opened context line text = refl

module _ (year : Option ℕ) (line cents : ℕ) (rest after : List ℕ) (small : cents < 2 ^ 127)
    (right : right_at false (32 ∷ 69 ∷ 85 ∷ 82 ∷ rest) ≡ right_with (codes "EUR") true true after) where
  abbrev text : List ℕ
  text = amount_bytes cents rest

  abbrev left : Bool → Left
  left negative = left_of negative [] false text

  abbrev behind : Right
  behind = right_with (codes "EUR") true true after

  digit_first : first_is is_digit text ≡ true
  digit_first = number_first cents (32 ∷ 69 ∷ 85 ∷ 82 ∷ rest) small

  amount_by : (negative : Bool) (whole : List ℕ) → left_at line whole ≡ Ok (left negative)
      → amount_at (bare year) line whole ≡ Ok (amount_from (bare year) (left negative) behind (hours_number cents), after)
  amount_by negative whole is =
      let context = bare year in
      let l = left negative in
      let all = number_all cents small in
      let tail : List ℕ = 69 ∷ 85 ∷ 82 ∷ rest in
      opened context line whole
      ∙ ap (λ (r : Result Left Fault). r >>= λ k. finish context line k (take_while is_number_byte k.rest) (right_of k)) is
      ∙ ap (λ (xs : List ℕ). finish context line l (take_while is_number_byte text) (right_at false xs)) (rest_stops is_number_byte (number_bytes cents) 32 tail all refl)
      ∙ ap (λ (r : Right). finish context line l (take_while is_number_byte text) r) right
      ∙ ap (λ (digits : List ℕ). finish context line l digits behind) (front_stops is_number_byte (number_bytes cents) 32 tail all refl)
      ∙ ap (λ (r : Result Number BadNumber). number_or_fault line r >>= λ number. Ok (amount_from context l behind number, after)) (number_back cents small)

  pub amount_read : amount_at (bare year) line text ≡ Ok (amount_of (pos cents), after)
  amount_read = amount_by false text (left_plain line text digit_first)

  pub negative_read : amount_at (bare year) line (45 ∷ text) ≡ Ok (amount_of (owed cents), after)
  negative_read = amount_by true (45 ∷ text) (left_negative line text digit_first)
