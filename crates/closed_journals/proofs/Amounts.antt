-- An amount that an entry shows reads again.
use Rattle.std.proofs.Common.{ℕ, pos, ◌≡◌, ◌<◌, ◌≤◌, ◌^◌, Bool, true, false, cond, int_lt, ◌==◌, ◌&&◌, ◌||◌, not, List, [], ◌∷◌, ◌++◌, length, drop, Some, None, Result, Ok, Err, unsigned_abs, refl, ap, subst, ◌∙◌, arith, append_assoc, append-nil}
use Rattle.std.specs.Prelude.{nat_lt, unwrap_or, encode_utf8}
use Rattle.std.specs.Fmt.{sign_text}
use Rattle.std.specs.List.{prefix_len, take_while, list_all}
use Rattle.std.proofs.lemmas.Bool.{false≢true}
use Rattle.std.proofs.lemmas.Bool.Decides.{nat_tests}
use Rattle.std.proofs.lemmas.List.{drop_all}
use Rattle.hl_base.specs.Items.{is_white}
use Rattle.hl_num.specs.Decimal.{Decimal}
use Rattle.hl_num.specs.Reading.{is_digit, is_number_byte, reading}
use Rattle.hl_num.specs.Printing.{printed_number}
use Rattle.hl_num.specs.declared.reading.BadNumber.{BadNumber}
use Rattle.hl_num.specs.declared.reading.Number.{Number}
use Rattle.book.specs.declared.amount.Amount.{Amount}
use Rattle.book.specs.declared.amount.Written.{Written}
use Rattle.book.specs.declared.fault.Fault.{Fault}
use Rattle.book.specs.declared.fault.Cause.TheVariants as cause
use Rattle.book.specs.Printed.{gap_of, printed_symbol, with_symbol}
use Rattle.entry_reader.specs.Amounts.{Left, Right, after_sign, left_of, left_from, left_at, right_of, right_at, right_from, right_with, number_or_fault, amount_from, shape_from, written_symbol, amount_at}
use Rattle.entry_reader.specs.Causes.{fault_at, ◌>>=◌}
use Rattle.entry_reader.specs.Contexts.{Context, decided_mark, symbol_of, usual_symbol}
use Rattle.entry_reader.specs.Lines.{first_is, begins, after_white}
use Rattle.entry_reader.specs.Symbols.{is_sign, is_symbol_byte, after_symbol, ends_amount, is_left_good, is_right_good, symbol_name}
use Rattle.journal_printer.specs.Amounts.{amount_text}
use Rattle.journal_printer.specs.Entries.{entry_shape}
use Rattle.written_logs.proofs.Bytes.{after_white_solid, prefix_whole, front_whole, skip_one}
use Rattle.closed_journals.proofs.Digits.{IsDecided, decided_mark_is, digits, digits_all, digits_first, digits_read, number_read, printed_value, value_back, marked}
use Rattle.closed_journals.proofs.Symbols.{IsSymbol, IsSymbolText, Stops, front_until, rest_until, symbol_read, symbol_right}

-- ---- what a digit begins

digit_sign : (d : ℕ) → is_digit d ≡ true → is_sign d ≡ false
digit_sign d h = grind (arith, nat_tests)

digit_quote : (d : ℕ) → is_digit d ≡ true → (d == 34) ≡ false
digit_quote d h = grind (arith, nat_tests)

digit_minus : (d : ℕ) → is_digit d ≡ true → (d == 45) ≡ false
digit_minus d h = grind (arith, nat_tests)

digit_symbol : (d : ℕ) → is_digit d ≡ true → is_symbol_byte d ≡ false
digit_symbol d h = grind (arith, nat_tests)

digit_white : (d : ℕ) → is_digit d ≡ true → is_white d ≡ false
digit_white d h = grind (arith, nat_tests)

digit_number : (d : ℕ) → is_digit d ≡ true → is_number_byte d ≡ true
digit_number d h = rw h refl

digit_ends : (d : ℕ) (rest : List ℕ) → is_digit d ≡ true → ends_amount (d ∷ rest) ≡ false
digit_ends d rest h =
    let a : (d == 59) ≡ false = grind (arith, nat_tests) in
    let b : (d == 61) ≡ false = grind (arith, nat_tests) in
    let c : (d == 64) ≡ false = grind (arith, nat_tests) in
    let e : (d == 40) ≡ false = grind (arith, nat_tests) in
    rw (a, b, c, e) refl

-- What is read of a text that a digit begins.
pub record IsNumberText (text : List ℕ) : Type 0 where
  pub white : first_is is_white text ≡ false
  pub sign : first_is is_sign text ≡ false
  pub minus : begins text 45 ≡ false
  pub symbol : first_is is_symbol_byte text ≡ false
  pub good : is_left_good text ≡ true
  pub none : symbol_name text ≡ []
  pub behind : after_symbol text ≡ text
  pub goes_on : ends_amount text ≡ false

number_text : (text : List ℕ) → first_is is_digit text ≡ true → IsNumberText text
number_text [] h = absurd (false≢true h)
number_text (d ∷ rest) h =
    let quote = digit_quote d h in
    let symbol = digit_symbol d h in
    let number = digit_number d h in
    record {
      white = digit_white d h;
      sign = digit_sign d h;
      minus = digit_minus d h;
      symbol = symbol;
      good = rw (quote, symbol, number) refl;
      none = rw (quote, symbol) refl;
      behind = rw (quote, symbol) refl;
      goes_on = digit_ends d rest h;
    }

-- a number with its sign
abbrev pub with_sign : Bool → List ℕ → List ℕ
with_sign negative ds = sign_text negative ++ ds

after_sign_none : (text : List ℕ) → first_is is_sign text ≡ false → after_sign text ≡ text
after_sign_none text h = ap (λ (t : Bool). cond t (after_white (drop 1 text)) text) h

signed_white : (negative : Bool) (ds : List ℕ) → IsNumberText ds → first_is is_white (with_sign negative ds) ≡ false
signed_white true ds is = refl
signed_white false ds is = is.white

signed_after : (negative : Bool) (ds : List ℕ) → IsNumberText ds → after_sign (with_sign negative ds) ≡ ds
signed_after true ds is = after_white_solid ds is.white
signed_after false ds is = after_sign_none ds is.sign

signed_minus : (negative : Bool) (ds : List ℕ) → IsNumberText ds → begins (with_sign negative ds) 45 ≡ negative
signed_minus true ds is = refl
signed_minus false ds is = is.minus

signed_stops : (negative : Bool) (ds : List ℕ) → IsNumberText ds → Stops (with_sign negative ds)
signed_stops true ds is = refl
signed_stops false ds is = is.symbol

-- white space before it or not
gap_white : (spaced : Bool) (text : List ℕ) → first_is is_white text ≡ false → after_white (gap_of spaced ++ text) ≡ text
gap_white true text h = skip_one is_white 32 text refl ∙ after_white_solid text h
gap_white false text h = after_white_solid text h

gap_first : (spaced : Bool) (text : List ℕ) → first_is is_white text ≡ false → first_is is_white (gap_of spaced ++ text) ≡ spaced
gap_first true text h = refl
gap_first false text h = h

gap_stops : (p : ℕ → Bool) (spaced : Bool) (text : List ℕ) → p 32 ≡ false → first_is p text ≡ false → first_is p (gap_of spaced ++ text) ≡ false
gap_stops p true text e h = e
gap_stops p false text e h = h

-- ---- what stands before the number

left_by : (line : ℕ) (text inner behind second rest s : List ℕ) (spaced negative : Bool)
    → after_sign text ≡ inner → is_left_good inner ≡ true → symbol_name inner ≡ s → after_symbol inner ≡ behind → after_white behind ≡ second
    → (first_is is_sign text && first_is is_sign second) ≡ false → (begins text 45 || begins second 45) ≡ negative
    → first_is is_white behind ≡ spaced → after_sign second ≡ rest → left_at line text ≡ Ok (left_of negative s spaced rest)
unfolding left_at
left_by line text inner behind second rest s spaced negative a g n b w t m p r =
    ap (left_from line text) a
    ∙ ap (λ (good : Bool). cond {A = Result Left Fault} (not good) (Err (fault_at line cause.Quote)) (cond (first_is is_sign text && first_is is_sign (after_white (after_symbol inner))) (Err (fault_at line cause.Number)) (Ok (left_of (begins text 45 || begins (after_white (after_symbol inner)) 45) (symbol_name inner) (first_is is_white (after_symbol inner)) (after_sign (after_white (after_symbol inner))))))) g
    ∙ ap (λ (x : List ℕ). cond {A = Result Left Fault} (first_is is_sign text && first_is is_sign (after_white x)) (Err (fault_at line cause.Number)) (Ok (left_of (begins text 45 || begins (after_white x) 45) (symbol_name inner) (first_is is_white x) (after_sign (after_white x))))) b
    ∙ ap (λ (x : List ℕ). cond {A = Result Left Fault} (first_is is_sign text && first_is is_sign x) (Err (fault_at line cause.Number)) (Ok (left_of (begins text 45 || begins x 45) (symbol_name inner) (first_is is_white behind) (after_sign x)))) w
    ∙ ap (λ (u : Bool). cond {A = Result Left Fault} u (Err (fault_at line cause.Number)) (Ok (left_of (begins text 45 || begins second 45) (symbol_name inner) (first_is is_white behind) (after_sign second)))) t
    ∙ (λ i. Ok (left_of (m i) (n i) (p i) (r i)))

-- a symbol, and the number behind it
left_symbol : (line : ℕ) (s text ds : List ℕ) (spaced negative : Bool) → IsSymbolText s (gap_of spaced ++ with_sign negative ds) text → IsNumberText ds
    → left_at line text ≡ Ok (left_of negative s spaced ds)
left_symbol line s text ds spaced negative is number =
    left_by line text text (gap_of spaced ++ with_sign negative ds) (with_sign negative ds) ds s spaced negative
    (after_sign_none text is.sign) is.left_good is.named is.behind (gap_white spaced (with_sign negative ds) (signed_white negative ds number))
    (ap (λ (t : Bool). t && first_is is_sign (with_sign negative ds)) is.sign)
    (ap (λ (t : Bool). t || begins (with_sign negative ds) 45) is.minus ∙ signed_minus negative ds number)
    (gap_first spaced (with_sign negative ds) (signed_white negative ds number))
    (signed_after negative ds number)

and_false : (a : Bool) → (a && false) ≡ false
and_false true = refl
and_false false = refl

or_false : (a : Bool) → (a || false) ≡ a
or_false true = refl
or_false false = refl

-- a number first
left_number : (line : ℕ) (ds : List ℕ) (negative : Bool) → IsNumberText ds → left_at line (with_sign negative ds) ≡ Ok (left_of negative [] false ds)
left_number line ds negative number =
    let text = with_sign negative ds in
    left_by line text ds ds ds ds [] false negative
    (signed_after negative ds number) number.good number.none number.behind (after_white_solid ds number.white)
    (ap (λ (t : Bool). first_is is_sign text && t) number.sign ∙ and_false (first_is is_sign text))
    (ap (λ (t : Bool). begins text 45 || t) number.minus ∙ or_false (begins text 45) ∙ signed_minus negative ds number)
    number.white (after_sign_none ds number.sign)

-- ---- what stands behind it

right_read : (text symbol s : List ℕ) (spaced : Bool) → first_is is_white text ≡ spaced → after_white text ≡ symbol → IsSymbolText s [] symbol → is_right_good symbol ≡ true
    → right_at false text ≡ right_with s spaced true []
unfolding right_at
right_read text symbol s spaced p w is good =
    ap (λ (x : List ℕ). right_from false (first_is is_white text) x) w
    ∙ ap (λ (b : Bool). right_from false b symbol) p
    ∙ ap (λ (t : Bool). cond {A = Right} t (right_with [] false true symbol) (right_with (symbol_name symbol) spaced (is_right_good symbol) (after_white (after_symbol symbol)))) is.goes_on
    ∙ (λ i. right_with (is.named i) spaced (good i) (after_white (is.behind i)))

right_none : (has_symbol : Bool) → right_at has_symbol [] ≡ right_with [] false true []
unfolding right_at
right_none true = refl
right_none false = refl

-- ---- the amount

abbrev finish : Context → ℕ → Left → List ℕ → Right → Result (Amount × List ℕ) Fault
finish context line left digits right =
    number_or_fault line (reading digits (decided_mark context (written_symbol left right)))
    >>= λ number. cond right.is_good (Ok (amount_from context left right number, right.rest)) (Err (fault_at line cause.Quote))

opened : (context : Context) (line : ℕ) (text : List ℕ)
    → amount_at context line text ≡ (left_at line text >>= λ left. finish context line left (take_while is_number_byte left.rest) (right_of left))
unfolding amount_at
opened context line text = refl

-- an amount of its parts
amount_by : (context : Context) (line : ℕ) (text ds : List ℕ) (left : Left) (symbol : List ℕ) (spaced : Bool) (number : Number)
    → left_at line text ≡ Ok left → take_while is_number_byte left.rest ≡ ds → right_of left ≡ right_with symbol spaced true []
    → reading ds (decided_mark context (written_symbol left (right_with symbol spaced true []))) ≡ Ok number
    → amount_at context line text ≡ Ok (amount_from context left (right_with symbol spaced true []) number, [])
amount_by context line text ds left symbol spaced number is digits_are right_is number_is =
    let right = right_with symbol spaced true [] in
    opened context line text
    ∙ ap (λ (r : Result Left Fault). r >>= λ l. finish context line l (take_while is_number_byte l.rest) (right_of l)) is
    ∙ ap (λ (xs : List ℕ). finish context line left xs (right_of left)) digits_are
    ∙ ap (λ (r : Right). finish context line left ds r) right_is
    ∙ ap (λ (r : Result Number BadNumber). number_or_fault line r >>= λ n. Ok (amount_from context left right n, [])) number_is

-- ---- as an entry shows it

-- an amount's side and space, without groups and without a mark of its own
abbrev pub plain : Bool → Bool → Written
plain left spaced = record { left = left; spaced = spaced; mark = None; group = None; first = 3; rest = 3 }

abbrev pub amount_in : List ℕ → Decimal → Written → Amount
amount_in symbol value shape = record { symbol = symbol; value = value; shape = shape }

-- the mark that an entry shows
abbrev pub shown_mark : Context → List ℕ → ℕ
shown_mark context symbol = unwrap_or (decided_mark context symbol) 46

-- the number that it shows
abbrev pub number_bytes : Context → List ℕ → Decimal → List ℕ
number_bytes context symbol v = with_sign (int_lt v.mantissa (pos 0)) (digits (shown_mark context symbol) (unsigned_abs v.mantissa) v.places)

-- the amount that it shows
abbrev pub amount_bytes : Context → Bool → Bool → List ℕ → Decimal → List ℕ
amount_bytes context left spaced symbol v = with_symbol (plain left spaced) symbol (number_bytes context symbol v)

shown_by : (left spaced : Bool) (symbol number printed : List ℕ) (t : Bool) (more : List ℕ) → printed ≡ number
    → with_symbol (plain left spaced) symbol (printed ++ cond (t && false) more []) ≡ with_symbol (plain left spaced) symbol number
shown_by left spaced symbol number printed t more e =
    ap (λ (xs : List ℕ). with_symbol (plain left spaced) symbol (xs ++ cond (t && false) more [])) e
    ∙ ap (λ (b : Bool). with_symbol (plain left spaced) symbol (number ++ cond b more [])) (and_false t)
    ∙ ap (with_symbol (plain left spaced) symbol) (append-nil number)

marked_amount : (left spaced : Bool) (symbol : List ℕ) (v : Decimal) (m : ℕ)
    → amount_text (record (plain left spaced) { mark = Some m }) false (amount_in symbol v (plain left spaced))
    ≡ with_symbol (plain left spaced) symbol (printed_number v v.places (marked m) ++ cond ((v.places == 0) && false) (encode_utf8 m) [])
marked_amount left spaced [] v m = refl
marked_amount left spaced (b ∷ bs) v m = refl

pub amount_shown : (context : Context) (left spaced : Bool) (symbol : List ℕ) (v : Decimal) → IsDecided (decided_mark context symbol)
    → amount_text (entry_shape context (amount_in symbol v (plain left spaced))) false (amount_in symbol v (plain left spaced)) ≡ amount_bytes context left spaced symbol v
amount_shown context left spaced symbol v is =
    let m = shown_mark context symbol in
    marked_amount left spaced symbol v m
    ∙ shown_by left spaced symbol (number_bytes context symbol v) (printed_number v v.places (marked m)) (v.places == 0) (encode_utf8 m)
    (printed_value v m (decided_mark_is (decided_mark context symbol) is))

-- ---- as it is read

-- the shape in which it is read
abbrev pub shape_again : Context → Bool → Bool → List ℕ → Decimal → Written
shape_again context left spaced [] v = shape_from false false (number_read (shown_mark context []) (unsigned_abs v.mantissa) v.places)
shape_again context left spaced (b ∷ bs) v = shape_from left spaced (number_read (shown_mark context (b ∷ bs)) (unsigned_abs v.mantissa) v.places)

-- a symbol that may be written in a context
abbrev pub IsWritable : Context → List ℕ → Type 0
IsWritable context [] = context.usual ≡ None
IsWritable context (b ∷ bs) = IsSymbol (b ∷ bs)

above : (b : ℕ) (bs : List ℕ) → nat_lt 0 (length (b ∷ bs)) ≡ true
above b bs = grind (arith, nat_tests)

-- a number that may be written
pub record IsShort (v : Decimal) : Type 0 where
  pub few : v.places ≤ 18
  pub small : unsigned_abs v.mantissa < 2 ^ 127

no_symbol : (context : Context) → context.usual ≡ None → symbol_of context [] ≡ []
no_symbol context e = ap usual_symbol e

module _ (context : Context) (line : ℕ) (v : Decimal) (short : IsShort v) where
  abbrev negative : Bool
  negative = int_lt v.mantissa (pos 0)

  abbrev ds : List ℕ → List ℕ
  ds symbol = digits (shown_mark context symbol) (unsigned_abs v.mantissa) v.places

  abbrev number : List ℕ → Number
  number symbol = number_read (shown_mark context symbol) (unsigned_abs v.mantissa) v.places

  all_number : (symbol : List ℕ) → IsDecided (decided_mark context symbol) → list_all is_number_byte (ds symbol) ≡ true
  all_number symbol is = digits_all (shown_mark context symbol) (unsigned_abs v.mantissa) v.places (decided_mark_is (decided_mark context symbol) is) short.few short.small

  is_number : (symbol rest : List ℕ) → IsNumberText (ds symbol ++ rest)
  is_number symbol rest = number_text (ds symbol ++ rest) (digits_first (shown_mark context symbol) (unsigned_abs v.mantissa) v.places rest short.small)

  is_alone : (symbol : List ℕ) → IsNumberText (ds symbol)
  is_alone symbol = subst IsNumberText (append-nil (ds symbol)) (is_number symbol [])

  read_back : (symbol : List ℕ) → IsDecided (decided_mark context symbol) → reading (ds symbol) (decided_mark context symbol) ≡ Ok (number symbol)
  read_back symbol is = digits_read (decided_mark context symbol) (unsigned_abs v.mantissa) v.places is short.few short.small

  nothing_more : (symbol : List ℕ) (has_symbol : Bool) → IsDecided (decided_mark context symbol) → right_at has_symbol (drop (prefix_len is_number_byte (ds symbol)) (ds symbol)) ≡ right_with [] false true []
  nothing_more symbol has_symbol is =
      ap (λ (k : ℕ). right_at has_symbol (drop k (ds symbol))) (prefix_whole is_number_byte (ds symbol) (all_number symbol is))
      ∙ ap (right_at has_symbol) (drop_all (length (ds symbol)) (ds symbol) (omega arith))
      ∙ right_none has_symbol

  -- without a symbol
  bare : IsDecided (decided_mark context []) → context.usual ≡ None
      → amount_at context line (with_sign negative (ds [])) ≡ Ok (amount_in [] v (shape_from false false (number [])), [])
  bare is none =
      amount_by context line (with_sign negative (ds [])) (ds []) (left_of negative [] false (ds [])) [] false (number [])
      (left_number line (ds []) negative (is_alone []))
      (front_whole is_number_byte (ds []) (all_number [] is))
      (nothing_more [] false is)
      (read_back [] is)
      ∙ (λ i. Ok (amount_in (no_symbol context none i) (value_back v i) (shape_from false false (number [])), []))

  -- with the symbol before it
  before : (b : ℕ) (bs : List ℕ) (spaced : Bool) → IsDecided (decided_mark context (b ∷ bs)) → IsSymbol (b ∷ bs)
      → amount_at context line (printed_symbol (b ∷ bs) ++ (gap_of spaced ++ with_sign negative (ds (b ∷ bs)))) ≡ Ok (amount_in (b ∷ bs) v (shape_from true spaced (number (b ∷ bs))), [])
  before b bs spaced is symbol =
      let s : List ℕ = b ∷ bs in
      let rest = gap_of spaced ++ with_sign negative (ds s) in
      let text = printed_symbol s ++ rest in
      let left = left_of negative s spaced (ds s) in
      let right = right_with [] false true [] in
      let some = above b bs in
      let written : written_symbol left right ≡ s = ap (λ (t : Bool). cond t s []) some in
      let stops : Stops rest = gap_stops is_symbol_byte spaced (with_sign negative (ds s)) refl (signed_stops negative (ds s) (is_alone s)) in
      amount_by context line text (ds s) left [] false (number s)
      (left_symbol line s text (ds s) spaced negative (symbol_read b bs rest symbol stops) (is_alone s))
      (front_whole is_number_byte (ds s) (all_number s is))
      (nothing_more s (nat_lt 0 (length s)) is)
      (ap (λ (x : List ℕ). reading (ds s) (decided_mark context x)) written ∙ read_back s is)
      ∙ (λ i. Ok (amount_in (symbol_of context (written i)) (value_back v i) (shape_from (some i) (cond (some i) spaced false) (number s)), []))

  -- with the symbol behind it
  behind : (b : ℕ) (bs : List ℕ) (spaced : Bool) → IsDecided (decided_mark context (b ∷ bs)) → IsSymbol (b ∷ bs)
      → amount_at context line (with_sign negative (ds (b ∷ bs) ++ (gap_of spaced ++ printed_symbol (b ∷ bs)))) ≡ Ok (amount_in (b ∷ bs) v (shape_from false spaced (number (b ∷ bs))), [])
  behind b bs spaced is symbol =
      let s : List ℕ = b ∷ bs in
      let shown = printed_symbol s in
      let rest = gap_of spaced ++ shown in
      let all = ds s ++ rest in
      let read : IsSymbolText s [] shown = subst (IsSymbolText s []) (append-nil shown) (symbol_read b bs [] symbol refl) in
      let stops : first_is is_number_byte rest ≡ false = gap_stops is_number_byte spaced shown refl read.digit in
      amount_by context line (with_sign negative all) (ds s) (left_of negative [] false all) s spaced (number s)
      (left_number line all negative (is_number s rest))
      (front_until is_number_byte (ds s) rest (all_number s is) stops)
      (ap (right_at false) (rest_until is_number_byte (ds s) rest (all_number s is) stops)
      ∙ right_read rest shown s spaced (gap_first spaced shown read.white) (gap_white spaced shown read.white) read (symbol_right b bs symbol))
      (read_back s is)
      ∙ (λ i. Ok (amount_in s (value_back v i) (shape_from false spaced (number s)), []))

  by_side : (left spaced : Bool) (b : ℕ) (bs : List ℕ) → IsDecided (decided_mark context (b ∷ bs)) → IsSymbol (b ∷ bs)
      → amount_at context line (amount_bytes context left spaced (b ∷ bs) v) ≡ Ok (amount_in (b ∷ bs) v (shape_from left spaced (number (b ∷ bs))), [])
  by_side true spaced b bs is symbol =
      ap (amount_at context line) (append_assoc (printed_symbol (b ∷ bs)) (gap_of spaced) (with_sign negative (ds (b ∷ bs)))) ∙ before b bs spaced is symbol
  by_side false spaced b bs is symbol =
      ap (amount_at context line)
      (append_assoc (with_sign negative (ds (b ∷ bs))) (gap_of spaced) (printed_symbol (b ∷ bs))
      ∙ append_assoc (sign_text negative) (ds (b ∷ bs)) (gap_of spaced ++ printed_symbol (b ∷ bs)))
      ∙ behind b bs spaced is symbol

  -- An amount as an entry shows it reads as that amount.
  pub amount_read : (left spaced : Bool) (symbol : List ℕ) → IsDecided (decided_mark context symbol) → IsWritable context symbol
      → amount_at context line (amount_bytes context left spaced symbol v) ≡ Ok (amount_in symbol v (shape_again context left spaced symbol v), [])
  amount_read left spaced [] is none = bare is none
  amount_read left spaced (b ∷ bs) is symbol = by_side left spaced b bs is symbol

  -- it doesn't begin with white space, nor with what ends an amount
  pub amount_first : (left spaced : Bool) (symbol : List ℕ) → IsWritable context symbol
      → (first_is is_white (amount_bytes context left spaced symbol v) ≡ false) × (ends_amount (amount_bytes context left spaced symbol v) ≡ false)
  amount_first left spaced [] none = (signed_white negative (ds []) (is_alone []), ends negative (ds []) (is_alone []))
    where
      ends : (n : Bool) (xs : List ℕ) → IsNumberText xs → ends_amount (with_sign n xs) ≡ false
      ends true xs is = refl
      ends false xs is = is.goes_on
  amount_first true spaced (b ∷ bs) symbol =
      let s : List ℕ = b ∷ bs in
      let rest = gap_of spaced ++ with_sign negative (ds s) in
      let read = symbol_read b bs rest symbol (gap_stops is_symbol_byte spaced (with_sign negative (ds s)) refl (signed_stops negative (ds s) (is_alone s))) in
      let same = append_assoc (printed_symbol s) (gap_of spaced) (with_sign negative (ds s)) in
      (ap (first_is is_white) same ∙ read.white, ap ends_amount same ∙ read.goes_on)
  amount_first false spaced (b ∷ bs) symbol =
      let s : List ℕ = b ∷ bs in
      let rest = gap_of spaced ++ printed_symbol s in
      let same = append_assoc (with_sign negative (ds s)) (gap_of spaced) (printed_symbol s) ∙ append_assoc (sign_text negative) (ds s) rest in
      (ap (first_is is_white) same ∙ signed_white negative (ds s ++ rest) (is_number s rest), ap ends_amount same ∙ ends negative (ds s ++ rest) (is_number s rest))
    where
      ends : (n : Bool) (xs : List ℕ) → IsNumberText xs → ends_amount (with_sign n xs) ≡ false
      ends true xs is = refl
      ends false xs is = is.goes_on
