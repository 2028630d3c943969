-- An amount in any shape reads as it is.
use Rattle.std.proofs.Common.{ℕ, pos, negsuc, ◌≡◌, ◌<◌, ◌≤◌, ◌^◌, ℤ, Bool, true, false, cond, int_lt, ltb, ◌==◌, ◌&&◌, ◌||◌, not, List, [], ◌∷◌, ◌++◌, length, drop, None, Result, Ok, Err, unsigned_abs, refl, sym, ap, subst, ◌∙◌, arith, append_assoc}
use Rattle.std.specs.Prelude.{nat_lt}
use Rattle.std.specs.Fmt.{sign_text}
use Rattle.std.specs.List.{list_all, prefix_len, take_while}
use Rattle.std.proofs.lemmas.Bool.{false≢true}
use Rattle.std.proofs.lemmas.Bool.Decides.{nat_tests}
use Rattle.hl_base.specs.Items.{is_white}
use Rattle.hl_num.specs.Decimal.{Decimal}
use Rattle.hl_num.specs.Reading.{is_digit, is_number_byte, reading}
use Rattle.hl_num.specs.declared.reading.BadNumber.{BadNumber}
use Rattle.hl_num.specs.declared.reading.Number.{Number}
use Rattle.book.specs.declared.amount.Amount.{Amount}
use Rattle.book.specs.declared.amount.Written.{Written}
use Rattle.book.specs.declared.fault.Fault.{Fault}
use Rattle.book.specs.declared.fault.Cause.TheVariants as cause
use Rattle.book.specs.Printed.{gap_of, printed_symbol, stands_unquoted, with_symbol}
use Rattle.entry_reader.specs.Amounts.{Left, Right, after_sign, amount_at, amount_from, left_at, left_from, left_of, number_or_fault, right_at, right_from, right_of, right_with, shape_from, signed, written_symbol}
use Rattle.entry_reader.specs.Causes.{fault_at, ◌>>=◌}
use Rattle.entry_reader.specs.Contexts.{Context, decided_mark, symbol_of, usual_symbol}
use Rattle.entry_reader.specs.Lines.{after_white, begins, first_is}
use Rattle.entry_reader.specs.Symbols.{after_symbol, ends_amount, is_left_good, is_punctuation, is_quoted_well, is_right_good, is_sign, is_symbol_byte, is_symbol_mark, symbol_name}
use Rattle.journal_printer.specs.Amounts.{amount_text, number_text}
use Rattle.printed_entries.specs.Shapes.{IsShape}
use Rattle.written_logs.proofs.Bytes.{after_white_solid, all_also, is_inside, skip_one, solid_last, utf8_append, utf8_ascii}
use Rattle.printed_entries.proofs.Numbers.{IsNumberShown, ReadsTo, number_shown}
use Rattle.printed_entries.proofs.Parts.{IsPart, ascii_text, part_behind, solid_all, text_append, text_of_part}
use Rattle.closed_journals.proofs.Told.{IsTold}
use Rattle.closed_journals.proofs.Symbols.{IsSymbol, IsSymbolText, Stops, front_until, rest_until, symbol_read}
use Rattle.closed_journals.proofs.Texts.{IsText}
use Rattle.written_logs.proofs.Lines.{all_append}

-- ---- what a digit begins

digit_sign : (d : ℕ) → is_digit d ≡ true → is_sign d ≡ false
digit_sign d h = grind (arith, nat_tests)

digit_quote : (d : ℕ) → is_digit d ≡ true → (d == 34) ≡ false
digit_quote d h = grind (arith, nat_tests)

digit_minus : (d : ℕ) → is_digit d ≡ true → (d == 45) ≡ false
digit_minus d h = grind (arith, nat_tests)

digit_symbol : (d : ℕ) → is_digit d ≡ true → is_symbol_byte d ≡ false
digit_symbol d h = grind (arith, nat_tests)

digit_white : (d : ℕ) → is_digit d ≡ true → is_white d ≡ false
digit_white d h = grind (arith, nat_tests)

digit_number : (d : ℕ) → is_digit d ≡ true → is_number_byte d ≡ true
digit_number d h = rw h refl

digit_ends : (d : ℕ) (rest : List ℕ) → is_digit d ≡ true → ends_amount (d ∷ rest) ≡ false
digit_ends d rest h =
    let a : (d == 59) ≡ false = grind (arith, nat_tests) in
    let b : (d == 61) ≡ false = grind (arith, nat_tests) in
    let c : (d == 64) ≡ false = grind (arith, nat_tests) in
    let e : (d == 40) ≡ false = grind (arith, nat_tests) in
    rw (a, b, c, e) refl

-- What is read of a text that a digit begins.
record IsNumberText (text : List ℕ) : Type 0 where
  white : first_is is_white text ≡ false
  sign : first_is is_sign text ≡ false
  minus : begins text 45 ≡ false
  symbol : first_is is_symbol_byte text ≡ false
  good : is_left_good text ≡ true
  none : symbol_name text ≡ []
  behind : after_symbol text ≡ text
  goes_on : ends_amount text ≡ false

digit_text : (text : List ℕ) → first_is is_digit text ≡ true → IsNumberText text
digit_text [] h = absurd (false≢true h)
digit_text (d ∷ rest) h =
    let quote = digit_quote d h in
    let symbol = digit_symbol d h in
    let number = digit_number d h in
    record {
      white = digit_white d h;
      sign = digit_sign d h;
      minus = digit_minus d h;
      symbol = symbol;
      good = rw (quote, symbol, number) refl;
      none = rw (quote, symbol) refl;
      behind = rw (quote, symbol) refl;
      goes_on = digit_ends d rest h;
    }

-- a number with its sign
abbrev with_sign : Bool → List ℕ → List ℕ
with_sign negative ds = sign_text negative ++ ds

after_sign_none : (text : List ℕ) → first_is is_sign text ≡ false → after_sign text ≡ text
after_sign_none text h = ap (λ (t : Bool). cond t (after_white (drop 1 text)) text) h

signed_white : (negative : Bool) (ds : List ℕ) → IsNumberText ds → first_is is_white (with_sign negative ds) ≡ false
signed_white true ds is = refl
signed_white false ds is = is.white

signed_ends : (negative : Bool) (ds : List ℕ) → IsNumberText ds → ends_amount (with_sign negative ds) ≡ false
signed_ends true ds is = refl
signed_ends false ds is = is.goes_on

signed_after : (negative : Bool) (ds : List ℕ) → IsNumberText ds → after_sign (with_sign negative ds) ≡ ds
signed_after true ds is = after_white_solid ds is.white
signed_after false ds is = after_sign_none ds is.sign

signed_minus : (negative : Bool) (ds : List ℕ) → IsNumberText ds → begins (with_sign negative ds) 45 ≡ negative
signed_minus true ds is = refl
signed_minus false ds is = is.minus

signed_stops : (negative : Bool) (ds : List ℕ) → IsNumberText ds → Stops (with_sign negative ds)
signed_stops true ds is = refl
signed_stops false ds is = is.symbol

-- white space before it or not
gap_white : (spaced : Bool) (text : List ℕ) → first_is is_white text ≡ false → after_white (gap_of spaced ++ text) ≡ text
gap_white true text h = skip_one is_white 32 text refl ∙ after_white_solid text h
gap_white false text h = after_white_solid text h

gap_first : (spaced : Bool) (text : List ℕ) → first_is is_white text ≡ false → first_is is_white (gap_of spaced ++ text) ≡ spaced
gap_first true text h = refl
gap_first false text h = h

gap_stops : (p : ℕ → Bool) (spaced : Bool) (text : List ℕ) → p 32 ≡ false → first_is p text ≡ false → first_is p (gap_of spaced ++ text) ≡ false
gap_stops p true text e h = e
gap_stops p false text e h = h

-- ---- what stands before the number

left_by : (line : ℕ) (text inner behind second rest s : List ℕ) (spaced negative : Bool)
    → after_sign text ≡ inner → is_left_good inner ≡ true → symbol_name inner ≡ s → after_symbol inner ≡ behind → after_white behind ≡ second
    → (first_is is_sign text && first_is is_sign second) ≡ false → (begins text 45 || begins second 45) ≡ negative
    → first_is is_white behind ≡ spaced → after_sign second ≡ rest → left_at line text ≡ Ok (left_of negative s spaced rest)
unfolding left_at
left_by line text inner behind second rest s spaced negative a g n b w t m p r =
    ap (left_from line text) a
    ∙ ap (λ (good : Bool). cond {A = Result Left Fault} (not good) (Err (fault_at line cause.Quote)) (cond (first_is is_sign text && first_is is_sign (after_white (after_symbol inner))) (Err (fault_at line cause.Number)) (Ok (left_of (begins text 45 || begins (after_white (after_symbol inner)) 45) (symbol_name inner) (first_is is_white (after_symbol inner)) (after_sign (after_white (after_symbol inner))))))) g
    ∙ ap (λ (x : List ℕ). cond {A = Result Left Fault} (first_is is_sign text && first_is is_sign (after_white x)) (Err (fault_at line cause.Number)) (Ok (left_of (begins text 45 || begins (after_white x) 45) (symbol_name inner) (first_is is_white x) (after_sign (after_white x))))) b
    ∙ ap (λ (x : List ℕ). cond {A = Result Left Fault} (first_is is_sign text && first_is is_sign x) (Err (fault_at line cause.Number)) (Ok (left_of (begins text 45 || begins x 45) (symbol_name inner) (first_is is_white behind) (after_sign x)))) w
    ∙ ap (λ (u : Bool). cond {A = Result Left Fault} u (Err (fault_at line cause.Number)) (Ok (left_of (begins text 45 || begins second 45) (symbol_name inner) (first_is is_white behind) (after_sign second)))) t
    ∙ (λ i. Ok (left_of (m i) (n i) (p i) (r i)))

-- a symbol, and the number behind it
left_symbol : (line : ℕ) (s text ds : List ℕ) (spaced negative : Bool) → IsSymbolText s (gap_of spaced ++ with_sign negative ds) text → IsNumberText ds
    → left_at line text ≡ Ok (left_of negative s spaced ds)
left_symbol line s text ds spaced negative is number =
    left_by line text text (gap_of spaced ++ with_sign negative ds) (with_sign negative ds) ds s spaced negative
    (after_sign_none text is.sign) is.left_good is.named is.behind (gap_white spaced (with_sign negative ds) (signed_white negative ds number))
    (ap (λ (t : Bool). t && first_is is_sign (with_sign negative ds)) is.sign)
    (ap (λ (t : Bool). t || begins (with_sign negative ds) 45) is.minus ∙ signed_minus negative ds number)
    (gap_first spaced (with_sign negative ds) (signed_white negative ds number))
    (signed_after negative ds number)

and_false : (a : Bool) → (a && false) ≡ false
and_false true = refl
and_false false = refl

or_false : (a : Bool) → (a || false) ≡ a
or_false true = refl
or_false false = refl

-- a number first
left_number : (line : ℕ) (ds : List ℕ) (negative : Bool) → IsNumberText ds → left_at line (with_sign negative ds) ≡ Ok (left_of negative [] false ds)
left_number line ds negative number =
    let text = with_sign negative ds in
    left_by line text ds ds ds ds [] false negative
    (signed_after negative ds number) number.good number.none number.behind (after_white_solid ds number.white)
    (ap (λ (t : Bool). first_is is_sign text && t) number.sign ∙ and_false (first_is is_sign text))
    (ap (λ (t : Bool). begins text 45 || t) number.minus ∙ or_false (begins text 45) ∙ signed_minus negative ds number)
    number.white (after_sign_none ds number.sign)

-- ---- what stands behind it

-- What may follow an amount: nothing, or white space and what ends it.
pub record IsBehind (rest : List ℕ) : Type 0 where
  pub symbol : first_is is_symbol_byte rest ≡ false
  pub number : first_is is_number_byte rest ≡ false
  pub ends : ends_amount (after_white rest) ≡ true
  pub apart : (first_is is_white rest || ends_amount rest) ≡ true

-- where the number's symbol stands before it, or it has none
right_none : (has_symbol : Bool) (rest : List ℕ) → IsBehind rest → right_at has_symbol rest ≡ right_with [] false true (after_white rest)
unfolding right_at
right_none true rest is = refl
right_none false rest is =
    ap (λ (t : Bool). cond {A = Right} t (right_with [] false true (after_white rest)) (right_with (symbol_name (after_white rest)) (first_is is_white rest) (is_right_good (after_white rest)) (after_white (after_symbol (after_white rest))))) is.ends

either : (t q l r : Bool) → cond t q l ≡ true → r ≡ true → cond t q r ≡ true
either true q l r h k = h
either false q l r h k = k

-- a symbol, and what may follow it
right_good : (s rest text : List ℕ) → IsSymbolText s rest text → nat_lt 0 (length s) ≡ true → (first_is is_white rest || ends_amount rest) ≡ true → is_right_good text ≡ true
right_good s rest text is some apart =
    either (begins text 34) (is_quoted_well text) (nat_lt 0 (length (symbol_name text)) || first_is (λ b. is_number_byte b || is_sign b) text || ends_amount text)
    (nat_lt 0 (length (symbol_name text)) && (first_is is_white (after_symbol text) || ends_amount (after_symbol text))) is.left_good
    (ap (λ (n : List ℕ). nat_lt 0 (length n) && (first_is is_white (after_symbol text) || ends_amount (after_symbol text))) is.named
    ∙ ap (λ (t : Bool). t && (first_is is_white (after_symbol text) || ends_amount (after_symbol text))) some
    ∙ ap (λ (r : List ℕ). first_is is_white r || ends_amount r) is.behind
    ∙ apart)

right_symbol : (spaced : Bool) (s rest text : List ℕ) → IsSymbolText s rest text → nat_lt 0 (length s) ≡ true → IsBehind rest
    → right_at false (gap_of spaced ++ text) ≡ right_with s spaced true (after_white rest)
unfolding right_at
right_symbol spaced s rest text is some behind =
    let good = right_good s rest text is some behind.apart in
    ap (λ (x : List ℕ). right_from false (first_is is_white (gap_of spaced ++ text)) x) (gap_white spaced text is.white)
    ∙ ap (λ (b : Bool). right_from false b text) (gap_first spaced text is.white)
    ∙ ap (λ (t : Bool). cond {A = Right} t (right_with [] false true text) (right_with (symbol_name text) spaced (is_right_good text) (after_white (after_symbol text)))) is.goes_on
    ∙ (λ i. right_with (is.named i) spaced (good i) (after_white (is.behind i)))

-- ---- the amount

abbrev finish : Context → ℕ → Left → List ℕ → Right → Result (Amount × List ℕ) Fault
finish context line left digits right =
    number_or_fault line (reading digits (decided_mark context (written_symbol left right)))
    >>= λ number. cond right.is_good (Ok (amount_from context left right number, right.rest)) (Err (fault_at line cause.Quote))

opened : (context : Context) (line : ℕ) (text : List ℕ)
    → amount_at context line text ≡ (left_at line text >>= λ left. finish context line left (take_while is_number_byte left.rest) (right_of left))
unfolding amount_at
opened context line text = refl

-- an amount of its parts
amount_by : (context : Context) (line : ℕ) (text ds : List ℕ) (left : Left) (symbol rest : List ℕ) (spaced : Bool) (number : Number)
    → left_at line text ≡ Ok left → take_while is_number_byte left.rest ≡ ds → right_of left ≡ right_with symbol spaced true rest
    → reading ds (decided_mark context (written_symbol left (right_with symbol spaced true rest))) ≡ Ok number
    → amount_at context line text ≡ Ok (amount_from context left (right_with symbol spaced true rest) number, rest)
amount_by context line text ds left symbol rest spaced number is digits_are right_is number_is =
    let right = right_with symbol spaced true rest in
    opened context line text
    ∙ ap (λ (r : Result Left Fault). r >>= λ l. finish context line l (take_while is_number_byte l.rest) (right_of l)) is
    ∙ ap (λ (xs : List ℕ). finish context line left xs (right_of left)) digits_are
    ∙ ap (λ (r : Right). finish context line left ds r) right_is
    ∙ ap (λ (r : Result Number BadNumber). number_or_fault line r >>= λ n. Ok (amount_from context left right n, rest)) number_is

-- ---- as it is shown

abbrev pub amount_in : List ℕ → Decimal → Written → Amount
amount_in symbol value shape = record { symbol = symbol; value = value; shape = shape }

-- What is known of an amount that was read: its symbol, and how large its number is.
pub record IsReadAmount (a : Amount) : Type 0 where
  pub symbol : IsTold a.symbol
  pub few : (a.value).places ≤ 18
  pub small : unsigned_abs (a.value).mantissa < 2 ^ 127

-- A text that reads as an amount, whatever may follow it.
pub record IsAmountShown (context : Context) (symbol : List ℕ) (v : Decimal) (text : List ℕ) : Type 0 where
  pub part : IsPart text
  pub white : (rest : List ℕ) → first_is is_white (text ++ rest) ≡ false
  pub goes_on : (rest : List ℕ) → ends_amount (text ++ rest) ≡ false
  pub shape : Written
  pub read : (line : ℕ) (rest : List ℕ) → IsBehind rest → amount_at context line (text ++ rest) ≡ Ok (amount_in symbol v shape, after_white rest)

abbrev plain_decimal : ℤ → ℕ → Decimal
plain_decimal z p = record { mantissa = z; places = p }

-- the sign and the magnitude give the number back
signed_back : (z : ℤ) (p : ℕ) → signed (int_lt z (pos 0)) (plain_decimal (pos (unsigned_abs z)) p) ≡ plain_decimal z p
signed_back (pos n) p = ap (λ (b : Bool). signed b (plain_decimal (pos n) p)) (not_negative n)
  where
    not_negative : (n : ℕ) → int_lt (pos n) (pos 0) ≡ false
    not_negative n = grind (arith, nat_tests)
signed_back (negsuc j) p = refl

no_symbol : (context : Context) → context.usual ≡ None → symbol_of context [] ≡ []
no_symbol context none = ap usual_symbol none

above : (b : ℕ) (bs : List ℕ) → nat_lt 0 (length (b ∷ bs)) ≡ true
above b bs = grind (arith, nat_tests)

number_solid : (b : ℕ) → is_number_byte b ≡ true → not (is_white b) ≡ true
number_solid b h = grind (arith, nat_tests)

number_low : (b : ℕ) → is_number_byte b ≡ true → ltb b 128 ≡ true
number_low b h = grind (arith, nat_tests)

number_inside : (b : ℕ) → is_number_byte b ≡ true → is_inside b ≡ true
number_inside b h = grind (arith, nat_tests)

first_false : (a b c d : Bool) → not (a || b || c || d) ≡ true → not a ≡ true
first_false true b c d h = h
first_false false b c d h = refl

white_parts : (b : ℕ) → stands_unquoted b ≡ true → not (is_white b) ≡ true
white_parts b h = first_false (is_white b) (b == 10) (is_digit b) (is_punctuation b && not (is_symbol_mark b)) h

symbol_by : (t : Bool) (b : ℕ) (bs : List ℕ) → list_all stands_unquoted (b ∷ bs) ≡ t → IsSymbol (b ∷ bs) → IsPart (cond t (b ∷ bs) (34 ∷ b ∷ (bs ++ 34 ∷ [])))
symbol_by true b bs e is = record {
  line = record { utf8 = is.utf8; line = is.line; last = solid_all (b ∷ bs) (omega arith) (all_also stands_unquoted (λ b. not (is_white b)) (b ∷ bs) white_parts e) };
  some = omega arith;
}
symbol_by false b bs e is = record {
  line = record {
    utf8 = utf8_append (34 ∷ []) (b ∷ (bs ++ 34 ∷ [])) (utf8_ascii (34 ∷ []) refl) (utf8_append (b ∷ bs) (34 ∷ []) is.utf8 (utf8_ascii (34 ∷ []) refl));
    line = all_append is_inside (34 ∷ []) (b ∷ (bs ++ 34 ∷ [])) refl (all_append is_inside (b ∷ bs) (34 ∷ []) is.line refl);
    last = solid_last (34 ∷ b ∷ bs) 34 refl;
  };
  some = omega arith;
}

symbol_part : (b : ℕ) (bs : List ℕ) → IsSymbol (b ∷ bs) → IsPart (printed_symbol (b ∷ bs))
symbol_part b bs is = symbol_by (list_all stands_unquoted (b ∷ bs)) b bs refl is

gap_text : (spaced : Bool) → IsText (gap_of spaced)
gap_text true = ascii_text (32 ∷ []) refl refl
gap_text false = ascii_text [] refl refl

sign_is_text : (negative : Bool) → IsText (sign_text negative)
sign_is_text true = ascii_text (45 ∷ []) refl refl
sign_is_text false = ascii_text [] refl refl

some_first : (p : ℕ → Bool) (xs : List ℕ) → first_is p xs ≡ true → 0 < length xs
some_first p [] h = absurd (false≢true h)
some_first p (x ∷ xs) h = omega arith

number_part : (negative : Bool) (ds : List ℕ) → list_all is_number_byte ds ≡ true → first_is is_digit ds ≡ true → IsPart (with_sign negative ds)
number_part negative ds all first =
    part_behind (sign_text negative) ds (sign_is_text negative)
    (record {
      line = record {
        utf8 = utf8_ascii ds (all_also is_number_byte (λ b. ltb b 128) ds number_low all);
        line = all_also is_number_byte is_inside ds number_inside all;
        last = solid_all ds (some_first is_digit ds first) (all_also is_number_byte (λ b. not (is_white b)) ds number_solid all);
      };
      some = some_first is_digit ds first;
    })

-- the two sides of a number
abbrev sided : Bool → Bool → List ℕ → List ℕ → List ℕ
sided left spaced symbol number = cond left (symbol ++ gap_of spaced ++ number) (number ++ gap_of spaced ++ symbol)

before_is : (a b c d e : List ℕ) → (a ++ b ++ (c ++ d)) ++ e ≡ a ++ (b ++ (c ++ (d ++ e)))
before_is a b c d e = append_assoc (a ++ b) (c ++ d) e ∙ append_assoc a b ((c ++ d) ++ e) ∙ ap (λ (xs : List ℕ). a ++ (b ++ xs)) (append_assoc c d e)

behind_is : (a b c d e : List ℕ) → ((c ++ d) ++ b ++ a) ++ e ≡ c ++ (d ++ (b ++ (a ++ e)))
behind_is a b c d e = append_assoc ((c ++ d) ++ b) a e ∙ append_assoc (c ++ d) b (a ++ e) ∙ append_assoc c d (b ++ (a ++ e))

first_more : (p : ℕ → Bool) (xs ys : List ℕ) → first_is p xs ≡ true → first_is p (xs ++ ys) ≡ true
first_more p [] ys h = absurd (false≢true h)
first_more p (x ∷ xs) ys h = h

-- a number of digits that read as its magnitude
module _ (context : Context) (v : Decimal) (ds : List ℕ) (bytes : list_all is_number_byte ds ≡ true) (first : first_is is_digit ds ≡ true) where
  abbrev negative : Bool
  negative = int_lt v.mantissa (pos 0)

  abbrev Reads : List ℕ → Type 0
  Reads symbol = ReadsTo (decided_mark context symbol) ds (unsigned_abs v.mantissa) v.places

  is_number : (rest : List ℕ) → IsNumberText (ds ++ rest)
  is_number rest = digit_text (ds ++ rest) (first_more is_digit ds rest first)

  value_back : (number : Number) → number.value ≡ record { mantissa = pos (unsigned_abs v.mantissa); places = v.places } → signed negative number.value ≡ v
  value_back number e = ap (signed negative) e ∙ signed_back v.mantissa v.places

  front : (rest : List ℕ) → first_is is_number_byte rest ≡ false → take_while is_number_byte (ds ++ rest) ≡ ds
  front rest stops = front_until is_number_byte ds rest bytes stops

  back : (has : Bool) (rest : List ℕ) → first_is is_number_byte rest ≡ false → right_at has (drop (prefix_len is_number_byte (ds ++ rest)) (ds ++ rest)) ≡ right_at has rest
  back has rest stops = ap (right_at has) (rest_until is_number_byte ds rest bytes stops)

  -- without a symbol
  bare_shown : context.usual ≡ None → Reads [] → IsAmountShown context [] v (with_sign negative ds)
  bare_shown none reads = record {
    part = number_part negative ds bytes first;
    white = λ rest. ap (first_is is_white) (append_assoc (sign_text negative) ds rest) ∙ signed_white negative (ds ++ rest) (is_number rest);
    goes_on = λ rest. ap ends_amount (append_assoc (sign_text negative) ds rest) ∙ signed_ends negative (ds ++ rest) (is_number rest);
    shape = shape_from false false reads.number;
    read = λ line rest behind.
        ap (amount_at context line) (append_assoc (sign_text negative) ds rest)
        ∙ amount_by context line (with_sign negative (ds ++ rest)) ds (left_of negative [] false (ds ++ rest)) [] (after_white rest) false reads.number
        (left_number line (ds ++ rest) negative (is_number rest)) (front rest behind.number)
        (back false rest behind.number ∙ right_none false rest behind) reads.read
        ∙ (λ i. Ok (amount_in (no_symbol context none i) (value_back reads.number reads.value i) (shape_from false false reads.number), after_white rest));
  }

  -- with the symbol before it
  before_shown : (b : ℕ) (bs : List ℕ) (spaced : Bool) → IsSymbol (b ∷ bs) → Reads (b ∷ bs)
      → IsAmountShown context (b ∷ bs) v (printed_symbol (b ∷ bs) ++ gap_of spaced ++ with_sign negative ds)
  before_shown b bs spaced symbol reads = record {
    part =
        part_behind (printed_symbol (b ∷ bs) ++ gap_of spaced) (with_sign negative ds)
        (text_append (printed_symbol (b ∷ bs)) (gap_of spaced) (text_of_part (printed_symbol (b ∷ bs)) (symbol_part b bs symbol)) (gap_text spaced))
        (number_part negative ds bytes first);
    white = λ rest. ap (first_is is_white) (turned rest) ∙ (text_is rest).white;
    goes_on = λ rest. ap ends_amount (turned rest) ∙ (text_is rest).goes_on;
    shape = shape_from true spaced reads.number;
    read = λ line rest behind.
        ap (amount_at context line) (turned rest) ∙ reads_back line rest behind;
  }
    where
      turned : (rest : List ℕ) → (printed_symbol (b ∷ bs) ++ gap_of spaced ++ with_sign negative ds) ++ rest ≡ printed_symbol (b ∷ bs) ++ (gap_of spaced ++ with_sign negative (ds ++ rest))
      turned rest = before_is (printed_symbol (b ∷ bs)) (gap_of spaced) (sign_text negative) ds rest

      text_is : (rest : List ℕ) → IsSymbolText (b ∷ bs) (gap_of spaced ++ with_sign negative (ds ++ rest)) (printed_symbol (b ∷ bs) ++ (gap_of spaced ++ with_sign negative (ds ++ rest)))
      text_is rest =
          symbol_read b bs (gap_of spaced ++ with_sign negative (ds ++ rest)) symbol
          (gap_stops is_symbol_byte spaced (with_sign negative (ds ++ rest)) refl (signed_stops negative (ds ++ rest) (is_number rest)))

      reads_back : (line : ℕ) (rest : List ℕ) → IsBehind rest
          → amount_at context line (printed_symbol (b ∷ bs) ++ (gap_of spaced ++ with_sign negative (ds ++ rest))) ≡ Ok (amount_in (b ∷ bs) v (shape_from true spaced reads.number), after_white rest)
      reads_back line rest behind =
          let s : List ℕ = b ∷ bs in
          let left = left_of negative s spaced (ds ++ rest) in
          let right = right_with [] false true (after_white rest) in
          let some = above b bs in
          let written : written_symbol left right ≡ s = ap (λ (t : Bool). cond t s []) some in
          amount_by context line (printed_symbol s ++ (gap_of spaced ++ with_sign negative (ds ++ rest))) ds left [] (after_white rest) false reads.number
          (left_symbol line s (printed_symbol s ++ (gap_of spaced ++ with_sign negative (ds ++ rest))) (ds ++ rest) spaced negative (text_is rest) (is_number rest))
          (front rest behind.number)
          (back (nat_lt 0 (length s)) rest behind.number ∙ right_none (nat_lt 0 (length s)) rest behind)
          (ap (λ (x : List ℕ). reading ds (decided_mark context x)) written ∙ reads.read)
          ∙ (λ i. Ok (amount_in (symbol_of context (written i)) (value_back reads.number reads.value i) (shape_from (some i) (cond (some i) spaced false) reads.number), after_white rest))

  -- with the symbol behind it
  behind_shown : (b : ℕ) (bs : List ℕ) (spaced : Bool) → IsSymbol (b ∷ bs) → Reads (b ∷ bs)
      → IsAmountShown context (b ∷ bs) v (with_sign negative ds ++ gap_of spaced ++ printed_symbol (b ∷ bs))
  behind_shown b bs spaced symbol reads = record {
    part =
        part_behind (with_sign negative ds ++ gap_of spaced) (printed_symbol (b ∷ bs))
        (text_append (with_sign negative ds) (gap_of spaced) (text_of_part (with_sign negative ds) (number_part negative ds bytes first)) (gap_text spaced))
        (symbol_part b bs symbol);
    white = λ rest. ap (first_is is_white) (turned rest) ∙ signed_white negative (ds ++ (gap_of spaced ++ (printed_symbol (b ∷ bs) ++ rest))) (is_number (gap_of spaced ++ (printed_symbol (b ∷ bs) ++ rest)));
    goes_on = λ rest. ap ends_amount (turned rest) ∙ signed_ends negative (ds ++ (gap_of spaced ++ (printed_symbol (b ∷ bs) ++ rest))) (is_number (gap_of spaced ++ (printed_symbol (b ∷ bs) ++ rest)));
    shape = shape_from false spaced reads.number;
    read = λ line rest behind. ap (amount_at context line) (turned rest) ∙ reads_back line rest behind;
  }
    where
      turned : (rest : List ℕ) → (with_sign negative ds ++ gap_of spaced ++ printed_symbol (b ∷ bs)) ++ rest ≡ with_sign negative (ds ++ (gap_of spaced ++ (printed_symbol (b ∷ bs) ++ rest)))
      turned rest = behind_is (printed_symbol (b ∷ bs)) (gap_of spaced) (sign_text negative) ds rest

      reads_back : (line : ℕ) (rest : List ℕ) → IsBehind rest
          → amount_at context line (with_sign negative (ds ++ (gap_of spaced ++ (printed_symbol (b ∷ bs) ++ rest)))) ≡ Ok (amount_in (b ∷ bs) v (shape_from false spaced reads.number), after_white rest)
      reads_back line rest behind =
          let s : List ℕ = b ∷ bs in
          let text = printed_symbol s ++ rest in
          let more = gap_of spaced ++ text in
          let is : IsSymbolText s rest text = symbol_read b bs rest symbol behind.symbol in
          let stops : first_is is_number_byte more ≡ false = gap_stops is_number_byte spaced text refl is.digit in
          amount_by context line (with_sign negative (ds ++ more)) ds (left_of negative [] false (ds ++ more)) s (after_white rest) spaced reads.number
          (left_number line (ds ++ more) negative (is_number more))
          (front more stops)
          (back false more stops ∙ right_symbol spaced s rest text is (above b bs) behind)
          reads.read
          ∙ (λ i. Ok (amount_in s (value_back reads.number reads.value i) (shape_from false spaced reads.number), after_white rest))

  by_side : (left spaced : Bool) (b : ℕ) (bs : List ℕ) → IsSymbol (b ∷ bs) → Reads (b ∷ bs) → IsAmountShown context (b ∷ bs) v (sided left spaced (printed_symbol (b ∷ bs)) (with_sign negative ds))
  by_side true spaced b bs symbol reads = before_shown b bs spaced symbol reads
  by_side false spaced b bs symbol reads = behind_shown b bs spaced symbol reads

  symbol_of_told : (b : ℕ) (bs : List ℕ) → IsTold (b ∷ bs) → IsSymbol (b ∷ bs)
  symbol_of_told b bs is = record { some = above b bs; quote = is.quote; utf8 = (is.text).utf8; line = (is.text).line }

  shown_with : (shape : Written) (symbol : List ℕ) → context.usual ≡ None → IsTold symbol → Reads symbol → IsAmountShown context symbol v (with_symbol shape symbol (with_sign negative ds))
  shown_with shape [] none told reads = bare_shown none reads
  shown_with shape (b ∷ bs) none told reads = by_side shape.left shape.spaced b bs (symbol_of_told b bs told) reads

shown_by : (context : Context) (shape : Written) (symbol : List ℕ) (v : Decimal) (number : List ℕ) → context.usual ≡ None → IsTold symbol → IsNumberShown (decided_mark context symbol) v number
    → IsAmountShown context symbol v (with_symbol shape symbol number)
shown_by context shape symbol v number none told is =
    subst (λ (xs : List ℕ). IsAmountShown context symbol v (with_symbol shape symbol xs)) (sym is.is)
    (shown_with context v is.digits is.bytes is.first shape symbol none told is.reads)

-- An amount in a shape, as a line shows it.
pub amount_shown : (context : Context) (shape : Written) (a : Amount) → context.usual ≡ None → IsShape (decided_mark context a.symbol) shape → IsReadAmount a
    → IsAmountShown context a.symbol a.value (amount_text shape false a)
amount_shown context shape a none is read =
    shown_by context shape a.symbol a.value (number_text shape (a.value).places a.value) none (read.symbol) (number_shown (decided_mark context a.symbol) shape (a.value).mantissa (a.value).places is read.few read.small)
