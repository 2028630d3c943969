-- A symbol beside a number reads again.
use Rattle.std.proofs.Common.{ℕ, suc, ◌≡◌, ◌+◌, Bool, true, false, cond, ◌==◌, ◌&&◌, ◌||◌, not, List, [], ◌∷◌, ◌++◌, length, drop, refl, sym, ap, subst, ◌∙◌, arith, append_assoc}
use Rattle.std.specs.Prelude.{nat_lt}
use Rattle.std.specs.List.{prefix_len, take_while, list_all}
use Rattle.std.specs.Str.{is_utf8}
use Rattle.std.proofs.lemmas.Bool.{eqb-true, false≢true}
use Rattle.std.proofs.lemmas.Bool.Decides.{nat_tests}
use Rattle.hl_base.specs.Items.{is_white}
use Rattle.hl_num.specs.Reading.{is_digit, is_mark, is_number_byte}
use Rattle.book.specs.Printed.{stands_unquoted, printed_symbol}
use Rattle.entry_reader.proofs.Both.{both_true}
use Rattle.entry_reader.specs.Lines.{first_is, begins, before_byte, after_byte, has_byte}
use Rattle.entry_reader.specs.Symbols.{is_punctuation, is_symbol_mark, is_symbol_byte, is_sign, ends_amount, symbol_name, after_symbol, is_quoted_well, is_left_good, is_right_good}
use Rattle.written_logs.specs.Plain.{lacks}
use Rattle.written_logs.proofs.Bytes.{front_stops, front_whole, rest_stops, prefix_stops, prefix_whole}
use Rattle.std.proofs.lemmas.List.{drop_all}

-- ---- bytes of symbols

unlike_by : (b k : ℕ) (t : Bool) → (b == k) ≡ t → is_symbol_byte k ≡ false → is_symbol_byte b ≡ true → t ≡ false
unlike_by b k true e none h = absurd (false≢true (sym none ∙ ap is_symbol_byte (sym (eqb-true b k e)) ∙ h))
unlike_by b k false e none h = refl

-- a byte of a symbol is none of the others
unlike : (b k : ℕ) → is_symbol_byte k ≡ false → is_symbol_byte b ≡ true → (b == k) ≡ false
unlike b k none h = unlike_by b k (b == k) refl none h

third_false : (a b c d : Bool) → not (a || b || c || d) ≡ true → c ≡ false
third_false true b c d h = absurd (false≢true h)
third_false false true c d h = absurd (false≢true h)
third_false false false true d h = absurd (false≢true h)
third_false false false false d h = refl

symbol_digit : (b : ℕ) → is_symbol_byte b ≡ true → is_digit b ≡ false
symbol_digit b h = third_false (is_white b) (b == 10) (is_digit b) (is_punctuation b && not (is_symbol_mark b)) h

either_false : (a b : Bool) → a ≡ false → b ≡ false → (a || b) ≡ false
either_false a b e f = rw (e, f) refl

symbol_white : (b : ℕ) → is_symbol_byte b ≡ true → is_white b ≡ false
symbol_white b h =
    let e = unlike b 32 refl h in
    let f = unlike b 9 refl h in
    let g = unlike b 13 refl h in
    rw (e, f, g) refl

symbol_sign : (b : ℕ) → is_symbol_byte b ≡ true → is_sign b ≡ false
symbol_sign b h = either_false (b == 43) (b == 45) (unlike b 43 refl h) (unlike b 45 refl h)

symbol_number : (b : ℕ) → is_symbol_byte b ≡ true → is_number_byte b ≡ false
symbol_number b h = either_false (is_digit b) (is_mark b) (symbol_digit b h) (either_false (b == 46) (b == 44) (unlike b 46 refl h) (unlike b 44 refl h))

symbol_ends : (b : ℕ) (bs : List ℕ) → is_symbol_byte b ≡ true → ends_amount (b ∷ bs) ≡ false
symbol_ends b bs h =
    let a = unlike b 59 refl h in
    let c = unlike b 61 refl h in
    let d = unlike b 64 refl h in
    let e = unlike b 40 refl h in
    rw (a, c, d, e) refl

same_test : (b : ℕ) → stands_unquoted b ≡ is_symbol_byte b
same_test b = refl

-- ---- a symbol and what follows it

-- what follows a front that passes, and doesn't go on with it
append_nil : (s : List ℕ) → s ++ [] ≡ s
append_nil [] = refl
append_nil (b ∷ bs) = ap (λ (xs : List ℕ). b ∷ xs) (append_nil bs)

pub front_until : (p : ℕ → Bool) (c rest : List ℕ) → list_all p c ≡ true → first_is p rest ≡ false → take_while p (c ++ rest) ≡ c
front_until p c [] all stops = ap (take_while p) (append_nil c) ∙ front_whole p c all
front_until p c (b ∷ bs) all stops = front_stops p c b bs all stops

pub rest_until : (p : ℕ → Bool) (c rest : List ℕ) → list_all p c ≡ true → first_is p rest ≡ false → drop (prefix_len p (c ++ rest)) (c ++ rest) ≡ rest
rest_until p c [] all stops =
    ap (λ (xs : List ℕ). drop (prefix_len p xs) xs) (append_nil c) ∙ ap (λ (k : ℕ). drop k c) (prefix_whole p c all) ∙ drop_all (length c) c (omega arith)
rest_until p c (b ∷ bs) all stops = rest_stops p c b bs all stops

-- what may follow a symbol without quotes
abbrev pub Stops : List ℕ → Type 0
Stops rest = first_is is_symbol_byte rest ≡ false

-- What is read of a text that a symbol begins: its name, what follows it, and its first byte.
pub record IsSymbolText (name rest text : List ℕ) : Type 0 where
  pub named : symbol_name text ≡ name
  pub behind : after_symbol text ≡ rest
  pub left_good : is_left_good text ≡ true
  pub white : first_is is_white text ≡ false
  pub sign : first_is is_sign text ≡ false
  pub minus : begins text 45 ≡ false
  pub digit : first_is is_number_byte text ≡ false
  pub goes_on : ends_amount text ≡ false

-- A symbol that may be written in quotes: in UTF-8, on one line, and without a quote.
pub record IsSymbol (s : List ℕ) : Type 0 where
  pub some : nat_lt 0 (length s) ≡ true
  pub quote : lacks 34 s ≡ true
  pub utf8 : is_utf8 s ≡ true
  pub line : lacks 10 s ≡ true

-- without quotes
unquoted_read : (b : ℕ) (bs rest : List ℕ) → list_all is_symbol_byte (b ∷ bs) ≡ true → Stops rest → IsSymbolText (b ∷ bs) rest (b ∷ (bs ++ rest))
unquoted_read b bs rest all stops =
    let here = (both_true (is_symbol_byte b) (list_all is_symbol_byte bs) all).0 in
    let quote = unlike b 34 refl here in
    let name : take_while is_symbol_byte (b ∷ (bs ++ rest)) ≡ b ∷ bs = front_until is_symbol_byte (b ∷ bs) rest all stops in
    let behind : drop (prefix_len is_symbol_byte (b ∷ (bs ++ rest))) (b ∷ (bs ++ rest)) ≡ rest = rest_until is_symbol_byte (b ∷ bs) rest all stops in
    let text : List ℕ = b ∷ (bs ++ rest) in
    record {
      named = ap (λ (t : Bool). cond t (before_byte 34 (drop 1 text)) (take_while is_symbol_byte text)) quote ∙ name;
      behind = ap (λ (t : Bool). cond t (after_byte 34 (drop 1 text)) (drop (prefix_len is_symbol_byte text) text)) quote ∙ behind;
      left_good =
          ap (λ (t : Bool). cond t (is_quoted_well text) (nat_lt 0 (length (cond t (before_byte 34 (drop 1 text)) (take_while is_symbol_byte text))) || first_is (λ c. is_number_byte c || is_sign c) text || ends_amount text)) quote
          ∙ ap (λ (s : List ℕ). nat_lt 0 (length s) || first_is (λ c. is_number_byte c || is_sign c) text || ends_amount text) name
          ∙ ap (λ (t : Bool). t || first_is (λ c. is_number_byte c || is_sign c) text || ends_amount text) (above (length bs));
      white = symbol_white b here;
      sign = symbol_sign b here;
      minus = unlike b 45 refl here;
      digit = symbol_number b here;
      goes_on = symbol_ends b (bs ++ rest) here;
    }
  where
    above : (j : ℕ) → nat_lt 0 (suc j) ≡ true
    above j = grind (arith, nat_tests)

-- in quotes
has_quote : (s rest : List ℕ) → has_byte 34 (s ++ 34 ∷ rest) ≡ true
has_quote [] rest = refl
has_quote (b ∷ bs) rest = by (b == 34) (has_byte 34 (bs ++ 34 ∷ rest)) (has_quote bs rest)
  where
    by : (t u : Bool) → u ≡ true → (t || u) ≡ true
    by true u e = refl
    by false u e = e

quoted_read : (s rest : List ℕ) → IsSymbol s → IsSymbolText s rest (34 ∷ (s ++ 34 ∷ rest))
quoted_read s rest is =
    let inner : List ℕ = s ++ 34 ∷ rest in
    let name : before_byte 34 inner ≡ s = front_stops (λ b. not (b == 34)) s 34 rest is.quote refl in
    record {
      named = name;
      behind = past;
      left_good = ap (λ (t : Bool). t && nat_lt 0 (length (before_byte 34 inner))) (has_quote s rest) ∙ ap (λ (n : List ℕ). nat_lt 0 (length n)) name ∙ is.some;
      white = refl;
      sign = refl;
      minus = refl;
      digit = refl;
      goes_on = refl;
    }
  where
    one_more : (k : ℕ) → k + 1 ≡ suc k
    one_more k = omega arith

    after_one : (s rest : List ℕ) → drop (suc (length s)) (s ++ 34 ∷ rest) ≡ rest
    after_one [] rest = refl
    after_one (b ∷ bs) rest = after_one bs rest

    past : after_byte 34 (s ++ 34 ∷ rest) ≡ rest
    past =
        ap (λ (k : ℕ). drop (k + 1) (s ++ 34 ∷ rest)) (prefix_stops (λ b. not (b == 34)) s 34 rest is.quote refl)
        ∙ ap (λ (k : ℕ). drop k (s ++ 34 ∷ rest)) (one_more (length s))
        ∙ after_one s rest

by_quotes : (t : Bool) (b : ℕ) (bs rest : List ℕ) → list_all stands_unquoted (b ∷ bs) ≡ t → IsSymbol (b ∷ bs) → Stops rest
    → IsSymbolText (b ∷ bs) rest (cond t (b ∷ bs) (34 ∷ b ∷ (bs ++ 34 ∷ [])) ++ rest)
by_quotes true b bs rest e is stops = unquoted_read b bs rest e stops
by_quotes false b bs rest e is stops =
    subst (λ (xs : List ℕ). IsSymbolText (b ∷ bs) rest (34 ∷ b ∷ xs)) (sym (append_assoc bs (34 ∷ []) rest)) (quoted_read (b ∷ bs) rest is)

-- A symbol as it is printed, and what follows it.
pub symbol_read : (b : ℕ) (bs rest : List ℕ) → IsSymbol (b ∷ bs) → Stops rest → IsSymbolText (b ∷ bs) rest (printed_symbol (b ∷ bs) ++ rest)
symbol_read b bs rest is stops = by_quotes (list_all stands_unquoted (b ∷ bs)) b bs rest refl is stops

-- behind a number nothing follows it
right_by : (t : Bool) (b : ℕ) (bs : List ℕ) → list_all stands_unquoted (b ∷ bs) ≡ t → IsSymbol (b ∷ bs) → is_right_good (cond t (b ∷ bs) (34 ∷ b ∷ (bs ++ 34 ∷ []))) ≡ true
right_by true b bs e is =
    let here = (both_true (is_symbol_byte b) (list_all is_symbol_byte bs) e).0 in
    let quote = unlike b 34 refl here in
    let text : List ℕ = b ∷ bs in
    let name : take_while is_symbol_byte text ≡ text = front_whole is_symbol_byte text e in
    let behind : drop (prefix_len is_symbol_byte text) text ≡ [] = ap (λ (k : ℕ). drop k text) (prefix_whole is_symbol_byte text e) ∙ drop_all (length text) text (omega arith) in
    ap (λ (t : Bool). cond t (is_quoted_well text) (nat_lt 0 (length (cond t (before_byte 34 (drop 1 text)) (take_while is_symbol_byte text))) && (first_is is_white (cond t (after_byte 34 (drop 1 text)) (drop (prefix_len is_symbol_byte text) text)) || ends_amount (cond t (after_byte 34 (drop 1 text)) (drop (prefix_len is_symbol_byte text) text))))) quote
    ∙ ap (λ (s : List ℕ). nat_lt 0 (length s) && (first_is is_white (drop (prefix_len is_symbol_byte text) text) || ends_amount (drop (prefix_len is_symbol_byte text) text))) name
    ∙ ap (λ (s : List ℕ). nat_lt 0 (length text) && (first_is is_white s || ends_amount s)) behind
    ∙ ap (λ (t : Bool). t && true) is.some
right_by false b bs e is = (quoted_read (b ∷ bs) [] is).left_good

pub symbol_right : (b : ℕ) (bs : List ℕ) → IsSymbol (b ∷ bs) → is_right_good (printed_symbol (b ∷ bs)) ≡ true
symbol_right b bs is = right_by (list_all stands_unquoted (b ∷ bs)) b bs refl is
