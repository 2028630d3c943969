-- What is read of an entry's lines in a context of directives that were read: accounts and symbols in UTF-8 on one line.
use Rattle.std.proofs.Common.{ℕ, ◌≡◌, ◌+◌, ◌^◌, ◌<◌, ◌≤◌, Bool, true, false, cond, ◌==◌, ◌&&◌, ◌||◌, not, List, [], ◌∷◌, length, take, drop, reverse, Option, Some, None, Result, Ok, Err, refl, sym, ap, subst, ◌∙◌, arith, lit<}
use Rattle.std.specs.Prelude.{nat_le, nat_lt}
use Rattle.std.specs.List.{count_by, find, list_all, list_any, prefix_len, take_while, AllByRecursion}
use Rattle.std.specs.Str.{bytes_eq}
use Rattle.std.proofs.lemmas.Bool.{eqb-true, false≢true}
use Rattle.std.proofs.lemmas.Bool.Decides.{nat_tests}
use Rattle.std.proofs.lemmas.List.{reverse-append}
use Rattle.hl_base.specs.Items.{is_white}
use Rattle.hl_num.specs.Decimal.{Decimal}
use Rattle.hl_num.specs.Reading.{are_groups, decimal_mark, group_sizes, is_digit, is_mark, is_number_byte, is_written, kept_mark, mantissa_of, number_end, number_of, number_with, other_mark, reading, whole_len}
use Rattle.hl_num.specs.declared.reading.BadNumber.{BadNumber}
use Rattle.hl_num.specs.declared.reading.Number.{Number}
use Rattle.book.specs.declared.amount.Amount.{Amount}
use Rattle.book.specs.declared.fault.Cause.TheVariants as cause
use Rattle.entry_reader.proofs.Both.{both_true}
use Rattle.entry_reader.proofs.Texts as cuts
use Rattle.entry_reader.specs.Amounts.{Left, Right, after_sign, amount_at, amount_from, left_at, left_of, number_or_fault, right_at, right_of, right_with, signed, written_symbol}
use Rattle.entry_reader.specs.Causes.{fault_at}
use Rattle.entry_reader.specs.Contexts.{Context, decided_mark, latest_mark, mark_found, or_else, symbol_of, usual_mark, usual_symbol}
use Rattle.entry_reader.specs.Lines.{after_byte, after_white, before_byte, begins, first_is}
use Rattle.entry_reader.specs.Symbols.{after_symbol, ends_amount, is_left_good, is_right_good, is_sign, is_symbol_byte, symbol_name}
use Rattle.written_logs.specs.Plain.{lacks}
use Rattle.written_logs.proofs.Bytes.{all_also}
use Rattle.written_logs.proofs.Lines.{all_parts}
use Rattle.closed_journals.proofs.Digits.{IsDecided}
use Rattle.closed_journals.proofs.Texts.{AreTexts, Gives, IsText, after_text, before_text, bind_gives, empty_text, err_gives, front_passes, front_text, ok_gives, past_byte, past_text, rest_text, unless_gives, unspaced_text, when_gives}

-- ---- symbols

-- a symbol that was read: a text without a quote
pub record IsTold (s : List ℕ) : Type 0 where
  pub text : IsText s
  pub quote : lacks 34 s ≡ true

pub no_symbol : IsTold []
no_symbol = record { text = empty_text; quote = refl }

symbol_unlike : (b : ℕ) → is_symbol_byte b ≡ true → not (b == 34) ≡ true
symbol_unlike b h = by (b == 34) refl
  where
    by : (t : Bool) → (b == 34) ≡ t → not t ≡ true
    by true e = absurd (false≢true (ap is_symbol_byte (sym (eqb-true b 34 e)) ∙ h))
    by false e = refl

named_by : (t : Bool) (text : List ℕ) → begins text 34 ≡ t → IsText text → IsTold (cond t (before_byte 34 (drop 1 text)) (take_while is_symbol_byte text))
named_by true text e is = record { text = before_text 34 (drop 1 text) (lit< tt) (past_byte 34 text (lit< tt) e is); quote = front_passes (λ b. not (b == 34)) (drop 1 text) }
named_by false text e is = record {
  text = front_text (prefix_len is_symbol_byte text) text is (cuts.symbol_utf8 text is.utf8);
  quote = all_also is_symbol_byte (λ b. not (b == 34)) (take_while is_symbol_byte text) symbol_unlike (front_passes is_symbol_byte text);
}

pub symbol_told : (text : List ℕ) → IsText text → IsTold (symbol_name text)
symbol_told text is = named_by (begins text 34) text refl is

behind_by : (t : Bool) (text : List ℕ) → begins text 34 ≡ t → IsText text → IsText (cond t (after_byte 34 (drop 1 text)) (drop (prefix_len is_symbol_byte text) text))
behind_by true text e is = after_text 34 (drop 1 text) (lit< tt) (past_byte 34 text (lit< tt) e is)
behind_by false text e is = rest_text (prefix_len is_symbol_byte text) text is (cuts.after_symbol_utf8 text is.utf8)

pub after_symbol_text : (text : List ℕ) → IsText text → IsText (after_symbol text)
after_symbol_text text is = behind_by (begins text 34) text refl is

sign_low : (b : ℕ) → is_sign b ≡ true → b < 128
sign_low b h = grind (arith, nat_tests)

after_sign_by : (t : Bool) (text : List ℕ) → first_is is_sign text ≡ t → IsText text → IsText (cond t (after_white (drop 1 text)) text)
after_sign_by true text e is = unspaced_text (drop 1 text) (past_text is_sign text sign_low e is)
after_sign_by false text e is = is

after_sign_text : (text : List ℕ) → IsText text → IsText (after_sign text)
after_sign_text text is = after_sign_by (first_is is_sign text) text refl is

-- ---- numbers

-- what is read of a number: at most 18 decimals, and a mark
record IsNumber (n : Number) : Type 0 where
  few : (n.value).places ≤ 18
  mark : IsDecided n.mark

find_passes : (p : ℕ → Bool) (xs : List ℕ) (P : Option ℕ → Type 0) → P None → ((x : ℕ) → p x ≡ true → P (Some x)) → P (find p xs)
find_passes p [] P none some = none
find_passes p (x ∷ xs) P none some = by (p x) refl (find_passes p xs P none some)
  where
    by : (t : Bool) → p x ≡ t → P (find p xs) → P (cond t (Some x) (find p xs))
    by true e rest = some x e
    by false e rest = rest

kept_decided : (text : List ℕ) (o : Option ℕ) → IsDecided o → IsDecided (kept_mark text o)
kept_decided text None is = tt
kept_decided text (Some m) is = by (list_any (λ b. b == other_mark m) text || nat_lt (count_by (λ b. b == m) text) 2)
  where
    by : (t : Bool) → IsDecided (cond {A = Option ℕ} t (Some m) None)
    by true = is
    by false = tt

mark_decided : (text : List ℕ) (decided : Option ℕ) → IsDecided decided → IsDecided (decimal_mark text decided)
mark_decided text None is = kept_decided text (find is_mark (reverse text)) (find_passes is_mark (reverse text) IsDecided tt (λ x h. h))
mark_decided text (Some m) is = by (list_any (λ b. b == m) text)
  where
    by : (t : Bool) → IsDecided (cond {A = Option ℕ} t (Some m) None)
    by true = is
    by false = tt

few_decimals : (a b c d e : Bool) → (a && b && c && d && e) ≡ true → d ≡ true
few_decimals true true true true e h = refl
few_decimals true true true false e h = absurd (false≢true h)
few_decimals true true false d e h = absurd (false≢true h)
few_decimals true false c d e h = absurd (false≢true h)
few_decimals false b c d e h = absurd (false≢true h)

at_most : (a b : ℕ) → nat_le a b ≡ true → a ≤ b
at_most a b h = grind (arith, nat_tests)

kept_value : {A : Type 0} (t : Bool) (x y : A) → cond {A = Option A} t (Some x) None ≡ Some y → (t ≡ true) × (x ≡ y)
kept_value true x y h = (refl, let same : x ≡ y = cc in same)
kept_value false x y h = absurd (let never : ⊥ = cc in never)

-- a number of such decimals and mark
record IsWith (mark : Option ℕ) (n : Number) : Type 0 where
  few : (n.value).places ≤ 18
  mark_is : n.mark ≡ mark

with_facts : (text : List ℕ) (mark : Option ℕ) (n : Number) → number_with text mark ≡ Some n → IsWith mark n
unfolding number_with
with_facts text mark n h =
    let decimals = drop (whole_len text mark + 1) text in
    let both = kept_value (is_written text (take (whole_len text mark) text) decimals && nat_lt (mantissa_of text) (2 ^ 127)) _ n h in
    let written = (both_true (is_written text (take (whole_len text mark) text) decimals) (nat_lt (mantissa_of text) (2 ^ 127)) both.0).0 in
    let few : length decimals ≤ 18 = at_most (length decimals) 18 (few_decimals (list_all is_number_byte text) (list_any is_digit text) (list_all is_digit decimals) (nat_le (length decimals) 18) (are_groups (group_sizes (take (whole_len text mark) text))) written) in
    record {
      few = subst (λ (k : ℕ). k ≤ 18) (ap (λ (x : Number). (x.value).places) both.1) few;
      mark_is = ap (λ (x : Number). x.mark) (sym both.1);
    }

number_facts : (text : List ℕ) (decided : Option ℕ) (n : Number) → IsDecided decided → number_of text decided ≡ Some n → IsNumber n
number_facts text decided n is h =
    let facts = with_facts text (decimal_mark text decided) n h in
    record { few = facts.few; mark = subst IsDecided (sym facts.mark_is) (mark_decided text decided is) }

number_by : (line : ℕ) (text : List ℕ) (o : Option Number) → ((n : Number) → o ≡ Some n → IsNumber n)
    → Gives IsNumber (number_or_fault line (let r : Result Number BadNumber = elim o [ Some number ↦ Ok number | None ↦ Err (record { at = number_end text }) ] in r))
number_by line text (Some n) h = ok_gives IsNumber n (h n refl)
number_by line text None h = err_gives IsNumber (fault_at line cause.Number)

number_gives : (line : ℕ) (text : List ℕ) (decided : Option ℕ) → IsDecided decided → Gives IsNumber (number_or_fault line (reading text decided))
number_gives line text decided is = number_by line text (number_of text decided) (λ n e. number_facts text decided n is e)

-- ---- contexts

-- a default amount's symbol and mark
abbrev pub UsualIs : Option (List ℕ × Option ℕ) → Type 0
UsualIs None = Unit {0}
UsualIs (Some usual) = IsTold usual.0 × IsDecided usual.1

-- What directives say that were read.
pub record IsSound (c : Context) : Type 0 where
  pub mark : IsDecided c.mark
  pub usual : UsualIs c.usual
  pub applied : AreTexts c.applied
  pub aliases : AllByRecursion (λ alias. IsText alias.1) c.aliases
  pub marks : AllByRecursion (λ entry. IsDecided entry.1) c.marks

or_decided : (a b : Option ℕ) → IsDecided a → IsDecided b → IsDecided (or_else a b)
or_decided None b h k = k
or_decided (Some m) b h k = h

abbrev Entry : Type 0
Entry = List ℕ × Option ℕ

all_reverse : (xs : List Entry) → AllByRecursion (λ (e : Entry). IsDecided e.1) xs → AllByRecursion (λ (e : Entry). IsDecided e.1) (reverse xs)
all_reverse [] h = tt
all_reverse (x ∷ xs) h =
    subst (AllByRecursion (λ (e : Entry). IsDecided e.1)) (sym (reverse-append (x ∷ []) xs))
    (all_parts (λ (e : Entry). IsDecided e.1) (reverse xs) (x ∷ []) (all_reverse xs h.1) (h.0, tt))

found_decided : (p : Entry → Bool) (xs : List Entry) → AllByRecursion (λ (e : Entry). IsDecided e.1) xs → IsDecided (mark_found (find p xs))
found_decided p [] h = tt
found_decided p (x ∷ xs) h = by (p x) (found_decided p xs h.1)
  where
    by : (t : Bool) → IsDecided (mark_found (find p xs)) → IsDecided (mark_found (cond t (Some x) (find p xs)))
    by true rest = h.0
    by false rest = rest

usual_decided : (c : Context) (s : List ℕ) → (o : Option Entry) → c.usual ≡ o → UsualIs o → IsDecided (usual_mark c s)
usual_decided c (b ∷ bs) o e h = tt
usual_decided c [] None e h = ap_decided c None e tt
  where
    ap_decided : (c : Context) (o : Option Entry) → c.usual ≡ o → IsDecided (mark_found o) → IsDecided (mark_found c.usual)
    ap_decided c o e h = subst (λ (x : Option Entry). IsDecided (mark_found x)) (sym e) h
usual_decided c [] (Some u) e h = subst (λ (x : Option Entry). IsDecided (mark_found x)) (sym e) h.1

pub all_decided : (c : Context) (s : List ℕ) → IsSound c → IsDecided (decided_mark c s)
all_decided c s is =
    or_decided c.mark (or_else (latest_mark c.marks (symbol_of c s)) (usual_mark c s)) is.mark
    (or_decided (latest_mark c.marks (symbol_of c s)) (usual_mark c s)
    (found_decided (λ (e : Entry). bytes_eq e.0 (symbol_of c s)) (reverse c.marks) (all_reverse c.marks is.marks))
    (usual_decided c s c.usual refl is.usual))

usual_told : (o : Option Entry) → UsualIs o → IsTold (usual_symbol o)
usual_told None h = no_symbol
usual_told (Some u) h = h.0

told_of : (c : Context) (s : List ℕ) → IsSound c → IsTold s → IsTold (symbol_of c s)
told_of c [] is h = usual_told c.usual is.usual
told_of c (b ∷ bs) is h = h

-- ---- amounts

-- an amount that was read
pub record IsToldAmount (a : Amount) : Type 0 where
  pub symbol : IsTold a.symbol
  pub few : (a.value).places ≤ 18
  pub mark : IsDecided (a.shape).mark

record IsLeft (l : Left) : Type 0 where
  symbol : IsTold l.symbol
  rest : IsText l.rest

left_gives : (line : ℕ) (text : List ℕ) → IsText text → Gives IsLeft (left_at line text)
unfolding left_at
left_gives line text is =
    let inner = after_sign text in
    let inside = after_sign_text text is in
    let second = after_white (after_symbol inner) in
    let behind = unspaced_text (after_symbol inner) (after_symbol_text inner inside) in
    unless_gives IsLeft (not (is_left_good inner)) (fault_at line cause.Quote) _ (λ _.
    unless_gives IsLeft (first_is is_sign text && first_is is_sign second) (fault_at line cause.Number) _ (λ _.
    ok_gives IsLeft (left_of (begins text 45 || begins second 45) (symbol_name inner) (first_is is_white (after_symbol inner)) (after_sign second))
    (record { symbol = symbol_told inner inside; rest = after_sign_text second behind })))

record IsRight (r : Right) : Type 0 where
  symbol : IsTold r.symbol
  rest : IsText r.rest

right_by : (t spaced : Bool) (text : List ℕ) → IsText text → IsRight (cond t (right_with [] false true text) (right_with (symbol_name text) spaced (is_right_good text) (after_white (after_symbol text))))
right_by true spaced text is = record { symbol = no_symbol; rest = is }
right_by false spaced text is = record { symbol = symbol_told text is; rest = unspaced_text (after_symbol text) (after_symbol_text text is) }

right_told : (has : Bool) (text : List ℕ) → IsText text → IsRight (right_at has text)
unfolding right_at
right_told has text is = right_by (has || ends_amount (after_white text)) (first_is is_white text) (after_white text) (unspaced_text text is)

right_of_told : (l : Left) → IsLeft l → IsRight (right_of l)
right_of_told l is = right_told (nat_lt 0 (length l.symbol)) (drop (prefix_len is_number_byte l.rest) l.rest) (rest_text (prefix_len is_number_byte l.rest) l.rest is.rest (cuts.after_number_utf8 l.rest (is.rest).utf8))

-- an amount that was read, and what follows it
pub record IsAmountRead (r : Amount × List ℕ) : Type 0 where
  pub amount : IsToldAmount r.0
  pub rest : IsText r.1

signed_few : (negative : Bool) (v : Decimal) → v.places ≤ 18 → (signed negative v).places ≤ 18
signed_few true v h = h
signed_few false v h = h

either_told : (t : Bool) (a b : List ℕ) → IsTold a → IsTold b → IsTold (cond t a b)
either_told true a b h k = h
either_told false a b h k = k

pub amount_gives : (c : Context) (line : ℕ) (text : List ℕ) → IsSound c → IsText text → Gives IsAmountRead (amount_at c line text)
unfolding amount_at
amount_gives c line text sound is =
    bind_gives IsLeft IsAmountRead (left_at line text) _ (left_gives line text is) (λ left l.
    let right = right_of left in
    let r = right_of_told left l in
    bind_gives IsNumber IsAmountRead (number_or_fault line (reading (take_while is_number_byte left.rest) (decided_mark c (written_symbol left right)))) _
    (number_gives line (take_while is_number_byte left.rest) (decided_mark c (written_symbol left right)) (all_decided c (written_symbol left right) sound)) (λ number n.
    when_gives IsAmountRead right.is_good (Ok (amount_from c left right number, right.rest)) (fault_at line cause.Quote) (λ _.
    ok_gives IsAmountRead (amount_from c left right number, right.rest) (record {
      amount = record {
        symbol = told_of c (written_symbol left right) sound (either_told (nat_lt 0 (length left.symbol)) left.symbol right.symbol l.symbol r.symbol);
        few = signed_few left.is_negative number.value n.few;
        mark = n.mark;
      };
      rest = r.rest;
    }))))
