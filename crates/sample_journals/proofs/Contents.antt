-- The lines of an entry of a sample.
use Rattle.std.proofs.Common.{ℕ, ◌≡◌, ◌+◌, ◌^◌, ◌<◌, ◌≤◌, min, max, Bool, true, false, cond, ltb, not, ◌==◌, List, [], ◌∷◌, ◌++◌, length, codes, refl, ap, ◌∙◌, arith, lit≤, append_assoc, length-append}
use Rattle.std.specs.Fmt.{decimal}
use Rattle.std.specs.List.{list_all, suffix_len}
use Rattle.std.proofs.lemmas.Bool.Decides.{nat_tests}
use Rattle.std.proofs.lemmas.Fmt.{decimal_digit}
use Rattle.hl_base.specs.Items.{is_indented, is_white}
use Rattle.hl_num.specs.Reading.{is_digit, is_number_byte}
use Rattle.hl_time.specs.Calendar.{IsDay, last_day}
use Rattle.hl_time.specs.Shown.{day_text}
use Rattle.entry_reader.proofs.Both.{both_true}
use Rattle.entry_reader.specs.Heads.{is_date_byte}
use Rattle.entry_reader.specs.Lines.{first_is}
use Rattle.journal_printer.specs.Texts.{calendar_text}
use Rattle.sample_text.specs.Sample.{asserting_line, cents_of, entry, head_line, kind_of, money, paying_line, spending_line}
use Rattle.written_logs.proofs.Bytes.{all_also, is_inside, solid_append, utf8_ascii}
use Rattle.written_logs.proofs.Days.{shown_bytes, shown_first}
use Rattle.written_logs.proofs.Lines.{all_append, all_cons, AreLines, ended, IsLine, joined}
use Rattle.written_logs.proofs.Numbers.{decimal-digits, number_all, number_bytes}
use Rattle.sample_journals.specs.Journal.{day_of, tells, title}
use Rattle.sample_journals.proofs.Amounts.{amount_bytes}
use Rattle.sample_journals.proofs.Numbers.{decimal_solid, decimal_some, digit_at, digit_plain, is_plain, kind_small, money_is, number_plain, symbol_bytes}

-- ---- what the lines say

abbrev pub head_bytes : ℕ → List ℕ
head_bytes i = calendar_text (day_of i) ++ 32 ∷ title i

abbrev pub spend_bytes : ℕ → ℕ → List ℕ
spend_bytes kind cents = codes "    expenses:e" ++ (48 + kind) ∷ 32 ∷ 32 ∷ amount_bytes cents []

-- the assertion behind an amount
abbrev pub claim_bytes : ℕ → List ℕ
claim_bytes spent = 32 ∷ 61 ∷ 32 ∷ 45 ∷ amount_bytes spent []

abbrev pub pay_bytes : Bool → ℕ → ℕ → List ℕ
pay_bytes true cents spent = codes "    assets:bank  -" ++ amount_bytes cents (claim_bytes spent)
pay_bytes false cents spent = codes "    assets:bank"

abbrev pub entry_lines : ℕ → ℕ → ℕ → ℕ → List (List ℕ)
entry_lines i kind cents spent = head_bytes i ∷ spend_bytes kind cents ∷ pay_bytes (tells i) cents spent ∷ []

-- ---- the text of an entry

pub in_calendar : (i : ℕ) → i < 100000 → IsDay (day_of i)
in_calendar i few = (omega arith, omega arith)

clamped : (day : ℕ) → IsDay day → day ≡ max 1 (min day last_day)
clamped day within = omega (arith, within.0, within.1)

head_is : (i : ℕ) → i < 100000 → head_line i ≡ ended (head_bytes i)
unfolding head_line
head_is i few =
    ap (λ (d : ℕ). ((day_text d ++ codes " sample ") ++ decimal i) ++ 10 ∷ []) (clamped (day_of i) (in_calendar i few))
    ∙ ap (λ (xs : List ℕ). xs ++ 10 ∷ []) (append_assoc (calendar_text (day_of i)) (codes " sample ") (decimal i))

spending_is : (number : ℕ) → spending_line number ≡ ended (spend_bytes (kind_of number) (cents_of number))
unfolding spending_line
spending_is number =
    let k = kind_of number in
    let c = cents_of number in
    ap (λ (ds : List ℕ). (((codes "    expenses:e" ++ ds) ++ codes "  ") ++ money c) ++ codes "\n") (decimal_digit k (kind_small number))
    ∙ ap (λ (m : List ℕ). (codes "    expenses:e" ++ (48 + k) ∷ 32 ∷ 32 ∷ m) ++ 10 ∷ []) (money_is c)

asserting_is : (cents spent : ℕ) → asserting_line cents spent ≡ ended (pay_bytes true cents spent)
unfolding asserting_line
asserting_is cents spent =
    let front = codes "    assets:bank  -" in
    let claim : List ℕ = 32 ∷ 61 ∷ 32 ∷ 45 ∷ amount_bytes spent [] in
    ap (λ (m : List ℕ). ((front ++ m) ++ (codes " = -" ++ money spent)) ++ codes "\n") (money_is cents)
    ∙ ap (λ (m : List ℕ). ((front ++ (number_bytes cents ++ symbol_bytes)) ++ (codes " = -" ++ m)) ++ codes "\n") (money_is spent)
    ∙ ap (λ (xs : List ℕ). xs ++ 10 ∷ []) (append_assoc front (number_bytes cents ++ symbol_bytes) claim)
    ∙ ap (λ (xs : List ℕ). (front ++ xs) ++ 10 ∷ []) (append_assoc (number_bytes cents) symbol_bytes claim)

paying_by : (t : Bool) (cents spent : ℕ) → cond t (asserting_line cents spent) (codes "    assets:bank\n") ≡ ended (pay_bytes t cents spent)
paying_by true cents spent = asserting_is cents spent
paying_by false cents spent = refl

three_joined : (h s p : List ℕ) → ((h ++ 10 ∷ []) ++ (s ++ 10 ∷ [])) ++ (p ++ 10 ∷ []) ≡ h ++ 10 ∷ (s ++ 10 ∷ (p ++ 10 ∷ []))
three_joined h s p = simp append_assoc

pub entry_is : (i number spent : ℕ) → i < 100000 → entry i number spent ≡ joined (entry_lines i (kind_of number) (cents_of number) spent)
unfolding entry paying_line
entry_is i number spent few =
    let k = kind_of number in
    let c = cents_of number in
    ap (λ (xs : List ℕ). (xs ++ spending_line number) ++ cond (tells i) (asserting_line c spent) (codes "    assets:bank\n")) (head_is i few)
    ∙ ap (λ (xs : List ℕ). (ended (head_bytes i) ++ xs) ++ cond (tells i) (asserting_line c spent) (codes "    assets:bank\n")) (spending_is number)
    ∙ ap (λ (xs : List ℕ). (ended (head_bytes i) ++ ended (spend_bytes k c)) ++ xs) (paying_by (tells i) c spent)
    ∙ three_joined (head_bytes i) (spend_bytes k c) (pay_bytes (tells i) c spent)

-- ---- each is one line

date_plain : (b : ℕ) → is_date_byte b ≡ true → is_plain b ≡ true
date_plain b h = grind (arith, nat_tests)

pub wide : (n : ℕ) → n < 100000 → n < 10 ^ 64
wide n few = let room : 100000 ≤ 10 ^ 64 = lit≤ tt in omega (arith, room)

head_plain : (i : ℕ) → i < 100000 → list_all is_plain (head_bytes i) ≡ true
head_plain i few =
    let day = calendar_text (day_of i) in
    all_append is_plain day (32 ∷ title i) (all_also is_date_byte is_plain day date_plain (shown_bytes (day_of i) (in_calendar i few)))
    (all_append is_plain (codes " sample ") (decimal i) refl (all_also is_digit is_plain (decimal i) digit_plain (decimal-digits i (wide i few))))

amount_plain : (cents : ℕ) (rest : List ℕ) → cents < 2 ^ 127 → list_all is_plain rest ≡ true → list_all is_plain (amount_bytes cents rest) ≡ true
amount_plain cents rest small h =
    all_append is_plain (number_bytes cents) (32 ∷ 69 ∷ 85 ∷ 82 ∷ rest) (all_also is_number_byte is_plain (number_bytes cents) number_plain (number_all cents small))
    (all_append is_plain symbol_bytes rest refl h)

spend_plain : (kind cents : ℕ) → kind < 10 → cents < 2 ^ 127 → list_all is_plain (spend_bytes kind cents) ≡ true
spend_plain kind cents one small =
    let amount = amount_bytes cents [] in
    all_append is_plain (codes "    expenses:e") ((48 + kind) ∷ 32 ∷ 32 ∷ amount) refl
    (all_cons is_plain (48 + kind) (32 ∷ 32 ∷ amount) (digit_plain (48 + kind) (digit_at kind one))
    (all_append is_plain (32 ∷ 32 ∷ []) amount refl (amount_plain cents [] small refl)))

pay_plain : (t : Bool) (cents spent : ℕ) → cents < 2 ^ 127 → spent < 2 ^ 127 → list_all is_plain (pay_bytes t cents spent) ≡ true
pay_plain true cents spent small few =
    all_append is_plain (codes "    assets:bank  -") (amount_bytes cents (claim_bytes spent)) refl
    (amount_plain cents (claim_bytes spent) small (all_append is_plain (32 ∷ 61 ∷ 32 ∷ 45 ∷ []) (amount_bytes spent []) refl (amount_plain spent [] few refl)))
pay_plain false cents spent small few = refl

some_behind : (xs ys : List ℕ) → 0 < length ys → 0 < length (xs ++ ys)
some_behind xs ys h = omega (arith, length-append xs ys)

amount_solid : (cents : ℕ) → suffix_len is_white (amount_bytes cents []) ≡ 0
amount_solid cents = solid_append (number_bytes cents) symbol_bytes (omega arith) refl

amount_some : (cents : ℕ) → 0 < length (amount_bytes cents [])
amount_some cents = some_behind (number_bytes cents) symbol_bytes (omega arith)

head_solid : (i : ℕ) → i < 100000 → suffix_len is_white (head_bytes i) ≡ 0
head_solid i few =
    let small : i < 2 ^ 64 = omega arith in
    let some = some_behind (codes " sample ") (decimal i) (decimal_some i small) in
    solid_append (calendar_text (day_of i)) (codes " sample " ++ decimal i) some
    (solid_append (codes " sample ") (decimal i) (decimal_some i small) (decimal_solid i small))

spend_solid : (kind cents : ℕ) → suffix_len is_white (spend_bytes kind cents) ≡ 0
spend_solid kind cents = solid_append (codes "    expenses:e" ++ (48 + kind) ∷ 32 ∷ 32 ∷ []) (amount_bytes cents []) (amount_some cents) (amount_solid cents)

pay_solid : (t : Bool) (cents spent : ℕ) → suffix_len is_white (pay_bytes t cents spent) ≡ 0
pay_solid true cents spent =
    let between : List ℕ = 32 ∷ 69 ∷ 85 ∷ 82 ∷ 32 ∷ 61 ∷ 32 ∷ 45 ∷ [] in
    let claim = between ++ amount_bytes spent [] in
    let some = some_behind between (amount_bytes spent []) (amount_some spent) in
    solid_append (codes "    assets:bank  -") (number_bytes cents ++ claim) (some_behind (number_bytes cents) claim some)
    (solid_append (number_bytes cents) claim some (solid_append between (amount_bytes spent []) (amount_some spent) (amount_solid spent)))
pay_solid false cents spent = refl

plain_low : (b : ℕ) → is_plain b ≡ true → ltb b 128 ≡ true
plain_low b h = (both_true (ltb b 128) (not (b == 10)) h).0

plain_inside : (b : ℕ) → is_plain b ≡ true → is_inside b ≡ true
plain_inside b h = (both_true (ltb b 128) (not (b == 10)) h).1

is_line : (c : List ℕ) → list_all is_plain c ≡ true → suffix_len is_white c ≡ 0 → IsLine c
is_line c all solid = record {
  utf8 = utf8_ascii c (all_also is_plain (λ b. ltb b 128) c plain_low all);
  line = all_also is_plain is_inside c plain_inside all;
  last = solid;
}

pub are_lines : (i kind cents spent : ℕ) → i < 100000 → kind < 10 → cents < 2 ^ 127 → spent < 2 ^ 127 → AreLines (entry_lines i kind cents spent)
are_lines i kind cents spent few one small much =
    let head = is_line (head_bytes i) (head_plain i few) (head_solid i few) in
    let spend = is_line (spend_bytes kind cents) (spend_plain kind cents one small) (spend_solid kind cents) in
    let pay = is_line (pay_bytes (tells i) cents spent) (pay_plain (tells i) cents spent small much) (pay_solid (tells i) cents spent) in
    (head, (spend, (pay, tt)))

-- ---- how they begin

pub head_first : (i : ℕ) → i < 100000 → first_is is_digit (ended (head_bytes i)) ≡ true
head_first i few =
    ap (first_is is_digit) (append_assoc (calendar_text (day_of i)) (32 ∷ title i) (10 ∷ []))
    ∙ shown_first (day_of i) ((32 ∷ title i) ++ 10 ∷ []) (in_calendar i few)

pub spend_indented : (kind cents : ℕ) → is_indented (ended (spend_bytes kind cents)) ≡ true
spend_indented kind cents = refl

pub pay_indented : (t : Bool) (cents spent : ℕ) → is_indented (ended (pay_bytes t cents spent)) ≡ true
pay_indented true cents spent = refl
pay_indented false cents spent = refl
