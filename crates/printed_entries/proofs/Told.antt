-- What is known of a posting's line that was read in a context that changes nothing.
use Rattle.std.proofs.Common.{ℕ, ℤ, zero, suc, pos, negsuc, ◌≡◌, ◌+◌, ◌<◌, ◌≤◌, ◌^◌, neg_ℤ, Bool, true, false, cond, ◌==◌, ◌&&◌, ◌||◌, not, List, [], ◌∷◌, length, take, drop, Option, Some, None, Result, Ok, Err, unsigned_abs, refl, sym, ap, subst, ◌∙◌, arith, lit<}
use Rattle.std.specs.Prelude.{is_some, nat_le, nat_lt}
use Rattle.std.specs.List.{list_all, list_any, prefix_len, suffix_len, take_while}
use Rattle.std.proofs.lemmas.Bool.{false≢true}
use Rattle.std.proofs.lemmas.Bool.Decides.{nat_tests}
use Rattle.hl_base.specs.Items.{is_white}
use Rattle.hl_num.specs.Decimal.{Decimal}
use Rattle.hl_num.specs.Reading.{are_groups, decimal_mark, group_sizes, is_digit, is_number_byte, is_written, mantissa_of, number_end, number_of, number_with, reading, whole_len}
use Rattle.hl_num.specs.declared.reading.BadNumber.{BadNumber}
use Rattle.hl_num.specs.declared.reading.Number.{Number}
use Rattle.book.specs.declared.amount.Amount.{Amount}
use Rattle.book.specs.declared.amount.Assertion.{Assertion}
use Rattle.book.specs.declared.amount.Cost.{Cost}
use Rattle.book.specs.declared.amount.Cost.TheVariants as costs
use Rattle.book.specs.declared.fault.Cause.TheVariants as cause
use Rattle.book.specs.declared.rules.Factor.{Factor}
use Rattle.book.specs.declared.rules.RulePosting.{RulePosting}
use Rattle.book.specs.declared.transaction.Mark.{Mark}
use Rattle.book.specs.declared.transaction.Mark.TheVariants.{Unmarked, Pending, Cleared}
use Rattle.book.specs.declared.transaction.Posting.{Posting}
use Rattle.book.specs.declared.transaction.Side.{Side}
use Rattle.entry_reader.proofs.Both.{both_true}
use Rattle.entry_reader.proofs.Texts as cuts
use Rattle.entry_reader.specs.Accounts.{account_at, account_len}
use Rattle.entry_reader.specs.Amounts.{Left, Right, after_claim, after_equals, after_sign, amount_at, amount_from, assertion_at, assertion_from, cost_at, is_below, is_only, left_at, left_of, number_or_fault, right_at, right_of, right_with, signed, total_mark, unit_mark, written_symbol}
use Rattle.entry_reader.specs.Causes.{fault_at, ◌>>=◌}
use Rattle.entry_reader.specs.Contexts.{Context, account_named, decided_mark, symbol_of, usual_symbol}
use Rattle.entry_reader.specs.Heads.{after_mark, has_second_mark, is_mark, mark_at, mark_of}
use Rattle.entry_reader.specs.Lines.{after_white, begins, first_is, trimmed}
use Rattle.entry_reader.specs.Postings.{Numbers, Quantity, claim_at, comment_at, cost_behind, ending_of, ends_line, is_entry, is_free, is_written as is_quantity, numbers_at, numbers_of, posting_from, posting_line, quantity_at, says_much}
use Rattle.entry_reader.specs.Symbols.{after_symbol, ends_amount, is_left_good, is_right_good, is_sign, symbol_name}
use Rattle.entry_reader.specs.declared.quantity.Holder.{Holder}
use Rattle.entry_reader.specs.declared.quantity.Holder.TheVariants as holder
use Rattle.journal_printer.specs.Texts.{in_brackets}
use Rattle.written_logs.proofs.Bytes.{first_of_take, first_solid}
use Rattle.printed_entries.proofs.Names.{IsReadAccount, account_gives, front_last, front_len}
use Rattle.printed_entries.proofs.Parts.{solid_drop}
use Rattle.printed_entries.proofs.Remarks.{IsRemark, no_remark, remark_of}
use Rattle.closed_journals.proofs.Told.{IsTold, after_symbol_text, no_symbol, symbol_told}
use Rattle.printed_entries.proofs.Shown.{IsReadAmount}
use Rattle.closed_journals.proofs.Texts.{Gives, IsText, after_name_text, bind_gives, choice_gives, err_gives, name_text, ok_gives, past_byte, past_text, rest_text, unless_gives, unspaced_text, when_gives}

-- A context that changes no name and no symbol.
pub record ChangesNothing (c : Context) : Type 0 where
  pub usual : c.usual ≡ None
  pub named : (name : List ℕ) → account_named c name ≡ name

-- ---- what is known of a posting

abbrev pub AmountIs : Option Amount → Type 0
AmountIs None = Unit {0}
AmountIs (Some a) = IsReadAmount a

abbrev pub CostIs : Option Cost → Type 0
CostIs None = Unit {0}
CostIs (Some (costs.Unit a)) = IsReadAmount a
CostIs (Some (costs.Total a)) = IsReadAmount a

abbrev pub WantedIs : Option Assertion → Type 0
WantedIs None = Unit {0}
WantedIs (Some w) = IsReadAmount w.amount

-- What reading one line guarantees of its posting.
pub record IsReadPosting (p : Posting) : Type 0 where
  pub filled : p.filled ≡ false
  pub costed : p.costed ≡ false
  pub comment : p.comment ≡ []
  pub tags : p.tags ≡ []
  pub day : p.day ≡ None
  pub account : IsReadAccount p.side p.account
  pub remark : p.mark ≡ Unmarked → begins (in_brackets p.side p.account) 59 ≡ false
  pub amount : AmountIs p.amount
  pub cost : CostIs p.cost
  pub costless : p.amount ≡ None → p.cost ≡ None
  pub wanted : WantedIs p.wanted
  pub free : (is_free p.side && not (is_some p.amount || is_some p.wanted)) ≡ false

-- ---- amounts

sign_low : (b : ℕ) → is_sign b ≡ true → b < 128
sign_low b h = grind (arith, nat_tests)

after_sign_by : (t : Bool) (text : List ℕ) → first_is is_sign text ≡ t → IsText text → IsText (cond t (after_white (drop 1 text)) text)
after_sign_by true text e is = unspaced_text (drop 1 text) (past_text is_sign text sign_low e is)
after_sign_by false text e is = is

after_sign_text : (text : List ℕ) → IsText text → IsText (after_sign text)
after_sign_text text is = after_sign_by (first_is is_sign text) text refl is

-- what is read of a number: at most 18 decimals, and a magnitude below 2 ^ 127
record IsNumber (n : Number) : Type 0 where
  few : (n.value).places ≤ 18
  small : unsigned_abs (n.value).mantissa < 2 ^ 127

few_decimals : (a b c d e : Bool) → (a && b && c && d && e) ≡ true → d ≡ true
few_decimals true true true true e h = refl
few_decimals true true true false e h = absurd (false≢true h)
few_decimals true true false d e h = absurd (false≢true h)
few_decimals true false c d e h = absurd (false≢true h)
few_decimals false b c d e h = absurd (false≢true h)

at_most : (a b : ℕ) → nat_le a b ≡ true → a ≤ b
at_most a b h = grind (arith, nat_tests)

below : (a b : ℕ) → nat_lt a b ≡ true → a < b
below a b h = grind (arith, nat_tests)

kept_value : {A : Type 0} (t : Bool) (x y : A) → cond {A = Option A} t (Some x) None ≡ Some y → (t ≡ true) × (x ≡ y)
kept_value true x y h = (refl, let same : x ≡ y = cc in same)
kept_value false x y h = absurd (let never : ⊥ = cc in never)

with_facts : (text : List ℕ) (mark : Option ℕ) (n : Number) → number_with text mark ≡ Some n → IsNumber n
unfolding number_with
with_facts text mark n h =
    let decimals = drop (whole_len text mark + 1) text in
    let both = kept_value (is_written text (take (whole_len text mark) text) decimals && nat_lt (mantissa_of text) (2 ^ 127)) _ n h in
    let tests = both_true (is_written text (take (whole_len text mark) text) decimals) (nat_lt (mantissa_of text) (2 ^ 127)) both.0 in
    let few : length decimals ≤ 18 = at_most (length decimals) 18 (few_decimals (list_all is_number_byte text) (list_any is_digit text) (list_all is_digit decimals) (nat_le (length decimals) 18) (are_groups (group_sizes (take (whole_len text mark) text))) tests.0) in
    let small : mantissa_of text < 2 ^ 127 = below (mantissa_of text) (2 ^ 127) tests.1 in
    record {
      few = subst (λ (k : ℕ). k ≤ 18) (ap (λ (x : Number). (x.value).places) both.1) few;
      small = subst (λ (k : ℕ). k < 2 ^ 127) (ap (λ (x : Number). unsigned_abs (x.value).mantissa) both.1) small;
    }

number_by : (line : ℕ) (text : List ℕ) (o : Option Number) → ((n : Number) → o ≡ Some n → IsNumber n)
    → Gives IsNumber (number_or_fault line (let r : Result Number BadNumber = elim o [ Some number ↦ Ok number | None ↦ Err (record { at = number_end text }) ] in r))
number_by line text (Some n) h = ok_gives IsNumber n (h n refl)
number_by line text None h = err_gives IsNumber (fault_at line cause.Number)

number_gives : (line : ℕ) (text : List ℕ) (decided : Option ℕ) → Gives IsNumber (number_or_fault line (reading text decided))
number_gives line text decided = number_by line text (number_of text decided) (λ n e. with_facts text (decimal_mark text decided) n e)

record IsLeft (l : Left) : Type 0 where
  symbol : IsTold l.symbol
  rest : IsText l.rest

left_gives : (line : ℕ) (text : List ℕ) → IsText text → Gives IsLeft (left_at line text)
unfolding left_at
left_gives line text is =
    let inner = after_sign text in
    let inside = after_sign_text text is in
    let second = after_white (after_symbol inner) in
    let behind = unspaced_text (after_symbol inner) (after_symbol_text inner inside) in
    unless_gives IsLeft (not (is_left_good inner)) (fault_at line cause.Quote) _ (λ _.
    unless_gives IsLeft (first_is is_sign text && first_is is_sign second) (fault_at line cause.Number) _ (λ _.
    ok_gives IsLeft (left_of (begins text 45 || begins second 45) (symbol_name inner) (first_is is_white (after_symbol inner)) (after_sign second))
    (record { symbol = symbol_told inner inside; rest = after_sign_text second behind })))

record IsRight (r : Right) : Type 0 where
  symbol : IsTold r.symbol
  rest : IsText r.rest

right_by : (t spaced : Bool) (text : List ℕ) → IsText text → IsRight (cond t (right_with [] false true text) (right_with (symbol_name text) spaced (is_right_good text) (after_white (after_symbol text))))
right_by true spaced text is = record { symbol = no_symbol; rest = is }
right_by false spaced text is = record { symbol = symbol_told text is; rest = unspaced_text (after_symbol text) (after_symbol_text text is) }

right_told : (has : Bool) (text : List ℕ) → IsText text → IsRight (right_at has text)
unfolding right_at
right_told has text is = right_by (has || ends_amount (after_white text)) (first_is is_white text) (after_white text) (unspaced_text text is)

right_of_told : (l : Left) → IsLeft l → IsRight (right_of l)
right_of_told l is = right_told (nat_lt 0 (length l.symbol)) (drop (prefix_len is_number_byte l.rest) l.rest) (rest_text (prefix_len is_number_byte l.rest) l.rest is.rest (cuts.after_number_utf8 l.rest (is.rest).utf8))

signed_few : (negative : Bool) (v : Decimal) → v.places ≤ 18 → (signed negative v).places ≤ 18
signed_few true v h = h
signed_few false v h = h

unsigned_neg : (z : ℤ) → unsigned_abs (neg_ℤ z) ≡ unsigned_abs z
unsigned_neg (pos zero) = refl
unsigned_neg (pos (suc n)) = refl
unsigned_neg (negsuc n) = refl

signed_small : (negative : Bool) (v : Decimal) → unsigned_abs v.mantissa < 2 ^ 127 → unsigned_abs (signed negative v).mantissa < 2 ^ 127
signed_small true v h = subst (λ (k : ℕ). k < 2 ^ 127) (sym (unsigned_neg v.mantissa)) h
signed_small false v h = h

either_told : (t : Bool) (a b : List ℕ) → IsTold a → IsTold b → IsTold (cond t a b)
either_told true a b h k = h
either_told false a b h k = k

told_of : (c : Context) (s : List ℕ) → c.usual ≡ None → IsTold s → IsTold (symbol_of c s)
told_of c [] none h = subst IsTold (sym (ap usual_symbol none)) h
told_of c (b ∷ bs) none h = h

-- an amount that was read, and what follows it
record IsAmountRead (r : Amount × List ℕ) : Type 0 where
  amount : IsReadAmount r.0
  rest : IsText r.1

amount_gives : (c : Context) (line : ℕ) (text : List ℕ) → c.usual ≡ None → IsText text → Gives IsAmountRead (amount_at c line text)
unfolding amount_at
amount_gives c line text none is =
    bind_gives IsLeft IsAmountRead (left_at line text) _ (left_gives line text is) (λ left l.
    let right = right_of left in
    let r = right_of_told left l in
    bind_gives IsNumber IsAmountRead (number_or_fault line (reading (take_while is_number_byte left.rest) (decided_mark c (written_symbol left right)))) _
    (number_gives line (take_while is_number_byte left.rest) (decided_mark c (written_symbol left right))) (λ number n.
    when_gives IsAmountRead right.is_good (Ok (amount_from c left right number, right.rest)) (fault_at line cause.Quote) (λ _.
    ok_gives IsAmountRead (amount_from c left right number, right.rest) (record {
      amount = record {
        symbol = told_of c (written_symbol left right) none (either_told (nat_lt 0 (length left.symbol)) left.symbol right.symbol l.symbol r.symbol);
        few = signed_few left.is_negative number.value n.few;
        small = signed_small left.is_negative number.value n.small;
      };
      rest = r.rest;
    }))))

-- ---- numbers

record IsCostRead (written : Bool) (r : Option Cost × List ℕ) : Type 0 where
  cost : CostIs r.0
  costless : written ≡ false → r.0 ≡ None
  rest : IsText r.1

record IsWantedRead (r : Option Assertion × List ℕ) : Type 0 where
  wanted : WantedIs r.0
  rest : IsText r.1

record IsQuantityRead (r : Quantity × List ℕ) : Type 0 where
  amount : AmountIs (r.0).0
  factor : (r.0).1 ≡ None
  rest : IsText r.1

-- what a posting says of numbers
record IsNumbersRead (r : Numbers × List ℕ) : Type 0 where
  amount : AmountIs (r.0).amount
  factor : (r.0).factor ≡ None
  cost : CostIs (r.0).cost
  costless : (r.0).amount ≡ None → (r.0).cost ≡ None
  wanted : WantedIs (r.0).wanted
  rest : IsText r.1

drop_by : (t : Bool) (byte : ℕ) (text : List ℕ) → byte < 128 → begins text byte ≡ t → IsText text → IsText (cond t (drop 1 text) text)
drop_by true byte text low e is = past_byte byte text low e is
drop_by false byte text low e is = is

equals_by : (t : Bool) (text : List ℕ) → begins (drop 1 text) 61 ≡ t → IsText (drop 1 text) → IsText (cond t (drop 1 (drop 1 text)) (drop 1 text))
equals_by true text e is = past_byte 61 (drop 1 text) (lit< tt) e is
equals_by false text e is = is

claim_text : (text : List ℕ) → begins text 61 ≡ true → IsText text → IsText (after_claim text)
claim_text text e is =
    let equals = equals_by (is_only text) text refl (past_byte 61 text (lit< tt) e is) in
    drop_by (is_below text) 42 (after_equals text) (lit< tt) refl equals

unwritten : (q : Quantity) → q.1 ≡ None → q.0 ≡ None → is_quantity q ≡ false
unwritten q factor amount = ap (λ (a : Option Amount). is_some a || is_some q.1) amount ∙ ap (λ (f : Option Factor). is_some f) factor

module _ (c : Context) (line : ℕ) (none : c.usual ≡ None) where
  cost_gives : (text : List ℕ) → IsText text → Gives (IsCostRead true) (cost_at c line text)
  unfolding cost_at
  cost_gives text is =
      choice_gives (IsCostRead true) (nat_lt 0 (total_mark text)) _ _
      (λ _. bind_gives IsAmountRead (IsCostRead true) (amount_at c line (after_white (drop (total_mark text) text))) _
      (amount_gives c line (after_white (drop (total_mark text) text)) none (unspaced_text (drop (total_mark text) text) (rest_text (total_mark text) text is (cuts.total_utf8 text is.utf8))))
      (λ a r. ok_gives (IsCostRead true) (Some (costs.Total a.0), a.1) (record { cost = r.amount; costless = λ h. absurd (false≢true (sym h)); rest = r.rest })))
      (λ _. choice_gives (IsCostRead true) (nat_lt 0 (unit_mark text)) _ _
      (λ _. bind_gives IsAmountRead (IsCostRead true) (amount_at c line (after_white (drop (unit_mark text) text))) _
      (amount_gives c line (after_white (drop (unit_mark text) text)) none (unspaced_text (drop (unit_mark text) text) (rest_text (unit_mark text) text is (cuts.unit_utf8 text is.utf8))))
      (λ a r. ok_gives (IsCostRead true) (Some (costs.Unit a.0), a.1) (record { cost = r.amount; costless = λ h. absurd (false≢true (sym h)); rest = r.rest })))
      (λ _. ok_gives (IsCostRead true) (None, text) (record { cost = tt; costless = λ _. refl; rest = is })))

  behind_gives : (written : Bool) (text : List ℕ) → IsText text → Gives (IsCostRead written) (cost_behind written c line text)
  behind_gives true text is = cost_gives text is
  behind_gives false text is = ok_gives (IsCostRead false) (None, text) (record { cost = tt; costless = λ _. refl; rest = is })

  assertion_gives : (text : List ℕ) → begins text 61 ≡ true → IsText text → Gives IsWantedRead (assertion_at c line text >>= λ a. Ok (Some a.0, a.1))
  unfolding assertion_at
  assertion_gives text e is =
      bind_gives (λ (a : Assertion × List ℕ). IsWantedRead (Some a.0, a.1)) IsWantedRead (assertion_at c line text) _
      (bind_gives IsAmountRead (λ (a : Assertion × List ℕ). IsWantedRead (Some a.0, a.1)) (amount_at c line (after_white (after_claim text))) _
      (amount_gives c line (after_white (after_claim text)) none (unspaced_text (after_claim text) (claim_text text e is)))
      (λ a r. ok_gives (λ (b : Assertion × List ℕ). IsWantedRead (Some b.0, b.1)) (assertion_from (is_only text) (is_below text) a.0, a.1) (record { wanted = r.amount; rest = r.rest })))
      (λ a r. ok_gives IsWantedRead (Some a.0, a.1) r)

  claim_by : (e b : Bool) (text : List ℕ) → begins text 61 ≡ b → IsText text → Gives IsWantedRead (cond (e && b) (assertion_at c line text >>= λ a. Ok (Some a.0, a.1)) (Ok (None, text)))
  claim_by true true text f is = assertion_gives text f is
  claim_by true false text f is = ok_gives IsWantedRead (None, text) (record { wanted = tt; rest = is })
  claim_by false b text f is = ok_gives IsWantedRead (None, text) (record { wanted = tt; rest = is })

  claim_gives : (h : Holder) (text : List ℕ) → IsText text → Gives IsWantedRead (claim_at h c line text)
  unfolding claim_at
  claim_gives h text is = claim_by (is_entry h) (begins text 61) text refl is

  quantity_gives : (y : ℕ) (text : List ℕ) → IsText text → Gives IsQuantityRead (quantity_at (holder.Entry y) c line text)
  unfolding quantity_at
  quantity_gives y text is =
      choice_gives IsQuantityRead (ends_amount text) _ _
      (λ _. ok_gives IsQuantityRead ((None, None), text) (record { amount = tt; factor = refl; rest = is }))
      (λ _. bind_gives IsAmountRead IsQuantityRead (amount_at c line text) _ (amount_gives c line text none is)
      (λ a r. ok_gives IsQuantityRead ((Some a.0, None), a.1) (record { amount = r.amount; factor = refl; rest = r.rest })))

  numbers_gives : (y : ℕ) (text : List ℕ) → IsText text → Gives IsNumbersRead (numbers_at (holder.Entry y) c line text)
  unfolding numbers_at
  numbers_gives y text is =
      bind_gives IsQuantityRead IsNumbersRead (quantity_at (holder.Entry y) c line text) _ (quantity_gives y text is) (λ q a.
      bind_gives (IsCostRead (is_quantity q.0)) IsNumbersRead (cost_behind (is_quantity q.0) c line q.1) _ (behind_gives (is_quantity q.0) q.1 a.rest) (λ k b.
      bind_gives IsWantedRead IsNumbersRead (claim_at (holder.Entry y) c line k.1) _ (claim_gives (holder.Entry y) k.1 b.rest) (λ w d.
      bind_gives (IsCostRead (is_some (q.0).0 && is_some w.0)) IsNumbersRead (cost_behind (is_some (q.0).0 && is_some w.0) c line w.1) _ (behind_gives (is_some (q.0).0 && is_some w.0) w.1 d.rest) (λ ignored e.
      ok_gives IsNumbersRead (numbers_of (q.0).0 (q.0).1 k.0 w.0, ignored.1)
      (record { amount = a.amount; factor = a.factor; cost = b.cost; costless = λ less. b.costless (unwritten q.0 a.factor less); wanted = d.wanted; rest = e.rest })))))

-- ---- the mark and the end

mark_low : (b : ℕ) → is_mark b ≡ true → b < 128
mark_low b h = grind (arith, nat_tests)

-- what is known of a text behind a mark, if any
record IsMarkRead (m : Mark × List ℕ) : Type 0 where
  text : IsText m.1
  first : first_is is_white m.1 ≡ false
  last : suffix_len is_white m.1 ≡ 0
  remark : m.0 ≡ Unmarked → begins m.1 59 ≡ false

mark_by : (s t : Bool) (text : List ℕ) → begins text 33 ≡ s → begins text 42 ≡ t → first_is is_mark text ≡ (s || t) → IsText text → first_is is_white text ≡ false → suffix_len is_white text ≡ 0 → begins text 59 ≡ false
    → IsMarkRead (cond s Pending (cond t Cleared Unmarked), cond (s || t) (after_white (drop 1 text)) text)
mark_by true t text e f g is first last none = record {
  text = unspaced_text (drop 1 text) (past_text is_mark text mark_low g is);
  first = first_solid (drop 1 text);
  last = solid_drop (prefix_len is_white (drop 1 text)) (drop 1 text) (solid_drop 1 text last);
  remark = λ never. absurd (let no_way : ⊥ = cc in no_way);
}
mark_by false true text e f g is first last none = record {
  text = unspaced_text (drop 1 text) (past_text is_mark text mark_low g is);
  first = first_solid (drop 1 text);
  last = solid_drop (prefix_len is_white (drop 1 text)) (drop 1 text) (solid_drop 1 text last);
  remark = λ never. absurd (let no_way : ⊥ = cc in no_way);
}
mark_by false false text e f g is first last none = record { text = is; first = first; last = last; remark = λ _. none }

first_mark : (text : List ℕ) → first_is is_mark text ≡ (begins text 33 || begins text 42)
first_mark [] = refl
first_mark (b ∷ bs) = refl

mark_is : (text : List ℕ) → IsText text → first_is is_white text ≡ false → suffix_len is_white text ≡ 0 → begins text 59 ≡ false → IsMarkRead (mark_of text, after_mark text)
mark_is text is first last none =
    subst (λ (t : Bool). IsMarkRead (mark_of text, cond t (after_white (drop 1 text)) text)) (sym (first_mark text))
    (mark_by (begins text 33) (begins text 42) text refl refl (first_mark text) is first last none)

mark_gives : (line : ℕ) (text : List ℕ) → IsText text → first_is is_white text ≡ false → suffix_len is_white text ≡ 0 → begins text 59 ≡ false → Gives IsMarkRead (mark_at line text)
unfolding mark_at
mark_gives line text is first last none =
    unless_gives IsMarkRead (has_second_mark text) (fault_at line cause.StatusMark) (Ok (mark_of text, after_mark text))
    (λ _. ok_gives IsMarkRead (mark_of text, after_mark text) (mark_is text is first last none))

own_by : (t : Bool) (text : List ℕ) → begins text 59 ≡ t → IsText text → IsRemark (cond t (trimmed (drop 1 text)) [])
own_by true text e is = remark_of (drop 1 text) (past_byte 59 text (lit< tt) e is)
own_by false text e is = no_remark

ending_gives : (line : ℕ) (side : Side) (says : Bool) (text : List ℕ) → IsText text
    → Gives (λ (own : List ℕ). IsRemark own × ((is_free side && not says) ≡ false)) (ending_of line side says text)
ending_gives line side says text is =
    unless_gives (λ (own : List ℕ). IsRemark own × ((is_free side && not says) ≡ false)) (not (ends_line text)) (fault_at line cause.Form) _ (λ _.
    unless_gives (λ (own : List ℕ). IsRemark own × ((is_free side && not says) ≡ false)) (is_free side && not says) (fault_at line cause.Form) _ (λ e.
    ok_gives (λ (own : List ℕ). IsRemark own × ((is_free side && not says) ≡ false)) (comment_at text) (own_by (begins text 59) text refl is, e)))

-- ---- the line

says_by : (a f w : Bool) → f ≡ false → (a || f || w) ≡ (a || w)
says_by true f w h = refl
says_by false f w h = ap (λ (t : Bool). t || w) h

free_of : (side : Side) (numbers : Numbers) → numbers.factor ≡ None → (is_free side && not (says_much numbers)) ≡ false
    → (is_free side && not (is_some numbers.amount || is_some numbers.wanted)) ≡ false
free_of side numbers factor h =
    sym (ap (λ (t : Bool). is_free side && not t) (says_by (is_some numbers.amount) (is_some numbers.factor) (is_some numbers.wanted) (ap (λ (f : Option Factor). is_some f) factor))) ∙ h

abbrev IsLineRead : RulePosting × List ℕ → Type 0
IsLineRead r = IsReadPosting (r.0).posting × IsRemark r.1

-- A posting's line that reads, without white space at its end, which isn't a comment's.
pub line_gives : (c : Context) (y line : ℕ) (content : List ℕ) → ChangesNothing c → IsText content → suffix_len is_white content ≡ 0 → begins (after_white content) 59 ≡ false
    → Gives (λ (r : RulePosting × List ℕ). IsReadPosting (r.0).posting × IsRemark r.1) (posting_line (holder.Entry y) c line content)
unfolding posting_line
line_gives c y line content plain is last none =
    let text = after_white content in
    let solid = solid_drop (prefix_len is_white content) content last in
    bind_gives IsMarkRead IsLineRead (mark_at line text) _ (mark_gives line text (unspaced_text content is) (first_solid content) solid none) (λ mark m.
    bind_gives (λ (a : Side × List ℕ). IsReadAccount a.0 a.1 × (in_brackets a.0 a.1 ≡ take (account_len mark.1) mark.1)) IsLineRead (account_at c line (take (account_len mark.1) mark.1)) _
    (account_gives c line (take (account_len mark.1) mark.1) plain.named (name_text mark.1 m.text) (first_of_take is_white (account_len mark.1) mark.1 m.first) (front_last mark.1 m.last) (front_len mark.1)) (λ account a.
    bind_gives IsNumbersRead IsLineRead (numbers_at (holder.Entry y) c line (after_white (drop (account_len mark.1) mark.1))) _
    (numbers_gives c line plain.usual y (after_white (drop (account_len mark.1) mark.1)) (unspaced_text (drop (account_len mark.1) mark.1) (after_name_text mark.1 m.text))) (λ numbers n.
    bind_gives (λ (own : List ℕ). IsRemark own × ((is_free account.0 && not (says_much numbers.0)) ≡ false)) IsLineRead (ending_of line account.0 (says_much numbers.0) numbers.1) _ (ending_gives line account.0 (says_much numbers.0) numbers.1 n.rest) (λ own o.
    ok_gives IsLineRead (posting_from line mark.0 account numbers.0, own) (
      record {
        filled = refl;
        costed = refl;
        comment = refl;
        tags = refl;
        day = refl;
        account = a.0;
        remark = λ unmarked. ap (λ (t : List ℕ). begins t 59) a.1 ∙ first_of_take (λ b. b == 59) (account_len mark.1) mark.1 (m.remark unmarked);
        amount = n.amount;
        cost = n.cost;
        costless = n.costless;
        wanted = n.wanted;
        free = free_of account.0 numbers.0 n.factor o.1;
      },
      o.0,
    )))))
