-- The numbers of what is read have few decimals.
use Rattle.std.proofs.Common.{ℕ, ◌≡◌, ◌+◌, ◌^◌, ◌≤◌, Bool, true, false, cond, ◌&&◌, List, length, take, drop, map, Option, Some, None, Result, Ok, Err, is_some, refl, ap, subst, arith}
use Rattle.std.specs.Prelude.{nat_le, nat_lt}
use Rattle.std.specs.List.{list_all, list_any, take_while, AllByRecursion}
use Rattle.std.specs.Option.{option_to_list}
use Rattle.std.proofs.lemmas.Bool.{false≢true}
use Rattle.std.proofs.lemmas.Bool.Decides.{nat_tests}
use Rattle.hl_num.specs.Decimal.{Decimal}
use Rattle.hl_num.specs.Reading.{are_groups, decimal_mark, group_sizes, is_digit, is_number_byte, is_written, mantissa_of, number_end, number_of, number_with, reading, whole_len}
use Rattle.hl_num.specs.declared.reading.BadNumber.{BadNumber}
use Rattle.hl_num.specs.declared.reading.Number.{Number}
use Rattle.book.specs.Style.{cost_amount}
use Rattle.book.specs.declared.amount.Amount.{Amount}
use Rattle.book.specs.declared.amount.Assertion.{Assertion}
use Rattle.book.specs.declared.amount.Cost.{Cost}
use Rattle.book.specs.declared.amount.Cost.TheVariants as costs
use Rattle.book.specs.declared.fault.Cause.TheVariants as cause
use Rattle.entry_reader.specs.Amounts.{after_claim, amount_at, amount_from, assertion_at, assertion_from, cost_at, is_below, is_only, left_at, number_or_fault, right_of, signed, total_mark, unit_mark, written_symbol}
use Rattle.entry_reader.specs.Causes.{fault_at}
use Rattle.entry_reader.specs.Contexts.{Context, decided_mark}
use Rattle.entry_reader.specs.Lines.{after_white, begins}
use Rattle.entry_reader.specs.Postings.{Numbers, Quantity, claim_at, cost_behind, is_entry, is_written as is_quantity, numbers_at, numbers_of, quantity_at}
use Rattle.entry_reader.specs.Symbols.{ends_amount}
use Rattle.entry_reader.specs.declared.quantity.Holder.{Holder}
use Rattle.entry_reader.specs.declared.quantity.Holder.TheVariants as holder
use Rattle.book_laws.specs.Decimals.{IsShort}
use Rattle.read_days.proofs.Giving.{Gives, after_gives, bind_gives, choice_gives, err_gives, ok_gives, when_gives}

-- ---- numbers

few_decimals : (a b c d e : Bool) → (a && b && c && d && e) ≡ true → d ≡ true
few_decimals true true true true e h = refl
few_decimals true true true false e h = absurd (false≢true h)
few_decimals true true false d e h = absurd (false≢true h)
few_decimals true false c d e h = absurd (false≢true h)
few_decimals false b c d e h = absurd (false≢true h)

first_true : (a b : Bool) → (a && b) ≡ true → a ≡ true
first_true true b h = refl
first_true false b h = absurd (false≢true h)

at_most : (a b : ℕ) → nat_le a b ≡ true → a ≤ b
at_most a b h = grind (arith, nat_tests)

kept_value : {A : Type 0} (t : Bool) (x y : A) → cond {A = Option A} t (Some x) None ≡ Some y → (t ≡ true) × (x ≡ y)
kept_value true x y h = (refl, let same : x ≡ y = cc in same)
kept_value false x y h = absurd (let never : ⊥ = cc in never)

abbrev IsFew : Number → Type 0
IsFew n = (n.value).places ≤ 18

with_few : (text : List ℕ) (mark : Option ℕ) (n : Number) → number_with text mark ≡ Some n → IsFew n
unfolding number_with
with_few text mark n h =
    let decimals = drop (whole_len text mark + 1) text in
    let both = kept_value (is_written text (take (whole_len text mark) text) decimals && nat_lt (mantissa_of text) (2 ^ 127)) _ n h in
    let written = first_true (is_written text (take (whole_len text mark) text) decimals) (nat_lt (mantissa_of text) (2 ^ 127)) both.0 in
    let few : length decimals ≤ 18 = at_most (length decimals) 18 (few_decimals (list_all is_number_byte text) (list_any is_digit text) (list_all is_digit decimals) (nat_le (length decimals) 18) (are_groups (group_sizes (take (whole_len text mark) text))) written) in
    subst (λ (k : ℕ). k ≤ 18) (ap (λ (x : Number). (x.value).places) both.1) few

number_by : (line : ℕ) (text : List ℕ) (o : Option Number) → ((n : Number) → o ≡ Some n → IsFew n)
    → Gives IsFew (number_or_fault line (let r : Result Number BadNumber = elim o [ Some number ↦ Ok number | None ↦ Err (record { at = number_end text }) ] in r))
number_by line text (Some n) h = ok_gives IsFew n (h n refl)
number_by line text None h = err_gives IsFew (fault_at line cause.Number)

number_gives : (line : ℕ) (text : List ℕ) (decided : Option ℕ) → Gives IsFew (number_or_fault line (reading text decided))
number_gives line text decided = number_by line text (number_of text decided) (λ n e. with_few text (decimal_mark text decided) n e)

-- ---- amounts

signed_short : (negative : Bool) (v : Decimal) → v.places ≤ 18 → (signed negative v).places ≤ 36
signed_short true v h = let more : v.places ≤ 36 = omega (arith, h) in more
signed_short false v h = let more : v.places ≤ 36 = omega (arith, h) in more

abbrev IsAmountRead : Amount × List ℕ → Type 0
IsAmountRead r = IsShort r.0

amount_gives : (c : Context) (line : ℕ) (text : List ℕ) → Gives IsAmountRead (amount_at c line text)
unfolding amount_at
amount_gives c line text =
    after_gives IsAmountRead (left_at line text) _ (λ left.
    let right = right_of left in
    bind_gives IsFew IsAmountRead (number_or_fault line (reading (take_while is_number_byte left.rest) (decided_mark c (written_symbol left right)))) _
    (number_gives line (take_while is_number_byte left.rest) (decided_mark c (written_symbol left right))) (λ number few.
    when_gives IsAmountRead right.is_good (Ok (amount_from c left right number, right.rest)) (fault_at line cause.Quote)
    (ok_gives IsAmountRead (amount_from c left right number, right.rest) (signed_short left.is_negative number.value few))))

-- ---- costs and assertions

-- each of some amounts has few decimals
abbrev pub AreShort : List Amount → Type 0
AreShort amounts = AllByRecursion IsShort amounts

abbrev IsCostRead : Option Cost × List ℕ → Type 0
IsCostRead r = AreShort (map cost_amount (option_to_list r.0))

abbrev IsWantedRead : Option Assertion × List ℕ → Type 0
IsWantedRead r = AreShort (map (λ (w : Assertion). w.amount) (option_to_list r.0))

abbrev IsQuantityRead : Quantity × List ℕ → Type 0
IsQuantityRead r = AreShort (option_to_list (r.0).0)

-- what a posting says of numbers
pub record IsNumbersRead (r : Numbers × List ℕ) : Type 0 where
  pub amount : AreShort (option_to_list (r.0).amount)
  pub cost : AreShort (map cost_amount (option_to_list (r.0).cost))
  pub wanted : AreShort (map (λ (w : Assertion). w.amount) (option_to_list (r.0).wanted))

module _ (c : Context) (line : ℕ) where
  cost_gives : (text : List ℕ) → Gives IsCostRead (cost_at c line text)
  unfolding cost_at
  cost_gives text =
      choice_gives IsCostRead (nat_lt 0 (total_mark text)) _ _
      (bind_gives IsAmountRead IsCostRead (amount_at c line (after_white (drop (total_mark text) text))) _
      (amount_gives c line (after_white (drop (total_mark text) text)))
      (λ a short. ok_gives IsCostRead (Some (costs.Total a.0), a.1) (short, tt)))
      (choice_gives IsCostRead (nat_lt 0 (unit_mark text)) _ _
      (bind_gives IsAmountRead IsCostRead (amount_at c line (after_white (drop (unit_mark text) text))) _
      (amount_gives c line (after_white (drop (unit_mark text) text)))
      (λ a short. ok_gives IsCostRead (Some (costs.Unit a.0), a.1) (short, tt)))
      (ok_gives IsCostRead (None, text) tt))

  behind_gives : (written : Bool) (text : List ℕ) → Gives IsCostRead (cost_behind written c line text)
  behind_gives true text = cost_gives text
  behind_gives false text = ok_gives IsCostRead (None, text) tt

  assertion_gives : (text : List ℕ) → Gives (λ (a : Assertion × List ℕ). IsShort (a.0).amount) (assertion_at c line text)
  unfolding assertion_at
  assertion_gives text =
      bind_gives IsAmountRead (λ (a : Assertion × List ℕ). IsShort (a.0).amount) (amount_at c line (after_white (after_claim text))) _
      (amount_gives c line (after_white (after_claim text)))
      (λ a short. ok_gives (λ (b : Assertion × List ℕ). IsShort (b.0).amount) (assertion_from (is_only text) (is_below text) a.0, a.1) short)

  claim_gives : (h : Holder) (text : List ℕ) → Gives IsWantedRead (claim_at h c line text)
  unfolding claim_at
  claim_gives h text =
      choice_gives IsWantedRead (is_entry h && begins text 61) _ _
      (bind_gives (λ (a : Assertion × List ℕ). IsShort (a.0).amount) IsWantedRead (assertion_at c line text) _ (assertion_gives text)
      (λ a short. ok_gives IsWantedRead (Some a.0, a.1) (short, tt)))
      (ok_gives IsWantedRead (None, text) tt)

  quantity_gives : (y : ℕ) (text : List ℕ) → Gives IsQuantityRead (quantity_at (holder.Entry y) c line text)
  unfolding quantity_at
  quantity_gives y text =
      choice_gives IsQuantityRead (ends_amount text) _ _
      (ok_gives IsQuantityRead ((None, None), text) tt)
      (bind_gives IsAmountRead IsQuantityRead (amount_at c line text) _ (amount_gives c line text)
      (λ a short. ok_gives IsQuantityRead ((Some a.0, None), a.1) (short, tt)))

  pub numbers_gives : (y : ℕ) (text : List ℕ) → Gives IsNumbersRead (numbers_at (holder.Entry y) c line text)
  unfolding numbers_at
  numbers_gives y text =
      bind_gives IsQuantityRead IsNumbersRead (quantity_at (holder.Entry y) c line text) _ (quantity_gives y text) (λ q a.
      bind_gives IsCostRead IsNumbersRead (cost_behind (is_quantity q.0) c line q.1) _ (behind_gives (is_quantity q.0) q.1) (λ k b.
      bind_gives IsWantedRead IsNumbersRead (claim_at (holder.Entry y) c line k.1) _ (claim_gives (holder.Entry y) k.1) (λ w d.
      after_gives IsNumbersRead (cost_behind (is_some (q.0).0 && is_some w.0) c line w.1) _ (λ ignored.
      ok_gives IsNumbersRead (numbers_of (q.0).0 (q.0).1 k.0 w.0, ignored.1) (record { amount = a; cost = b; wanted = d })))))
