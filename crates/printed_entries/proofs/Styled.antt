-- The styles of a text that was read show amounts as they read.
use Rattle.std.proofs.Common.{ℕ, ◌≡◌, ◌+◌, ◌^◌, Bool, true, false, cond, ◌==◌, ◌&&◌, ◌||◌, not, List, [], ◌∷◌, ◌++◌, length, take, drop, map, reverse, Option, Some, None, Result, Ok, Err, refl, sym, ap, subst, ◌∙◌}
use Rattle.std.specs.Prelude.{is_some, nat_lt}
use Rattle.std.specs.List.{count_by, filter, find, flat_map, list_all, list_any, take_while, AllByRecursion}
use Rattle.std.specs.Option.{option_to_list}
use Rattle.std.specs.Str.{bytes_eq, is_utf8}
use Rattle.std.proofs.lemmas.Bool.{eqb-true, false≢true}
use Rattle.hl_base.specs.Items.{is_white, items_of, kind_of}
use Rattle.hl_base.specs.Lines.{first_line}
use Rattle.hl_base.specs.declared.items.Kind.{Kind}
use Rattle.hl_base.specs.declared.items.Kind.TheVariants as kinds
use Rattle.hl_base.specs.declared.items.Piece.{Piece}
use Rattle.hl_base.specs.Limits.{entry_limit}
use Rattle.hl_num.specs.Reading.{decimal_mark, is_mark, is_number_byte, is_written, kept_mark, mantissa_of, number_end, number_of, number_with, other_mark, whole_len}
use Rattle.hl_num.specs.Reading as numbers
use Rattle.hl_num.specs.declared.reading.BadNumber.{BadNumber}
use Rattle.hl_num.specs.declared.reading.Number.{Number}
use Rattle.hl_time.specs.Calendar.{year_of}
use Rattle.book.specs.Printed.{mark_of}
use Rattle.book.specs.Style.{amount_style, commodity_styles, cost_styles, default_style, default_styles, first_class, first_else, further_styles, last_else, of_symbol, rule_styles, said_in, second_class, style_of, wanted_styles, written_as}
use Rattle.book.specs.Styles.{style_in}
use Rattle.book.specs.declared.amount.Amount.{Amount}
use Rattle.book.specs.declared.amount.Assertion.{Assertion}
use Rattle.book.specs.declared.amount.Cost.{Cost}
use Rattle.book.specs.declared.amount.Cost.TheVariants as costs
use Rattle.book.specs.declared.directive.Directive.{Directive}
use Rattle.book.specs.declared.directive.Directive.TheVariants as directive
use Rattle.book.specs.declared.fault.Cause.TheVariants as cause
use Rattle.book.specs.declared.fault.Fault.{Fault}
use Rattle.book.specs.declared.item.Item.{Item}
use Rattle.book.specs.declared.item.Item.TheVariants as item
use Rattle.book.specs.declared.item.Placed.{Placed}
use Rattle.book.specs.declared.directive.Price.{Price}
use Rattle.book.specs.declared.rules.AutoRule.{AutoRule}
use Rattle.book.specs.declared.rules.PeriodicRule.{PeriodicRule}
use Rattle.book.specs.declared.rules.RulePosting.{RulePosting}
use Rattle.book.specs.declared.style.Style.{Style}
use Rattle.book.specs.declared.style.Styles.{Styles}
use Rattle.book.specs.declared.transaction.Posting.{Posting}
use Rattle.directive_reader.specs.AccountTypes.{letter_in}
use Rattle.directive_reader.specs.Commodities.{after_format, amount_directive, default_of, format_at, format_in, formatted, is_format, is_symbol_alone, symbol_directive}
use Rattle.directive_reader.specs.Declarations as declarations
use Rattle.directive_reader.specs.Directives.{directive_by, head_item, item_by, item_with}
use Rattle.directive_reader.specs.Endings.{before_comment, closing, comments_only, ending_at}
use Rattle.directive_reader.specs.Keywords.{keyword_at}
use Rattle.directive_reader.specs.Prices.{after_time, price_of, symbol_at}
use Rattle.directive_reader.specs.QueryWords.{query_words}
use Rattle.directive_reader.specs.Rules.{auto_of, description, period_text, periodic_of, rule_period}
use Rattle.directive_reader.specs.declared.keyword.Keyword.{Keyword}
use Rattle.directive_reader.specs.declared.keyword.Keyword.TheVariants as keywords
use Rattle.entry_reader.proofs.Both.{both_true}
use Rattle.entry_reader.specs.Accounts.{account_at, account_len, has_parts, name_in}
use Rattle.entry_reader.specs.Amounts.{after_claim, amount_at, amount_from, assertion_at, assertion_from, cost_at, factor_at, is_below, is_only, left_at, number_or_fault, right_of, total_mark, unit_mark, written_symbol}
use Rattle.entry_reader.specs.Causes.{fault_at, ◌>>=◌}
use Rattle.entry_reader.specs.Comments.{comments_in, is_comment}
use Rattle.entry_reader.specs.Contexts.{Context, context_of, decided_mark}
use Rattle.entry_reader.specs.Entries.{entry_of, entry_with, txn_from}
use Rattle.entry_reader.specs.Heads.{day_at, head_of, mark_at}
use Rattle.entry_reader.specs.Lines.{after_white, begins, contents_of, first_is, has_byte}
use Rattle.entry_reader.specs.Postings.{Numbers, Quantity, claim_at, cost_behind, each_of, ending_of, is_auto, is_entry, is_written as is_said, numbers_at, numbers_of, own_day, periodic_postings_of, posting_from, posting_line, posting_of, postings_of, quantity_at, rule_posting_of, rule_posting_with, rule_postings_of, says_much, with_comments}
use Rattle.entry_reader.specs.Symbols.{ends_amount, symbol_name}
use Rattle.entry_reader.specs.declared.quantity.Holder.{Holder}
use Rattle.entry_reader.specs.declared.quantity.Holder.TheVariants as holder
use Rattle.journal_printer.specs.Journal.{styled}
use Rattle.journal_reader.specs.Items.{broken_line, items_in, reading, reading_from, said_by}
use Rattle.written_logs.proofs.Lines.{all_parts}
use Rattle.closed_journals.proofs.Declared.{AreToldItems, IsToldItem, items_told, sound_after}
use Rattle.closed_journals.proofs.Digits.{IsDecided}
use Rattle.closed_journals.proofs.Texts.{Gives, bind_gives, choice_gives, err_gives, front_passes, ok_gives, unless_gives, when_gives}
use Rattle.closed_journals.proofs.Told.{IsSound, all_decided}
use Rattle.printed_entries.specs.Alike.{AreShapes}
use Rattle.printed_entries.specs.Shapes.{IsApart, IsShape}

-- ---- numbers

-- the decimal mark and the group mark of a number
record AreMarks (mark group : Option ℕ) : Type 0 where
  decimal : is_mark (mark_of mark group) ≡ true
  apart : IsApart group (mark_of mark group)

find_passes : (p q : ℕ → Bool) (xs : List ℕ) (P : Option ℕ → Type 0) → list_all q xs ≡ true → P None → ((x : ℕ) → p x ≡ true → q x ≡ true → P (Some x)) → P (find p xs)
find_passes p q [] P all none some = none
find_passes p q (x ∷ xs) P all none some =
    let both = both_true (q x) (list_all q xs) all in
    by (p x) refl both.0 (find_passes p q xs P both.1 none some)
  where
    by : (t : Bool) → p x ≡ t → q x ≡ true → P (find p xs) → P (cond t (Some x) (find p xs))
    by true e h rest = some x e h
    by false e h rest = rest

any_passes : (xs : List ℕ) → list_all (λ b. true) xs ≡ true
any_passes [] = refl
any_passes (x ∷ xs) = any_passes xs

is_comma : (g : ℕ) → is_mark g ≡ true → (g == 46) ≡ false → g ≡ 44
is_comma g h e = eqb-true g 44 (sym (ap (λ (t : Bool). t || (g == 44)) e) ∙ h)

-- a group mark alone: the decimal mark is the other one
beside : (g : ℕ) → is_mark g ≡ true → AreMarks None (Some g)
beside g h = by (g == 46) refl
  where
    by : (t : Bool) → (g == 46) ≡ t → AreMarks None (Some g)
    by true e = subst (λ (x : ℕ). AreMarks None (Some x)) (sym (eqb-true g 46 e)) (record { decimal = refl; apart = refl })
    by false e = subst (λ (x : ℕ). AreMarks None (Some x)) (sym (is_comma g h e)) (record { decimal = refl; apart = refl })

other_is : (g m : ℕ) → is_mark g ≡ true → is_mark m ≡ true → not (g == m) ≡ true → g ≡ other_mark m
other_is g m h k apart = by (m == 46) refl (g == 46) refl
  where
    alike : (x : ℕ) → g ≡ x → m ≡ x → not (x == x) ≡ true
    alike x e f = subst (λ (y : ℕ). not (x == y) ≡ true) f (subst (λ (y : ℕ). not (y == m) ≡ true) e apart)

    by : (t : Bool) → (m == 46) ≡ t → (u : Bool) → (g == 46) ≡ u → g ≡ other_mark m
    by true e true f = absurd (false≢true (alike 46 (eqb-true g 46 f) (eqb-true m 46 e)))
    by true e false f = is_comma g h f ∙ sym (ap other_mark (eqb-true m 46 e))
    by false e true f = eqb-true g 46 f ∙ sym (ap other_mark (is_comma m k e))
    by false e false f = absurd (false≢true (alike 44 (is_comma g h f) (is_comma m k e)))

marks_are : (text : List ℕ) (mark : Option ℕ) → IsDecided mark → AreMarks mark (find is_mark (take (whole_len text mark) text))
marks_are text None is =
    find_passes is_mark (λ b. true) (take (whole_len text None) text) (AreMarks None) (any_passes (take (whole_len text None) text)) (record { decimal = refl; apart = tt }) (λ g h _. beside g h)
marks_are text (Some m) is =
    find_passes is_mark (λ b. not (b == m)) (take (whole_len text (Some m)) text) (AreMarks (Some m)) (front_passes (λ b. not (b == m)) text)
    (record { decimal = is; apart = tt }) (λ g h k. record { decimal = is; apart = other_is g m h is k })

kept_decided : (text : List ℕ) (o : Option ℕ) → IsDecided o → IsDecided (kept_mark text o)
kept_decided text None is = tt
kept_decided text (Some m) is = by (list_any (λ b. b == other_mark m) text || nat_lt (count_by (λ b. b == m) text) 2)
  where
    by : (t : Bool) → IsDecided (cond {A = Option ℕ} t (Some m) None)
    by true = is
    by false = tt

mark_decided : (text : List ℕ) (decided : Option ℕ) → IsDecided decided → IsDecided (decimal_mark text decided)
mark_decided text None is =
    kept_decided text (find is_mark (reverse text)) (find_passes is_mark (λ b. true) (reverse text) IsDecided (any_passes (reverse text)) tt (λ x h _. h))
mark_decided text (Some m) is = by (list_any (λ b. b == m) text)
  where
    by : (t : Bool) → IsDecided (cond {A = Option ℕ} t (Some m) None)
    by true = is
    by false = tt

kept_value : {A : Type 0} (t : Bool) (x y : A) → cond {A = Option A} t (Some x) None ≡ Some y → x ≡ y
kept_value true x y h = let same : x ≡ y = cc in same
kept_value false x y h = absurd (let never : ⊥ = cc in never)

abbrev IsFairNumber : Number → Type 0
IsFairNumber n = AreMarks n.mark n.group

with_fair : (text : List ℕ) (mark : Option ℕ) (n : Number) → IsDecided mark → number_with text mark ≡ Some n → IsFairNumber n
unfolding number_with
with_fair text mark n is h =
    let decimals = drop (whole_len text mark + 1) text in
    let same = kept_value (is_written text (take (whole_len text mark) text) decimals && nat_lt (mantissa_of text) (2 ^ 127)) _ n h in
    subst IsFairNumber same (marks_are text mark is)

number_by : (line : ℕ) (text : List ℕ) (o : Option Number) → ((n : Number) → o ≡ Some n → IsFairNumber n)
    → Gives IsFairNumber (number_or_fault line (let r : Result Number BadNumber = elim o [ Some number ↦ Ok number | None ↦ Err (record { at = number_end text }) ] in r))
number_by line text (Some n) h = ok_gives IsFairNumber n (h n refl)
number_by line text None h = err_gives IsFairNumber (fault_at line cause.Number)

number_gives : (line : ℕ) (text : List ℕ) (decided : Option ℕ) → IsDecided decided → Gives IsFairNumber (number_or_fault line (numbers.reading text decided))
number_gives line text decided is = number_by line text (number_of text decided) (λ n e. with_fair text (decimal_mark text decided) n (mark_decided text decided is) e)

-- ---- amounts

abbrev IsFair : Amount → Type 0
IsFair a = IsShape None a.shape

-- an amount, a cost and an assertion that may be there
abbrev OfAmount : Option Amount → Type 0
OfAmount None = Unit {0}
OfAmount (Some a) = IsFair a

abbrev OfCost : Option Cost → Type 0
OfCost None = Unit {0}
OfCost (Some (costs.Unit a)) = IsFair a
OfCost (Some (costs.Total a)) = IsFair a

abbrev OfClaim : Option Assertion → Type 0
OfClaim None = Unit {0}
OfClaim (Some w) = IsFair w.amount

abbrev IsFairRead : Amount × List ℕ → Type 0
IsFairRead r = IsFair r.0

abbrev IsFairQuantity : Quantity × List ℕ → Type 0
IsFairQuantity q = OfAmount (q.0).0

abbrev IsFairCost : Option Cost × List ℕ → Type 0
IsFairCost c = OfCost c.0

abbrev IsFairClaim : Option Assertion × List ℕ → Type 0
IsFairClaim w = OfClaim w.0

record AreFairNumbers (numbers : Numbers) : Type 0 where
  of_amount : OfAmount numbers.amount
  of_cost : OfCost numbers.cost
  of_claim : OfClaim numbers.wanted

abbrev AreFairRead : Numbers × List ℕ → Type 0
AreFairRead r = AreFairNumbers r.0

pub record IsFairPosting (p : Posting) : Type 0 where
  of_amount : OfAmount p.amount
  of_cost : OfCost p.cost
  of_claim : OfClaim p.wanted

abbrev IsFairRule : RulePosting → Type 0
IsFairRule p = IsFairPosting p.posting

abbrev IsFairLine : RulePosting × List ℕ → Type 0
IsFairLine p = IsFairPosting (p.0).posting

-- what is read after something of which nothing has to be known
after_any : {A B : Type 0} (P : B → Type 0) (r : Result A Fault) (f : A → Result B Fault) → ((a : A) → Gives P (f a)) → Gives P (r >>= f)
after_any P (Ok a) f k = k a
after_any P (Err fault) f k = err_gives P fault

each_gives : {A : Type 0} (P : A → Type 0) (reads : ℕ → List ℕ → List (List ℕ) → Result A Fault) → ((line : ℕ) (content : List ℕ) (after : List (List ℕ)) → Gives P (reads line content after))
    → (line : ℕ) (cs : List (List ℕ)) → Gives (AllByRecursion P) (each_of reads line cs)
unfolding each_of
each_gives P reads one line [] = ok_gives (AllByRecursion P) [] tt
each_gives P reads one line (c ∷ cs) =
    choice_gives (AllByRecursion P) (is_comment c) (each_of reads (line + 1) cs) _ (λ _. each_gives P reads one (line + 1) cs) (λ _.
    bind_gives P (AllByRecursion P) (reads line c cs) _ (one line c cs) (λ p h.
    bind_gives (AllByRecursion P) (AllByRecursion P) (each_of reads (line + 1) cs) (λ ps. Ok (p ∷ ps)) (each_gives P reads one (line + 1) cs) (λ ps k. ok_gives (AllByRecursion P) (p ∷ ps) (h, k))))

module _ (c : Context) (sound : IsSound c) where
  amount_gives : (line : ℕ) (text : List ℕ) → Gives IsFairRead (amount_at c line text)
  unfolding amount_at
  amount_gives line text =
      after_any IsFairRead (left_at line text) _ (λ left.
      let right = right_of left in
      let decided = decided_mark c (written_symbol left right) in
      bind_gives IsFairNumber IsFairRead (number_or_fault line (numbers.reading (take_while is_number_byte left.rest) decided)) _
      (number_gives line (take_while is_number_byte left.rest) decided (all_decided c (written_symbol left right) sound)) (λ number n.
      when_gives IsFairRead right.is_good (Ok (amount_from c left right number, right.rest)) (fault_at line cause.Quote) (λ _.
      ok_gives IsFairRead (amount_from c left right number, right.rest) (record { mark = n.decimal; group = n.apart; decided = tt }))))

  quantity_gives : (h : Holder) (line : ℕ) (text : List ℕ) → Gives IsFairQuantity (quantity_at h c line text)
  unfolding quantity_at
  quantity_gives h line text =
      choice_gives IsFairQuantity (ends_amount text) (Ok ((None, None), text)) _ (λ _. ok_gives IsFairQuantity ((None, None), text) tt) (λ _.
      choice_gives IsFairQuantity (is_auto h && begins text 42) _ _
      (λ _. after_any IsFairQuantity (factor_at c line (after_white (drop 1 text))) _ (λ f. ok_gives IsFairQuantity ((None, Some f.0), f.1) tt))
      (λ _. bind_gives IsFairRead IsFairQuantity (amount_at c line text) _ (amount_gives line text) (λ a fair. ok_gives IsFairQuantity ((Some a.0, None), a.1) fair)))

  cost_gives : (line : ℕ) (text : List ℕ) → Gives IsFairCost (cost_at c line text)
  unfolding cost_at
  cost_gives line text =
      choice_gives IsFairCost (nat_lt 0 (total_mark text)) _ _
      (λ _. bind_gives IsFairRead IsFairCost (amount_at c line (after_white (drop (total_mark text) text))) _ (amount_gives line (after_white (drop (total_mark text) text))) (λ a fair.
      ok_gives IsFairCost (Some (costs.Total a.0), a.1) fair)) (λ _.
      choice_gives IsFairCost (nat_lt 0 (unit_mark text)) _ (Ok (None, text))
      (λ _. bind_gives IsFairRead IsFairCost (amount_at c line (after_white (drop (unit_mark text) text))) _ (amount_gives line (after_white (drop (unit_mark text) text))) (λ a fair.
      ok_gives IsFairCost (Some (costs.Unit a.0), a.1) fair)) (λ _. ok_gives IsFairCost (None, text) tt))

  behind_gives : (said : Bool) (line : ℕ) (text : List ℕ) → Gives IsFairCost (cost_behind said c line text)
  behind_gives true line text = cost_gives line text
  behind_gives false line text = ok_gives IsFairCost (None, text) tt

  claim_gives : (h : Holder) (line : ℕ) (text : List ℕ) → Gives IsFairClaim (claim_at h c line text)
  unfolding claim_at assertion_at
  claim_gives h line text =
      choice_gives IsFairClaim (is_entry h && begins text 61) _ (Ok (None, text))
      (λ _. bind_gives (λ (w : Assertion × List ℕ). IsFair (w.0).amount) IsFairClaim (assertion_at c line text) _
      (bind_gives IsFairRead (λ (w : Assertion × List ℕ). IsFair (w.0).amount) (amount_at c line (after_white (after_claim text))) _ (amount_gives line (after_white (after_claim text))) (λ a fair.
      ok_gives (λ (w : Assertion × List ℕ). IsFair (w.0).amount) (assertion_from (is_only text) (is_below text) a.0, a.1) fair)) (λ w fair.
      ok_gives IsFairClaim (Some w.0, w.1) fair)) (λ _. ok_gives IsFairClaim (None, text) tt)

  numbers_give : (h : Holder) (line : ℕ) (text : List ℕ) → Gives AreFairRead (numbers_at h c line text)
  unfolding numbers_at
  numbers_give h line text =
      bind_gives IsFairQuantity AreFairRead (quantity_at h c line text) _ (quantity_gives h line text) (λ q of_q.
      bind_gives IsFairCost AreFairRead (cost_behind (is_said q.0) c line q.1) _ (behind_gives (is_said q.0) line q.1) (λ k of_k.
      bind_gives IsFairClaim AreFairRead (claim_at h c line k.1) _ (claim_gives h line k.1) (λ w of_w.
      after_any AreFairRead (cost_behind (is_some (q.0).0 && is_some w.0) c line w.1) _ (λ ignored.
      ok_gives AreFairRead (numbers_of (q.0).0 (q.0).1 k.0 w.0, ignored.1) (record { of_amount = of_q; of_cost = of_k; of_claim = of_w })))))

  line_gives : (h : Holder) (line : ℕ) (content : List ℕ) → Gives IsFairLine (posting_line h c line content)
  unfolding posting_line
  line_gives h line content =
      after_any IsFairLine (mark_at line (after_white content)) _ (λ mark.
      after_any IsFairLine (account_at c line (take (account_len mark.1) mark.1)) _ (λ account.
      bind_gives AreFairRead IsFairLine (numbers_at h c line (after_white (drop (account_len mark.1) mark.1))) _ (numbers_give h line (after_white (drop (account_len mark.1) mark.1))) (λ ns fair.
      after_any IsFairLine (ending_of line account.0 (says_much ns.0) ns.1) _ (λ own.
      ok_gives IsFairLine (posting_from line mark.0 account ns.0, own) (record { of_amount = fair.of_amount; of_cost = fair.of_cost; of_claim = fair.of_claim })))))

  rule_gives : (h : Holder) (line : ℕ) (content : List ℕ) (after : List (List ℕ)) → Gives IsFairRule (rule_posting_of h c line content after)
  unfolding rule_posting_of
  rule_gives h line content after =
      unless_gives IsFairRule (not (first_is is_white content)) (fault_at line cause.Form) _ (λ _.
      bind_gives IsFairLine IsFairRule (posting_line h c line content) _ (line_gives h line content) (λ p fair.
      after_any IsFairRule (own_day h line (p.1 ∷ comments_in after)) _ (λ day.
      ok_gives IsFairRule (rule_posting_with (with_comments (p.0).posting p.1 (comments_in after) day) (p.0).factor) (record { of_amount = fair.of_amount; of_cost = fair.of_cost; of_claim = fair.of_claim }))))

  posting_gives : (h : Holder) (line : ℕ) (content : List ℕ) (after : List (List ℕ)) → Gives IsFairPosting (posting_of h c line content after)
  posting_gives h line content after =
      bind_gives IsFairRule IsFairPosting (rule_posting_of h c line content after) (λ p. Ok p.posting) (rule_gives h line content after) (λ p fair. ok_gives IsFairPosting p.posting fair)

-- ---- items

abbrev IsFairDirective : Directive → Type 0
IsFairDirective (directive.Commodity symbol amount) = OfAmount amount
IsFairDirective (directive.Default a) = IsFair a
IsFairDirective _ = Unit {0}

abbrev IsFairPrice : Price → Type 0
IsFairPrice p = IsFair p.amount

abbrev IsFairAuto : AutoRule → Type 0
IsFairAuto r = AllByRecursion IsFairRule r.postings

abbrev IsFairPeriodic : PeriodicRule → Type 0
IsFairPeriodic r = AllByRecursion IsFairPosting r.postings

abbrev IsFairItem : Item → Type 0
IsFairItem (item.Directive d) = IsFairDirective d
IsFairItem (item.Txn t) = AllByRecursion IsFairPosting t.postings
IsFairItem (item.Auto r) = IsFairAuto r
IsFairItem (item.Periodic r) = IsFairPeriodic r
IsFairItem (item.Price p) = IsFairPrice p
IsFairItem _ = Unit {0}

abbrev Said : Result Directive Fault → Type 0
Said r = Gives IsFairDirective r

account_gives : (c : Context) (line : ℕ) (text : List ℕ) (after : List (List ℕ)) → Said (declarations.account_of c line text after)
unfolding declarations.account_of
account_gives c line text after =
    after_any IsFairDirective (name_in c line (declarations.name_at text)) _ (λ name.
    after_any IsFairDirective (ending_at line (declarations.after_name text)) _ (λ own.
    after_any IsFairDirective (letter_in line (own ∷ comments_in after)) _ (λ letter.
    after_any IsFairDirective (comments_only (line + 1) after) _ (λ done. ok_gives IsFairDirective (directive.Account name letter) tt))))

end_apply_gives : (c : Context) (line : ℕ) (text : List ℕ) (after : List (List ℕ)) → Said (declarations.end_apply_of c line text after)
unfolding declarations.end_apply_of
end_apply_gives c line text after =
    when_gives IsFairDirective (nat_lt 0 (length c.applied)) _ (fault_at line cause.Directive) (λ _. after_any IsFairDirective (closing line text after) _ (λ done. ok_gives IsFairDirective directive.EndApply tt))

apply_gives : (line : ℕ) (text : List ℕ) (after : List (List ℕ)) → Said (declarations.apply_of line text after)
unfolding declarations.apply_of
apply_gives line text after =
    when_gives IsFairDirective (has_parts (declarations.name_at text)) _ (fault_at line cause.Account) (λ _.
    after_any IsFairDirective (closing line (declarations.after_name text) after) _ (λ done. ok_gives IsFairDirective (directive.Apply (declarations.name_at text)) tt))

alias_gives : (line : ℕ) (text : List ℕ) (after : List (List ℕ)) → Said (declarations.alias_of line text after)
unfolding declarations.alias_of
alias_gives line text after =
    when_gives IsFairDirective (has_byte 61 (before_comment text) && nat_lt 0 (length (declarations.old_name text))) _ (fault_at line cause.Form) (λ _.
    after_any IsFairDirective (comments_only (line + 1) after) _ (λ done. ok_gives IsFairDirective (directive.Alias (declarations.old_name text) (declarations.new_name text)) tt))

end_aliases_gives : (line : ℕ) (text : List ℕ) (after : List (List ℕ)) → Said (declarations.end_aliases_of line text after)
unfolding declarations.end_aliases_of
end_aliases_gives line text after = after_any IsFairDirective (closing line text after) _ (λ done. ok_gives IsFairDirective directive.EndAliases tt)

payee_gives : (line : ℕ) (text : List ℕ) (after : List (List ℕ)) → Said (declarations.payee_of line text after)
unfolding declarations.payee_of
payee_gives line text after =
    after_any IsFairDirective (declarations.label_at line text) _ (λ name. after_any IsFairDirective (comments_only (line + 1) after) _ (λ done. ok_gives IsFairDirective (directive.Payee name) tt))

tag_gives : (line : ℕ) (text : List ℕ) (after : List (List ℕ)) → Said (declarations.tag_of line text after)
unfolding declarations.tag_of
tag_gives line text after =
    after_any IsFairDirective (declarations.label_at line text) _ (λ name. after_any IsFairDirective (comments_only (line + 1) after) _ (λ done. ok_gives IsFairDirective (directive.TagName name) tt))

year_by : (line : ℕ) (o : Option ℕ) (rest : List ℕ) (after : List (List ℕ)) → Said (declarations.year_with line o rest after)
year_by line None rest after = err_gives IsFairDirective (fault_at line cause.Form)
year_by line (Some y) rest after = after_any IsFairDirective (closing line rest after) _ (λ done. ok_gives IsFairDirective (directive.Year y) tt)

year_gives : (line : ℕ) (text : List ℕ) (after : List (List ℕ)) → Said (declarations.year_of line text after)
unfolding declarations.year_of
year_gives line text after = year_by line (declarations.four_digits text) (declarations.after_digits text) after

mark_by : (line : ℕ) (o : Option ℕ) (rest : List ℕ) (after : List (List ℕ)) → Said (declarations.decimal_mark_with line o rest after)
mark_by line None rest after = err_gives IsFairDirective (fault_at line cause.Form)
mark_by line (Some m) rest after = after_any IsFairDirective (closing line rest after) _ (λ done. ok_gives IsFairDirective (directive.DecimalMark m) tt)

mark_gives : (line : ℕ) (text : List ℕ) (after : List (List ℕ)) → Said (declarations.decimal_mark_of line text after)
unfolding declarations.decimal_mark_of
mark_gives line text after = mark_by line (declarations.mark_at text) (after_white (drop 1 text)) after

as_item : (r : Result Directive Fault) → Said r → Gives IsFairItem (r >>= λ d. Ok (item.Directive d))
as_item r said = bind_gives IsFairDirective IsFairItem r (λ d. Ok (item.Directive d)) said (λ d t. ok_gives IsFairItem (item.Directive d) t)

module _ (c : Context) (sound : IsSound c) where
  formatted_gives : (symbol : List ℕ) (line : ℕ) (read : Amount × List ℕ) → IsFairRead read → Gives IsFair (formatted symbol line read)
  formatted_gives symbol line read is = when_gives IsFair _ (Ok read.0) (fault_at line cause.Form) (λ _. ok_gives IsFair read.0 is)

  format_gives : (symbol : List ℕ) (line : ℕ) (content : List ℕ) → Gives IsFair (format_at c symbol line content)
  unfolding format_at
  format_gives symbol line content =
      unless_gives IsFair (not (is_format content)) (fault_at line cause.Form) _ (λ h.
      bind_gives IsFairRead IsFair (amount_at c line (after_format content)) _ (amount_gives c sound line (after_format content)) (λ a r. formatted_gives symbol line a r))

  formats_give : (symbol : List ℕ) (line : ℕ) (lines : List (List ℕ)) → Gives OfAmount (format_in c symbol line lines)
  unfolding format_in
  formats_give symbol line [] = ok_gives OfAmount None tt
  formats_give symbol line (content ∷ more) =
      choice_gives OfAmount (is_comment content) _ _ (λ _. formats_give symbol (line + 1) more) (λ _.
      bind_gives IsFair OfAmount (format_at c symbol line content) _ (format_gives symbol line content) (λ a fair.
      after_any OfAmount (comments_only (line + 1) more) _ (λ done. ok_gives OfAmount (Some a) fair)))

  symbol_gives : (line : ℕ) (text : List ℕ) (after : List (List ℕ)) → Said (symbol_directive c line text after)
  unfolding symbol_directive
  symbol_gives line text after =
      bind_gives OfAmount IsFairDirective (format_in c (symbol_name text) (line + 1) after) _ (formats_give (symbol_name text) (line + 1) after) (λ amount fair.
      ok_gives IsFairDirective (directive.Commodity (symbol_name text) amount) fair)

  amount_directive_gives : (line : ℕ) (text : List ℕ) (after : List (List ℕ)) → Said (amount_directive c line text after)
  unfolding amount_directive
  amount_directive_gives line text after =
      bind_gives IsFairRead IsFairDirective (amount_at c line text) _ (amount_gives c sound line text) (λ a fair.
      after_any IsFairDirective (closing line a.1 after) _ (λ done. ok_gives IsFairDirective (directive.Commodity (a.0).symbol (Some a.0)) fair))

  default_gives : (line : ℕ) (text : List ℕ) (after : List (List ℕ)) → Said (default_of c line text after)
  unfolding default_of
  default_gives line text after =
      bind_gives IsFairRead IsFairDirective (amount_at c line text) _ (amount_gives c sound line text) (λ a fair.
      after_any IsFairDirective (closing line a.1 after) _ (λ done. ok_gives IsFairDirective (directive.Default a.0) fair))

  price_gives : (line : ℕ) (text : List ℕ) (after : List (List ℕ)) → Gives IsFairItem (price_of c line text after >>= λ p. Ok (item.Price p))
  unfolding price_of
  price_gives line text after =
      bind_gives IsFairPrice IsFairItem (price_of c line text after) (λ p. Ok (item.Price p))
      (after_any IsFairPrice (day_at c.year line text) _ (λ day.
      after_any IsFairPrice (symbol_at line (after_time day.1)) _ (λ symbol.
      bind_gives IsFairRead IsFairPrice (amount_at c line symbol.1) _ (amount_gives c sound line symbol.1) (λ a fair.
      after_any IsFairPrice (closing line a.1 after) _ (λ done. ok_gives IsFairPrice (record { day = record { 0 = day.0 }; symbol = symbol.0; amount = a.0 }) fair)))))
      (λ p fair. ok_gives IsFairItem (item.Price p) fair)

  auto_gives : (line : ℕ) (text : List ℕ) (after : List (List ℕ)) → Gives IsFairItem (auto_of c line text after >>= λ r. Ok (item.Auto r))
  unfolding auto_of
  auto_gives line text after =
      bind_gives IsFairAuto IsFairItem (auto_of c line text after) (λ r. Ok (item.Auto r))
      (bind_gives (AllByRecursion IsFairRule) IsFairAuto (rule_postings_of c (line + 1) after) _
      (each_gives IsFairRule (rule_posting_of holder.Auto c) (λ l content more. rule_gives c sound holder.Auto l content more) (line + 1) after) (λ ps fair. ok_gives IsFairAuto (record { line = line; words = query_words (before_comment text); postings = ps }) fair))
      (λ r fair. ok_gives IsFairItem (item.Auto r) fair)

  periodic_gives : (line : ℕ) (text : List ℕ) (after : List (List ℕ)) → Gives IsFairItem (periodic_of c line text after >>= λ r. Ok (item.Periodic r))
  unfolding periodic_of
  periodic_gives line text after =
      bind_gives IsFairPeriodic IsFairItem (periodic_of c line text after) (λ r. Ok (item.Periodic r))
      (after_any IsFairPeriodic (rule_period line (period_text (before_comment text))) _ (λ period.
      bind_gives (AllByRecursion IsFairPosting) IsFairPeriodic (periodic_postings_of c (line + 1) after) _
      (each_gives IsFairPosting (posting_of holder.Periodic c) (λ l content more. posting_gives c sound holder.Periodic l content more) (line + 1) after) (λ ps fair. ok_gives IsFairPeriodic (record { line = line; period = period; description = description (before_comment text); postings = ps }) fair)))
      (λ r fair. ok_gives IsFairItem (item.Periodic r) fair)

  keyword_gives : (k : Keyword) (line : ℕ) (text : List ℕ) (after : List (List ℕ)) → Gives IsFairItem (item_by k c line text after)
  keyword_gives keywords.Price line text after = price_gives line text after
  keyword_gives keywords.Auto line text after = auto_gives line text after
  keyword_gives keywords.Periodic line text after = periodic_gives line text after
  keyword_gives keywords.Commodity line text after =
      as_item (directive_by keywords.Commodity c line text after)
      (choice_gives IsFairDirective (is_symbol_alone text) (symbol_directive c line text after) (amount_directive c line text after) (λ _. symbol_gives line text after) (λ _. amount_directive_gives line text after))
  keyword_gives keywords.Default line text after = as_item (default_of c line text after) (default_gives line text after)
  keyword_gives keywords.Account line text after = as_item (declarations.account_of c line text after) (account_gives c line text after)
  keyword_gives keywords.Year line text after = as_item (declarations.year_of line text after) (year_gives line text after)
  keyword_gives keywords.Apply line text after = as_item (declarations.apply_of line text after) (apply_gives line text after)
  keyword_gives keywords.EndApply line text after = as_item (declarations.end_apply_of c line text after) (end_apply_gives c line text after)
  keyword_gives keywords.Alias line text after = as_item (declarations.alias_of line text after) (alias_gives line text after)
  keyword_gives keywords.EndAliases line text after = as_item (declarations.end_aliases_of line text after) (end_aliases_gives line text after)
  keyword_gives keywords.Payee line text after = as_item (declarations.payee_of line text after) (payee_gives line text after)
  keyword_gives keywords.Tag line text after = as_item (declarations.tag_of line text after) (tag_gives line text after)
  keyword_gives keywords.DecimalMark line text after = as_item (declarations.decimal_mark_of line text after) (mark_gives line text after)
  keyword_gives keywords.Other line text after = err_gives IsFairItem (fault_at line cause.Directive)

  head_gives : (line : ℕ) (lines : List (List ℕ)) → Gives IsFairItem (head_item c line lines)
  unfolding item_with
  head_gives line [] = err_gives IsFairItem (fault_at line cause.Form)
  head_gives line (content ∷ after) = keyword_gives (keyword_at content).0 line (keyword_at content).1 after

  entry_gives : (line : ℕ) (lines : List (List ℕ)) → Gives IsFairItem (entry_of c line lines)
  unfolding entry_with
  entry_gives line [] = err_gives IsFairItem (fault_at line cause.Form)
  entry_gives line (content ∷ after) =
      after_any IsFairItem (head_of c line content) _ (λ head.
      bind_gives (AllByRecursion IsFairPosting) IsFairItem (postings_of c (year_of head.day) (line + 1) after) _
      (each_gives IsFairPosting (posting_of (holder.Entry (year_of head.day)) c) (λ l text more. posting_gives c sound (holder.Entry (year_of head.day)) l text more) (line + 1) after) (λ ps fair.
      ok_gives IsFairItem (item.Txn (txn_from line head (comments_in after) ps)) fair))

  said_gives : (k : Kind) (line : ℕ) (bytes : List ℕ) → Gives IsFairItem (said_by k c line bytes)
  said_gives kinds.Gap line bytes = ok_gives IsFairItem item.Gap tt
  said_gives kinds.Block line bytes = ok_gives IsFairItem item.Block tt
  said_gives kinds.Stray line bytes = err_gives IsFairItem (fault_at line cause.Form)
  said_gives kinds.Entry line bytes = unless_gives IsFairItem (nat_lt entry_limit (length bytes)) (fault_at line cause.TooLong) _ (λ _. entry_gives line (contents_of bytes))
  said_gives kinds.Head line bytes = unless_gives IsFairItem (nat_lt entry_limit (length bytes)) (fault_at line cause.TooLong) _ (λ _. head_gives line (contents_of bytes))

  pub reading_gives : (line : ℕ) (bytes : List ℕ) → Gives IsFairItem (reading c line bytes)
  unfolding reading
  reading_gives line bytes = when_gives IsFairItem (is_utf8 bytes) _ (fault_at (broken_line line bytes) cause.Encoding) (λ _. said_gives (kind_of (first_line bytes)) line bytes)

-- ---- a text

abbrev AreFairItems : List Placed → Type 0
AreFairItems placed = AllByRecursion (λ p. IsFairItem p.item) placed

-- what is read and what follows it
record AreTwo {A B : Type 0} (r : Result A Fault) (f : A → Result B Fault) (y : B) : Type 0 where
  value : A
  first : r ≡ Ok value
  second : f value ≡ Ok y

two : {A B : Type 0} (r : Result A Fault) (f : A → Result B Fault) (y : B) → (r >>= f) ≡ Ok y → AreTwo r f y
two (Ok x) f y h = record { value = x; first = refl; second = h }
two (Err fault) f y h = absurd (let never : ⊥ = cc in never)

abbrev placed_as : Piece → Item → Placed
placed_as p i = record { piece = p; item = i }

listed : (xs ys : List Placed) → (let r : Result (List Placed) Fault = Ok xs in r) ≡ Ok ys → xs ≡ ys
listed xs ys h = cc

items_fair : (year : Option ℕ) (before : List Item) (text : List ℕ) (ps : List Piece) (placed : List Placed) → AllByRecursion IsToldItem before → AreToldItems placed
    → reading_from year before text ps ≡ Ok placed → AreFairItems placed
unfolding reading_from
items_fair year before text [] placed told all h = subst AreFairItems (listed [] placed h) tt
items_fair year before text (p ∷ ps) placed told all h =
    let one = two (reading (context_of year before) p.line (take p.len (drop p.at text))) (λ i. reading_from year (before ++ i ∷ []) text ps >>= λ rest. Ok (placed_as p i ∷ rest)) placed h in
    let i = one.value in
    let more = two (reading_from year (before ++ i ∷ []) text ps) (λ rest. Ok (placed_as p i ∷ rest)) placed one.second in
    let same : placed_as p i ∷ more.value ≡ placed = listed (placed_as p i ∷ more.value) placed more.second in
    let parts : AreToldItems (placed_as p i ∷ more.value) = subst AreToldItems (sym same) all in
    subst AreFairItems same (
      reading_gives (context_of year before) (sound_after year before told) p.line (take p.len (drop p.at text)) i one.first,
      items_fair year (before ++ i ∷ []) text ps more.value (all_parts IsToldItem before (i ∷ []) told (parts.0, tt)) parts.1 more.first,
    )

read_fair : (year : Option ℕ) (text : List ℕ) (items : List Placed) → items_in year text ≡ Ok items → AreFairItems items
read_fair year text items e = items_fair year [] text (items_of text) items tt (items_told year text items e) e

-- ---- styles

abbrev IsFairStyle : Style → Type 0
IsFairStyle s = IsShape None s.shape

abbrev IsFairSaid : List ℕ × Style → Type 0
IsFairSaid s = IsFairStyle s.1

abbrev AllSaid : List (List ℕ × Style) → Type 0
AllSaid said = AllByRecursion IsFairSaid said

amount_said : (a : Option Amount) → OfAmount a → AllSaid (map written_as (option_to_list a))
amount_said None h = tt
amount_said (Some a) h = (h, tt)

cost_said : (c : Option Cost) → OfCost c → AllSaid (cost_styles c)
cost_said None h = tt
cost_said (Some (costs.Unit a)) h = (h, tt)
cost_said (Some (costs.Total a)) h = (h, tt)

claim_said : (w : Option Assertion) → OfClaim w → AllSaid (wanted_styles w)
claim_said None h = tt
claim_said (Some w) h = (h, tt)

further_said : (p : Posting) → IsFairPosting p → AllSaid (further_styles p)
further_said p is = all_parts IsFairSaid (cost_styles p.cost) (wanted_styles p.wanted) (cost_said p.cost is.of_cost) (claim_said p.wanted is.of_claim)

flat_said : {A : Type 0} (P : A → Type 0) (f : A → List (List ℕ × Style)) → ((a : A) → P a → AllSaid (f a)) → (xs : List A) → AllByRecursion P xs → AllSaid (flat_map f xs)
flat_said P f one [] all = tt
flat_said P f one (x ∷ xs) all = all_parts IsFairSaid (f x) (flat_map f xs) (one x all.0) (flat_said P f one xs all.1)

rule_said : (p : Posting) → IsFairPosting p → AllSaid (rule_styles p)
rule_said p is = all_parts IsFairSaid (amount_style p) (further_styles p) (amount_said p.amount is.of_amount) (further_said p is)

commodity_by : (d : Directive) → IsFairDirective d → AllSaid (commodity_styles (item.Directive d))
commodity_by (directive.Commodity symbol (Some a)) h = (h, tt)
commodity_by (directive.Commodity symbol None) h = tt
commodity_by _ h = tt

default_by : (d : Directive) → IsFairDirective d → AllSaid (default_styles (item.Directive d))
default_by (directive.Default a) h = (h, tt)
default_by _ h = tt

commodities_said : (i : Item) → IsFairItem i → AllSaid (commodity_styles i)
commodities_said (item.Directive d) h = commodity_by d h
commodities_said _ h = tt

defaults_said : (i : Item) → IsFairItem i → AllSaid (default_styles i)
defaults_said (item.Directive d) h = default_by d h
defaults_said _ h = tt

firsts_said : (i : Item) → IsFairItem i → AllSaid (first_class i)
firsts_said (item.Txn t) h = flat_said IsFairPosting amount_style (λ p is. amount_said p.amount is.of_amount) t.postings h
firsts_said _ h = tt

seconds_said : (i : Item) → IsFairItem i → AllSaid (second_class i)
seconds_said (item.Txn t) h = flat_said IsFairPosting further_styles further_said t.postings h
seconds_said (item.Auto r) h = flat_said IsFairRule (λ (p : RulePosting). rule_styles p.posting) (λ p is. rule_said p.posting is) r.postings h
seconds_said (item.Periodic r) h = flat_said IsFairPosting rule_styles rule_said r.postings h
seconds_said (item.Price p) h = (h, tt)
seconds_said _ h = tt

abbrev AllFair : List Style → Type 0
AllFair styles = AllByRecursion IsFairStyle styles

symbol_fair : (symbol : List ℕ) (said : List (List ℕ × Style)) → AllSaid said → AllFair (of_symbol symbol said)
symbol_fair symbol [] all = tt
symbol_fair symbol (s ∷ ss) all = by (bytes_eq s.0 symbol) (symbol_fair symbol ss all.1)
  where
    by : (t : Bool) → AllFair (of_symbol symbol ss) → AllFair (map (λ (x : List ℕ × Style). x.1) (cond t (s ∷ filter (λ (x : List ℕ × Style). bytes_eq x.0 symbol) ss) (filter (λ (x : List ℕ × Style). bytes_eq x.0 symbol) ss)))
    by true rest = (all.0, rest)
    by false rest = rest

said_fair : (saying : Item → List (List ℕ × Style)) → ((i : Item) → IsFairItem i → AllSaid (saying i)) → (items : List Placed) (symbol : List ℕ) → AreFairItems items → AllFair (said_in saying items symbol)
said_fair saying one [] symbol all = tt
said_fair saying one (p ∷ ps) symbol all =
    all_parts IsFairStyle (of_symbol symbol (saying p.item)) (said_in saying ps symbol) (symbol_fair symbol (saying p.item) (one p.item all.0)) (said_fair saying one ps symbol all.1)

last_fair : (styles : List Style) (other : Style) → AllFair styles → IsFairStyle other → IsFairStyle (last_else styles other)
last_fair [] other all h = h
last_fair (s ∷ ss) other all h = last_fair ss s all.1 all.0

first_fair : (styles : List Style) (other : Style) → AllFair styles → IsFairStyle other → IsFairStyle (first_else styles other)
first_fair [] other all h = h
first_fair (s ∷ ss) other all h = all.0

style_fair : (items : List Placed) (symbol : List ℕ) → AreFairItems items → IsFairStyle (style_of items symbol)
style_fair items symbol all =
    let seconds = said_in second_class items symbol in
    let firsts = said_in first_class items symbol in
    let defaults = said_in default_styles items symbol in
    let commodities = said_in commodity_styles items symbol in
    let of_second = first_else seconds default_style in
    let of_first = first_else firsts of_second in
    let of_default = last_else defaults of_first in
    last_fair commodities of_default (said_fair commodity_styles commodities_said items symbol all)
    (last_fair defaults of_first (said_fair default_styles defaults_said items symbol all)
    (first_fair firsts of_second (said_fair first_class firsts_said items symbol all)
    (first_fair seconds default_style (said_fair second_class seconds_said items symbol all) (record { mark = refl; group = tt; decided = tt }))))

pub styles_show : (year : Option ℕ) (text : List ℕ) (items : List Placed) (styles : Styles) → items_in year text ≡ Ok items → ((symbol : List ℕ) → style_in styles symbol ≡ style_of items symbol)
    → AreShapes (styled styles)
styles_show year text items styles read same a = subst IsFairStyle (sym (same a.symbol)) (style_fair items a.symbol (read_fair year text items read))
