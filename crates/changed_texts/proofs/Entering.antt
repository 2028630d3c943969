-- An entry further down says the same in later lines.
use Rattle.std.proofs.Common.{◌≡◌, ℕ, ◌+◌, Bool, true, false, ◌&&◌, List, [], ◌∷◌, map, take, drop, Option, Some, None, Result, Ok, Err, refl}
use Rattle.std.specs.Prelude.{is_some}
use Rattle.std.specs.List.{prefix_len, take_while}
use Rattle.hl_num.specs.Reading.{is_number_byte}
use Rattle.hl_num.specs.Reading as numbers
use Rattle.hl_num.specs.declared.reading.BadNumber.{BadNumber}
use Rattle.hl_num.specs.declared.reading.Number.{Number}
use Rattle.hl_time.specs.Calendar.{year_of}
use Rattle.hl_time.specs.Date.{date_of}
use Rattle.hl_time.specs.declared.day.Day.{Day}
use Rattle.book.specs.declared.fault.Cause.{Cause}
use Rattle.book.specs.declared.fault.Cause.TheVariants as cause
use Rattle.book.specs.declared.fault.Fault.{Fault}
use Rattle.book.specs.declared.item.Item.TheVariants as item
use Rattle.book.specs.declared.rules.RulePosting.{RulePosting}
use Rattle.book.specs.declared.transaction.Side.{Side}
use Rattle.entry_reader.specs.Accounts.{account_at, account_len, name_in, name_of}
use Rattle.entry_reader.specs.Amounts.{after_claim, after_sign, amount_at, assertion_at, cost_at, factor_at, factor_mark, left_at, number_or_fault, right_at, right_of, total_mark, unit_mark, written_symbol}
use Rattle.entry_reader.specs.Causes.{fault_at}
use Rattle.entry_reader.specs.Comments.{comments_in, date_value, day_in, day_or, day_written, is_comment}
use Rattle.entry_reader.specs.Contexts.{Context, decided_mark}
use Rattle.entry_reader.specs.Entries.{entry_of, entry_with, txn_from}
use Rattle.entry_reader.specs.Heads.{day_at, day_before, ends_word, head_of, is_date_byte, mark_at}
use Rattle.entry_reader.specs.Lines.{after_white}
use Rattle.entry_reader.specs.Postings.{claim_at, cost_behind, each_of, ending_of, is_written, numbers_at, own_day, periodic_postings_of, posting_from, posting_line, posting_of, postings_of, quantity_at, rule_posting_of, rule_postings_of, says_much}
use Rattle.entry_reader.specs.declared.quantity.Holder.{Holder}
use Rattle.entry_reader.specs.declared.quantity.Holder.TheVariants as holder
use Rattle.moved_lines.specs.Relined.{relined_posting}
use Rattle.changed_texts.proofs.Late.{Late, alike-ok, alike-then, late-err, late-if, late-ok, late-then, later, next}
use Rattle.changed_texts.proofs.Relining.{relined_item, relined_rule}

-- a posting and the comment on its line
abbrev line_later : ℕ → RulePosting × List ℕ → RulePosting × List ℕ
line_later n p = (relined_rule (later n) p.0, p.1)

module _ (n l m : ℕ) (e : m ≡ later n l) where
  pub bad : {A : Type 0} {f : A → A} (c : Cause) → Late (later n) f (Err (fault_at l c)) (Err (fault_at m c))
  bad c = late-err l m c e

  -- ---- the head of an entry

  before-late : (rest : List ℕ) (r : Result ℕ ℕ) → Late (later n) (λ x. x) (day_before l rest r) (day_before m rest r)
  before-late rest (Err at) = bad cause.Date
  before-late rest (Ok day) = late-if (ends_word rest) (alike-ok _) (bad cause.Form)

  pub day-late : (year : Option ℕ) (text : List ℕ) → Late (later n) (λ x. x) (day_at year l text) (day_at year m text)
  unfolding day_at
  day-late year text = before-late (drop (prefix_len is_date_byte text) text) (date_of (take_while is_date_byte text) year)

  mark-late : (text : List ℕ) → Late (later n) (λ x. x) (mark_at l text) (mark_at m text)
  unfolding mark_at
  mark-late text = late-if _ (bad cause.StatusMark) (alike-ok _)

  head-late : (context : Context) (content : List ℕ) → Late (later n) (λ x. x) (head_of context l content) (head_of context m content)
  unfolding head_of
  head-late context content =
      alike-then (day_at context.year l content) (day_at context.year m content) _ _ (day-late context.year content) (λ day.
      alike-then (mark_at l day.1) (mark_at m day.1) _ _ (mark-late day.1) (λ mark. alike-ok _))

  -- ---- days of postings

  written-late : (r : Result ℕ ℕ) → Late (later n) (λ x. x) (day_written l r) (day_written m r)
  written-late (Ok day) = alike-ok _
  written-late (Err at) = bad cause.Date

  or-late : (o : Option (List ℕ)) (year : ℕ) (r s : Result (Option Day) Fault) → Late (later n) (λ x. x) r s → Late (later n) (λ x. x) (day_or o year l r) (day_or o year m s)
  or-late None year r s h = h
  or-late (Some value) year r s h = written-late (date_of value (Some year))

  -- ---- accounts

  pub name-late : (context : Context) (name : List ℕ) → Late (later n) (λ x. x) (name_in context l name) (name_in context m name)
  name-late context name = late-if _ (alike-ok _) (bad cause.Account)

  account-late : (context : Context) (text : List ℕ) → Late (later n) (λ x. x) (account_at context l text) (account_at context m text)
  account-late context text = alike-then (name_in context l (name_of text)) (name_in context m (name_of text)) _ _ (name-late context (name_of text)) (λ name. alike-ok _)

  -- ---- amounts

  left-late : (text : List ℕ) → Late (later n) (λ x. x) (left_at l text) (left_at m text)
  unfolding left_at
  left-late text = late-if _ (bad cause.Quote) (late-if _ (bad cause.Number) (alike-ok _))

  number-late : (r : Result Number BadNumber) → Late (later n) (λ x. x) (number_or_fault l r) (number_or_fault m r)
  number-late (Ok number) = alike-ok _
  number-late (Err fault) = bad cause.Number

  pub amount-late : (context : Context) (text : List ℕ) → Late (later n) (λ x. x) (amount_at context l text) (amount_at context m text)
  unfolding amount_at
  amount-late context text =
      alike-then (left_at l text) (left_at m text) _ _ (left-late text) (λ left.
      let number = numbers.reading (take_while is_number_byte left.rest) (decided_mark context (written_symbol left (right_of left))) in
      alike-then (number_or_fault l number) (number_or_fault m number) _ _ (number-late number) (λ number. late-if _ (alike-ok _) (bad cause.Quote)))

  factor-late : (context : Context) (text : List ℕ) → Late (later n) (λ x. x) (factor_at context l text) (factor_at context m text)
  unfolding factor_at
  factor-late context text =
      let rest = after_sign text in
      let right = right_at false (drop (prefix_len is_number_byte rest) rest) in
      let number = numbers.reading (take_while is_number_byte rest) (factor_mark context right.symbol) in
      alike-then (number_or_fault l number) (number_or_fault m number) _ _ (number-late number) (λ number. late-if _ (alike-ok _) (bad cause.Quote))

  assertion-late : (context : Context) (text : List ℕ) → Late (later n) (λ x. x) (assertion_at context l text) (assertion_at context m text)
  unfolding assertion_at
  assertion-late context text =
      let rest = after_white (after_claim text) in
      alike-then (amount_at context l rest) (amount_at context m rest) _ _ (amount-late context rest) (λ a. alike-ok _)

  cost-late : (context : Context) (text : List ℕ) → Late (later n) (λ x. x) (cost_at context l text) (cost_at context m text)
  unfolding cost_at
  cost-late context text =
      let total = after_white (drop (total_mark text) text) in
      let unit = after_white (drop (unit_mark text) text) in
      late-if _ (alike-then (amount_at context l total) (amount_at context m total) _ _ (amount-late context total) (λ a. alike-ok _))
      (late-if _ (alike-then (amount_at context l unit) (amount_at context m unit) _ _ (amount-late context unit) (λ a. alike-ok _)) (alike-ok _))

  -- ---- what a posting says of numbers

  quantity-late : (h : Holder) (context : Context) (text : List ℕ) → Late (later n) (λ x. x) (quantity_at h context l text) (quantity_at h context m text)
  unfolding quantity_at
  quantity-late h context text =
      let rest = after_white (drop 1 text) in
      late-if _ (alike-ok _)
      (late-if _ (alike-then (factor_at context l rest) (factor_at context m rest) _ _ (factor-late context rest) (λ f. alike-ok _))
      (alike-then (amount_at context l text) (amount_at context m text) _ _ (amount-late context text) (λ a. alike-ok _)))

  behind-late : (said : Bool) (context : Context) (text : List ℕ) → Late (later n) (λ x. x) (cost_behind said context l text) (cost_behind said context m text)
  behind-late true context text = cost-late context text
  behind-late false context text = alike-ok _

  claim-late : (h : Holder) (context : Context) (text : List ℕ) → Late (later n) (λ x. x) (claim_at h context l text) (claim_at h context m text)
  unfolding claim_at
  claim-late h context text =
      late-if _ (alike-then (assertion_at context l text) (assertion_at context m text) _ _ (assertion-late context text) (λ a. alike-ok _)) (alike-ok _)

  numbers-late : (h : Holder) (context : Context) (text : List ℕ) → Late (later n) (λ x. x) (numbers_at h context l text) (numbers_at h context m text)
  unfolding numbers_at
  numbers-late h context text =
      alike-then (quantity_at h context l text) (quantity_at h context m text) _ _ (quantity-late h context text) (λ q.
      alike-then (cost_behind (is_written q.0) context l q.1) (cost_behind (is_written q.0) context m q.1) _ _ (behind-late (is_written q.0) context q.1) (λ k.
      alike-then (claim_at h context l k.1) (claim_at h context m k.1) _ _ (claim-late h context k.1) (λ w.
      alike-then (cost_behind (is_some (q.0).0 && is_some w.0) context l w.1) (cost_behind (is_some (q.0).0 && is_some w.0) context m w.1) _ _ (behind-late (is_some (q.0).0 && is_some w.0) context w.1) (λ ignored.
      alike-ok _))))

  -- ---- postings

  ending-late : (side : Side) (says : Bool) (text : List ℕ) → Late (later n) (λ x. x) (ending_of l side says text) (ending_of m side says text)
  ending-late side says text = late-if _ (bad cause.Form) (late-if _ (bad cause.Form) (alike-ok _))

  line-late : (h : Holder) (context : Context) (content : List ℕ) → Late (later n) (line_later n) (posting_line h context l content) (posting_line h context m content)
  unfolding posting_line
  line-late h context content =
      alike-then (mark_at l (after_white content)) (mark_at m (after_white content)) _ _ (mark-late (after_white content)) (λ mark.
      let name = take (account_len mark.1) mark.1 in
      let rest = after_white (drop (account_len mark.1) mark.1) in
      alike-then (account_at context l name) (account_at context m name) _ _ (account-late context name) (λ account.
      alike-then (numbers_at h context l rest) (numbers_at h context m rest) _ _ (numbers-late h context rest) (λ ns.
      alike-then (ending_of l account.0 (says_much ns.0) ns.1) (ending_of m account.0 (says_much ns.0) ns.1) _ _ (ending-late account.0 (says_much ns.0) ns.1) (λ own.
      late-ok (line_later n) _ _ (λ i. (posting_from (e i) mark.0 account ns.0, own))))))

pub days-late : (n year l m : ℕ) (texts : List (List ℕ)) → m ≡ later n l → Late (later n) (λ x. x) (day_in year l texts) (day_in year m texts)
days-late n year l m [] e = alike-ok _
days-late n year l m (text ∷ texts) e =
    or-late n l m e (date_value text) year (day_in year (l + 1) texts) (day_in year (m + 1) texts) (days-late n year (l + 1) (m + 1) texts (next n l m e))

module _ (n l m : ℕ) (e : m ≡ later n l) where
  own-late : (h : Holder) (texts : List (List ℕ)) → Late (later n) (λ x. x) (own_day h l texts) (own_day h m texts)
  own-late (holder.Entry year) texts = days-late n year l m texts e
  own-late holder.Periodic texts = alike-ok _
  own-late holder.Auto texts = alike-ok _

  rule-late : (h : Holder) (context : Context) (content : List ℕ) (after : List (List ℕ)) → Late (later n) (relined_rule (later n)) (rule_posting_of h context l content after) (rule_posting_of h context m content after)
  unfolding rule_posting_of
  rule-late h context content after =
      late-if _ (bad n l m e cause.Form)
      (late-then (posting_line h context l content) (posting_line h context m content) _ _ (line-late n l m e h context content) (λ p.
      alike-then (own_day h l (p.1 ∷ comments_in after)) (own_day h m (p.1 ∷ comments_in after)) _ _ (own-late h (p.1 ∷ comments_in after)) (λ day. late-ok (relined_rule (later n)) _ _ refl)))

  posting-late : (h : Holder) (context : Context) (content : List ℕ) (after : List (List ℕ)) → Late (later n) (relined_posting (later n)) (posting_of h context l content after) (posting_of h context m content after)
  posting-late h context content after =
      late-then (rule_posting_of h context l content after) (rule_posting_of h context m content after) _ _ (rule-late h context content after) (λ p. late-ok (relined_posting (later n)) _ _ refl)

-- how one of some lines is read, from its line, its content and the lines after it
abbrev Reads : Type 0 → Type 0
Reads A = ℕ → List ℕ → List (List ℕ) → Result A Fault

each-late : {A : Type 0} (n : ℕ) (f : A → A) (reads : Reads A) → ((l m : ℕ) → m ≡ later n l → (c : List ℕ) (cs : List (List ℕ)) → Late (later n) f (reads l c cs) (reads m c cs))
    → (l m : ℕ) → m ≡ later n l → (cs : List (List ℕ)) → Late (later n) (map f) (each_of reads l cs) (each_of reads m cs)
unfolding each_of
each-late n f reads one l m e [] = late-ok (map f) [] [] refl
each-late n f reads one l m e (c ∷ cs) =
    late-if (is_comment c) (each-late n f reads one (l + 1) (m + 1) (next n l m e) cs)
    (late-then (reads l c cs) (reads m c cs) _ _ (one l m e c cs) (λ p.
    late-then (each_of reads (l + 1) cs) (each_of reads (m + 1) cs) _ _ (each-late n f reads one (l + 1) (m + 1) (next n l m e) cs) (λ ps. late-ok (map f) _ _ refl)))

module _ (n l m : ℕ) (e : m ≡ later n l) where
  postings-late : (context : Context) (year : ℕ) (lines : List (List ℕ)) → Late (later n) (map (relined_posting (later n))) (postings_of context year l lines) (postings_of context year m lines)
  postings-late context year lines =
      each-late n (relined_posting (later n)) (posting_of (holder.Entry year) context) (λ i j same c cs. posting-late n i j same (holder.Entry year) context c cs) l m e lines

  pub periodic-late : (context : Context) (lines : List (List ℕ)) → Late (later n) (map (relined_posting (later n))) (periodic_postings_of context l lines) (periodic_postings_of context m lines)
  periodic-late context lines =
      each-late n (relined_posting (later n)) (posting_of holder.Periodic context) (λ i j same c cs. posting-late n i j same holder.Periodic context c cs) l m e lines

  pub rules-late : (context : Context) (lines : List (List ℕ)) → Late (later n) (map (relined_rule (later n))) (rule_postings_of context l lines) (rule_postings_of context m lines)
  rules-late context lines =
      each-late n (relined_rule (later n)) (rule_posting_of holder.Auto context) (λ i j same c cs. rule-late n i j same holder.Auto context c cs) l m e lines

with-late : (n l m : ℕ) (e : m ≡ later n l) (context : Context) (content : List ℕ) (after : List (List ℕ)) → Late (later n) (relined_item (later n)) (entry_with context l content after) (entry_with context m content after)
unfolding entry_with
with-late n l m e context content after =
    alike-then (head_of context l content) (head_of context m content) _ _ (head-late n l m e context content) (λ head.
    late-then (postings_of context (year_of head.day) (l + 1) after) (postings_of context (year_of head.day) (m + 1) after) _ _ (postings-late n (l + 1) (m + 1) (next n l m e) context (year_of head.day) after) (λ ps.
    late-ok (relined_item (later n)) _ _ (λ i. item.Txn (txn_from (e i) head (comments_in after) (map (relined_posting (later n)) ps)))))

pub entry-late : (n l m : ℕ) (e : m ≡ later n l) (context : Context) (contents : List (List ℕ)) → Late (later n) (relined_item (later n)) (entry_of context l contents) (entry_of context m contents)
entry-late n l m e context [] = bad n l m e cause.Form
entry-late n l m e context (content ∷ after) = with-late n l m e context content after
