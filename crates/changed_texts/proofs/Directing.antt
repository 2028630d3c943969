-- A directive, a price or a rule further down says the same in later lines.
use Rattle.std.proofs.Common.{◌≡◌, ℕ, ◌+◌, List, [], ◌∷◌, map, drop, Option, Some, None, Result, Ok, Err, refl}
use Rattle.hl_time.specs.Calendar.{last_day}
use Rattle.hl_time.specs.Periods.{period_of}
use Rattle.hl_time.specs.declared.fault.TimeFault.{TimeFault}
use Rattle.hl_time.specs.declared.spans.Period.{Period}
use Rattle.book.specs.declared.amount.Amount.{Amount}
use Rattle.book.specs.declared.directive.Directive.{Directive}
use Rattle.book.specs.declared.directive.Directive.TheVariants as directive
use Rattle.book.specs.declared.fault.Cause.TheVariants as cause
use Rattle.book.specs.declared.fault.Fault.{Fault}
use Rattle.book.specs.declared.item.Item.TheVariants as item
use Rattle.directive_reader.specs.AccountTypes.{letter_in, letter_or, letter_said, type_of, type_value}
use Rattle.directive_reader.specs.Commodities.{after_format, amount_directive, commodity_of, default_of, format_at, format_in, formatted, symbol_directive}
use Rattle.directive_reader.specs.Declarations as declarations
use Rattle.directive_reader.specs.Directives.{head_item, item_by, item_with}
use Rattle.directive_reader.specs.Endings.{before_comment, closing, comments_only, ending_at}
use Rattle.directive_reader.specs.Keywords.{keyword_at}
use Rattle.directive_reader.specs.Prices.{after_time, price_of, symbol_at}
use Rattle.directive_reader.specs.QueryWords.{query_words}
use Rattle.directive_reader.specs.Rules.{auto_of, description, period_text, periodic_of, rule_period, unbound}
use Rattle.directive_reader.specs.declared.keyword.Keyword.{Keyword}
use Rattle.directive_reader.specs.declared.keyword.Keyword.TheVariants as keywords
use Rattle.entry_reader.specs.Accounts.{name_in}
use Rattle.entry_reader.specs.Amounts.{amount_at}
use Rattle.entry_reader.specs.Causes.{fault_at, ◌>>=◌}
use Rattle.entry_reader.specs.Heads.{day_at}
use Rattle.entry_reader.specs.Comments.{comments_in, is_comment}
use Rattle.entry_reader.specs.Contexts.{Context}
use Rattle.entry_reader.specs.Lines.{after_white}
use Rattle.entry_reader.specs.Postings.{periodic_postings_of, rule_postings_of}
use Rattle.entry_reader.specs.Symbols.{symbol_name}
use Rattle.moved_lines.specs.Relined.{relined_posting}
use Rattle.changed_texts.proofs.Entering.{amount-late, bad, day-late, name-late, periodic-late, rules-late}
use Rattle.changed_texts.proofs.Late.{Late, alike-ok, alike-then, late-if, late-ok, late-then, later, next}
use Rattle.changed_texts.proofs.Relining.{relined_auto, relined_item, relined_periodic, relined_rule}

-- ---- lines that are gone through one after another

comments-late : (n l m : ℕ) (cs : List (List ℕ)) → m ≡ later n l → Late (later n) (λ x. x) (comments_only l cs) (comments_only m cs)
unfolding comments_only
comments-late n l m [] e = alike-ok _
comments-late n l m (c ∷ cs) e = late-if (is_comment c) (comments-late n (l + 1) (m + 1) cs (next n l m e)) (bad n l m e cause.Form)

said-late : (n l m : ℕ) (e : m ≡ later n l) (o : Option ℕ) → Late (later n) (λ x. x) (letter_or l o) (letter_or m o)
said-late n l m e None = bad n l m e cause.Directive
said-late n l m e (Some letter) = alike-ok _

letter-late : (n l m : ℕ) (e : m ≡ later n l) (o : Option (List ℕ)) (r s : Result (Option ℕ) Fault) → Late (later n) (λ x. x) r s → Late (later n) (λ x. x) (letter_said l o r) (letter_said m o s)
letter-late n l m e None r s h = h
letter-late n l m e (Some value) r s h = said-late n l m e (type_of value)

letters-late : (n l m : ℕ) (texts : List (List ℕ)) → m ≡ later n l → Late (later n) (λ x. x) (letter_in l texts) (letter_in m texts)
unfolding letter_in
letters-late n l m [] e = alike-ok _
letters-late n l m (text ∷ texts) e =
    letter-late n l m e (type_value text) (letter_in (l + 1) texts) (letter_in (m + 1) texts) (letters-late n (l + 1) (m + 1) texts (next n l m e))

module _ (n l m : ℕ) (e : m ≡ later n l) where
  -- ---- how directives end

  closing-late : (text : List ℕ) (after : List (List ℕ)) → Late (later n) (λ x. x) (closing l text after) (closing m text after)
  unfolding closing
  closing-late text after = late-if _ (comments-late n (l + 1) (m + 1) after (next n l m e)) (bad n l m e cause.Form)

  ending-late : (text : List ℕ) → Late (later n) (λ x. x) (ending_at l text) (ending_at m text)
  unfolding ending_at
  ending-late text = late-if _ (alike-ok _) (bad n l m e cause.Form)

  -- what is closed
  closed-late : (text : List ℕ) (after : List (List ℕ)) (d : Directive) → Late (later n) (λ x. x) (closing l text after >>= λ done. Ok d) (closing m text after >>= λ done. Ok d)
  closed-late text after d = alike-then (closing l text after) (closing m text after) (λ done. Ok d) (λ done. Ok d) (closing-late text after) (λ done. alike-ok _)

  commented-late : (after : List (List ℕ)) (d : Directive) → Late (later n) (λ x. x) (comments_only (l + 1) after >>= λ done. Ok d) (comments_only (m + 1) after >>= λ done. Ok d)
  commented-late after d =
      alike-then (comments_only (l + 1) after) (comments_only (m + 1) after) (λ done. Ok d) (λ done. Ok d) (comments-late n (l + 1) (m + 1) after (next n l m e)) (λ done. alike-ok _)

  -- ---- commodities

  formatted-late : (symbol : List ℕ) (read : Amount × List ℕ) → Late (later n) (λ x. x) (formatted symbol l read) (formatted symbol m read)
  formatted-late symbol read = late-if _ (alike-ok _) (bad n l m e cause.Form)

  format-late : (context : Context) (symbol content : List ℕ) → Late (later n) (λ x. x) (format_at context symbol l content) (format_at context symbol m content)
  unfolding format_at
  format-late context symbol content =
      late-if _ (bad n l m e cause.Form)
      (alike-then (amount_at context l (after_format content)) (amount_at context m (after_format content)) _ _ (amount-late n l m e context (after_format content)) (λ a. formatted-late symbol a))

  -- ---- names, the year and the decimal mark

  label-late : (text : List ℕ) → Late (later n) (λ x. x) (declarations.label_at l text) (declarations.label_at m text)
  unfolding declarations.label_at
  label-late text = late-if _ (alike-ok _) (bad n l m e cause.Form)

  account-late : (context : Context) (text : List ℕ) (after : List (List ℕ)) → Late (later n) (λ x. x) (declarations.account_of context l text after) (declarations.account_of context m text after)
  unfolding declarations.account_of
  account-late context text after =
      let rest = declarations.after_name text in
      alike-then (name_in context l (declarations.name_at text)) (name_in context m (declarations.name_at text)) _ _ (name-late n l m e context (declarations.name_at text)) (λ name.
      alike-then (ending_at l rest) (ending_at m rest) _ _ (ending-late rest) (λ own.
      alike-then (letter_in l (own ∷ comments_in after)) (letter_in m (own ∷ comments_in after)) _ _ (letters-late n l m (own ∷ comments_in after) e) (λ letter.
      commented-late after (directive.Account name letter))))

  apply-late : (text : List ℕ) (after : List (List ℕ)) → Late (later n) (λ x. x) (declarations.apply_of l text after) (declarations.apply_of m text after)
  unfolding declarations.apply_of
  apply-late text after = late-if _ (closed-late (declarations.after_name text) after (directive.Apply (declarations.name_at text))) (bad n l m e cause.Account)

  end-apply-late : (context : Context) (text : List ℕ) (after : List (List ℕ)) → Late (later n) (λ x. x) (declarations.end_apply_of context l text after) (declarations.end_apply_of context m text after)
  unfolding declarations.end_apply_of
  end-apply-late context text after = late-if _ (closed-late text after directive.EndApply) (bad n l m e cause.Directive)

  end-aliases-late : (text : List ℕ) (after : List (List ℕ)) → Late (later n) (λ x. x) (declarations.end_aliases_of l text after) (declarations.end_aliases_of m text after)
  unfolding declarations.end_aliases_of
  end-aliases-late text after = closed-late text after directive.EndAliases

  alias-late : (text : List ℕ) (after : List (List ℕ)) → Late (later n) (λ x. x) (declarations.alias_of l text after) (declarations.alias_of m text after)
  unfolding declarations.alias_of
  alias-late text after = late-if _ (commented-late after (directive.Alias (declarations.old_name text) (declarations.new_name text))) (bad n l m e cause.Form)

  payee-late : (text : List ℕ) (after : List (List ℕ)) → Late (later n) (λ x. x) (declarations.payee_of l text after) (declarations.payee_of m text after)
  unfolding declarations.payee_of
  payee-late text after =
      alike-then (declarations.label_at l text) (declarations.label_at m text) _ _ (label-late text) (λ name. commented-late after (directive.Payee name))

  tag-late : (text : List ℕ) (after : List (List ℕ)) → Late (later n) (λ x. x) (declarations.tag_of l text after) (declarations.tag_of m text after)
  unfolding declarations.tag_of
  tag-late text after =
      alike-then (declarations.label_at l text) (declarations.label_at m text) _ _ (label-late text) (λ name. commented-late after (directive.TagName name))

  year-by : (o : Option ℕ) (rest : List ℕ) (after : List (List ℕ)) → Late (later n) (λ x. x) (declarations.year_with l o rest after) (declarations.year_with m o rest after)
  year-by None rest after = bad n l m e cause.Form
  year-by (Some year) rest after = closed-late rest after (directive.Year year)

  year-late : (text : List ℕ) (after : List (List ℕ)) → Late (later n) (λ x. x) (declarations.year_of l text after) (declarations.year_of m text after)
  unfolding declarations.year_of
  year-late text after = year-by (declarations.four_digits text) (declarations.after_digits text) after

  mark-by : (o : Option ℕ) (rest : List ℕ) (after : List (List ℕ)) → Late (later n) (λ x. x) (declarations.decimal_mark_with l o rest after) (declarations.decimal_mark_with m o rest after)
  mark-by None rest after = bad n l m e cause.Form
  mark-by (Some mark) rest after = closed-late rest after (directive.DecimalMark mark)

  mark-late : (text : List ℕ) (after : List (List ℕ)) → Late (later n) (λ x. x) (declarations.decimal_mark_of l text after) (declarations.decimal_mark_of m text after)
  unfolding declarations.decimal_mark_of
  mark-late text after = mark-by (declarations.mark_at text) (after_white (drop 1 text)) after

  -- ---- prices and rules

  symbol-late : (text : List ℕ) → Late (later n) (λ x. x) (symbol_at l text) (symbol_at m text)
  unfolding symbol_at
  symbol-late text = late-if _ (bad n l m e cause.Form) (late-if _ (alike-ok _) (bad n l m e cause.Quote))

  price-late : (context : Context) (text : List ℕ) (after : List (List ℕ)) → Late (later n) (λ x. x) (price_of context l text after) (price_of context m text after)
  unfolding price_of
  price-late context text after =
      alike-then (day_at context.year l text) (day_at context.year m text) _ _ (day-late n l m e context.year text) (λ day.
      alike-then (symbol_at l (after_time day.1)) (symbol_at m (after_time day.1)) _ _ (symbol-late (after_time day.1)) (λ symbol.
      alike-then (amount_at context l symbol.1) (amount_at context m symbol.1) _ _ (amount-late n l m e context symbol.1) (λ a.
      alike-then (closing l a.1 after) (closing m a.1 after) _ _ (closing-late a.1 after) (λ done. alike-ok _))))

  auto-late : (context : Context) (text : List ℕ) (after : List (List ℕ)) → Late (later n) (relined_auto (later n)) (auto_of context l text after) (auto_of context m text after)
  unfolding auto_of
  auto-late context text after =
      late-then (rule_postings_of context (l + 1) after) (rule_postings_of context (m + 1) after) _ _ (rules-late n (l + 1) (m + 1) (next n l m e) context after) (λ ps.
      late-ok (relined_auto (later n)) _ _ (λ i. record { line = e i; words = query_words (before_comment text); postings = map (relined_rule (later n)) ps }))

  unbound-late : (r s : Result Period TimeFault) → Late (later n) (λ x. x) (unbound l r s) (unbound m r s)
  unbound-late (Ok one) (Ok other) = late-if _ (alike-ok _) (bad n l m e cause.Date)
  unbound-late (Ok one) (Err fault) = bad n l m e cause.Date
  unbound-late (Err fault) s = bad n l m e cause.Date

  period-late : (text : List ℕ) → Late (later n) (λ x. x) (rule_period l text) (rule_period m text)
  unfolding rule_period
  period-late text = unbound-late (period_of text 1) (period_of text last_day)

  periodic-of-late : (context : Context) (text : List ℕ) (after : List (List ℕ)) → Late (later n) (relined_periodic (later n)) (periodic_of context l text after) (periodic_of context m text after)
  unfolding periodic_of
  periodic-of-late context text after =
      let words = period_text (before_comment text) in
      alike-then (rule_period l words) (rule_period m words) _ _ (period-late words) (λ period.
      late-then (periodic_postings_of context (l + 1) after) (periodic_postings_of context (m + 1) after) _ _ (periodic-late n (l + 1) (m + 1) (next n l m e) context after) (λ ps.
      late-ok (relined_periodic (later n)) _ _ (λ i. record { line = e i; period = period; description = description (before_comment text); postings = map (relined_posting (later n)) ps })))

formats-late : (n l m : ℕ) (context : Context) (symbol : List ℕ) (cs : List (List ℕ)) → m ≡ later n l → Late (later n) (λ x. x) (format_in context symbol l cs) (format_in context symbol m cs)
unfolding format_in
formats-late n l m context symbol [] e = alike-ok _
formats-late n l m context symbol (c ∷ cs) e =
    late-if (is_comment c) (formats-late n (l + 1) (m + 1) context symbol cs (next n l m e))
    (alike-then (format_at context symbol l c) (format_at context symbol m c) _ _ (format-late n l m e context symbol c) (λ a.
    alike-then (comments_only (l + 1) cs) (comments_only (m + 1) cs) _ _ (comments-late n (l + 1) (m + 1) cs (next n l m e)) (λ done. alike-ok _)))

module _ (n l m : ℕ) (e : m ≡ later n l) where
  symbol-directive-late : (context : Context) (text : List ℕ) (after : List (List ℕ)) → Late (later n) (λ x. x) (symbol_directive context l text after) (symbol_directive context m text after)
  unfolding symbol_directive
  symbol-directive-late context text after =
      alike-then (format_in context (symbol_name text) (l + 1) after) (format_in context (symbol_name text) (m + 1) after) _ _
      (formats-late n (l + 1) (m + 1) context (symbol_name text) after (next n l m e)) (λ amount. alike-ok _)

  amount-directive-late : (context : Context) (text : List ℕ) (after : List (List ℕ)) → Late (later n) (λ x. x) (amount_directive context l text after) (amount_directive context m text after)
  unfolding amount_directive
  amount-directive-late context text after =
      alike-then (amount_at context l text) (amount_at context m text) _ _ (amount-late n l m e context text) (λ a. closed-late n l m e a.1 after (directive.Commodity (a.0).symbol (Some a.0)))

  commodity-late : (context : Context) (text : List ℕ) (after : List (List ℕ)) → Late (later n) (λ x. x) (commodity_of context l text after) (commodity_of context m text after)
  commodity-late context text after = late-if _ (symbol-directive-late context text after) (amount-directive-late context text after)

  default-late : (context : Context) (text : List ℕ) (after : List (List ℕ)) → Late (later n) (λ x. x) (default_of context l text after) (default_of context m text after)
  unfolding default_of
  default-late context text after =
      alike-then (amount_at context l text) (amount_at context m text) _ _ (amount-late n l m e context text) (λ a. closed-late n l m e a.1 after (directive.Default a.0))

  -- ---- what begins with a keyword

  as-item : (r s : Result Directive Fault) → Late (later n) (λ x. x) r s → Late (later n) (relined_item (later n)) (r >>= λ d. Ok (item.Directive d)) (s >>= λ d. Ok (item.Directive d))
  as-item r s h = alike-then r s (λ d. Ok (item.Directive d)) (λ d. Ok (item.Directive d)) h (λ d. late-ok (relined_item (later n)) (item.Directive d) (item.Directive d) refl)

  by-late : (k : Keyword) (context : Context) (text : List ℕ) (after : List (List ℕ)) → Late (later n) (relined_item (later n)) (item_by k context l text after) (item_by k context m text after)
  by-late keywords.Price context text after =
      alike-then (price_of context l text after) (price_of context m text after) _ _ (price-late n l m e context text after) (λ p. late-ok (relined_item (later n)) _ _ refl)
  by-late keywords.Auto context text after =
      late-then (auto_of context l text after) (auto_of context m text after) _ _ (auto-late n l m e context text after) (λ r. late-ok (relined_item (later n)) _ _ refl)
  by-late keywords.Periodic context text after =
      late-then (periodic_of context l text after) (periodic_of context m text after) _ _ (periodic-of-late n l m e context text after) (λ r. late-ok (relined_item (later n)) _ _ refl)
  by-late keywords.Commodity context text after = as-item (commodity_of context l text after) (commodity_of context m text after) (commodity-late context text after)
  by-late keywords.Default context text after = as-item (default_of context l text after) (default_of context m text after) (default-late context text after)
  by-late keywords.Account context text after = as-item (declarations.account_of context l text after) (declarations.account_of context m text after) (account-late n l m e context text after)
  by-late keywords.Year context text after = as-item (declarations.year_of l text after) (declarations.year_of m text after) (year-late n l m e text after)
  by-late keywords.Apply context text after = as-item (declarations.apply_of l text after) (declarations.apply_of m text after) (apply-late n l m e text after)
  by-late keywords.EndApply context text after = as-item (declarations.end_apply_of context l text after) (declarations.end_apply_of context m text after) (end-apply-late n l m e context text after)
  by-late keywords.Alias context text after = as-item (declarations.alias_of l text after) (declarations.alias_of m text after) (alias-late n l m e text after)
  by-late keywords.EndAliases context text after = as-item (declarations.end_aliases_of l text after) (declarations.end_aliases_of m text after) (end-aliases-late n l m e text after)
  by-late keywords.Payee context text after = as-item (declarations.payee_of l text after) (declarations.payee_of m text after) (payee-late n l m e text after)
  by-late keywords.Tag context text after = as-item (declarations.tag_of l text after) (declarations.tag_of m text after) (tag-late n l m e text after)
  by-late keywords.DecimalMark context text after = as-item (declarations.decimal_mark_of l text after) (declarations.decimal_mark_of m text after) (mark-late n l m e text after)
  by-late keywords.Other context text after = as-item (Err (fault_at l cause.Directive)) (Err (fault_at m cause.Directive)) (bad n l m e cause.Directive)

  with-late : (context : Context) (content : List ℕ) (after : List (List ℕ)) → Late (later n) (relined_item (later n)) (item_with context l content after) (item_with context m content after)
  unfolding item_with
  with-late context content after = by-late (keyword_at content).0 context (keyword_at content).1 after

  pub head-item-late : (context : Context) (contents : List (List ℕ)) → Late (later n) (relined_item (later n)) (head_item context l contents) (head_item context m contents)
  head-item-late context [] = bad n l m e cause.Form
  head-item-late context (content ∷ after) = with-late context content after
