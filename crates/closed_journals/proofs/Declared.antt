-- What is read of a text: its transactions and directives, with accounts and symbols in UTF-8 on one line.
use Rattle.std.proofs.Common.{ℕ, zero, suc, ◌≡◌, ◌+◌, ◌-◌, ◌<◌, ◌≤◌, inl, inr, ◌⊎◌, Bool, true, false, cond, ◌&&◌, ◌||◌, not, codes, List, [], ◌∷◌, ◌++◌, length, take, drop, map, Option, Some, None, Result, Ok, refl, sym, subst, arith, lit<}
use Rattle.std.specs.Prelude.{nat_eq, nat_lt}
use Rattle.std.specs.List.{fold, starts_with, AllByRecursion}
use Rattle.std.specs.Str.{bytes_eq, is_utf8}
use Rattle.std.proofs.lemmas.Bool.{cases_lt, false≢true}
use Rattle.std.proofs.lemmas.List.{drop_all}
use Rattle.hl_base.specs.Items.{begins_entry, is_white, items_of, kind_of}
use Rattle.hl_base.specs.Lines.{first_line}
use Rattle.hl_base.specs.declared.items.Kind.{Kind}
use Rattle.hl_base.specs.declared.items.Kind.TheVariants as kinds
use Rattle.hl_base.specs.declared.items.Piece.{Piece}
use Rattle.hl_base.specs.Limits.{entry_limit}
use Rattle.hl_num.specs.Reading.{is_mark}
use Rattle.hl_time.specs.Calendar.{year_of}
use Rattle.book.specs.declared.amount.Amount.{Amount}
use Rattle.book.specs.declared.directive.Directive.{Directive}
use Rattle.book.specs.declared.directive.Directive.TheVariants as directive
use Rattle.book.specs.declared.fault.Fault.{Fault}
use Rattle.book.specs.declared.fault.Cause.TheVariants as cause
use Rattle.book.specs.declared.item.Item.{Item}
use Rattle.book.specs.declared.item.Item.TheVariants as item
use Rattle.book.specs.declared.item.Placed.{Placed}
use Rattle.directive_reader.specs.AccountTypes.{letter_in}
use Rattle.directive_reader.specs.Commodities.{amount_directive, commodity_of, default_of, format_at, format_in, formatted, after_format, is_format, is_symbol_alone, symbol_directive}
use Rattle.directive_reader.specs.Declarations as declarations
use Rattle.directive_reader.specs.Declarations.{account_of, after_digits, after_name, alias_of, apply_of, decimal_mark_of, decimal_mark_with, end_aliases_of, end_apply_of, four_digits, label_at, name_at, new_name, old_name, payee_of, tag_of, year_with}
use Rattle.directive_reader.specs.Directives.{head_item, item_by, item_with}
use Rattle.directive_reader.specs.Endings.{before_comment, closing, comments_only, ending_at}
use Rattle.directive_reader.specs.Keywords.{after_end_apply, after_two, after_word, behind, changing_word, declared_word, ends_apply, has_two, has_word, is_year_letter, keyword_at}
use Rattle.directive_reader.specs.Prices.{price_of}
use Rattle.directive_reader.specs.Rules.{auto_of, periodic_of}
use Rattle.directive_reader.specs.declared.keyword.Keyword.{Keyword}
use Rattle.directive_reader.specs.declared.keyword.Keyword.TheVariants as keywords
use Rattle.directive_reader.proofs.Keywords.{past_word}
use Rattle.entry_reader.proofs.Both.{both_true}
use Rattle.entry_reader.specs.Accounts.{has_parts, name_in}
use Rattle.entry_reader.specs.Amounts.{amount_at}
use Rattle.entry_reader.specs.Causes.{fault_at, ◌>>=◌}
use Rattle.entry_reader.specs.Comments.{comments_in, is_comment}
use Rattle.entry_reader.specs.Contexts.{Context, aliases_after, applied_after, context_of, directive_in, directives_in, mark_after, mark_in, marks_after, usual_after}
use Rattle.entry_reader.specs.Entries.{entry_of, entry_with, txn_from}
use Rattle.entry_reader.specs.Heads.{ends_word, head_of}
use Rattle.entry_reader.specs.Lines.{after_byte, after_white, begins, contents_of, first_is, has_byte}
use Rattle.entry_reader.specs.Postings.{ends_line, postings_of}
use Rattle.entry_reader.specs.Symbols.{symbol_name}
use Rattle.journal_reader.specs.Items.{broken_line, items_in, reading, reading_from, said_by}
use Rattle.written_logs.proofs.Lines.{all_parts}
use Rattle.closed_journals.proofs.Digits.{IsDecided}
use Rattle.closed_journals.proofs.Entered.{AmountIs, AreTold, postings_give}
use Rattle.closed_journals.proofs.Texts.{AreTexts, Gives, IsText, after_text, any_gives, before_text, bind_gives, choice_gives, contents_texts, err_gives, name_text, ok_gives, past_byte, rest_text, trimmed_text, unless_gives, unspaced_text, when_gives, empty_text}
use Rattle.closed_journals.proofs.Told.{IsAmountRead, IsSound, IsToldAmount, UsualIs, amount_gives}

-- ---- what was read

abbrev pub IsToldDirective : Directive → Type 0
IsToldDirective (directive.Default a) = IsToldAmount a
IsToldDirective (directive.Commodity symbol amount) = AmountIs amount
IsToldDirective (directive.Apply name) = IsText name
IsToldDirective (directive.Alias old new) = IsText new
IsToldDirective (directive.DecimalMark m) = is_mark m ≡ true
IsToldDirective _ = Unit {0}

abbrev pub IsToldItem : Item → Type 0
IsToldItem (item.Directive d) = IsToldDirective d
IsToldItem (item.Txn t) = AreTold t.postings
IsToldItem _ = Unit {0}

-- ---- keywords

word_by : (n : ℕ) (text : List ℕ) → ends_word (drop n text) ≡ true → IsText text → IsText (drop n text)
word_by n text h is = by (cases_lt n (length text))
  where
    by : (n < length text) ⊎ (length text ≤ n) → IsText (drop n text)
    by (inl less) = rest_text n text is (past_word text n (let most : n ≤ length text = omega (arith, less) in most) h is.utf8)
    by (inr more) = subst IsText (sym (drop_all n text more)) empty_text

word_text : (word text : List ℕ) → has_word word text ≡ true → IsText text → IsText (after_word word text)
unfolding has_word after_word
word_text word text h is = unspaced_text (drop (length word) text) (word_by (length word) text (both_true (starts_with nat_eq text word) (ends_word (drop (length word) text)) h).1 is)

two_text : (one two text : List ℕ) → has_two one two text ≡ true → IsText text → IsText (after_two one two text)
unfolding has_two after_two
two_text one two text h is =
    let both = both_true (has_word one text) (has_word two (after_word one text)) h in
    word_text two (after_word one text) both.1 (word_text one text both.0 is)

end_text : (text : List ℕ) → ends_apply text ≡ true → IsText text → IsText (after_end_apply text)
unfolding ends_apply after_end_apply
end_text text h is =
    let both = both_true (has_word (codes "end") text) (has_two (codes "apply") (codes "account") (after_word (codes "end") text)) h in
    two_text (codes "apply") (codes "account") (after_word (codes "end") text) both.1 (word_text (codes "end") text both.0 is)

pair_by : (t : Bool) (a b : Keyword × List ℕ) → (t ≡ true → IsText a.1) → (t ≡ false → IsText b.1) → IsText (let p : Keyword × List ℕ = cond t a b in p.1)
pair_by true a b h k = h refl
pair_by false a b h k = k refl

declared_text : (text : List ℕ) → IsText text → IsText (declared_word text).1
unfolding declared_word
declared_text text is =
    pair_by (has_word (codes "commodity") text) _ _ (λ h. word_text (codes "commodity") text h is) (λ _.
    pair_by (has_word (codes "account") text) _ _ (λ h. word_text (codes "account") text h is) (λ _.
    pair_by (has_word (codes "payee") text) _ _ (λ h. word_text (codes "payee") text h is) (λ _.
    pair_by (has_word (codes "tag") text) _ _ (λ h. word_text (codes "tag") text h is) (λ _. is))))

changing_text : (text : List ℕ) → IsText text → IsText (changing_word text).1
unfolding changing_word
changing_text text is =
    pair_by (has_word (codes "year") text) _ _ (λ h. word_text (codes "year") text h is) (λ _.
    pair_by (has_two (codes "apply") (codes "account") text) _ _ (λ h. two_text (codes "apply") (codes "account") text h is) (λ _.
    pair_by (ends_apply text) _ _ (λ h. end_text text h is) (λ _.
    pair_by (has_word (codes "alias") text) _ _ (λ h. word_text (codes "alias") text h is) (λ _.
    pair_by (has_two (codes "end") (codes "aliases") text) _ _ (λ h. two_text (codes "end") (codes "aliases") text h is) (λ _.
    pair_by (has_word (codes "decimal-mark") text) _ _ (λ h. word_text (codes "decimal-mark") text h is) (λ _. declared_text text is))))))

behind_text : (byte : ℕ) (text : List ℕ) → byte < 128 → begins text byte ≡ true → IsText text → IsText (behind text)
behind_text byte text low h is = unspaced_text (drop 1 text) (past_byte byte text low h is)

keyword_text : (text : List ℕ) → IsText text → IsText (keyword_at text).1
unfolding keyword_at
keyword_text text is =
    pair_by (has_word (codes "P") text) _ _ (λ h. word_text (codes "P") text h is) (λ _.
    pair_by (begins text 126) _ _ (λ h. behind_text 126 text (lit< tt) h is) (λ _.
    pair_by (begins text 61) _ _ (λ h. behind_text 61 text (lit< tt) h is) (λ _.
    pair_by (has_word (codes "D") text) _ _ (λ h. word_text (codes "D") text h is) (λ _.
    pair_by (is_year_letter text) _ _ (λ h. behind_text 89 text (lit< tt) (first_of h) is) (λ _. changing_text text is)))))
  where
    first_of : is_year_letter text ≡ true → begins text 89 ≡ true
    first_of h = (both_true (begins text 89) (ends_word (drop 1 text) || begins_entry (drop 1 text)) h).0

-- ---- directives

abbrev Told : Result Directive Fault → Type 0
Told r = Gives IsToldDirective r

-- the amount of a directive is told, if there is one
abbrev Formats : Result (Option Amount) Fault → Type 0
Formats r = Gives AmountIs r

format_word : (content : List ℕ) → is_format content ≡ true → IsText content → IsText (after_format content)
format_word content h is = word_text (codes "format") (after_white content) (both_true (first_is is_white content) (has_word (codes "format") (after_white content)) h).1 (unspaced_text content is)

turned : (b : Bool) → not b ≡ false → b ≡ true
turned true h = refl
turned false h = absurd (false≢true (sym h))

module _ (c : Context) (sound : IsSound c) where
  formatted_gives : (symbol : List ℕ) (line : ℕ) (read : Amount × List ℕ) → IsAmountRead read → Gives IsToldAmount (formatted symbol line read)
  formatted_gives symbol line read is =
      when_gives IsToldAmount (bytes_eq (read.0).symbol symbol && ends_line read.1) (Ok read.0) (fault_at line cause.Form) (λ _. ok_gives IsToldAmount read.0 is.amount)

  format_gives : (symbol : List ℕ) (line : ℕ) (content : List ℕ) → IsText content → Gives IsToldAmount (format_at c symbol line content)
  unfolding format_at
  format_gives symbol line content is =
      unless_gives IsToldAmount (not (is_format content)) (fault_at line cause.Form) _ (λ h.
      bind_gives IsAmountRead IsToldAmount (amount_at c line (after_format content)) _ (amount_gives c line (after_format content) sound (format_word content (turned (is_format content) h) is)) (λ a r.
      formatted_gives symbol line a r))

  formats_give : (symbol : List ℕ) (line : ℕ) (lines : List (List ℕ)) → AreTexts lines → Formats (format_in c symbol line lines)
  unfolding format_in
  formats_give symbol line [] are = ok_gives AmountIs None tt
  formats_give symbol line (content ∷ more) are =
      choice_gives AmountIs (is_comment content) _ _ (λ _. formats_give symbol (line + 1) more are.1) (λ _.
      bind_gives IsToldAmount AmountIs (format_at c symbol line content) _ (format_gives symbol line content are.0) (λ a told.
      bind_gives (λ _. Unit {0}) AmountIs (comments_only (line + 1) more) _ (any_gives (comments_only (line + 1) more)) (λ done d. ok_gives AmountIs (Some a) told)))

  symbol_gives : (line : ℕ) (text : List ℕ) (after : List (List ℕ)) → AreTexts after → Told (symbol_directive c line text after)
  unfolding symbol_directive
  symbol_gives line text after are =
      bind_gives AmountIs IsToldDirective (format_in c (symbol_name text) (line + 1) after) _ (formats_give (symbol_name text) (line + 1) after are) (λ amount told.
      ok_gives IsToldDirective (directive.Commodity (symbol_name text) amount) told)

  amount_directive_gives : (line : ℕ) (text : List ℕ) (after : List (List ℕ)) → IsText text → Told (amount_directive c line text after)
  unfolding amount_directive
  amount_directive_gives line text after is =
      bind_gives IsAmountRead IsToldDirective (amount_at c line text) _ (amount_gives c line text sound is) (λ a told.
      bind_gives (λ _. Unit {0}) IsToldDirective (closing line a.1 after) _ (any_gives (closing line a.1 after)) (λ done d.
      ok_gives IsToldDirective (directive.Commodity (a.0).symbol (Some a.0)) told.amount))

  default_gives : (line : ℕ) (text : List ℕ) (after : List (List ℕ)) → IsText text → Told (default_of c line text after)
  unfolding default_of
  default_gives line text after is =
      bind_gives IsAmountRead IsToldDirective (amount_at c line text) _ (amount_gives c line text sound is) (λ a told.
      bind_gives (λ _. Unit {0}) IsToldDirective (closing line a.1 after) _ (any_gives (closing line a.1 after)) (λ done d.
      ok_gives IsToldDirective (directive.Default a.0) told.amount))

  account_gives : (line : ℕ) (text : List ℕ) (after : List (List ℕ)) → Told (account_of c line text after)
  unfolding account_of
  account_gives line text after =
      bind_gives (λ _. Unit {0}) IsToldDirective (name_in c line (name_at text)) _ (any_gives (name_in c line (name_at text))) (λ name a.
      bind_gives (λ _. Unit {0}) IsToldDirective (ending_at line (after_name text)) _ (any_gives (ending_at line (after_name text))) (λ own b.
      bind_gives (λ _. Unit {0}) IsToldDirective (letter_in line (own ∷ comments_in after)) _ (any_gives (letter_in line (own ∷ comments_in after))) (λ letter d.
      bind_gives (λ _. Unit {0}) IsToldDirective (comments_only (line + 1) after) _ (any_gives (comments_only (line + 1) after)) (λ done e.
      ok_gives IsToldDirective (directive.Account name letter) tt))))

  end_apply_gives : (line : ℕ) (text : List ℕ) (after : List (List ℕ)) → Told (end_apply_of c line text after)
  unfolding end_apply_of
  end_apply_gives line text after =
      when_gives IsToldDirective (nat_lt 0 (length c.applied)) _ (fault_at line cause.Directive) (λ _.
      bind_gives (λ _. Unit {0}) IsToldDirective (closing line text after) _ (any_gives (closing line text after)) (λ done d. ok_gives IsToldDirective directive.EndApply tt))

apply_gives : (line : ℕ) (text : List ℕ) (after : List (List ℕ)) → IsText text → Told (apply_of line text after)
unfolding apply_of
apply_gives line text after is =
    when_gives IsToldDirective (has_parts (name_at text)) _ (fault_at line cause.Account) (λ _.
    bind_gives (λ _. Unit {0}) IsToldDirective (closing line (after_name text) after) _ (any_gives (closing line (after_name text) after)) (λ done d.
    ok_gives IsToldDirective (directive.Apply (name_at text)) (name_text text is)))

alias_gives : (line : ℕ) (text : List ℕ) (after : List (List ℕ)) → IsText text → Told (alias_of line text after)
unfolding alias_of
alias_gives line text after is =
    when_gives IsToldDirective (has_byte 61 (before_comment text) && nat_lt 0 (length (old_name text))) _ (fault_at line cause.Form) (λ _.
    bind_gives (λ _. Unit {0}) IsToldDirective (comments_only (line + 1) after) _ (any_gives (comments_only (line + 1) after)) (λ done d.
    ok_gives IsToldDirective (directive.Alias (old_name text) (new_name text)) (trimmed_text (after_byte 61 (before_comment text)) (after_text 61 (before_comment text) (lit< tt) (before_text 59 text (lit< tt) is)))))

end_aliases_gives : (line : ℕ) (text : List ℕ) (after : List (List ℕ)) → Told (end_aliases_of line text after)
unfolding end_aliases_of
end_aliases_gives line text after =
    bind_gives (λ _. Unit {0}) IsToldDirective (closing line text after) _ (any_gives (closing line text after)) (λ done d. ok_gives IsToldDirective directive.EndAliases tt)

payee_gives : (line : ℕ) (text : List ℕ) (after : List (List ℕ)) → Told (payee_of line text after)
unfolding payee_of
payee_gives line text after =
    bind_gives (λ _. Unit {0}) IsToldDirective (label_at line text) _ (any_gives (label_at line text)) (λ name a.
    bind_gives (λ _. Unit {0}) IsToldDirective (comments_only (line + 1) after) _ (any_gives (comments_only (line + 1) after)) (λ done d. ok_gives IsToldDirective (directive.Payee name) tt))

tag_gives : (line : ℕ) (text : List ℕ) (after : List (List ℕ)) → Told (tag_of line text after)
unfolding tag_of
tag_gives line text after =
    bind_gives (λ _. Unit {0}) IsToldDirective (label_at line text) _ (any_gives (label_at line text)) (λ name a.
    bind_gives (λ _. Unit {0}) IsToldDirective (comments_only (line + 1) after) _ (any_gives (comments_only (line + 1) after)) (λ done d. ok_gives IsToldDirective (directive.TagName name) tt))

year_by : (line : ℕ) (o : Option ℕ) (rest : List ℕ) (after : List (List ℕ)) → Told (year_with line o rest after)
year_by line None rest after = err_gives IsToldDirective (fault_at line cause.Form)
year_by line (Some y) rest after = bind_gives (λ _. Unit {0}) IsToldDirective (closing line rest after) _ (any_gives (closing line rest after)) (λ done d. ok_gives IsToldDirective (directive.Year y) tt)

year_gives : (line : ℕ) (text : List ℕ) (after : List (List ℕ)) → Told (declarations.year_of line text after)
unfolding declarations.year_of
year_gives line text after = year_by line (four_digits text) (after_digits text) after

mark_by : (a b : Bool) (line : ℕ) (rest : List ℕ) (after : List (List ℕ)) → Told (decimal_mark_with line (cond a (Some 46) (cond b (Some 44) None)) rest after)
mark_by true b line rest after = bind_gives (λ _. Unit {0}) IsToldDirective (closing line rest after) _ (any_gives (closing line rest after)) (λ done d. ok_gives IsToldDirective (directive.DecimalMark 46) refl)
mark_by false true line rest after = bind_gives (λ _. Unit {0}) IsToldDirective (closing line rest after) _ (any_gives (closing line rest after)) (λ done d. ok_gives IsToldDirective (directive.DecimalMark 44) refl)
mark_by false false line rest after = err_gives IsToldDirective (fault_at line cause.Form)

mark_gives : (line : ℕ) (text : List ℕ) (after : List (List ℕ)) → Told (decimal_mark_of line text after)
unfolding decimal_mark_of
mark_gives line text after = mark_by (begins text 46) (begins text 44) line (after_white (drop 1 text)) after

-- ---- items

abbrev Item_told : Result Item Fault → Type 0
Item_told r = Gives IsToldItem r

module _ (c : Context) (sound : IsSound c) where
  as_item : (r : Result Directive Fault) → Told r → Item_told (r >>= λ d. Ok (item.Directive d))
  as_item r told = bind_gives IsToldDirective IsToldItem r (λ d. Ok (item.Directive d)) told (λ d t. ok_gives IsToldItem (item.Directive d) t)

  keyword_gives : (k : Keyword) (line : ℕ) (text : List ℕ) (after : List (List ℕ)) → IsText text → AreTexts after → Item_told (item_by k c line text after)
  keyword_gives keywords.Price line text after is are = bind_gives (λ _. Unit {0}) IsToldItem (price_of c line text after) _ (any_gives (price_of c line text after)) (λ p t. ok_gives IsToldItem (item.Price p) tt)
  keyword_gives keywords.Auto line text after is are = bind_gives (λ _. Unit {0}) IsToldItem (auto_of c line text after) _ (any_gives (auto_of c line text after)) (λ r t. ok_gives IsToldItem (item.Auto r) tt)
  keyword_gives keywords.Periodic line text after is are = bind_gives (λ _. Unit {0}) IsToldItem (periodic_of c line text after) _ (any_gives (periodic_of c line text after)) (λ r t. ok_gives IsToldItem (item.Periodic r) tt)
  keyword_gives keywords.Commodity line text after is are =
      as_item (commodity_of c line text after)
      (choice_gives IsToldDirective (is_symbol_alone text) (symbol_directive c line text after) (amount_directive c line text after) (λ _. symbol_gives c sound line text after are) (λ _. amount_directive_gives c sound line text after is))
  keyword_gives keywords.Default line text after is are = as_item (default_of c line text after) (default_gives c sound line text after is)
  keyword_gives keywords.Account line text after is are = as_item (account_of c line text after) (account_gives c sound line text after)
  keyword_gives keywords.Year line text after is are = as_item (declarations.year_of line text after) (year_gives line text after)
  keyword_gives keywords.Apply line text after is are = as_item (apply_of line text after) (apply_gives line text after is)
  keyword_gives keywords.EndApply line text after is are = as_item (end_apply_of c line text after) (end_apply_gives c sound line text after)
  keyword_gives keywords.Alias line text after is are = as_item (alias_of line text after) (alias_gives line text after is)
  keyword_gives keywords.EndAliases line text after is are = as_item (end_aliases_of line text after) (end_aliases_gives line text after)
  keyword_gives keywords.Payee line text after is are = as_item (payee_of line text after) (payee_gives line text after)
  keyword_gives keywords.Tag line text after is are = as_item (tag_of line text after) (tag_gives line text after)
  keyword_gives keywords.DecimalMark line text after is are = as_item (decimal_mark_of line text after) (mark_gives line text after)
  keyword_gives keywords.Other line text after is are = err_gives IsToldItem (fault_at line cause.Directive)

  head_gives : (line : ℕ) (lines : List (List ℕ)) → AreTexts lines → Item_told (head_item c line lines)
  unfolding item_with
  head_gives line [] are = err_gives IsToldItem (fault_at line cause.Form)
  head_gives line (content ∷ after) are = keyword_gives (keyword_at content).0 line (keyword_at content).1 after (keyword_text content are.0) are.1

  entry_gives : (line : ℕ) (lines : List (List ℕ)) → AreTexts lines → Item_told (entry_of c line lines)
  unfolding entry_with
  entry_gives line [] are = err_gives IsToldItem (fault_at line cause.Form)
  entry_gives line (content ∷ after) are =
      bind_gives (λ _. Unit {0}) IsToldItem (head_of c line content) _ (any_gives (head_of c line content)) (λ head h.
      bind_gives AreTold IsToldItem (postings_of c (year_of head.day) (line + 1) after) _ (postings_give c (year_of head.day) (line + 1) after sound are.1) (λ ps told.
      ok_gives IsToldItem (item.Txn (txn_from line head (comments_in after) ps)) told))

  said_gives : (k : Kind) (line : ℕ) (bytes : List ℕ) → is_utf8 bytes ≡ true → Item_told (said_by k c line bytes)
  said_gives kinds.Gap line bytes utf8 = ok_gives IsToldItem item.Gap tt
  said_gives kinds.Block line bytes utf8 = ok_gives IsToldItem item.Block tt
  said_gives kinds.Stray line bytes utf8 = err_gives IsToldItem (fault_at line cause.Form)
  said_gives kinds.Entry line bytes utf8 =
      unless_gives IsToldItem (nat_lt entry_limit (length bytes)) (fault_at line cause.TooLong) _ (λ _. entry_gives line (contents_of bytes) (contents_texts bytes utf8))
  said_gives kinds.Head line bytes utf8 =
      unless_gives IsToldItem (nat_lt entry_limit (length bytes)) (fault_at line cause.TooLong) _ (λ _. head_gives line (contents_of bytes) (contents_texts bytes utf8))

  reading_gives : (line : ℕ) (bytes : List ℕ) → Item_told (reading c line bytes)
  unfolding reading
  reading_gives line bytes = when_gives IsToldItem (is_utf8 bytes) _ (fault_at (broken_line line bytes) cause.Encoding) (λ utf8. said_gives (kind_of (first_line bytes)) line bytes utf8)

-- ---- what directives say

fold_keeps : {A : Type 0} (P : A → Type 0) (f : A → Directive → A) → ((a : A) (d : Directive) → P a → IsToldDirective d → P (f a d)) → (a : A) (ds : List Directive) → P a → AllByRecursion IsToldDirective ds → P (fold f a ds)
fold_keeps P f step a [] h told = h
fold_keeps P f step a (d ∷ ds) h told = fold_keeps P f step (f a d) ds (step a d h told.0) told.1

mark_step : (m : Option ℕ) (d : Directive) → IsDecided m → IsToldDirective d → IsDecided (mark_after m d)
mark_step m (directive.DecimalMark k) h told = told
mark_step m _ h told = h

usual_step : (u : Option (List ℕ × Option ℕ)) (d : Directive) → UsualIs u → IsToldDirective d → UsualIs (usual_after u d)
usual_step u (directive.Default a) h told = (told.symbol, told.mark)
usual_step u _ h told = h

some_first : {A : Type 0} (P : A → Type 0) (n : ℕ) (xs : List A) → AllByRecursion P xs → AllByRecursion P (take n xs)
some_first P zero xs h = tt
some_first P (suc n) [] h = tt
some_first P (suc n) (x ∷ xs) h = (h.0, some_first P n xs h.1)

applied_step : (names : List (List ℕ)) (d : Directive) → AreTexts names → IsToldDirective d → AreTexts (applied_after names d)
applied_step names (directive.Apply name) h told = all_parts IsText names (name ∷ []) h (told, tt)
applied_step names directive.EndApply h told = some_first IsText (length names - 1) names h
applied_step names _ h told = h

abbrev Alias : Type 0
Alias = List ℕ × List ℕ

aliases_step : (aliases : List Alias) (d : Directive) → AllByRecursion (λ (a : Alias). IsText a.1) aliases → IsToldDirective d → AllByRecursion (λ (a : Alias). IsText a.1) (aliases_after aliases d)
aliases_step aliases (directive.Alias old new) h told = all_parts (λ (a : Alias). IsText a.1) aliases ((old, new) ∷ []) h (told, tt)
aliases_step aliases directive.EndAliases h told = tt
aliases_step aliases _ h told = h

abbrev Marked : Type 0
Marked = List ℕ × Option ℕ

mark_in_told : (a : Option Amount) → AmountIs a → IsDecided (mark_in a)
mark_in_told None h = tt
mark_in_told (Some a) h = h.mark

marks_step : (marks : List Marked) (d : Directive) → AllByRecursion (λ (e : Marked). IsDecided e.1) marks → IsToldDirective d → AllByRecursion (λ (e : Marked). IsDecided e.1) (marks_after marks d)
marks_step marks (directive.Commodity symbol amount) h told = all_parts (λ (e : Marked). IsDecided e.1) marks ((symbol, mark_in amount) ∷ []) h (mark_in_told amount told, tt)
marks_step marks _ h told = h

one_directive : (i : Item) → IsToldItem i → AllByRecursion IsToldDirective (directive_in i)
one_directive (item.Directive d) h = (h, tt)
one_directive _ h = tt

all_directives : (is : List Item) → AllByRecursion IsToldItem is → AllByRecursion IsToldDirective (directives_in is)
all_directives [] h = tt
all_directives (i ∷ is) h = all_parts IsToldDirective (directive_in i) (directives_in is) (one_directive i h.0) (all_directives is h.1)

pub sound_after : (year : Option ℕ) (is : List Item) → AllByRecursion IsToldItem is → IsSound (context_of year is)
sound_after year is told =
    let ds = directives_in is in
    let all = all_directives is told in
    record {
      mark = fold_keeps IsDecided mark_after mark_step None ds tt all;
      usual = fold_keeps UsualIs usual_after usual_step None ds tt all;
      applied = fold_keeps AreTexts applied_after applied_step [] ds tt all;
      aliases = fold_keeps (AllByRecursion (λ (a : Alias). IsText a.1)) aliases_after aliases_step [] ds tt all;
      marks = fold_keeps (AllByRecursion (λ (e : Marked). IsDecided e.1)) marks_after marks_step [] ds tt all;
    }

-- ---- all items

abbrev pub AreToldItems : List Placed → Type 0
AreToldItems placed = AllByRecursion (λ p. IsToldItem p.item) placed

items_give : (year : Option ℕ) (before : List Item) (text : List ℕ) (ps : List Piece) → AllByRecursion IsToldItem before → Gives AreToldItems (reading_from year before text ps)
unfolding reading_from
items_give year before text [] told = ok_gives AreToldItems [] tt
items_give year before text (p ∷ ps) told =
    bind_gives IsToldItem AreToldItems (reading (context_of year before) p.line (take p.len (drop p.at text))) _
    (reading_gives (context_of year before) (sound_after year before told) p.line (take p.len (drop p.at text))) (λ i one.
    bind_gives AreToldItems AreToldItems (reading_from year (before ++ i ∷ []) text ps) _ (items_give year (before ++ i ∷ []) text ps (all_parts IsToldItem before (i ∷ []) told (one, tt))) (λ more rest.
    ok_gives AreToldItems (record { piece = p; item = i } ∷ more) (one, rest)))

-- what is read of a text
pub items_told : (year : Option ℕ) (text : List ℕ) (items : List Placed) → items_in year text ≡ Ok items → AreToldItems items
items_told year text items e = items_give year [] text (items_of text) tt items e

pub context_told : (year : Option ℕ) (items : List Placed) → AreToldItems items → IsSound (context_of year (map (λ p. p.item) items))
context_told year items told = sound_after year (map (λ p. p.item) items) (all_items items told)
  where
    all_items : (ps : List Placed) → AreToldItems ps → AllByRecursion IsToldItem (map (λ p. p.item) ps)
    all_items [] h = tt
    all_items (p ∷ ps) h = (h.0, all_items ps h.1)
