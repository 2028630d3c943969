-- What reads without a year before it reads the same with any.
use Rattle.std.proofs.Common.{◌≡◌, ℕ, ◌+◌, Bool, true, false, cond, not, ◌==◌, List, [], ◌∷◌, ◌++◌, take, drop, Option, Some, None, Result, Ok, Err, refl, ap, ◌∙◌, arith, nat_lt, length}
use Rattle.std.specs.Prelude.{slice_index}
use Rattle.std.specs.Char.{is_ascii_digit}
use Rattle.std.specs.List.{fold, prefix_len, take_while}
use Rattle.std.specs.Str.{is_utf8}
use Rattle.std.proofs.lemmas.Bool.{false≢true}
use Rattle.std.proofs.lemmas.Bool.Decides.{nat_tests}
use Rattle.hl_base.specs.Items.{kind_of}
use Rattle.hl_base.specs.Lines.{first_line}
use Rattle.hl_base.specs.declared.items.Kind.{Kind}
use Rattle.hl_base.specs.declared.items.Kind.TheVariants as kinds
use Rattle.hl_base.specs.declared.items.Piece.{Piece}
use Rattle.hl_base.specs.Limits.{entry_limit}
use Rattle.hl_time.specs.Calendar.{year_of}
use Rattle.hl_time.specs.Date.{date_of, full_date, is_digit_at, is_separator, month_day, part_length, year_digits, year_value}
use Rattle.book.specs.declared.directive.Directive.{Directive}
use Rattle.book.specs.declared.directive.Directive.TheVariants as directive
use Rattle.book.specs.declared.fault.Fault.{Fault}
use Rattle.book.specs.declared.fault.Cause.TheVariants as cause
use Rattle.book.specs.declared.item.Item.{Item}
use Rattle.book.specs.declared.item.Item.TheVariants as item
use Rattle.entry_reader.specs.declared.quantity.Holder.{Holder}
use Rattle.entry_reader.specs.declared.quantity.Holder.TheVariants as holder
use Rattle.entry_reader.specs.Causes.{fault_at, ◌>>=◌}
use Rattle.entry_reader.specs.Contexts.{Context, context_of, context_with, directives_in, year_after, mark_after, usual_after, applied_after, aliases_after, marks_after, or_else}
use Rattle.entry_reader.specs.Heads.{day_at, day_before, head_of, is_date_byte}
use Rattle.entry_reader.specs.Lines.{contents_of}
use Rattle.entry_reader.specs.Amounts.{amount_at, cost_at, factor_at, assertion_at}
use Rattle.entry_reader.specs.Postings.{posting_of, rule_posting_of, posting_line, numbers_at, quantity_at, claim_at, each_of, postings_of, periodic_postings_of, rule_postings_of}
use Rattle.entry_reader.specs.Entries.{entry_of, entry_with}
use Rattle.directive_reader.specs.Commodities.{amount_directive, commodity_of, default_of, format_at, format_in, symbol_directive}
use Rattle.directive_reader.specs.Declarations.{account_of, end_apply_of}
use Rattle.directive_reader.specs.Directives.{item_by, item_with, head_item}
use Rattle.directive_reader.specs.Keywords.{keyword_at}
use Rattle.directive_reader.specs.Prices.{price_of}
use Rattle.directive_reader.specs.Rules.{auto_of, periodic_of}
use Rattle.directive_reader.specs.declared.keyword.Keyword.{Keyword}
use Rattle.directive_reader.specs.declared.keyword.Keyword.TheVariants as keywords
use Rattle.journal_reader.specs.Items.{broken_line, reading, reading_from, said_by}

-- what is answered without a year is answered with one
abbrev pub Keeps : {A E : Type 0} → Result A E → Result A E → Type 0
Keeps {A} r s = (x : A) → r ≡ Ok x → s ≡ Ok x

bind_keeps : {A B : Type 0} (r s : Result A Fault) (f g : A → Result B Fault) → Keeps r s → ((a : A) → Keeps (f a) (g a)) → Keeps (r >>= f) (s >>= g)
bind_keeps {A} {B} (Ok a) s f g h k x e = ap (λ (q : Result A Fault). q >>= g) (h a refl) ∙ k a x e
bind_keeps (Err fault) s f g h k x e = absurd cc

same_keeps : {A : Type 0} (r s : Result A Fault) → s ≡ r → Keeps r s
same_keeps r s e x h = e ∙ h

unless_keeps : {A : Type 0} (t : Bool) (fault : Fault) (r s : Result A Fault) → Keeps r s → Keeps (cond t (Err fault) r) (cond t (Err fault) s)
unless_keeps true fault r s h x e = absurd cc
unless_keeps false fault r s h x e = h x e

where_keeps : {A : Type 0} (t : Bool) (fault : Fault) (r s : Result A Fault) → Keeps r s → Keeps (cond t r (Err fault)) (cond t s (Err fault))
where_keeps true fault r s h x e = h x e
where_keeps false fault r s h x e = absurd cc

-- a date with its year isn't one without
full_by : (t s : Bool) (n : ℕ) (rest : Result ℕ ℕ) (d : ℕ) → cond (not t) (Err n) (cond (not s) (Err 4) rest) ≡ Ok d → t ≡ true
full_by true s n rest d e = refl
full_by false s n rest d e = absurd cc

four_digits : (text : List ℕ) (d : ℕ) → full_date text ≡ Ok d → (year_digits text == 4) ≡ true
unfolding full_date
four_digits text d e = full_by (year_digits text == 4) (is_separator (slice_index text 4)) (year_digits text) (month_day text 5 (slice_index text 4) (year_value text)) d e

digits_by : (a b c f : Bool) → (cond (not a) 0 (cond (not b) 1 (cond (not c) 2 (cond (not f) 3 4))) == 4) ≡ true → (a ≡ true) × (b ≡ true) × (c ≡ true)
digits_by true true true f e = (refl, refl, refl)
digits_by true true false f e = absurd (false≢true e)
digits_by true false c f e = absurd (false≢true e)
digits_by false b c f e = absurd (false≢true e)

no_separator : (b : ℕ) → is_ascii_digit b ≡ true → is_separator b ≡ false
no_separator b h = grind (arith, nat_tests, h)

date_kept : (text : List ℕ) (y d : ℕ) → date_of text None ≡ Ok d → date_of text (Some y) ≡ Ok d
unfolding date_of year_digits part_length
date_kept text y d e =
    let digits = digits_by (is_digit_at text 0) (is_digit_at text 1) (is_digit_at text 2) (is_digit_at text 3) (four_digits text d e) in
    let two : part_length text 0 ≡ 2 = rw (digits.0, digits.1) refl in
    let none : is_separator (slice_index text (part_length text 0)) ≡ false = ap (λ (n : ℕ). is_separator (slice_index text n)) two ∙ no_separator (slice_index text 2) digits.2 in
    rw none e

before_kept : (line : ℕ) (rest : List ℕ) (r s : Result ℕ ℕ) → Keeps r s → Keeps (day_before line rest r) (day_before line rest s)
before_kept line rest (Ok d) s h x e = ap (λ (q : Result ℕ ℕ). day_before line rest q) (h d refl) ∙ e
before_kept line rest (Err at) s h x e = absurd cc

day_kept : (year : Option ℕ) (y line : ℕ) (text : List ℕ) → Keeps (day_at year line text) (day_at (or_else year (Some y)) line text)
unfolding day_at
day_kept (Some z) y line text x e = e
day_kept None y line text x e =
    let word = take_while is_date_byte text in
    before_kept line (drop (prefix_len is_date_byte text) text) (date_of word None) (date_of word (Some y)) (date_kept word y) x e

-- a context with a year, where it had none
abbrev dated : Context → ℕ → Context
dated c y = context_with (or_else c.year (Some y)) c.mark c.usual c.applied c.aliases c.marks

one_later : (d : Directive) (year : Option ℕ) (y : ℕ) → year_after (or_else year (Some y)) d ≡ or_else (year_after year d) (Some y)
one_later (directive.Commodity symbol amount) year y = refl
one_later (directive.Default amount) year y = refl
one_later (directive.Account name letter) year y = refl
one_later (directive.Year z) year y = refl
one_later (directive.Apply name) year y = refl
one_later directive.EndApply year y = refl
one_later (directive.Alias old new) year y = refl
one_later directive.EndAliases year y = refl
one_later (directive.Payee name) year y = refl
one_later (directive.TagName name) year y = refl
one_later (directive.DecimalMark mark) year y = refl

all_later : (ds : List Directive) (year : Option ℕ) (y : ℕ) → fold year_after (or_else year (Some y)) ds ≡ or_else (fold year_after year ds) (Some y)
all_later [] year y = refl
all_later (d ∷ ds) year y = ap (λ (z : Option ℕ). fold year_after z ds) (one_later d year y) ∙ all_later ds (year_after year d) y

context_dated : (y : ℕ) (before : List Item) → context_of (Some y) before ≡ dated (context_of None before) y
context_dated y before =
    let ds = directives_in before in
    ap (λ (year : Option ℕ). context_with year (fold mark_after None ds) (fold usual_after None ds) (fold applied_after [] ds) (fold aliases_after [] ds) (fold marks_after [] ds)) (all_later ds None y)

-- a posting doesn't look at the context's year
posting_same : (h : Holder) (c : Context) (y line : ℕ) (content : List ℕ) (after : List (List ℕ)) → rule_posting_of h (dated c y) line content after ≡ rule_posting_of h c line content after
unfolding rule_posting_of posting_line numbers_at quantity_at claim_at assertion_at cost_at factor_at amount_at
posting_same h c y line content after = refl

each_same : {A : Type 0} (f g : ℕ → List ℕ → List (List ℕ) → Result A Fault) → ((line : ℕ) (content : List ℕ) (after : List (List ℕ)) → f line content after ≡ g line content after)
    → (line : ℕ) (lines : List (List ℕ)) → each_of f line lines ≡ each_of g line lines
each_same f g same line lines = λ i. each_of (λ l content after. same l content after i) line lines

entry_postings : (c : Context) (y year line : ℕ) (lines : List (List ℕ)) → postings_of (dated c y) year line lines ≡ postings_of c year line lines
entry_postings c y year line lines =
    each_same (posting_of (holder.Entry year) (dated c y)) (posting_of (holder.Entry year) c)
    (λ l content after. ap (λ r. r >>= λ p. Ok p.posting) (posting_same (holder.Entry year) c y l content after)) line lines

periodic_postings : (c : Context) (y line : ℕ) (lines : List (List ℕ)) → periodic_postings_of (dated c y) line lines ≡ periodic_postings_of c line lines
periodic_postings c y line lines =
    each_same (posting_of holder.Periodic (dated c y)) (posting_of holder.Periodic c)
    (λ l content after. ap (λ r. r >>= λ p. Ok p.posting) (posting_same holder.Periodic c y l content after)) line lines

auto_postings : (c : Context) (y line : ℕ) (lines : List (List ℕ)) → rule_postings_of (dated c y) line lines ≡ rule_postings_of c line lines
auto_postings c y line lines =
    each_same (rule_posting_of holder.Auto (dated c y)) (rule_posting_of holder.Auto c) (posting_same holder.Auto c y) line lines

-- an entry
head_kept : (c : Context) (y line : ℕ) (content : List ℕ) → Keeps (head_of c line content) (head_of (dated c y) line content)
unfolding head_of
head_kept c y line content = bind_keeps (day_at c.year line content) (day_at (or_else c.year (Some y)) line content) _ _ (day_kept c.year y line content) (λ day x e. e)

entry_kept : (c : Context) (y line : ℕ) (lines : List (List ℕ)) → Keeps (entry_of c line lines) (entry_of (dated c y) line lines)
unfolding entry_with
entry_kept c y line [] = λ x e. e
entry_kept c y line (content ∷ after) =
    bind_keeps (head_of c line content) (head_of (dated c y) line content) _ _ (head_kept c y line content) (λ head.
    bind_keeps (postings_of c (year_of head.day) (line + 1) after) (postings_of (dated c y) (year_of head.day) (line + 1) after) _ _
    (same_keeps _ _ (entry_postings c y (year_of head.day) (line + 1) after)) (λ postings x e. e))

-- directives, prices and rules
format_same : (c : Context) (y : ℕ) (symbol : List ℕ) (line : ℕ) (lines : List (List ℕ)) → format_in (dated c y) symbol line lines ≡ format_in c symbol line lines
unfolding format_in format_at amount_at
format_same c y symbol line [] = refl
format_same c y symbol line (l ∷ ls) = rw (format_same c y symbol (line + 1) ls) refl

symbol_same : (c : Context) (y line : ℕ) (text : List ℕ) (after : List (List ℕ)) → symbol_directive (dated c y) line text after ≡ symbol_directive c line text after
unfolding symbol_directive
symbol_same c y line text after = rw (format_same c y _ (line + 1) after) refl

commodity_same : (c : Context) (y line : ℕ) (text : List ℕ) (after : List (List ℕ)) → commodity_of (dated c y) line text after ≡ commodity_of c line text after
unfolding amount_directive amount_at
commodity_same c y line text after = rw (symbol_same c y line text after) refl

default_same : (c : Context) (y line : ℕ) (text : List ℕ) (after : List (List ℕ)) → default_of (dated c y) line text after ≡ default_of c line text after
unfolding default_of amount_at
default_same c y line text after = refl

account_same : (c : Context) (y line : ℕ) (text : List ℕ) (after : List (List ℕ)) → account_of (dated c y) line text after ≡ account_of c line text after
unfolding account_of
account_same c y line text after = refl

end_apply_same : (c : Context) (y line : ℕ) (text : List ℕ) (after : List (List ℕ)) → end_apply_of (dated c y) line text after ≡ end_apply_of c line text after
unfolding end_apply_of
end_apply_same c y line text after = refl

price_kept : (c : Context) (y line : ℕ) (text : List ℕ) (after : List (List ℕ)) → Keeps (price_of c line text after) (price_of (dated c y) line text after)
unfolding price_of amount_at
price_kept c y line text after = bind_keeps (day_at c.year line text) (day_at (or_else c.year (Some y)) line text) _ _ (day_kept c.year y line text) (λ day x e. e)

auto_same : (c : Context) (y line : ℕ) (text : List ℕ) (after : List (List ℕ)) → auto_of (dated c y) line text after ≡ auto_of c line text after
unfolding auto_of
auto_same c y line text after = rw (auto_postings c y (line + 1) after) refl

periodic_same : (c : Context) (y line : ℕ) (text : List ℕ) (after : List (List ℕ)) → periodic_of (dated c y) line text after ≡ periodic_of c line text after
unfolding periodic_of
periodic_same c y line text after = rw (periodic_postings c y (line + 1) after) refl

item_kept : (k : Keyword) (c : Context) (y line : ℕ) (text : List ℕ) (after : List (List ℕ)) → Keeps (item_by k c line text after) (item_by k (dated c y) line text after)
item_kept keywords.Commodity c y line text after = same_keeps _ _ (ap (λ r. r >>= λ d. Ok (item.Directive d)) (commodity_same c y line text after))
item_kept keywords.Default c y line text after = same_keeps _ _ (ap (λ r. r >>= λ d. Ok (item.Directive d)) (default_same c y line text after))
item_kept keywords.Account c y line text after = same_keeps _ _ (ap (λ r. r >>= λ d. Ok (item.Directive d)) (account_same c y line text after))
item_kept keywords.Price c y line text after = bind_keeps _ _ _ _ (price_kept c y line text after) (λ p x e. e)
item_kept keywords.Year c y line text after = λ x e. e
item_kept keywords.Apply c y line text after = λ x e. e
item_kept keywords.EndApply c y line text after = same_keeps _ _ (ap (λ r. r >>= λ d. Ok (item.Directive d)) (end_apply_same c y line text after))
item_kept keywords.Alias c y line text after = λ x e. e
item_kept keywords.EndAliases c y line text after = λ x e. e
item_kept keywords.Payee c y line text after = λ x e. e
item_kept keywords.Tag c y line text after = λ x e. e
item_kept keywords.DecimalMark c y line text after = λ x e. e
item_kept keywords.Auto c y line text after = same_keeps _ _ (ap (λ r. r >>= λ d. Ok (item.Auto d)) (auto_same c y line text after))
item_kept keywords.Periodic c y line text after = same_keeps _ _ (ap (λ r. r >>= λ d. Ok (item.Periodic d)) (periodic_same c y line text after))
item_kept keywords.Other c y line text after = λ x e. e

head_item_kept : (c : Context) (y line : ℕ) (lines : List (List ℕ)) → Keeps (head_item c line lines) (head_item (dated c y) line lines)
unfolding item_with
head_item_kept c y line [] = λ x e. e
head_item_kept c y line (content ∷ after) = item_kept (keyword_at content).0 c y line (keyword_at content).1 after

-- pieces
said_kept : (kind : Kind) (c : Context) (y line : ℕ) (bytes : List ℕ) → Keeps (said_by kind c line bytes) (said_by kind (dated c y) line bytes)
said_kept kinds.Gap c y line bytes = λ x e. e
said_kept kinds.Block c y line bytes = λ x e. e
said_kept kinds.Stray c y line bytes = λ x e. e
said_kept kinds.Entry c y line bytes = unless_keeps (nat_lt entry_limit (length bytes)) (fault_at line cause.TooLong) _ _ (entry_kept c y line (contents_of bytes))
said_kept kinds.Head c y line bytes = unless_keeps (nat_lt entry_limit (length bytes)) (fault_at line cause.TooLong) _ _ (head_item_kept c y line (contents_of bytes))

reading_kept : (c : Context) (y line : ℕ) (bytes : List ℕ) → Keeps (reading c line bytes) (reading (dated c y) line bytes)
unfolding reading
reading_kept c y line bytes = where_keeps (is_utf8 bytes) (fault_at (broken_line line bytes) cause.Encoding) _ _ (said_kept (kind_of (first_line bytes)) c y line bytes)

pub from_kept : (y : ℕ) (before : List Item) (text : List ℕ) (pieces : List Piece) → Keeps (reading_from None before text pieces) (reading_from (Some y) before text pieces)
unfolding reading_from
from_kept y before text [] = λ x e. e
from_kept y before text (p ∷ ps) =
    let bytes = take p.len (drop p.at text) in
    bind_keeps (reading (context_of None before) p.line bytes) (reading (context_of (Some y) before) p.line bytes) _ _
    (λ x e. ap (λ (c : Context). reading c p.line bytes) (context_dated y before) ∙ reading_kept (context_of None before) y p.line bytes x e)
    (λ i. bind_keeps (reading_from None (before ++ i ∷ []) text ps) (reading_from (Some y) (before ++ i ∷ []) text ps) _ _ (from_kept y (before ++ i ∷ []) text ps) (λ more x e. e))
