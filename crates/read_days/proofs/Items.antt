-- Days and decimals of the transactions of a text.
use Rattle.std.proofs.Common.{ℕ, zero, suc, ◌≡◌, ◌^◌, ◌<◌, Bool, List, [], ◌∷◌, ◌++◌, length, take, drop, Option, Some, None, Result, Ok, sym, ap, subst, ◌∙◌, arith}
use Rattle.std.specs.Prelude.{nat_lt, unwrap_or, IfSome}
use Rattle.std.specs.List.{slice_get, AllByRecursion}
use Rattle.std.specs.Str.{is_utf8}
use Rattle.hl_base.specs.Items.{items_of, kind_of}
use Rattle.hl_base.specs.Lines.{first_line}
use Rattle.hl_base.specs.declared.items.Kind.{Kind}
use Rattle.hl_base.specs.declared.items.Kind.TheVariants as kinds
use Rattle.hl_base.specs.declared.items.Piece.{Piece}
use Rattle.hl_base.specs.Limits.{entry_limit}
use Rattle.hl_time.specs.Calendar.{IsDay}
use Rattle.hl_time.specs.declared.day.Day.{Day}
use Rattle.book.specs.Postings.{txn_in, txns_of, postings_of as all_postings}
use Rattle.book.specs.declared.directive.Directive.{Directive}
use Rattle.book.specs.declared.fault.Fault.{Fault}
use Rattle.book.specs.declared.fault.Cause.TheVariants as cause
use Rattle.book.specs.declared.item.Item.{Item}
use Rattle.book.specs.declared.item.Item.TheVariants as item
use Rattle.book.specs.declared.item.Placed.{Placed}
use Rattle.book.specs.declared.transaction.Posting.{Posting}
use Rattle.book.specs.declared.transaction.Txn.{Txn}
use Rattle.directive_reader.specs.Commodities.{commodity_of, default_of}
use Rattle.directive_reader.specs.Declarations as declarations
use Rattle.directive_reader.specs.Declarations.{account_of, alias_of, apply_of, decimal_mark_of, end_aliases_of, end_apply_of, payee_of, tag_of}
use Rattle.directive_reader.specs.Directives.{head_item, item_by, item_with}
use Rattle.directive_reader.specs.Keywords.{keyword_at}
use Rattle.directive_reader.specs.Prices.{price_of}
use Rattle.directive_reader.specs.Rules.{auto_of, periodic_of}
use Rattle.directive_reader.specs.declared.keyword.Keyword.{Keyword}
use Rattle.directive_reader.specs.declared.keyword.Keyword.TheVariants as keywords
use Rattle.entry_reader.specs.Causes.{fault_at, ◌>>=◌}
use Rattle.entry_reader.specs.Contexts.{Context, context_of}
use Rattle.entry_reader.specs.Lines.{contents_of}
use Rattle.journal_reader.specs.Items.{broken_line, items_in, reading, reading_from, said_by}
use Rattle.reached_walk.specs.Closed.{Edit}
use Rattle.reached_walk.proofs.Lists.{all-join, all-map}
use Rattle.book_laws.specs.Decimals.{IsShort, WriteFew}
use Rattle.book_laws.specs.Reaching.{IsPlainReach, IsUnmixedReach}
use Rattle.book_laws.specs.Writing.{amounts_in}
use Rattle.book_laws.proofs.Few.{few_of}
use Rattle.read_days.specs.Dating.{IsDated, IsInCalendar}
use Rattle.read_days.proofs.Entries.{IsItemRead, IsRead, IsTxnRead, entry_gives}
use Rattle.read_days.proofs.Giving.{Gives, after_gives, bind_gives, err_gives, ok_gives, unless_gives, when_gives}

-- ---- items

module _ (c : Context) where
  as_item : (r : Result Directive Fault) → Gives IsItemRead (r >>= λ d. Ok (item.Directive d))
  as_item r = after_gives IsItemRead r (λ d. Ok (item.Directive d)) (λ d. ok_gives IsItemRead (item.Directive d) tt)

  keyword_gives : (k : Keyword) (line : ℕ) (text : List ℕ) (after : List (List ℕ)) → Gives IsItemRead (item_by k c line text after)
  keyword_gives keywords.Price line text after = after_gives IsItemRead (price_of c line text after) _ (λ p. ok_gives IsItemRead (item.Price p) tt)
  keyword_gives keywords.Auto line text after = after_gives IsItemRead (auto_of c line text after) _ (λ r. ok_gives IsItemRead (item.Auto r) tt)
  keyword_gives keywords.Periodic line text after = after_gives IsItemRead (periodic_of c line text after) _ (λ r. ok_gives IsItemRead (item.Periodic r) tt)
  keyword_gives keywords.Commodity line text after = as_item (commodity_of c line text after)
  keyword_gives keywords.Default line text after = as_item (default_of c line text after)
  keyword_gives keywords.Account line text after = as_item (account_of c line text after)
  keyword_gives keywords.Year line text after = as_item (declarations.year_of line text after)
  keyword_gives keywords.Apply line text after = as_item (apply_of line text after)
  keyword_gives keywords.EndApply line text after = as_item (end_apply_of c line text after)
  keyword_gives keywords.Alias line text after = as_item (alias_of line text after)
  keyword_gives keywords.EndAliases line text after = as_item (end_aliases_of line text after)
  keyword_gives keywords.Payee line text after = as_item (payee_of line text after)
  keyword_gives keywords.Tag line text after = as_item (tag_of line text after)
  keyword_gives keywords.DecimalMark line text after = as_item (decimal_mark_of line text after)
  keyword_gives keywords.Other line text after = err_gives IsItemRead (fault_at line cause.Directive)

  head_gives : (line : ℕ) (lines : List (List ℕ)) → Gives IsItemRead (head_item c line lines)
  unfolding item_with
  head_gives line [] = err_gives IsItemRead (fault_at line cause.Form)
  head_gives line (content ∷ after) = keyword_gives (keyword_at content).0 line (keyword_at content).1 after

  said_gives : (k : Kind) (line : ℕ) (bytes : List ℕ) → Gives IsItemRead (said_by k c line bytes)
  said_gives kinds.Gap line bytes = ok_gives IsItemRead item.Gap tt
  said_gives kinds.Block line bytes = ok_gives IsItemRead item.Block tt
  said_gives kinds.Stray line bytes = err_gives IsItemRead (fault_at line cause.Form)
  said_gives kinds.Entry line bytes =
      unless_gives IsItemRead (nat_lt entry_limit (length bytes)) (fault_at line cause.TooLong) _ (entry_gives c line (contents_of bytes))
  said_gives kinds.Head line bytes =
      unless_gives IsItemRead (nat_lt entry_limit (length bytes)) (fault_at line cause.TooLong) _ (head_gives line (contents_of bytes))

  reading_gives : (line : ℕ) (bytes : List ℕ) → Gives IsItemRead (reading c line bytes)
  unfolding reading
  reading_gives line bytes = when_gives IsItemRead (is_utf8 bytes) _ (fault_at (broken_line line bytes) cause.Encoding) (said_gives (kind_of (first_line bytes)) line bytes)

abbrev AreItemsRead : List Placed → Type 0
AreItemsRead placed = AllByRecursion (λ p. IsItemRead p.item) placed

items_give : (year : Option ℕ) (before : List Item) (text : List ℕ) (ps : List Piece) → Gives AreItemsRead (reading_from year before text ps)
unfolding reading_from
items_give year before text [] = ok_gives AreItemsRead [] tt
items_give year before text (p ∷ ps) =
    bind_gives IsItemRead AreItemsRead (reading (context_of year before) p.line (take p.len (drop p.at text))) _
    (reading_gives (context_of year before) p.line (take p.len (drop p.at text))) (λ i one.
    bind_gives AreItemsRead AreItemsRead (reading_from year (before ++ i ∷ []) text ps) _ (items_give year (before ++ i ∷ []) text ps) (λ more rest.
    ok_gives AreItemsRead (record { piece = p; item = i } ∷ more) (one, rest)))

-- ---- transactions

one_txn : (i : Item) → IsItemRead i → AllByRecursion IsTxnRead (txn_in i)
one_txn (item.Txn t) h = (h, tt)
one_txn item.Gap h = tt
one_txn item.Block h = tt
one_txn (item.Price p) h = tt
one_txn (item.Auto r) h = tt
one_txn (item.Periodic r) h = tt
one_txn (item.Directive d) h = tt

all_txns : (items : List Placed) → AreItemsRead items → AllByRecursion IsTxnRead (txns_of items)
all_txns [] h = tt
all_txns (p ∷ items) h = all-join IsTxnRead (txn_in p.item) (txns_of items) (one_txn p.item h.0) (all_txns items h.1)

txns_read : (year : Option ℕ) (text : List ℕ) (items : List Placed) → items_in year text ≡ Ok items → AllByRecursion IsTxnRead (txns_of items)
txns_read year text items e = all_txns items (items_give year [] text (items_of text) items e)

in_calendar : (t : Txn) → IsTxnRead t → IsInCalendar t
in_calendar t h = record { day = h.day; postings = all-map IsRead IsDated (λ p read. read.dated) t.postings h.postings }

pub calendar_in : (year : Option ℕ) (text : List ℕ) (items : List Placed) → items_in year text ≡ Ok items → AllByRecursion IsInCalendar (txns_of items)
calendar_in year text items e = all-map IsTxnRead IsInCalendar in_calendar (txns_of items) (txns_read year text items e)

few_in : (ts : List Txn) → AllByRecursion IsTxnRead ts → WriteFew ts
few_in [] h = tt
few_in (t ∷ ts) h =
    all-join (λ (p : Posting). AllByRecursion IsShort (amounts_in p)) t.postings (all_postings ts)
    (all-map IsRead (λ (p : Posting). AllByRecursion IsShort (amounts_in p)) (λ p read. read.short) t.postings (h.0).postings) (few_in ts h.1)

pub decimals_in : (year : Option ℕ) (text : List ℕ) (items : List Placed) → items_in year text ≡ Ok items → WriteFew (txns_of items)
decimals_in year text items e = few_in (txns_of items) (txns_read year text items e)

-- ---- sums reach their days

none-some : {X : Type 0} (x : X) → None ≡ Some x → ⊥
none-some x h = cc

some-same : {X : Type 0} (x y : X) → Some x ≡ Some y → x ≡ y
some-same x y h = cc

got : (P : Txn → Type 0) (ts : List Txn) (n : ℕ) (t : Txn) → AllByRecursion P ts → slice_get ts n ≡ Some t → P t
got P [] n t h s = absurd (none-some t s)
got P (u ∷ ts) zero t h s = subst P (some-same u t s) h.0
got P (u ∷ ts) (suc n) t h s = got P ts n t h.1 s

day_below : (d : ℕ) → IsDay d → d < 2 ^ 22
day_below d h = let most = h.1 in omega (arith, most)

pub near_in : (year : Option ℕ) (text : List ℕ) (items : List Placed) → items_in year text ≡ Ok items → (n : ℕ) (t : Txn) → slice_get (txns_of items) n ≡ Some t → t.day.0 < 2 ^ 22
near_in year text items e n t s = day_below t.day.0 (got IsTxnRead (txns_of items) n t (txns_read year text items e) s).day

own_below : (t : Txn) → IsDay t.day.0 → (o : Option Day) → IfSome o (λ (day : Day). IsDay day.0) → (unwrap_or o t.day).0 < 2 ^ 22
own_below t h None k = day_below t.day.0 h
own_below t h (Some d) k = day_below d.0 k

postings_below : (t : Txn) → IsTxnRead t → AllByRecursion (λ (p : Posting). (unwrap_or p.day t.day).0 < 2 ^ 22) t.postings
postings_below t h = all-map IsRead (λ (p : Posting). (unwrap_or p.day t.day).0 < 2 ^ 22) (λ p read. own_below t h.day p.day read.dated) t.postings h.postings

pub postings_near : (year : Option ℕ) (text : List ℕ) (items : List Placed) → items_in year text ≡ Ok items → (n : ℕ) (t : Txn) → slice_get (txns_of items) n ≡ Some t
    → AllByRecursion (λ (p : Posting). (unwrap_or p.day t.day).0 < 2 ^ 22) t.postings
postings_near year text items e n t s = postings_below t (got IsTxnRead (txns_of items) n t (txns_read year text items e) s)

-- ---- what a walk can do

pub plain_reach : (year : Option ℕ) (text : List ℕ) (items : List Placed) → items_in year text ≡ Ok items → (edit : Edit) → edit.after ≡ txns_of items
    → (set : ℕ → Bool) (after : List Txn) → IsUnmixedReach edit set after → IsPlainReach edit set after
plain_reach year text items e edit is set after h = record {
  closed = h.closed;
  solves = h.solves;
  few = few_of edit.after after h.solves (subst WriteFew (sym is) (decimals_in year text items e));
  undated = h.undated;
  unmixed = h.unmixed;
  near = λ n t on s. near_in year text items e n t (ap (λ (ts : List Txn). slice_get ts n) (sym is) ∙ s);
}
