-- Nothing is marked as found in what is read.
use Rattle.std.proofs.Common.{◌≡◌, ℕ, ◌+◌, Bool, true, false, cond, not, ◌&&◌, List, [], ◌∷◌, ◌++◌, take, drop, length, Option, Result, Ok, Err, refl, ap, subst}
use Rattle.std.specs.Prelude.{nat_lt}
use Rattle.std.specs.List.{list_all}
use Rattle.std.specs.Str.{is_utf8}
use Rattle.hl_base.specs.Items.{items_of, kind_of}
use Rattle.hl_base.specs.Lines.{first_line}
use Rattle.hl_base.specs.declared.items.Kind.{Kind}
use Rattle.hl_base.specs.declared.items.Kind.TheVariants as kinds
use Rattle.hl_base.specs.declared.items.Piece.{Piece}
use Rattle.hl_time.specs.Calendar.{year_of}
use Rattle.book.specs.declared.fault.Fault.{Fault}
use Rattle.book.specs.declared.item.Item.{Item}
use Rattle.book.specs.declared.item.Item.TheVariants as item
use Rattle.book.specs.declared.item.Placed.{Placed}
use Rattle.book.specs.declared.rules.RulePosting.{RulePosting}
use Rattle.book.specs.declared.transaction.Mark.{Mark}
use Rattle.book.specs.declared.transaction.Side.{Side}
use Rattle.book.specs.declared.transaction.Posting.{Posting}
use Rattle.book.specs.declared.transaction.Txn.{Txn}
use Rattle.book.specs.Postings.{txn_in, txns_of}
use Rattle.entry_reader.specs.declared.quantity.Holder.{Holder}
use Rattle.entry_reader.specs.declared.quantity.Holder.TheVariants as holder
use Rattle.entry_reader.specs.Causes.{◌>>=◌}
use Rattle.entry_reader.specs.Comments.{is_comment, comments_in}
use Rattle.entry_reader.specs.Contexts.{Context, context_of}
use Rattle.entry_reader.specs.Lines.{contents_of, first_is, after_white}
use Rattle.hl_base.specs.Items.{is_white}
use Rattle.hl_base.specs.Limits.{entry_limit}
use Rattle.entry_reader.specs.Heads.{head_of, mark_at}
use Rattle.entry_reader.specs.Accounts.{account_at, account_len}
use Rattle.entry_reader.specs.Postings.{Numbers, posting_of, rule_posting_of, rule_posting_with, with_comments, own_day, posting_line, posting_from, ending_of, says_much, numbers_at, each_of, postings_of}
use Rattle.entry_reader.specs.Entries.{entry_of, entry_with, txn_from}
use Rattle.directive_reader.specs.Directives.{directive_by, item_by, item_with, head_item}
use Rattle.directive_reader.specs.Keywords.{keyword_at}
use Rattle.directive_reader.specs.Prices.{price_of}
use Rattle.directive_reader.specs.Rules.{auto_of, periodic_of}
use Rattle.directive_reader.specs.declared.keyword.Keyword.{Keyword}
use Rattle.directive_reader.specs.declared.keyword.Keyword.TheVariants as keywords
use Rattle.journal_reader.specs.Items.{items_in, reading, reading_from, said_by}
use Rattle.balancing.specs.Solves.{is_unmarked, are_unmarked}

-- what a result may hold
abbrev Gives : {A : Type 0} → (A → Type 0) → Result A Fault → Type 0
Gives {A} P r = (x : A) → r ≡ Ok x → P x

ok_gives : {A : Type 0} (P : A → Type 0) (a : A) → P a → Gives P (Ok a)
ok_gives P a h x e = subst P (let same : a ≡ x = cc in same) h

err_gives : {A : Type 0} (P : A → Type 0) (fault : Fault) → Gives P (Err fault)
err_gives P fault x e = absurd (let never : ⊥ = cc in never)

bind_gives : {A B : Type 0} (Q : A → Type 0) (P : B → Type 0) (r : Result A Fault) (f : A → Result B Fault) → Gives Q r → ((a : A) → Q a → Gives P (f a)) → Gives P (r >>= f)
bind_gives Q P (Ok a) f h k = k a (h a refl)
bind_gives Q P (Err fault) f h k = err_gives P fault

bind_any : {A B : Type 0} (P : B → Type 0) (r : Result A Fault) (f : A → Result B Fault) → ((a : A) → Gives P (f a)) → Gives P (r >>= f)
bind_any P (Ok a) f k = k a
bind_any P (Err fault) f k = err_gives P fault

unless_gives : {A : Type 0} (P : A → Type 0) (t : Bool) (fault : Fault) (r : Result A Fault) → Gives P r → Gives P (cond t (Err fault) r)
unless_gives P true fault r h = err_gives P fault
unless_gives P false fault r h = h

either_gives : {A : Type 0} (P : A → Type 0) (t : Bool) (r s : Result A Fault) → Gives P r → Gives P s → Gives P (cond t r s)
either_gives P true r s h k = h
either_gives P false r s h k = k

-- ---- postings

abbrev Plain : Posting → Type 0
Plain p = is_unmarked p ≡ true

line_gives : (h : Holder) (context : Context) (line : ℕ) (content : List ℕ) → Gives (λ p. Plain (p.0).posting) (posting_line h context line content)
unfolding posting_line
line_gives h context line content =
    bind_any _ (mark_at line (after_white content)) _ (λ (mark : Mark × List ℕ).
    bind_any _ (account_at context line (take (account_len mark.1) mark.1)) _ (λ (account : Side × List ℕ).
    bind_any _ (numbers_at h context line (after_white (drop (account_len mark.1) mark.1))) _ (λ (numbers : Numbers × List ℕ).
    bind_any _ (ending_of line account.0 (says_much numbers.0) numbers.1) _ (λ (own : List ℕ).
    ok_gives (λ (p : RulePosting × List ℕ). Plain (p.0).posting) (posting_from line mark.0 account numbers.0, own) refl))))

rule_gives : (h : Holder) (context : Context) (line : ℕ) (content : List ℕ) (after : List (List ℕ)) → Gives (λ r. Plain r.posting) (rule_posting_of h context line content after)
unfolding rule_posting_of
rule_gives h context line content after =
    unless_gives (λ (r : RulePosting). Plain r.posting) (not (first_is is_white content)) _ _
    (bind_gives (λ (p : RulePosting × List ℕ). Plain (p.0).posting) (λ (r : RulePosting). Plain r.posting) (posting_line h context line content) _ (line_gives h context line content)
    (λ p plain. bind_any _ (own_day h line (p.1 ∷ comments_in after)) _ (λ day. ok_gives (λ (r : RulePosting). Plain r.posting) (rule_posting_with (with_comments (p.0).posting p.1 (comments_in after) day) (p.0).factor) plain)))

posting_gives : (h : Holder) (context : Context) (line : ℕ) (content : List ℕ) (after : List (List ℕ)) → Gives Plain (posting_of h context line content after)
posting_gives h context line content after =
    bind_gives (λ (r : RulePosting). Plain r.posting) Plain (rule_posting_of h context line content after) _ (rule_gives h context line content after) (λ r plain. ok_gives Plain r.posting plain)

abbrev AllPlain : List Posting → Type 0
AllPlain ps = list_all is_unmarked ps ≡ true

each_gives : (read : ℕ → List ℕ → List (List ℕ) → Result Posting Fault) → ((line : ℕ) (c : List ℕ) (cs : List (List ℕ)) → Gives Plain (read line c cs)) → (line : ℕ) (cs : List (List ℕ)) → Gives AllPlain (each_of read line cs)
unfolding each_of
each_gives read h line [] = ok_gives AllPlain [] refl
each_gives read h line (c ∷ cs) =
    either_gives AllPlain (is_comment c) (each_of read (line + 1) cs) _ (each_gives read h (line + 1) cs)
    (bind_gives Plain AllPlain (read line c cs) _ (h line c cs) (λ p plain.
    bind_gives AllPlain AllPlain (each_of read (line + 1) cs) _ (each_gives read h (line + 1) cs) (λ ps all.
    ok_gives AllPlain (p ∷ ps) (λ i. plain i && all i))))

-- ---- items

abbrev PlainItem : Item → Type 0
PlainItem i = are_unmarked (txn_in i) ≡ true

and_true : (b : Bool) → b ≡ true → (b && true) ≡ true
and_true b h = ap (λ c. c && true) h

entry_gives : (context : Context) (line : ℕ) (content : List ℕ) (after : List (List ℕ)) → Gives PlainItem (entry_with context line content after)
unfolding entry_with
entry_gives context line content after =
    bind_any PlainItem (head_of context line content) _ (λ head.
    bind_gives AllPlain PlainItem (postings_of context (year_of head.day) (line + 1) after) _ (each_gives (posting_of (holder.Entry (year_of head.day)) context) (posting_gives (holder.Entry (year_of head.day)) context) (line + 1) after) (λ ps all.
    ok_gives PlainItem (item.Txn (txn_from line head (comments_in after) ps)) (and_true (list_all is_unmarked ps) all)))

entry_of_gives : (context : Context) (line : ℕ) (lines : List (List ℕ)) → Gives PlainItem (entry_of context line lines)
entry_of_gives context line [] = err_gives PlainItem _
entry_of_gives context line (c ∷ cs) = entry_gives context line c cs

item_gives : (keyword : Keyword) (context : Context) (line : ℕ) (text : List ℕ) (after : List (List ℕ)) → Gives PlainItem (item_by keyword context line text after)
item_gives keywords.Price context line text after = bind_any PlainItem (price_of context line text after) _ (λ p. ok_gives PlainItem (item.Price p) refl)
item_gives keywords.Auto context line text after = bind_any PlainItem (auto_of context line text after) _ (λ p. ok_gives PlainItem (item.Auto p) refl)
item_gives keywords.Periodic context line text after = bind_any PlainItem (periodic_of context line text after) _ (λ p. ok_gives PlainItem (item.Periodic p) refl)
item_gives keyword context line text after = bind_any PlainItem (directive_by keyword context line text after) _ (λ d. ok_gives PlainItem (item.Directive d) refl)

head_gives : (context : Context) (line : ℕ) (lines : List (List ℕ)) → Gives PlainItem (head_item context line lines)
unfolding item_with
head_gives context line [] = err_gives PlainItem _
head_gives context line (c ∷ cs) = item_gives (keyword_at c).0 context line (keyword_at c).1 cs

said_gives : (kind : Kind) (context : Context) (line : ℕ) (bytes : List ℕ) → Gives PlainItem (said_by kind context line bytes)
said_gives kinds.Gap context line bytes = ok_gives PlainItem item.Gap refl
said_gives kinds.Block context line bytes = ok_gives PlainItem item.Block refl
said_gives kinds.Stray context line bytes = err_gives PlainItem _
said_gives kinds.Entry context line bytes = unless_gives PlainItem (nat_lt entry_limit (length bytes)) _ _ (entry_of_gives context line (contents_of bytes))
said_gives kinds.Head context line bytes = unless_gives PlainItem (nat_lt entry_limit (length bytes)) _ _ (head_gives context line (contents_of bytes))

reading_gives : (context : Context) (line : ℕ) (bytes : List ℕ) → Gives PlainItem (reading context line bytes)
unfolding reading
reading_gives context line bytes = either_gives PlainItem (is_utf8 bytes) _ _ (said_gives (kind_of (first_line bytes)) context line bytes) (err_gives PlainItem _)

all_parts : (xs ys : List Txn) → are_unmarked xs ≡ true → are_unmarked ys ≡ true → are_unmarked (xs ++ ys) ≡ true
all_parts [] ys h k = k
all_parts (x ∷ xs) ys h k =
    elim (list_all is_unmarked x.postings) as (λ b. (b && are_unmarked xs) ≡ true → (b && are_unmarked (xs ++ ys)) ≡ true) [
      | true ↦ λ e. all_parts xs ys e k
      | false ↦ λ e. e
    ] h

abbrev PlainItems : List Placed → Type 0
PlainItems items = are_unmarked (txns_of items) ≡ true

from_gives : (year : Option ℕ) (before : List Item) (text : List ℕ) (ps : List Piece) → Gives PlainItems (reading_from year before text ps)
unfolding reading_from
from_gives year before text [] = ok_gives PlainItems [] refl
from_gives year before text (p ∷ ps) =
    bind_gives PlainItem PlainItems (reading (context_of year before) p.line (take p.len (drop p.at text))) _ (reading_gives (context_of year before) p.line (take p.len (drop p.at text))) (λ i plain.
    bind_gives PlainItems PlainItems (reading_from year (before ++ i ∷ []) text ps) _ (from_gives year (before ++ i ∷ []) text ps) (λ more all.
    ok_gives PlainItems (record { piece = p; item = i } ∷ more) (all_parts (txn_in i) (txns_of more) plain all)))

-- nothing is marked as found in the items of a text
pub reads_unmarked : (year : Option ℕ) (text : List ℕ) (items : List Placed) → items_in year text ≡ Ok items → are_unmarked (txns_of items) ≡ true
reads_unmarked year text items is = from_gives year [] text (items_of text) items is
