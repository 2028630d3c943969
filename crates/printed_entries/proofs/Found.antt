-- What is known of a transaction once it is read in a context without directives.
use Rattle.std.proofs.Common.{ℕ, ◌≡◌, ◌+◌, Bool, true, false, cond, ◌==◌, not, List, [], ◌∷◌, length, drop, map, Option, Result, Ok, Err, refl, sym, ap, ◌∙◌, lit<}
use Rattle.std.specs.Prelude.{nat_lt}
use Rattle.std.specs.List.{suffix_len, take_while, AllByRecursion}
use Rattle.std.specs.Str.{is_utf8}
use Rattle.std.proofs.lemmas.Bool.{false≢true}
use Rattle.entry_reader.proofs.Both.{both_true}
use Rattle.hl_base.specs.Items.{is_white, kind_of}
use Rattle.hl_base.specs.Lines.{first_line, lines_of}
use Rattle.hl_base.specs.declared.items.Kind.{Kind}
use Rattle.hl_base.specs.declared.items.Kind.TheVariants as kinds
use Rattle.hl_base.specs.Limits.{entry_limit}
use Rattle.hl_time.specs.Calendar.{year_of}
use Rattle.hl_time.specs.declared.day.Day.{Day}
use Rattle.book.specs.declared.directive.Directive.{Directive}
use Rattle.book.specs.declared.fault.Cause.TheVariants as cause
use Rattle.book.specs.declared.fault.Fault.{Fault}
use Rattle.book.specs.declared.item.Item.{Item}
use Rattle.book.specs.declared.item.Item.TheVariants as item
use Rattle.book.specs.declared.rules.RulePosting.{RulePosting}
use Rattle.book.specs.declared.transaction.Posting.{Posting}
use Rattle.book.specs.declared.transaction.Txn.{Txn}
use Rattle.entry_reader.specs.Causes.{fault_at, ◌>>=◌}
use Rattle.entry_reader.specs.Comments.{comment_text, comments_in, day_in, is_comment}
use Rattle.entry_reader.specs.Contexts.{Context}
use Rattle.entry_reader.specs.Entries.{entry_of, entry_with, txn_from}
use Rattle.entry_reader.specs.Heads.{Head, head_of}
use Rattle.entry_reader.specs.Lines.{after_white, begins, content_of, contents_of, first_is}
use Rattle.entry_reader.specs.Postings.{each_of, posting_line, posting_of, postings_of, rule_posting_of, rule_posting_with, with_comments}
use Rattle.entry_reader.specs.declared.quantity.Holder.TheVariants as holder
use Rattle.directive_reader.specs.Directives.{directive_by, head_item, item_by, item_with}
use Rattle.directive_reader.specs.Keywords.{keyword_at}
use Rattle.directive_reader.specs.Prices.{price_of}
use Rattle.directive_reader.specs.Rules.{auto_of, periodic_of}
use Rattle.directive_reader.specs.declared.keyword.Keyword.{Keyword}
use Rattle.directive_reader.specs.declared.keyword.Keyword.TheVariants as keywords
use Rattle.journal_reader.specs.Items.{broken_line, reading, said_by}
use Rattle.written_logs.proofs.Accounts.{bare}
use Rattle.written_logs.proofs.Bytes.{before_white_ends}
use Rattle.closed_journals.proofs.Texts.{AreTexts, Gives, IsText, any_gives, bind_gives, choice_gives, contents_texts, err_gives, ok_gives, past_byte, unless_gives, unspaced_text, when_gives}
use Rattle.printed_entries.specs.Printed.{IsRead}
use Rattle.printed_entries.proofs.Heads.{IsHead, head_gives}
use Rattle.printed_entries.proofs.Lines.{posting_was_read_in}
use Rattle.printed_entries.proofs.Remarks.{AreRemarks, IsRemark, remark_of}
use Rattle.printed_entries.proofs.Told.{ChangesNothing, IsReadPosting}

-- ---- what lines say

-- a line's content: in UTF-8, on one line, without white space at its end
pub record IsContent (c : List ℕ) : Type 0 where
  pub text : IsText c
  pub last : suffix_len is_white c ≡ 0

abbrev pub AreContents : List (List ℕ) → Type 0
AreContents cs = AllByRecursion IsContent cs

contents_of_lines : (ls : List (List ℕ)) → AreTexts (map content_of ls) → AreContents (map content_of ls)
contents_of_lines [] are = tt
contents_of_lines (l ∷ ls) are = (record { text = are.0; last = before_white_ends (take_while (λ b. not (b == 10)) l) }, contents_of_lines ls are.1)

contents_are : (bytes : List ℕ) → is_utf8 bytes ≡ true → AreContents (contents_of bytes)
contents_are bytes utf8 = contents_of_lines (lines_of bytes) (contents_texts bytes utf8)

-- ---- comments

comment_remark : (c : List ℕ) → IsContent c → is_comment c ≡ true → IsRemark (comment_text c)
comment_remark c is h =
    let first = (both_true (first_is is_white c) (begins (after_white c) 59) h).1 in
    remark_of (drop 1 (after_white c)) (past_byte 59 (after_white c) (lit< tt) first (unspaced_text c is.text))

comments_are : (cs : List (List ℕ)) → AreContents cs → AreRemarks (comments_in cs)
comments_are [] are = tt
comments_are (c ∷ cs) are = by (is_comment c) refl (comments_are cs are.1)
  where
    by : (t : Bool) → is_comment c ≡ t → AreRemarks (comments_in cs) → AreRemarks (cond t (comment_text c ∷ comments_in cs) [])
    by true e rest = (comment_remark c are.0 e, rest)
    by false e rest = tt

-- ---- postings

-- a posting as its line says it, the comment on that line, its further lines, and the day that they say
pub record Noted : Type 0 where
  pub posting : Posting
  pub own : List ℕ
  pub more : List (List ℕ)
  pub day : Option Day

abbrev pub noted : Noted → Posting
noted n = with_comments n.posting n.own n.more n.day

-- It was read in an entry of a year.
pub record IsNoted (year : ℕ) (n : Noted) : Type 0 where
  pub read : IsReadPosting n.posting
  pub own : IsRemark n.own
  pub more : AreRemarks n.more
  pub line : ℕ
  pub day : day_in year line (n.own ∷ n.more) ≡ Ok n.day

-- a posting is one of these
record IsOne (year : ℕ) (p : Posting) : Type 0 where
  one : Noted
  is : p ≡ noted one
  read : IsNoted year one

-- some postings are these
pub record AreNoted (year : ℕ) (ps : List Posting) : Type 0 where
  pub all : List Noted
  pub are : ps ≡ map noted all
  pub read : AllByRecursion (IsNoted year) all

pub bare_plain : (year : Option ℕ) → ChangesNothing (bare year)
bare_plain year = record { usual = refl; named = λ name. refl }

line_read : (year : Option ℕ) (y line : ℕ) (content : List ℕ) (after : List (List ℕ)) (p : RulePosting) (own : List ℕ) (day : Option Day) → IsContent content → AreContents after
    → first_is is_white content ≡ true → is_comment content ≡ false → posting_line (holder.Entry y) (bare year) line content ≡ Ok (p, own)
    → day_in y line (own ∷ comments_in after) ≡ Ok day → IsOne y (with_comments p.posting own (comments_in after) day)
line_read year y line content after p own day is are first none reads days =
    let both = posting_was_read_in (bare year) y line content own p (bare_plain year) (is.text).utf8 (is.text).line is.last first none reads in
    record {
      one = record { posting = p.posting; own = own; more = comments_in after; day = day };
      is = refl;
      read = record { read = both.0; own = both.1; more = comments_are after are; line = line; day = days };
    }

turned : (b : Bool) → not b ≡ false → b ≡ true
turned true h = refl
turned false h = absurd (false≢true (sym h))

abbrev IsOneOf : ℕ → RulePosting → Type 0
IsOneOf y p = IsOne y p.posting

-- what follows a part, where both are known to be read
told_gives : {A B : Type 0} (P : B → Type 0) (r : Result A Fault) (f : A → Result B Fault) → ((a : A) → r ≡ Ok a → Gives P (f a)) → Gives P (r >>= f)
told_gives P (Ok a) f k = k a refl
told_gives P (Err fault) f k = err_gives P fault

rule_gives : (year : Option ℕ) (y line : ℕ) (content : List ℕ) (after : List (List ℕ)) → IsContent content → AreContents after → is_comment content ≡ false
    → Gives (IsOneOf y) (rule_posting_of (holder.Entry y) (bare year) line content after)
unfolding rule_posting_of
rule_gives year y line content after is are none =
    unless_gives (IsOneOf y) (not (first_is is_white content)) (fault_at line cause.Form) _ (λ white.
    told_gives (IsOneOf y) (posting_line (holder.Entry y) (bare year) line content) _ (λ p reads.
    told_gives (IsOneOf y) (day_in y line (p.1 ∷ comments_in after)) _ (λ day days.
    ok_gives (IsOneOf y) (rule_posting_with (with_comments (p.0).posting p.1 (comments_in after) day) (p.0).factor)
    (line_read year y line content after p.0 p.1 day is are (turned (first_is is_white content) white) none reads days))))

one_gives : (year : Option ℕ) (y line : ℕ) (content : List ℕ) (after : List (List ℕ)) → IsContent content → AreContents after → is_comment content ≡ false
    → Gives (IsOne y) (posting_of (holder.Entry y) (bare year) line content after)
one_gives year y line content after is are none =
    bind_gives (IsOneOf y) (IsOne y) (rule_posting_of (holder.Entry y) (bare year) line content after) (λ p. Ok p.posting) (rule_gives year y line content after is are none) (λ p one.
    ok_gives (IsOne y) p.posting one)

joined_notes : (y : ℕ) (p : Posting) (ps : List Posting) → IsOne y p → AreNoted y ps → AreNoted y (p ∷ ps)
joined_notes y p ps one more = record {
  all = one.one ∷ more.all;
  are = ap (λ (q : Posting). q ∷ ps) one.is ∙ ap (λ (qs : List Posting). noted one.one ∷ qs) more.are;
  read = (one.read, more.read);
}

pub postings_give : (year : Option ℕ) (y line : ℕ) (cs : List (List ℕ)) → AreContents cs → Gives (AreNoted y) (postings_of (bare year) y line cs)
unfolding each_of
postings_give year y line [] are = ok_gives (AreNoted y) [] (record { all = []; are = refl; read = tt })
postings_give year y line (c ∷ cs) are =
    choice_gives (AreNoted y) (is_comment c) (postings_of (bare year) y (line + 1) cs) _ (λ h. postings_give year y (line + 1) cs are.1) (λ h.
    bind_gives (IsOne y) (AreNoted y) (posting_of (holder.Entry y) (bare year) line c cs) _ (one_gives year y line c cs are.0 are.1 h) (λ p one.
    bind_gives (AreNoted y) (AreNoted y) (postings_of (bare year) y (line + 1) cs) (λ ps. Ok (p ∷ ps)) (postings_give year y (line + 1) cs are.1) (λ ps more.
    ok_gives (AreNoted y) (p ∷ ps) (joined_notes y p ps one more))))

-- ---- whole entries

-- a transaction of a head, of the further lines of its comment, and of postings
pub record IsFound (t : Txn) : Type 0 where
  pub line : ℕ
  pub head : Head
  pub more : List (List ℕ)
  pub notes : List Noted
  pub is : t ≡ txn_from line head more (map noted notes)
  pub head_is : IsHead head
  pub more_are : AreRemarks more
  pub notes_are : AllByRecursion (IsNoted (year_of head.day)) notes

-- an item is such a transaction, where it is one
abbrev IsFoundItem : Item → Type 0
IsFoundItem (item.Txn t) = IsFound t
IsFoundItem _ = Unit {0}

found : (line : ℕ) (head : Head) (more : List (List ℕ)) (ps : List Posting) → IsHead head → AreRemarks more → AreNoted (year_of head.day) ps → IsFound (txn_from line head more ps)
found line head more ps is are notes = record {
  line = line;
  head = head;
  more = more;
  notes = notes.all;
  is = ap (λ (qs : List Posting). txn_from line head more qs) notes.are;
  head_is = is;
  more_are = are;
  notes_are = notes.read;
}

entry_gives : (year : Option ℕ) (line : ℕ) (cs : List (List ℕ)) → AreContents cs → Gives IsFoundItem (entry_of (bare year) line cs)
unfolding entry_with
entry_gives year line [] are = err_gives IsFoundItem (fault_at line cause.Form)
entry_gives year line (c ∷ cs) are =
    bind_gives IsHead IsFoundItem (head_of (bare year) line c) _ (head_gives (bare year) line c (are.0).text) (λ head is.
    bind_gives (AreNoted (year_of head.day)) IsFoundItem (postings_of (bare year) (year_of head.day) (line + 1) cs) _ (postings_give year (year_of head.day) (line + 1) cs are.1) (λ ps notes.
    ok_gives IsFoundItem (item.Txn (txn_from line head (comments_in cs) ps)) (found line head (comments_in cs) ps is (comments_are cs are.1) notes)))

-- ---- no other piece is one

directive_gives : (r : Result Directive Fault) → Gives IsFoundItem (r >>= λ d. Ok (item.Directive d))
directive_gives r = bind_gives (λ _. Unit {0}) IsFoundItem r (λ d. Ok (item.Directive d)) (any_gives r) (λ d t. ok_gives IsFoundItem (item.Directive d) tt)

keyword_gives : (context : Context) (k : Keyword) (line : ℕ) (text : List ℕ) (after : List (List ℕ)) → Gives IsFoundItem (item_by k context line text after)
keyword_gives context keywords.Price line text after = bind_gives (λ _. Unit {0}) IsFoundItem (price_of context line text after) _ (any_gives (price_of context line text after)) (λ p t. ok_gives IsFoundItem (item.Price p) tt)
keyword_gives context keywords.Auto line text after = bind_gives (λ _. Unit {0}) IsFoundItem (auto_of context line text after) _ (any_gives (auto_of context line text after)) (λ r t. ok_gives IsFoundItem (item.Auto r) tt)
keyword_gives context keywords.Periodic line text after = bind_gives (λ _. Unit {0}) IsFoundItem (periodic_of context line text after) _ (any_gives (periodic_of context line text after)) (λ r t. ok_gives IsFoundItem (item.Periodic r) tt)
keyword_gives context keywords.Commodity line text after = directive_gives (directive_by keywords.Commodity context line text after)
keyword_gives context keywords.Default line text after = directive_gives (directive_by keywords.Default context line text after)
keyword_gives context keywords.Account line text after = directive_gives (directive_by keywords.Account context line text after)
keyword_gives context keywords.Year line text after = directive_gives (directive_by keywords.Year context line text after)
keyword_gives context keywords.Apply line text after = directive_gives (directive_by keywords.Apply context line text after)
keyword_gives context keywords.EndApply line text after = directive_gives (directive_by keywords.EndApply context line text after)
keyword_gives context keywords.Alias line text after = directive_gives (directive_by keywords.Alias context line text after)
keyword_gives context keywords.EndAliases line text after = directive_gives (directive_by keywords.EndAliases context line text after)
keyword_gives context keywords.Payee line text after = directive_gives (directive_by keywords.Payee context line text after)
keyword_gives context keywords.Tag line text after = directive_gives (directive_by keywords.Tag context line text after)
keyword_gives context keywords.DecimalMark line text after = directive_gives (directive_by keywords.DecimalMark context line text after)
keyword_gives context keywords.Other line text after = directive_gives (directive_by keywords.Other context line text after)

head_item_gives : (context : Context) (line : ℕ) (cs : List (List ℕ)) → Gives IsFoundItem (head_item context line cs)
unfolding item_with
head_item_gives context line [] = err_gives IsFoundItem (fault_at line cause.Form)
head_item_gives context line (c ∷ cs) = keyword_gives context (keyword_at c).0 line (keyword_at c).1 cs

said_gives : (year : Option ℕ) (k : Kind) (line : ℕ) (bytes : List ℕ) → is_utf8 bytes ≡ true → Gives IsFoundItem (said_by k (bare year) line bytes)
said_gives year kinds.Gap line bytes utf8 = ok_gives IsFoundItem item.Gap tt
said_gives year kinds.Block line bytes utf8 = ok_gives IsFoundItem item.Block tt
said_gives year kinds.Stray line bytes utf8 = err_gives IsFoundItem (fault_at line cause.Form)
said_gives year kinds.Entry line bytes utf8 =
    unless_gives IsFoundItem (nat_lt entry_limit (length bytes)) (fault_at line cause.TooLong) _ (λ _. entry_gives year line (contents_of bytes) (contents_are bytes utf8))
said_gives year kinds.Head line bytes utf8 =
    unless_gives IsFoundItem (nat_lt entry_limit (length bytes)) (fault_at line cause.TooLong) _ (λ _. head_item_gives (bare year) line (contents_of bytes))

reading_gives : (year : Option ℕ) (line : ℕ) (bytes : List ℕ) → Gives IsFoundItem (reading (bare year) line bytes)
unfolding reading
reading_gives year line bytes = when_gives IsFoundItem (is_utf8 bytes) _ (fault_at (broken_line line bytes) cause.Encoding) (λ utf8. said_gives year (kind_of (first_line bytes)) line bytes utf8)

pub read_found : (t : Txn) → IsRead t → IsFound t
read_found t read = reading_gives read.year read.line read.bytes (item.Txn t) read.reads
