-- Days and decimals of an entry that is read.
use Rattle.std.proofs.Common.{ℕ, ◌+◌, not, List, [], ◌∷◌, ◌++◌, drop, take, map, Option, Some, None, Result, Ok, Err, refl}
use Rattle.std.specs.Prelude.{IfSome}
use Rattle.std.specs.List.{prefix_len, take_while, AllByRecursion}
use Rattle.std.specs.Option.{option_to_list}
use Rattle.hl_base.specs.Items.{is_white}
use Rattle.hl_time.specs.Calendar.{IsDay, year_of}
use Rattle.hl_time.specs.Date.{date_of}
use Rattle.hl_time.specs.declared.day.Day.{Day}
use Rattle.book.specs.Style.{cost_amount}
use Rattle.book.specs.declared.amount.Assertion.{Assertion}
use Rattle.book.specs.declared.fault.Fault.{Fault}
use Rattle.book.specs.declared.fault.Cause.TheVariants as cause
use Rattle.book.specs.declared.item.Item.{Item}
use Rattle.book.specs.declared.item.Item.TheVariants as item
use Rattle.book.specs.declared.rules.RulePosting.{RulePosting}
use Rattle.book.specs.declared.transaction.Posting.{Posting}
use Rattle.book.specs.declared.transaction.Txn.{Txn}
use Rattle.entry_reader.specs.Accounts.{account_at, account_len}
use Rattle.entry_reader.specs.Causes.{fault_at}
use Rattle.entry_reader.specs.Comments.{comments_in, date_value, day_in, day_or, day_written, is_comment}
use Rattle.entry_reader.specs.Contexts.{Context}
use Rattle.entry_reader.specs.Entries.{entry_of, entry_with, txn_from}
use Rattle.entry_reader.specs.Heads.{Head, day_at, day_before, ends_word, head_from, head_of, is_date_byte, mark_at}
use Rattle.entry_reader.specs.Lines.{after_white, first_is}
use Rattle.entry_reader.specs.Postings.{each_of, ending_of, numbers_at, own_day, posting_from, posting_line, posting_of, postings_of, rule_posting_of, rule_posting_with, says_much, with_comments}
use Rattle.entry_reader.specs.declared.quantity.Holder.TheVariants as holder
use Rattle.reached_walk.proofs.Lists.{all-join}
use Rattle.book_laws.specs.Decimals.{IsShort}
use Rattle.book_laws.specs.Writing.{amounts_in}
use Rattle.read_days.specs.Dating.{IsDated}
use Rattle.read_days.proofs.Dates.{Dated, date_dated}
use Rattle.read_days.proofs.Giving.{Gives, after_gives, bind_gives, choice_gives, err_gives, ok_gives, unless_gives, when_gives}
use Rattle.read_days.proofs.Numbers.{AreShort, IsNumbersRead, numbers_gives}

-- ---- days

abbrev IsDayRead : Option Day → Type 0
IsDayRead o = IfSome o (λ day. IsDay day.0)

written_gives : (line : ℕ) (r : Result ℕ ℕ) → Dated r → Gives IsDayRead (day_written line r)
written_gives line (Ok day) h = ok_gives IsDayRead (Some (record { 0 = day })) (h day refl)
written_gives line (Err at) h = err_gives IsDayRead (fault_at line cause.Date)

either_gives : (o : Option (List ℕ)) (year line : ℕ) (later : Result (Option Day) Fault) → Gives IsDayRead later → Gives IsDayRead (day_or o year line later)
either_gives None year line later h = h
either_gives (Some value) year line later h = written_gives line (date_of value (Some year)) (date_dated value (Some year))

tags_give : (year line : ℕ) (texts : List (List ℕ)) → Gives IsDayRead (day_in year line texts)
tags_give year line [] = ok_gives IsDayRead None tt
tags_give year line (text ∷ texts) = either_gives (date_value text) year line (day_in year (line + 1) texts) (tags_give year (line + 1) texts)

abbrev IsHeadDay : ℕ × List ℕ → Type 0
IsHeadDay r = IsDay r.0

before_gives : (line : ℕ) (rest : List ℕ) (r : Result ℕ ℕ) → Dated r → Gives IsHeadDay (day_before line rest r)
before_gives line rest (Err at) h = err_gives IsHeadDay (fault_at line cause.Date)
before_gives line rest (Ok day) h =
    when_gives IsHeadDay (ends_word rest) (Ok (day, after_white rest)) (fault_at line cause.Form) (ok_gives IsHeadDay (day, after_white rest) (h day refl))

day_gives : (year : Option ℕ) (line : ℕ) (text : List ℕ) → Gives IsHeadDay (day_at year line text)
unfolding day_at
day_gives year line text = before_gives line (drop (prefix_len is_date_byte text) text) (date_of (take_while is_date_byte text) year) (date_dated (take_while is_date_byte text) year)

abbrev pub IsHeadRead : Head → Type 0
IsHeadRead head = IsDay head.day

pub head_gives : (c : Context) (line : ℕ) (content : List ℕ) → Gives IsHeadRead (head_of c line content)
unfolding head_of
head_gives c line content =
    bind_gives IsHeadDay IsHeadRead (day_at c.year line content) _ (day_gives c.year line content) (λ day d.
    after_gives IsHeadRead (mark_at line day.1) _ (λ mark. ok_gives IsHeadRead (head_from day.0 mark.0 mark.1) d))

-- ---- postings

-- a posting that was read
pub record IsRead (p : Posting) : Type 0 where
  pub dated : IsDated p
  pub short : AreShort (amounts_in p)

-- what a posting's line says
abbrev IsLineRead : RulePosting × List ℕ → Type 0
IsLineRead r = AreShort (amounts_in (r.0).posting)

abbrev IsRuleRead : RulePosting → Type 0
IsRuleRead r = IsRead r.posting

module _ (c : Context) (y line : ℕ) where
  line_gives : (content : List ℕ) → Gives IsLineRead (posting_line (holder.Entry y) c line content)
  unfolding posting_line
  line_gives content =
      after_gives IsLineRead (mark_at line (after_white content)) _ (λ mark.
      after_gives IsLineRead (account_at c line (take (account_len mark.1) mark.1)) _ (λ account.
      bind_gives IsNumbersRead IsLineRead (numbers_at (holder.Entry y) c line (after_white (drop (account_len mark.1) mark.1))) _
      (numbers_gives c line y (after_white (drop (account_len mark.1) mark.1))) (λ numbers n.
      after_gives IsLineRead (ending_of line account.0 (says_much numbers.0) numbers.1) _ (λ own.
      ok_gives IsLineRead (posting_from line mark.0 account numbers.0, own)
      (all-join IsShort (option_to_list (numbers.0).amount) (map cost_amount (option_to_list (numbers.0).cost) ++ map (λ (w : Assertion). w.amount) (option_to_list (numbers.0).wanted)) n.amount
      (all-join IsShort (map cost_amount (option_to_list (numbers.0).cost)) (map (λ (w : Assertion). w.amount) (option_to_list (numbers.0).wanted)) n.cost n.wanted))))))

  rule_gives : (content : List ℕ) (after : List (List ℕ)) → Gives IsRuleRead (rule_posting_of (holder.Entry y) c line content after)
  unfolding rule_posting_of
  rule_gives content after =
      unless_gives IsRuleRead (not (first_is is_white content)) (fault_at line cause.Form) _
      (bind_gives IsLineRead IsRuleRead (posting_line (holder.Entry y) c line content) _ (line_gives content) (λ p short.
      bind_gives IsDayRead IsRuleRead (own_day (holder.Entry y) line (p.1 ∷ comments_in after)) _ (tags_give y line (p.1 ∷ comments_in after)) (λ day dated.
      ok_gives IsRuleRead (rule_posting_with (with_comments (p.0).posting p.1 (comments_in after) day) (p.0).factor) (record { dated = dated; short = short }))))

  posting_gives : (content : List ℕ) (after : List (List ℕ)) → Gives IsRead (posting_of (holder.Entry y) c line content after)
  posting_gives content after =
      bind_gives IsRuleRead IsRead (rule_posting_of (holder.Entry y) c line content after) (λ p. Ok p.posting) (rule_gives content after) (λ p read. ok_gives IsRead p.posting read)

abbrev pub AreRead : List Posting → Type 0
AreRead ps = AllByRecursion IsRead ps

postings_give : (c : Context) (y line : ℕ) (contents : List (List ℕ)) → Gives AreRead (postings_of c y line contents)
unfolding each_of
postings_give c y line [] = ok_gives AreRead [] tt
postings_give c y line (content ∷ more) =
    choice_gives AreRead (is_comment content) _ _
    (postings_give c y (line + 1) more)
    (bind_gives IsRead AreRead (posting_of (holder.Entry y) c line content more) _ (posting_gives c y line content more) (λ p read.
    bind_gives AreRead AreRead (each_of (posting_of (holder.Entry y) c) (line + 1) more) _ (postings_give c y (line + 1) more) (λ ps all.
    ok_gives AreRead (p ∷ ps) (read, all))))

-- ---- entries

-- a transaction that was read
pub record IsTxnRead (t : Txn) : Type 0 where
  pub day : IsDay t.day.0
  pub postings : AreRead t.postings

abbrev pub IsItemRead : Item → Type 0
IsItemRead (item.Txn t) = IsTxnRead t
IsItemRead _ = Unit {0}

pub entry_gives : (c : Context) (line : ℕ) (lines : List (List ℕ)) → Gives IsItemRead (entry_of c line lines)
unfolding entry_with
entry_gives c line [] = err_gives IsItemRead (fault_at line cause.Form)
entry_gives c line (content ∷ after) =
    bind_gives IsHeadRead IsItemRead (head_of c line content) _ (head_gives c line content) (λ head day.
    bind_gives AreRead IsItemRead (postings_of c (year_of head.day) (line + 1) after) _ (postings_give c (year_of head.day) (line + 1) after) (λ ps read.
    ok_gives IsItemRead (item.Txn (txn_from line head (comments_in after) ps)) (record { day = day; postings = read })))
