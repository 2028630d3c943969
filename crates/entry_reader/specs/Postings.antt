-- Posting lines: `[MARK] ACCOUNT [2 SPACES OR TAB AMOUNT [COST] [ASSERTION]] [; COMMENT]`, and the comment lines after them.
use Rattle.std.specs.Prelude.{ℕ, ◌+◌, Bool, true, false, ◌&&◌, ◌||◌, not, List, [], ◌∷◌, ◌==◌, if◌then◌else◌, take, drop, Option, Some, None, Result, Ok, Err, is_some}
use Rattle.hl_base.specs.Ascii.{asterisk, equals, semicolon}
use Rattle.hl_base.specs.Items.{is_white}
use Rattle.hl_time.specs.declared.day.Day.{Day}
use Rattle.book.specs.declared.amount.Amount.{Amount}
use Rattle.book.specs.declared.amount.Assertion.{Assertion}
use Rattle.book.specs.declared.amount.Cost.{Cost}
use Rattle.book.specs.declared.fault.Fault.{Fault}
use Rattle.book.specs.declared.fault.Cause.TheVariants as cause
use Rattle.book.specs.declared.rules.Factor.{Factor}
use Rattle.book.specs.declared.rules.RulePosting.{RulePosting}
use Rattle.book.specs.declared.transaction.Posting.{Posting}
use Rattle.book.specs.declared.transaction.Side.{Side}
use Rattle.book.specs.declared.transaction.Side.TheVariants.{Free}
use Rattle.book.specs.declared.transaction.Mark.{Mark}
use Rattle.book.specs.Postings.{plain_posting}
use Rattle.entry_reader.specs.declared.quantity.Holder.{Holder}
use Rattle.entry_reader.specs.declared.quantity.Holder.TheVariants as holder
use Rattle.entry_reader.specs.Causes.{fault_at, ◌>>=◌}
use Rattle.entry_reader.specs.Contexts.{Context}
use Rattle.entry_reader.specs.Lines.{first_is, begins, after_white, trimmed}
use Rattle.entry_reader.specs.Comments.{is_comment, comments_in, comment_of, tags_in, day_in}
use Rattle.entry_reader.specs.Amounts.{amount_at, cost_at, factor_at, assertion_at}
use Rattle.entry_reader.specs.Symbols.{ends_amount}
use Rattle.entry_reader.specs.Accounts.{account_len, account_at}
use Rattle.entry_reader.specs.Heads.{mark_at}

abbrev pub is_entry : Holder → Bool
is_entry (holder.Entry year) = true
is_entry _ = false

abbrev pub is_auto : Holder → Bool
is_auto holder.Auto = true
is_auto _ = false

-- an amount, or a factor in its place
abbrev pub Quantity : Type 0
Quantity = Option Amount × Option Factor

abbrev pub is_written : Quantity → Bool
is_written quantity = is_some quantity.0 || is_some quantity.1

-- the amount that a text begins with, if any, or in an automated rule the factor behind a `*`, and what follows it
unfoldable pub quantity_at : Holder → Context → ℕ → List ℕ → Result (Quantity × List ℕ) Fault
quantity_at h context line text =
    if ends_amount text then Ok ((None, None), text)
    else if is_auto h && begins text asterisk then (do
      f ← factor_at context line (after_white (drop 1 text))
      Ok ((None, Some f.0), f.1))
    else (do
      a ← amount_at context line text
      Ok ((Some a.0, None), a.1))

-- the cost behind a quantity that is written
abbrev pub cost_behind : Bool → Context → ℕ → List ℕ → Result (Option Cost × List ℕ) Fault
cost_behind is_written context line text = if is_written then cost_at context line text else Ok (None, text)

-- the assertion that a text begins with, if any, in an entry alone
unfoldable pub claim_at : Holder → Context → ℕ → List ℕ → Result (Option Assertion × List ℕ) Fault
claim_at h context line text =
    if is_entry h && begins text equals then (do
      a ← assertion_at context line text
      Ok (Some a.0, a.1))
    else Ok (None, text)

-- what an account's posting says of numbers: an amount or a factor, a cost, and an assertion
pub record Numbers : Type 0 where
  pub amount : Option Amount
  pub factor : Option Factor
  pub cost : Option Cost
  pub wanted : Option Assertion

abbrev pub numbers_of : Option Amount → Option Factor → Option Cost → Option Assertion → Numbers
numbers_of amount factor cost wanted = record { amount = amount; factor = factor; cost = cost; wanted = wanted }

-- The numbers that a text begins with, and what follows them. A cost behind an assertion is read and ignored, where an
-- amount stands before it.
unfoldable pub numbers_at : Holder → Context → ℕ → List ℕ → Result (Numbers × List ℕ) Fault
numbers_at h context line text = do
  q ← quantity_at h context line text
  c ← cost_behind (is_written q.0) context line q.1
  w ← claim_at h context line c.1
  ignored ← cost_behind (is_some (q.0).0 && is_some w.0) context line w.1
  Ok (numbers_of (q.0).0 (q.0).1 c.0 w.0, ignored.1)

-- an amount, a factor or an assertion stands there
abbrev pub says_much : Numbers → Bool
says_much numbers = is_some numbers.amount || is_some numbers.factor || is_some numbers.wanted

-- the line has ended, or goes on with a comment
abbrev pub ends_line : List ℕ → Bool
ends_line [] = true
ends_line (b ∷ bs) = b == semicolon

-- what follows the `;`, or nothing where the line has ended
abbrev pub comment_at : List ℕ → List ℕ
comment_at text = if begins text semicolon then trimmed (drop 1 text) else []

abbrev pub is_free : Side → Bool
is_free Free = true
is_free _ = false

-- How a posting's line ends: with nothing, or with a comment, which it answers. A free virtual posting has an amount or an
-- assertion.
abbrev pub ending_of : ℕ → Side → Bool → List ℕ → Result (List ℕ) Fault
ending_of line side says_much text =
    if not (ends_line text) then Err (fault_at line cause.Form)
    else if is_free side && not says_much then Err (fault_at line cause.Form)
    else Ok (comment_at text)

-- a posting without what its comments say
abbrev pub posting_from : ℕ → Mark → Side × List ℕ → Numbers → RulePosting
posting_from line mark account numbers = record {
  posting = record (plain_posting line account.0 account.1) { mark = mark; amount = numbers.amount; cost = numbers.cost; wanted = numbers.wanted };
  factor = numbers.factor;
}

-- the posting that an indented line's content says, and the comment on the line
unfoldable pub posting_line : Holder → Context → ℕ → List ℕ → Result (RulePosting × List ℕ) Fault
posting_line h context line content = do
  mark ← mark_at line (after_white content)
  account ← account_at context line (take (account_len mark.1) mark.1)
  numbers ← numbers_at h context line (after_white (drop (account_len mark.1) mark.1))
  own ← ending_of line account.0 (says_much numbers.0) numbers.1
  Ok (posting_from line mark.0 account numbers.0, own)

-- the day of its own that a posting's comments say, with the transaction's year; in a rule none
abbrev pub own_day : Holder → ℕ → List (List ℕ) → Result (Option Day) Fault
own_day (holder.Entry year) line texts = day_in year line texts
own_day _ line texts = Ok None

-- a posting with its comment lines, of which the first is on its own line
abbrev pub with_comments : Posting → List ℕ → List (List ℕ) → Option Day → Posting
with_comments posting own more day = record posting { comment = comment_of own more; tags = tags_in (own ∷ more); day = day }

abbrev pub rule_posting_with : Posting → Option Factor → RulePosting
rule_posting_with posting factor = record { posting = posting; factor = factor }

-- the posting of a line's content and of the lines after it
unfoldable pub rule_posting_of : Holder → Context → ℕ → List ℕ → List (List ℕ) → Result RulePosting Fault
rule_posting_of h context line content after =
    if not (first_is is_white content) then Err (fault_at line cause.Form)
    else (do
      p ← posting_line h context line content
      day ← own_day h line (p.1 ∷ comments_in after)
      Ok (rule_posting_with (with_comments (p.0).posting p.1 (comments_in after) day) (p.0).factor))

abbrev pub posting_of : Holder → Context → ℕ → List ℕ → List (List ℕ) → Result Posting Fault
posting_of h context line content after = rule_posting_of h context line content after >>= λ p. Ok p.posting

-- what some lines say, of which the first is the line-th; a comment line belongs to what stands before it
unfoldable pub each_of : {A : Type 0} → (ℕ → List ℕ → List (List ℕ) → Result A Fault) → ℕ → List (List ℕ) → Result (List A) Fault
each_of read line [] = Ok []
each_of read line (c ∷ cs) =
    if is_comment c then each_of read (line + 1) cs
    else (do
      p ← read line c cs
      ps ← each_of read (line + 1) cs
      Ok (p ∷ ps))

-- the postings of an entry of a year, of a rule of a period, and of an automated rule
abbrev pub postings_of : Context → ℕ → ℕ → List (List ℕ) → Result (List Posting) Fault
postings_of context year line lines = each_of (posting_of (holder.Entry year) context) line lines

abbrev pub periodic_postings_of : Context → ℕ → List (List ℕ) → Result (List Posting) Fault
periodic_postings_of context line lines = each_of (posting_of holder.Periodic context) line lines

abbrev pub rule_postings_of : Context → ℕ → List (List ℕ) → Result (List RulePosting) Fault
rule_postings_of context line lines = each_of (rule_posting_of holder.Auto context) line lines
