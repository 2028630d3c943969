-- Transactions of hours that read again where they are written.
use Rattle.std.specs.Prelude.{◌≡◌, ℕ, ◌^◌, ◌<◌, ◌≤◌, Bool, true, false, not, List, ◌==◌, length, map}
use Rattle.std.specs.List.{flat_map, list_all, suffix_len, AllByRecursion}
use Rattle.std.specs.Str.{is_utf8}
use Rattle.hl_base.specs.Ascii.{line_feed, semicolon}
use Rattle.hl_base.specs.Items.{is_white}
use Rattle.hl_time.specs.Calendar.{IsDay}
use Rattle.book.specs.declared.transaction.Posting.{Posting}
use Rattle.book.specs.declared.transaction.Txn.{Txn}
use Rattle.entry_reader.specs.Accounts.{has_parts, account_len}
use Rattle.entry_reader.specs.Lines.{first_is}
use Rattle.time_logs.specs.Days.{hours_entry, hours_posting}
use Rattle.time_logs.specs.Quantities.{hundredths}
use Rattle.time_logs.specs.Said.{reads_otherwise}

-- a text in which a byte doesn't stand
abbrev pub lacks : ℕ → List ℕ → Bool
lacks byte text = list_all (λ b. not (b == byte)) text

-- An account: in UTF-8, of parts, on one line, and no tab or two white spaces end it.
pub record IsAccount (account : List ℕ) : Type 0 where
  pub utf8 : is_utf8 account ≡ true
  pub parts : has_parts account ≡ true
  pub whole : account_len account ≡ length account
  pub line : lacks line_feed account ≡ true

-- A description: in UTF-8, on one line, without a `;`, no code or mark, and without white space at its ends.
pub record IsDescription (text : List ℕ) : Type 0 where
  pub utf8 : is_utf8 text ≡ true
  pub line : lacks line_feed text ≡ true
  pub remark : lacks semicolon text ≡ true
  pub plain : reads_otherwise text ≡ false
  pub first : first_is is_white text ≡ false
  pub last : suffix_len is_white text ≡ 0

-- what was spent on an account, in hundredths of hours, by a line of a log
pub record Spent : Type 0 where
  pub line : ℕ
  pub account : List ℕ
  pub count : ℕ

abbrev pub spent_posting : Spent → Posting
spent_posting s = hours_posting s.line s.account (hundredths s.count)

pub record IsSpent (s : Spent) : Type 0 where
  pub account : IsAccount s.account
  pub few : s.count < 2 ^ 100

-- what was spent on a day, by a line of a log
pub record Entry : Type 0 where
  pub line : ℕ
  pub day : ℕ
  pub description : List ℕ
  pub spent : List Spent

abbrev pub entry_txn : Entry → Txn
entry_txn e = hours_entry e.line e.day e.description (map spent_posting e.spent)

pub record IsEntry (e : Entry) : Type 0 where
  pub day : IsDay e.day
  pub description : IsDescription e.description
  pub spent : AllByRecursion IsSpent e.spent

-- Some transactions are those of entries that read again where they are written.
pub record ArePlain (txns : List Txn) : Type 0 where
  pub entries : List Entry
  pub is : txns ≡ map entry_txn entries
  pub plain : AllByRecursion IsEntry entries
  pub few : length (flat_map (λ e. e.spent) entries) ≤ 2 ^ 24
