-- What a line of a log says, and the parts that both forms have.
use Rattle.std.specs.Prelude.{ℕ, Bool, false, ◌&&◌, ◌||◌, ◌==◌, List, [], ◌∷◌, take, drop, Option, Some, None, Result, Ok, Err, if◌then◌else◌}
use Rattle.hl_base.specs.Ascii.{semicolon, space, open_round, exclamation, asterisk}
use Rattle.book.specs.declared.fault.Fault.{Fault}
use Rattle.book.specs.declared.transaction.Side.{Side}
use Rattle.book.specs.declared.transaction.Side.TheVariants as sides
use Rattle.entry_reader.specs.Accounts.{account_alone, account_len}
use Rattle.entry_reader.specs.Lines.{before_byte, before_white, trimmed}
pub use Rattle.entry_reader.specs.Lines.{begins}

-- what a line says: what stands before a `;`, without the white space at its end
abbrev pub said : List ℕ → List ℕ
said content = before_white (before_byte semicolon content)

abbrev pub if_real : Side → List ℕ → Option (List ℕ)
if_real sides.Real account = Some account
if_real _ account = None

abbrev pub account_read : Result (Side × List ℕ) Fault → Option (List ℕ)
account_read (Ok read) = if_real read.0 read.1
account_read (Err fault) = None

-- the account that a text is, as that of a real posting
unfoldable pub account_said : List ℕ → Option (List ℕ)
account_said text = account_read (account_alone text)

-- the account at the front of a text ends before a tab and before two white spaces
abbrev pub account_front : List ℕ → List ℕ
account_front text = take (account_len text) text

abbrev pub after_account : List ℕ → List ℕ
after_account text = drop (account_len text) text

-- two spaces stand first
abbrev pub begins_gap : List ℕ → Bool
begins_gap (a ∷ b ∷ rest) = (a == space) && (b == space)
begins_gap _ = false

-- it would read as a code or as a mark in the first line of an entry
abbrev pub reads_otherwise : List ℕ → Bool
reads_otherwise text = begins text open_round || begins text exclamation || begins text asterisk

-- the description that a text is, where it may stand in the first line of an entry
unfoldable pub description_said : List ℕ → Option (List ℕ)
description_said text = if reads_otherwise (trimmed text) then None else Some (trimmed text)
