-- The accounts of postings.
use Rattle.std.specs.Prelude.{ℕ, ◌+◌, ◌-◌, Bool, ◌&&◌, ◌||◌, List, [], ◌∷◌, ◌==◌, nat_le, slice_index, if◌then◌else◌, length, take, drop, Result, Ok, Err, not}
use Rattle.std.specs.List.{list_all}
use Rattle.hl_base.specs.Ascii.{close_round, close_square, line_feed, open_round, open_square, tab}
use Rattle.hl_base.specs.Items.{is_white}
use Rattle.book.specs.declared.fault.Fault.{Fault}
use Rattle.book.specs.declared.fault.Cause.TheVariants as cause
use Rattle.book.specs.declared.transaction.Side.{Side}
use Rattle.book.specs.declared.transaction.Side.TheVariants.{Real, Balanced, Free}
use Rattle.book.specs.Accounts.{parts_of}
use Rattle.entry_reader.specs.Causes.{fault_at, ◌>>=◌}
use Rattle.entry_reader.specs.Contexts.{Context, account_named}
use Rattle.entry_reader.specs.Lines.{first_is, has_byte, before_byte, before_white}

-- an account ends before a tab and before two white spaces
abbrev pub ends_name : ℕ → List ℕ → Bool
ends_name b bs = (b == tab) || (is_white b && first_is is_white bs)

-- how many bytes the account has that a text begins with
abbrev pub account_len : List ℕ → ℕ
account_len [] = 0
account_len (b ∷ bs) = if ends_name b bs then 0 else account_len bs + 1

-- it stands between two bytes
abbrev pub is_within : ℕ → ℕ → List ℕ → Bool
is_within first last text = nat_le 2 (length text) && (slice_index text 0 == first) && (slice_index text (length text - 1) == last)

-- in parentheses it is a free virtual posting's, in brackets a balanced one's
abbrev pub side_of : List ℕ → Side
side_of text = if is_within open_round close_round text then Free else if is_within open_square close_square text then Balanced else Real

abbrev pub is_bracketed : List ℕ → Bool
is_bracketed text = is_within open_round close_round text || is_within open_square close_square text

-- the name without its brackets
abbrev pub name_of : List ℕ → List ℕ
name_of text = if is_bracketed text then take (length text - 2) (drop 1 text) else text

-- 1 to 64 parts, none of them empty
abbrev pub has_parts : List ℕ → Bool
has_parts name = nat_le (length (parts_of name)) 64 && list_all (λ part. nat_le 1 (length part)) (parts_of name)

-- a posting's side and the name that is written
abbrev pub account_of : ℕ → List ℕ → Result (Side × List ℕ) Fault
account_of line text = if has_parts (name_of text) then Ok (side_of text, name_of text) else Err (fault_at line cause.Account)

-- a name as the context changes it; it has its parts as it is written and as it is changed
abbrev pub name_in : Context → ℕ → List ℕ → Result (List ℕ) Fault
name_in context line name =
    if has_parts name && has_parts (account_named context name) then Ok (account_named context name)
    else Err (fault_at line cause.Account)

-- the side and the name of the account that a text is, as the context changes it
abbrev pub account_at : Context → ℕ → List ℕ → Result (Side × List ℕ) Fault
account_at context line text = name_in context line (name_of text) >>= λ name. Ok (side_of text, name)

-- all of a text is an account, without white space at its ends
abbrev pub is_account_text : List ℕ → Bool
is_account_text text =
    (account_len text == length text) && not (first_is is_white text) && not (has_byte line_feed text)
    && not (first_is is_white (drop (length text - 1) text))

-- what a line's text is the account of, were it one
abbrev pub account_front : List ℕ → List ℕ
account_front line = before_white (take (account_len line) line)

-- A whole text as the account of a posting: first white space at its front, then the account that stands there, and then
-- what follows it.
unfoldable pub account_alone : List ℕ → Result (Side × List ℕ) Fault
account_alone text =
    if first_is is_white text then Err (fault_at 1 cause.Form)
    else (do
      account ← account_of 1 (account_front (before_byte line_feed text))
      if is_account_text text then Ok account else Err (fault_at 1 cause.Form))
