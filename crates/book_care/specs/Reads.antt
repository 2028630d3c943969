-- Accounts that read back as they are.
use Rattle.std.specs.Prelude.{ℕ, Bool, true, false, not, ◌&&◌, List, ◌++◌, take, map, codes, None, Result, Ok, Err}
use Rattle.std.specs.Str.{bytes_eq}
use Rattle.book.specs.declared.directive.Directive.{Directive}
use Rattle.book.specs.declared.directive.Directive.TheVariants as directives
use Rattle.book.specs.declared.fault.Fault.{Fault}
use Rattle.book.specs.declared.item.Item.{Item}
use Rattle.book.specs.declared.item.Item.TheVariants as item
use Rattle.book.specs.declared.item.Placed.{Placed}
use Rattle.book.specs.declared.transaction.Mark.{Mark}
use Rattle.book.specs.declared.transaction.Mark.TheVariants.{Unmarked}
use Rattle.book.specs.declared.transaction.Side.{Side}
use Rattle.book.specs.declared.transaction.Side.TheVariants.{Real}
use Rattle.entry_reader.specs.Accounts.{account_alone, account_at, account_len}
use Rattle.entry_reader.specs.Causes.{◌>>=◌}
use Rattle.entry_reader.specs.Comments.{is_comment}
use Rattle.entry_reader.specs.Contexts.{Context, context_of}
use Rattle.entry_reader.specs.Heads.{mark_at}
use Rattle.entry_reader.specs.Lines.{after_white}

-- the context at the end of a text; the year of dates without one is of no matter
abbrev pub context_at_end : List Placed → Context
context_at_end items = context_of None (map (λ placed. placed.item) items)

-- a `D` directive says a default commodity
abbrev pub says_default : Directive → Bool
says_default (directives.Default amount) = true
says_default _ = false

abbrev pub is_default : Item → Bool
is_default (item.Directive directive) = says_default directive
is_default _ = false

-- the mark and the account that a posting's line begins with
unfoldable pub named_at : Context → List ℕ → Result (Mark × (Side × List ℕ)) Fault
named_at context content = do
  mark ← mark_at 1 (after_white content)
  account ← account_at context 1 (take (account_len mark.1) mark.1)
  Ok (mark.0, account)

abbrev pub is_unmarked : Mark → Bool
is_unmarked Unmarked = true
is_unmarked _ = false

abbrev pub is_real : Side → Bool
is_real Real = true
is_real _ = false

-- it is a real posting's, without a mark, of this very name
abbrev pub is_plain : List ℕ → Result (Mark × (Side × List ℕ)) Fault → Bool
is_plain name (Ok named) = is_unmarked named.0 && is_real named.1.0 && bytes_eq named.1.1 name
is_plain name (Err fault) = false

-- a line is no comment, and begins with the account of such a posting
abbrev pub begins_plain : Context → List ℕ → List ℕ → Bool
begins_plain context name content = not (is_comment content) && is_plain name (named_at context content)

-- a name in the line of a posting, before its amount
abbrev pub in_posting : List ℕ → List ℕ
in_posting name = codes "    " ++ name ++ codes "  "

abbrev pub is_account : Result (Side × List ℕ) Fault → Bool
is_account (Ok account) = true
is_account (Err fault) = false

-- all of a name is the text of an account; one with two spaces in it, which an alias may make, is not
abbrev pub stands_whole : List ℕ → Bool
stands_whole name = is_account (account_alone name)

-- a name that is written as the account of a real posting reads back as that account
abbrev pub reads_back : Context → List ℕ → Bool
reads_back context name = stands_whole name && begins_plain context name (in_posting name)
