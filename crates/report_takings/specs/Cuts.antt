-- Accounts that are cut to a depth.
use Rattle.std.specs.Prelude.{ℕ, List, take, Option, Some, None}
use Rattle.std.specs.List.{join_with_byte}
use Rattle.hl_base.specs.Ascii.{colon}
use Rattle.book.specs.Accounts.{parts_of}

-- the first parts of an account, as many as the depth says
abbrev pub cut_to : Option ℕ → List ℕ → List ℕ
cut_to None account = account
cut_to (Some depth) account = join_with_byte colon (take depth (parts_of account))
