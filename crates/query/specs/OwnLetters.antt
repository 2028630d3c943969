-- The letters that accounts have of their own.
use Rattle.std.specs.Prelude.{ℕ, List, Option}
use Rattle.std.specs.HashMap.{get_by_text}
use Rattle.query.specs.declared.account_types.Types.{Types}

-- the letter that an account has of its own
abbrev pub own_in : Types → List ℕ → Option ℕ
own_in types name = get_by_text types.letters name
