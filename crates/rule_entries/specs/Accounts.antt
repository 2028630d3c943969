-- Names of accounts in rules that speak of the matched account.
use Rattle.std.specs.Prelude.{ℕ, zero, suc, nat_eq, List, [], ◌∷◌, ◌++◌, codes, if◌then◌else◌}
use Rattle.std.specs.List.{starts_with}

-- the word that stands for the matched account
abbrev pub account_word : List ℕ
account_word = codes "%account"

-- a name with the matched account in place of the word, wherever it stands, after so many bytes that belong to one
abbrev pub put_after : List ℕ → ℕ → List ℕ → List ℕ
put_after matched taken [] = []
put_after matched (suc taken) (b ∷ bs) = put_after matched taken bs
put_after matched zero (b ∷ bs) =
    if starts_with nat_eq (b ∷ bs) account_word then matched ++ put_after matched 7 bs
    else b ∷ put_after matched zero bs

-- a name with the matched account in place of the word, wherever it stands
abbrev pub account_for : List ℕ → List ℕ → List ℕ
account_for name matched = put_after matched 0 name
