-- Lists of texts.
use Rattle.std.specs.Prelude.{◌≡◌, ℕ, Bool, false, ◌||◌, List, [], ◌∷◌, map, T}
use Rattle.std.specs.List.{list_any}
use Rattle.std.specs.Str.{bytes_eq}
use Rattle.std.specs.FinMap.Entries.{is_sorted}
use Rattle.book.specs.Accounts.{account_cmp}

-- a text is one of these
abbrev pub is_in : List ℕ → List (List ℕ) → Bool
is_in text texts = list_any (λ other. bytes_eq text other) texts

-- each stands once
abbrev pub EachOnce : List (List ℕ) → Type 0
EachOnce [] = Unit {0}
EachOnce (text ∷ texts) = (is_in text texts ≡ false) × EachOnce texts

-- they rise, in the order of accounts
abbrev pub AreInOrder : List (List ℕ) → Type 0
AreInOrder accounts = T (is_sorted account_cmp (map (λ account. (account, account)) accounts))

-- the names of two lists, in order
pub record AreOfBoth (names more all : List (List ℕ)) : Type 0 where
  pub rise : AreInOrder all
  pub each : (name : List ℕ) → is_in name all ≡ (is_in name names || is_in name more)
