-- Rules that ask for accounts alone, and what is known of rules and all postings of an account.
use Rattle.std.specs.Prelude.{◌≡◌, ◌<◌, ℕ, Bool, true, false, List, length, get_or, Option, Some, None, IfSome}
use Rattle.std.specs.List.{list_all}
use Rattle.book.specs.declared.transaction.Posting.{Posting}
use Rattle.book.specs.declared.transaction.Txn.{Txn}
use Rattle.query.specs.Matching.{Own}
use Rattle.query.specs.Words.{terms_mean}
use Rattle.query_terms.specs.Reading.{term_of}
use Rattle.query_terms.specs.declared.kinds.Kind.{Kind}
use Rattle.query_terms.specs.declared.kinds.Kind.TheVariants as kinds
use Rattle.query_terms.specs.declared.kinds.Term.{Term}
use Rattle.generated.specs.Rules.{Asked}

-- a term looks at nothing of a posting but its account
abbrev pub is_of_account : Kind → Bool
is_of_account (kinds.Account pattern) = true
is_of_account (kinds.Depth depth) = true
is_of_account _ = false

abbrev pub asks_account : Option Term → Bool
asks_account None = false
asks_account (Some term) = is_of_account term.kind

-- each of some words is a term that does
abbrev pub ask_accounts : ℕ → List (List ℕ) → Bool
ask_accounts day words = list_all (λ word. asks_account (term_of day word)) words

-- each of some terms does
abbrev pub are_of_accounts : List Term → Bool
are_of_accounts terms = list_all (λ term. is_of_account term.kind) terms

-- whether a rule means a posting, where that is known
abbrev pub IsSo : Own → Txn → Posting → Asked → Option Bool → Type 0
IsSo own txn posting rule known = IfSome known (λ means. terms_mean rule.terms own posting txn ≡ means)

-- whether it means each posting of an account, where that is known
abbrev pub IsVerdict : List ℕ → Asked → Option Bool → Type 0
IsVerdict account rule known =
    (own : Own) (txn : Txn) (posting : Posting) → posting.account ≡ account → IsSo own txn posting rule known

-- what is known at a place
abbrev pub known_at : List (Option Bool) → ℕ → Option Bool
known_at known at = get_or known at None

-- what is known of some rules, in their order, and a posting
abbrev pub AreSo : Own → Txn → Posting → List Asked → List (Option Bool) → Type 0
AreSo own txn posting rules known =
    (at : ℕ) (d : Asked) → at < length rules → IsSo own txn posting (get_or rules at d) (known_at known at)

-- and each posting of an account
abbrev pub AreVerdicts : List ℕ → List Asked → List (Option Bool) → Type 0
AreVerdicts account rules known =
    (at : ℕ) (d : Asked) → at < length rules → IsVerdict account (get_or rules at d) (known_at known at)
