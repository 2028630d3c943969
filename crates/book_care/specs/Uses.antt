-- The names that transactions use, each in its line, in the order in which they are written.
use Rattle.std.specs.Prelude.{ℕ, Bool, not, ◌&&◌, List, [], ◌∷◌, ◌++◌, map, Option, None, if◌then◌else◌}
use Rattle.std.specs.List.{flat_map}
use Rattle.std.specs.Option.{option_map, option_to_list}
use Rattle.book.specs.Style.{cost_amount}
use Rattle.book.specs.declared.transaction.Posting.{Posting}
use Rattle.book.specs.declared.transaction.Tag.{Tag}
use Rattle.book.specs.declared.transaction.Txn.{Txn}
use Rattle.query.specs.Matching.{payee_of}
use Rattle.book_care.specs.Declarations.{needs}
use Rattle.book_care.specs.Names.{has}
use Rattle.book_care.specs.declared.declarations.Declared.{Declared}
use Rattle.book_care.specs.declared.faults.Check.{Check}
use Rattle.book_care.specs.declared.faults.Check.TheVariants as checks

-- a line, and a name that is used there
abbrev pub Use : Type 0
Use = ℕ × List ℕ

-- the symbol of an amount or a cost that is written, and not found by balancing
abbrev pub amount_symbol : Posting → Option (List ℕ)
amount_symbol p = if p.filled then None else option_map (λ a. a.symbol) p.amount

abbrev pub cost_symbol : Posting → Option (List ℕ)
cost_symbol p = if p.costed then None else option_map (λ c. (cost_amount c).symbol) p.cost

-- the symbol of an assertion
abbrev pub wanted_symbol : Posting → Option (List ℕ)
wanted_symbol p = option_map (λ w. w.amount.symbol) p.wanted

-- the symbols of a posting's written amount, of its cost and of its assertion
abbrev pub symbols_in : Posting → List (List ℕ)
symbols_in p =
    option_to_list (amount_symbol p) ++ option_to_list (cost_symbol p) ++ option_to_list (wanted_symbol p)

abbrev pub tag_names : List Tag → List (List ℕ)
tag_names tags = map (λ tag. tag.name) tags

-- the names that a check asks about in a posting
abbrev pub posting_names : Check → Posting → List (List ℕ)
posting_names checks.Accounts p = p.account ∷ []
posting_names checks.Commodities p = symbols_in p
posting_names checks.Tags p = tag_names p.tags
posting_names _ p = []

-- those in the head of a transaction, with the comments below it
abbrev pub head_names : Check → Txn → List (List ℕ)
head_names checks.Payees t = payee_of t.description ∷ []
head_names checks.Tags t = tag_names t.tags
head_names _ t = []

abbrev pub in_line : ℕ → List (List ℕ) → List Use
in_line line names = map (λ name. (line, name)) names

-- the names of a posting, and those of a transaction
abbrev pub posting_uses : Check → Posting → List Use
posting_uses check p = in_line p.line (posting_names check p)

abbrev pub uses_in : Check → Txn → List Use
uses_in check t = in_line t.line (head_names check t) ++ flat_map (posting_uses check) t.postings

-- those of a book
abbrev pub uses_of : Check → List Txn → List Use
uses_of check txns = flat_map (uses_in check) txns

-- a name has to be declared and isn't, by what is kept
abbrev pub lacks : Declared → List ℕ → Bool
lacks declared name = needs declared.check name && not (has declared.names name)

-- the same of a name in a line
abbrev pub is_lacking : Declared → Use → Bool
is_lacking declared used = lacks declared used.1
