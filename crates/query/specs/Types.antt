-- The letters of accounts.
use Rattle.std.specs.Prelude.{ℕ, zero, suc, Bool, ◌&&◌, ◌||◌, ◌==◌, nat_lt, List, [], ◌∷◌, map, length, take, slice_index, codes, Option, Some, None, if◌then◌else◌}
use Rattle.std.specs.List.{flat_map, position_or_len}
use Rattle.std.specs.Option.{option_or}
use Rattle.std.specs.Str.{bytes_eq}
use Rattle.hl_base.specs.Ascii.{colon}
use Rattle.book.specs.declared.directive.Directive.{Directive}
use Rattle.book.specs.declared.directive.Directive.TheVariants as directives
use Rattle.book.specs.declared.item.Item.{Item}
use Rattle.book.specs.declared.item.Item.TheVariants as item
use Rattle.book.specs.declared.item.Placed.{Placed}
use Rattle.query_terms.specs.Reading.{upper, before_byte, after_byte, has_byte}
use Rattle.query.specs.Letters.{asset, conversion, equity, expense, liability, revenue}

-- the account and letter that a directive declares
abbrev pub declared_by : Directive → List (List ℕ × ℕ)
declared_by (directives.Account name (Some letter)) = (name, letter) ∷ []
declared_by _ = []

abbrev pub declared_in : Item → List (List ℕ × ℕ)
declared_in (item.Directive directive) = declared_by directive
declared_in _ = []

-- the accounts with a letter of their own among some items, in order
abbrev pub declared_of : List Placed → List (List ℕ × ℕ)
declared_of items = flat_map (λ placed. declared_in placed.item) items

-- the place of a letter in A, L, E, R, X, C, V; any other comes behind them
abbrev pub rank : ℕ → ℕ
rank letter = position_or_len (λ c. c == letter) (codes "ALERXCV")

-- of several letters of one account the one that comes last in that order counts, whichever was declared first
abbrev pub greater_letter : Option ℕ → ℕ → ℕ
greater_letter None letter = letter
greater_letter (Some other) letter = if nat_lt (rank letter) (rank other) then other else letter

-- the letter under a name after what some items declare
abbrev pub noted : List (List ℕ × ℕ) → Option ℕ → List ℕ → Option ℕ
noted [] before name = before
noted (d ∷ ds) before name = noted ds (if bytes_eq name d.0 then Some (greater_letter before d.1) else before) name

-- the letter of an account's own, of those that are declared for it
abbrev pub own_letter : List (List ℕ × ℕ) → List ℕ → Option ℕ
own_letter declared name = noted declared None name

-- what stands before each of the first colons of a name, the longest first
abbrev pub parents_below : List ℕ → ℕ → List (List ℕ)
parents_below account zero = []
parents_below account (suc k) =
    if slice_index account k == colon then take k account ∷ parents_below account k else parents_below account k

-- the parents of an account, the nearest first
abbrev pub parents_of : List ℕ → List (List ℕ)
parents_of account = parents_below account (length account)

-- the letter of the first of some accounts that has one of its own
abbrev pub nearest : (List ℕ → Option ℕ) → List (List ℕ) → Option ℕ
nearest own [] = None
nearest own (name ∷ names) = option_or (own name) (nearest own names)

-- the letter of the parent that ends at a place, if one does
abbrev pub parent_letter : (List ℕ → Option ℕ) → List ℕ → ℕ → Option ℕ
parent_letter own account k = if slice_index account k == colon then own (take k account) else None

-- the name is that word, case ignored
abbrev pub is_named : List ℕ → List ℕ → Bool
is_named part word = bytes_eq (map upper part) word

-- a second part that says that an equity account is for conversions
abbrev pub is_conversion : List ℕ → Bool
is_conversion part =
    is_named part (codes "TRADE")
    || (is_named part (codes "TRADES")
    || (is_named part (codes "CONVERSION")
    || is_named part (codes "CONVERSIONS")))

abbrev pub is_asset : List ℕ → Bool
is_asset part = is_named part (codes "ASSET") || is_named part (codes "ASSETS")

abbrev pub is_liability : List ℕ → Bool
is_liability part =
    is_named part (codes "LIABILITY")
    || (is_named part (codes "LIABILITIES")
    || (is_named part (codes "DEBT")
    || is_named part (codes "DEBTS")))

abbrev pub is_equity : List ℕ → Bool
is_equity part = is_named part (codes "EQUITY")

abbrev pub is_revenue : List ℕ → Bool
is_revenue part =
    is_named part (codes "INCOME")
    || (is_named part (codes "INCOMES")
    || (is_named part (codes "REVENUE")
    || is_named part (codes "REVENUES")))

abbrev pub is_expense : List ℕ → Bool
is_expense part = is_named part (codes "EXPENSE") || is_named part (codes "EXPENSES")

-- the letter that a first part says
abbrev pub first_letter : List ℕ → Option ℕ
first_letter part =
    if is_asset part then Some asset
    else if is_liability part then Some liability
    else if is_equity part then Some equity
    else if is_revenue part then Some revenue
    else if is_expense part then Some expense
    else None

-- its first part is equity, and its second one says conversions
unfoldable pub is_for_conversions : List ℕ → Bool
is_for_conversions account =
    has_byte colon account
    && (is_equity (before_byte colon account) && is_conversion (before_byte colon (after_byte colon account)))

-- the letter that a name says by its parts
unfoldable pub letter_by_name : List ℕ → Option ℕ
letter_by_name account =
    if is_for_conversions account then Some conversion else first_letter (before_byte colon account)

-- an account's letter: its own, else that of its nearest parent with one, else what its name says
unfoldable pub letter_of : (List ℕ → Option ℕ) → List ℕ → Option ℕ
letter_of own account =
    option_or (own account) (option_or (nearest own (parents_of account)) (letter_by_name account))
