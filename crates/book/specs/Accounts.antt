-- The names of accounts and their order.
use Rattle.std.specs.Prelude.{ℕ, List, [], ◌∷◌, ◌==◌, if◌then◌else◌, map}
use Rattle.std.specs.Ordering.{nat_cmp}
use Rattle.std.specs.declared.cmp.Ordering.{Ordering}
use Rattle.std.specs.declared.cmp.Ordering.TheVariants.{Less, Greater}
use Rattle.std.specs.Cmp.Lexicographic.{slice_cmp}
use Rattle.hl_base.specs.Ascii.{colon}
use Rattle.book.specs.declared.transaction.Posting.{Posting}
use Rattle.book.specs.Order.{each_once}

-- a byte before the first part of a name
abbrev pub onto : ℕ → List (List ℕ) → List (List ℕ)
onto b [] = (b ∷ []) ∷ []
onto b (part ∷ parts) = (b ∷ part) ∷ parts

-- the parts of a name, which colons divide
abbrev pub parts_of : List ℕ → List (List ℕ)
parts_of [] = [] ∷ []
parts_of (b ∷ bs) = if b == colon then [] ∷ parts_of bs else onto b (parts_of bs)

-- the order of accounts: part by part, each part by its bytes
abbrev pub account_cmp : List ℕ → List ℕ → Ordering
account_cmp a b = slice_cmp (slice_cmp nat_cmp) (parts_of a) (parts_of b)

-- how two different bytes of names compare: a colon stands below all others
abbrev pub byte_order : ℕ → ℕ → Ordering
byte_order x y = if x == colon then Less else (if y == colon then Greater else nat_cmp x y)

-- the accounts of some postings, in their order, each once
abbrev pub accounts_of : List Posting → List (List ℕ)
accounts_of ps = each_once account_cmp (map (λ p. p.account) ps)
