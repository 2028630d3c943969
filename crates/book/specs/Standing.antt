-- What is kept of items under their numbers, for the styles of symbols.
use Rattle.std.specs.Prelude.{◌≡◌, ℕ, suc, nat_lt, ◌==◌, Bool, not, List, [], ◌∷◌, map, Option, Some, None, unwrap_or, IsTrue, if◌then◌else◌}
use Rattle.std.specs.List.{fold, filter, flat_map, list_all}
use Rattle.std.specs.Ordering.{nat_cmp}
use Rattle.std.specs.Cmp.Lexicographic.{slice_cmp}
use Rattle.std.specs.FinMap.Entries.{put}
use Rattle.book.specs.declared.item.Item.{Item}
use Rattle.book.specs.declared.item.Placed.{Placed}
use Rattle.book.specs.declared.style.Style.{Style}
use Rattle.book.specs.Entries.{held}
use Rattle.book.specs.Style.{of_symbol, most_places}

-- what stands under numbers
abbrev pub Numbered : Type 0 → Type 0
Numbered X = List (ℕ × X)

-- all numbers are greater
abbrev pub all_greater : {X : Type 0} → ℕ → Numbered X → Bool
all_greater n xs = list_all (λ x. nat_lt n x.0) xs

-- the numbers rise
abbrev pub Rise : {X : Type 0} → Numbered X → Type 0
Rise [] = Unit {0}
Rise (x ∷ xs) = IsTrue (all_greater x.0 xs) × Rise xs

-- nothing stands under the number
abbrev pub is_free : {X : Type 0} → ℕ → Numbered X → Bool
is_free n xs = list_all (λ x. not (x.0 == n)) xs

-- One more under a number, before those at the end that have greater ones.
abbrev pub with_number : {X : Type 0} → ℕ → X → Numbered X → Numbered X
with_number n x [] = (n, x) ∷ []
with_number n x (y ∷ ys) = if all_greater n (y ∷ ys) then (n, x) ∷ y ∷ ys else y ∷ with_number n x ys

-- all but what stands under a number
abbrev pub without_number : {X : Type 0} → ℕ → Numbered X → Numbered X
without_number n xs = filter (λ x. not (x.0 == n)) xs

-- items under their places in a text, counted from a number
abbrev pub places_from : ℕ → List Placed → Numbered Item
places_from n [] = []
places_from n (placed ∷ items) = (n, placed.item) ∷ places_from (suc n) items

-- what is kept of each symbol
abbrev pub Table : Type 0
Table = List (List ℕ × Numbered Style)

-- what is kept of a symbol
abbrev pub kept_of : Table → List ℕ → Numbered Style
kept_of table symbol = unwrap_or (held symbol table) []

-- what items say of a symbol, under their numbers
abbrev pub said_under : (Item → List (List ℕ × Style)) → Numbered Item → List ℕ → Numbered Style
said_under saying standing symbol = flat_map (λ e. map (λ s. (e.0, s)) (of_symbol symbol (saying e.1))) standing

-- a table after one more style under a number
abbrev pub noted : ℕ → Table → List ℕ × Style → Table
noted n table said = put (slice_cmp nat_cmp) said.0 (with_number n said.1 (kept_of table said.0)) table

-- after some styles
abbrev pub noted_all : ℕ → Table → List (List ℕ × Style) → Table
noted_all n table said = fold (noted n) table said

-- a table without what stands under a number
abbrev pub forgotten : ℕ → Table → Table
forgotten n table = map (λ e. (e.0, without_number n e.1)) table

-- What is kept under all other numbers is the same.
pub record IsSameBut (n : ℕ) (before after : Table) : Type 0 where
  pub kept : (symbol : List ℕ) → without_number n (kept_of after symbol) ≡ without_number n (kept_of before symbol)

abbrev pub styles_only : Numbered Style → List Style
styles_only kept = map (λ s. s.1) kept

-- A table keeps of each symbol what the items say.
abbrev pub Keeps : (Item → List (List ℕ × Style)) → Numbered Item → Table → Type 0
Keeps saying standing table = (symbol : List ℕ) → kept_of table symbol ≡ said_under saying standing symbol

-- the last style that is kept
abbrev pub last_kept : Numbered Style → Option Style
last_kept [] = None
last_kept (m ∷ []) = Some m.1
last_kept (m ∷ n ∷ more) = last_kept (n ∷ more)

-- the first style that is kept, with the greatest number of decimals of all
abbrev pub first_kept : Numbered Style → Option Style
first_kept [] = None
first_kept (m ∷ more) = Some (record { shape = m.1.shape; places = most_places (styles_only (m ∷ more)) })
