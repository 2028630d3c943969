-- Styles of symbols that are the same.
use Rattle.std.specs.Prelude.{◌≡◌, ℕ, ◌==◌, Bool, false, not, ◌&&◌, List, [], Option, Some, None, is_none, if◌then◌else◌}
use Rattle.std.specs.List.{AllByRecursion}
use Rattle.book.specs.declared.amount.Written.{Written}
use Rattle.book.specs.declared.item.Item.{Item}
use Rattle.book.specs.declared.style.Style.{Style}
use Rattle.book.specs.Style.{commodity_styles, default_styles, first_class, of_symbol, second_class}

abbrev pub is_number : Option ℕ → ℕ → Bool
is_number None other = false
is_number (Some number) other = number == other

-- the same number, or none in both
abbrev pub is_same_number : Option ℕ → Option ℕ → Bool
is_same_number a None = is_none a
is_same_number a (Some number) = is_number a number

abbrev pub is_same_way : Bool → Bool → Bool
is_same_way a b = if a then b else not b

abbrev pub is_same_side : Written → Written → Bool
is_same_side a b = is_same_way a.left b.left && is_same_way a.spaced b.spaced

abbrev pub has_same_marks : Written → Written → Bool
has_same_marks a b = is_same_number a.mark b.mark && is_same_number a.group b.group

abbrev pub has_same_groups : Written → Written → Bool
has_same_groups a b = (a.first == b.first) && (a.rest == b.rest)

abbrev pub is_same_shape : Written → Written → Bool
is_same_shape a b = is_same_side a b && (has_same_marks a b && has_same_groups a b)

abbrev pub is_same_style : Style → Style → Bool
is_same_style a b = is_same_shape a.shape b.shape && (a.places == b.places)

-- each symbol of which something is said has the same style before and after
abbrev pub AreAlike : (List ℕ → Style) → (List ℕ → Style) → List (List ℕ × Style) → Type 0
AreAlike before after said = AllByRecursion (λ s. before s.0 ≡ after s.0) said

abbrev pub AreDirectivesAlike : (List ℕ → Style) → (List ℕ → Style) → Item → Type 0
AreDirectivesAlike before after i = AreAlike before after (commodity_styles i) × AreAlike before after (default_styles i)

abbrev pub AreAmountsAlike : (List ℕ → Style) → (List ℕ → Style) → Item → Type 0
AreAmountsAlike before after i = AreAlike before after (first_class i) × AreAlike before after (second_class i)

-- each symbol of which an item says something
pub record IsItemAlike (before after : List ℕ → Style) (i : Item) : Type 0 where
  pub directives : AreDirectivesAlike before after i
  pub amounts : AreAmountsAlike before after i

-- an item says nothing of a symbol
pub record IsSilent (symbol : List ℕ) (i : Item) : Type 0 where
  pub commodities : of_symbol symbol (commodity_styles i) ≡ []
  pub defaults : of_symbol symbol (default_styles i) ≡ []
  pub first : of_symbol symbol (first_class i) ≡ []
  pub second : of_symbol symbol (second_class i) ≡ []
