-- The styles of the items that stand under some numbers, as they are kept.
use Rattle.std.specs.Prelude.{◌≡◌, ℕ, ◌+◌, ◌<◌, ◌==◌, List, [], ◌∷◌, filter, Option, Some, None, if◌then◌else◌}
use Rattle.std.specs.List.{fold}
use Rattle.book.specs.declared.item.Item.{Item}
use Rattle.book.specs.declared.style.Style.{Style}
use Rattle.book.specs.Standing.{Numbered, Rise}
use Rattle.book.specs.Style.{commodity_styles, default_styles, first_class, most_places, second_class}
use Rattle.book.specs.Styles.{said_standing}
use Rattle.counted_styles.specs.declared.class.Class.{Class}
use Rattle.counted_styles.specs.declared.mark.Mark.{Mark}
use Rattle.counted_styles.specs.declared.styles.CountedStyles.{CountedStyles}
use Rattle.counted_styles.specs.Marks.{count_at, counted, headed, mark_at, style_at, uncounted, unheaded}

-- what stands under a number
abbrev pub at_number : ℕ → Numbered Item → Numbered Item
at_number n standing = filter (λ e. e.0 == n) standing

-- an item stands under a number, and no other does
abbrev pub Stands : ℕ → Item → Numbered Item → Type 0
Stands n item standing = at_number n standing ≡ (n, item) ∷ []

abbrev pub first_style : List Style → Option Style
first_style [] = None
first_style (s ∷ ss) = Some s

-- how many of some styles have so many decimals
abbrev pub how_many : ℕ → List Style → ℕ
how_many places [] = 0
how_many places (s ∷ ss) = (if s.places == places then 1 else 0) + how_many places ss

-- What is kept of a class: the first style that each item says of a symbol, under its number; and how many of all
-- styles of a symbol have each number of decimals.
pub record IsKept (saying : Item → List (List ℕ × Style)) (standing : Numbered Item) (firsts many : List Mark) : Type 0 where
  pub heads : (symbol : List ℕ) (n : ℕ) → style_at symbol n firsts ≡ first_style (said_standing saying (at_number n standing) symbol)
  pub counts : (symbol : List ℕ) (places : ℕ) → count_at symbol places many ≡ how_many places (said_standing saying standing symbol)
  pub some : (symbol : List ℕ) (places : ℕ) (m : Mark) → mark_at symbol places many ≡ Some m → 0 < m.count
  pub decimals : (symbol : List ℕ) (places : ℕ) (m : Mark) → mark_at symbol places many ≡ Some m → m.style.places ≡ places

-- The styles are those of the items that stand under these numbers.
pub record AreOf (standing : Numbered Item) (styles : CountedStyles) : Type 0 where
  pub rise : Rise standing
  pub commodities : IsKept commodity_styles standing styles.commodities.heads styles.commodities.counts
  pub defaults : IsKept default_styles standing styles.defaults.heads styles.defaults.counts
  pub first : IsKept first_class standing styles.first.heads styles.first.counts
  pub second : IsKept second_class standing styles.second.heads styles.second.counts

-- what an item says was added to a class, or taken away from it
pub record HasNoted (n : ℕ) (said : List (List ℕ × Style)) (old new : Class) : Type 0 where
  pub heads : new.heads ≡ fold (headed n) old.heads said
  pub counts : new.counts ≡ fold counted old.counts said

pub record HasForgotten (n : ℕ) (said : List (List ℕ × Style)) (old new : Class) : Type 0 where
  pub heads : new.heads ≡ fold (unheaded n) old.heads said
  pub counts : new.counts ≡ fold uncounted old.counts said

pub record HasAdded (n : ℕ) (item : Item) (old new : CountedStyles) : Type 0 where
  pub commodities : HasNoted n (commodity_styles item) old.commodities new.commodities
  pub defaults : HasNoted n (default_styles item) old.defaults new.defaults
  pub first : HasNoted n (first_class item) old.first new.first
  pub second : HasNoted n (second_class item) old.second new.second

pub record HasRemoved (n : ℕ) (item : Item) (old new : CountedStyles) : Type 0 where
  pub commodities : HasForgotten n (commodity_styles item) old.commodities new.commodities
  pub defaults : HasForgotten n (default_styles item) old.defaults new.defaults
  pub first : HasForgotten n (first_class item) old.first new.first
  pub second : HasForgotten n (second_class item) old.second new.second

-- a style, if there is one, else another
abbrev pub chosen : Option Style → Style → Style
chosen None other = other
chosen (Some style) other = style

-- the greatest number of decimals of what is said, if anything is
abbrev pub most_said : List Style → Option ℕ
most_said [] = None
most_said (s ∷ ss) = Some (most_places (s ∷ ss))
