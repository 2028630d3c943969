-- The styles of a text's items, and what they are counted from.
use Rattle.std.specs.Prelude.{◌≡◌, ℕ, List, Option, length}
use Rattle.book.specs.declared.item.Placed.{Placed}
use Rattle.book.specs.Standing.{places_from}
use Rattle.book.specs.Style.{first_class, said_in, style_of}
use Rattle.book.specs.Styles.{style_in}
use Rattle.counted_styles.specs.Kept.{AreOf, most_said}
use Rattle.counted_styles.specs.declared.text.TextStyles.{TextStyles}

-- What is kept is that of a text with these items: all that they say, each under its place, how many they are, and the
-- style of each symbol in them.
pub record IsOf (items : List Placed) (kept : TextStyles) : Type 0 where
  pub counted : AreOf (places_from 0 items) kept.counted
  pub count : kept.count ≡ length items
  pub styled : (symbol : List ℕ) → style_in kept.styles symbol ≡ style_of items symbol

-- the greatest number of decimals of the amounts of a symbol in transactions' postings, if it has any
abbrev pub decimals_in : List Placed → List ℕ → Option ℕ
decimals_in items symbol = most_said (said_in first_class items symbol)
