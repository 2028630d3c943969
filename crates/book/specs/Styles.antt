-- The styles of the items that stand under some numbers.
use Rattle.std.specs.Prelude.{ℕ, List}
use Rattle.std.specs.List.{flat_map}
use Rattle.book.specs.declared.item.Item.{Item}
use Rattle.book.specs.declared.style.Style.{Style}
use Rattle.book.specs.declared.style.Styles.{Styles}
use Rattle.book.specs.Standing.{Numbered, Rise, Keeps, IsSameBut, kept_of, styles_only, noted_all, forgotten}
use Rattle.book.specs.Style.{of_symbol, commodity_styles, default_styles, first_class, second_class, style_by}

-- what the items that stand say of a symbol, in the order of their numbers
abbrev pub said_standing : (Item → List (List ℕ × Style)) → Numbered Item → List ℕ → List Style
said_standing saying standing symbol = flat_map (λ e. of_symbol symbol (saying e.1)) standing

-- the style of a symbol in the items that stand
abbrev pub style_standing : Numbered Item → List ℕ → Style
style_standing standing symbol =
    style_by
    (said_standing commodity_styles standing symbol)
    (said_standing default_styles standing symbol)
    (said_standing first_class standing symbol)
    (said_standing second_class standing symbol)

-- the style that is kept of a symbol
abbrev pub style_in : Styles → List ℕ → Style
style_in styles symbol =
    style_by
    (styles_only (kept_of styles.commodities symbol))
    (styles_only (kept_of styles.defaults symbol))
    (styles_only (kept_of styles.first symbol))
    (styles_only (kept_of styles.second symbol))

-- The styles are those of the items that stand under these numbers.
pub record AreOf (standing : Numbered Item) (styles : Styles) : Type 0 where
  pub rise : Rise standing
  pub commodities : Keeps commodity_styles standing styles.commodities
  pub defaults : Keeps default_styles standing styles.defaults
  pub first : Keeps first_class standing styles.first
  pub second : Keeps second_class standing styles.second

-- the styles after an item under a number
abbrev pub after_item : ℕ → Styles → Item → Styles
after_item n styles i = record {
  commodities = noted_all n styles.commodities (commodity_styles i);
  defaults = noted_all n styles.defaults (default_styles i);
  first = noted_all n styles.first (first_class i);
  second = noted_all n styles.second (second_class i);
}

-- the styles without what stands under a number
abbrev pub without_item : ℕ → Styles → Styles
without_item n styles = record {
  commodities = forgotten n styles.commodities;
  defaults = forgotten n styles.defaults;
  first = forgotten n styles.first;
  second = forgotten n styles.second;
}

-- What is kept under all other numbers is the same.
pub record AreSameBut (n : ℕ) (before after : Styles) : Type 0 where
  pub commodities : IsSameBut n before.commodities after.commodities
  pub defaults : IsSameBut n before.defaults after.defaults
  pub first : IsSameBut n before.first after.first
  pub second : IsSameBut n before.second after.second
