-- Directives that say how symbols are written.
use Rattle.std.specs.Prelude.{ℕ, pos, List, map, Some}
use Rattle.hl_base.specs.declared.items.Kind.TheVariants as kinds
use Rattle.book.specs.declared.directive.Directive.TheVariants as directive
use Rattle.book.specs.declared.item.Item.TheVariants as item
use Rattle.book.specs.declared.item.Placed.{Placed}
use Rattle.book.specs.declared.style.Style.{Style}

-- the directive `commodity` with an amount in a style, which stands in no text
abbrev pub declared : List ℕ → Style → Placed
declared symbol style = record {
  piece = record { at = 0; len = 0; line = 0; kind = kinds.Head };
  item = item.Directive (directive.Commodity symbol (Some (record {
    value = record { mantissa = pos 0; places = style.places };
    symbol = symbol;
    shape = style.shape;
  })));
}

-- one for each of some symbols
abbrev pub declarations : (List ℕ → Style) → List (List ℕ) → List Placed
declarations styled symbols = map (λ symbol. declared symbol (styled symbol)) symbols
