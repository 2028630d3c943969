-- What the directives before an item say.
use Rattle.std.specs.Prelude.{ℕ, ◌-◌, Bool, true, ◌&&◌, List, [], ◌∷◌, ◌++◌, ◌==◌, nat_eq, if◌then◌else◌, length, take, drop, map, reverse, Option, Some, None}
use Rattle.std.specs.List.{fold, find, flat_map, starts_with}
use Rattle.std.specs.Str.{bytes_eq}
use Rattle.hl_base.specs.Ascii.{colon}
use Rattle.book.specs.declared.amount.Amount.{Amount}
use Rattle.book.specs.declared.directive.Directive.{Directive}
use Rattle.book.specs.declared.directive.Directive.TheVariants as directive
use Rattle.book.specs.declared.item.Item.{Item}
use Rattle.book.specs.declared.item.Item.TheVariants as item
use Rattle.book.specs.declared.item.Placed.{Placed}

-- The year of dates without one; the decimal mark of numbers; the symbol of amounts without one and the decimal mark of
-- its directive; the names before accounts, outermost first; the aliases in force, an old name and a new one; and the
-- decimal marks of the `commodity` directives. Aliases and marks stand in the order of the text.
pub record Context : Type 0 where
  pub year : Option ℕ
  pub mark : Option ℕ
  pub usual : Option (List ℕ × Option ℕ)
  pub applied : List (List ℕ)
  pub aliases : List (List ℕ × List ℕ)
  pub marks : List (List ℕ × Option ℕ)

abbrev pub context_with : Option ℕ → Option ℕ → Option (List ℕ × Option ℕ) → List (List ℕ) → List (List ℕ × List ℕ) → List (List ℕ × Option ℕ) → Context
context_with year mark usual applied aliases marks = record { year = year; mark = mark; usual = usual; applied = applied; aliases = aliases; marks = marks }

-- the directive that an item is
abbrev pub directive_in : Item → List Directive
directive_in (item.Directive d) = d ∷ []
directive_in _ = []

abbrev pub directives_in : List Item → List Directive
directives_in items = flat_map directive_in items

-- the last year that is given, else the one that was handed in
abbrev pub year_after : Option ℕ → Directive → Option ℕ
year_after year (directive.Year y) = Some y
year_after year _ = year

-- the last decimal mark that is given
abbrev pub mark_after : Option ℕ → Directive → Option ℕ
mark_after mark (directive.DecimalMark m) = Some m
mark_after mark _ = mark

-- the last default amount
abbrev pub usual_after : Option (List ℕ × Option ℕ) → Directive → Option (List ℕ × Option ℕ)
usual_after usual (directive.Default a) = Some (a.symbol, a.shape.mark)
usual_after usual _ = usual

-- a name that is applied stays until the end that belongs to it
abbrev pub applied_after : List (List ℕ) → Directive → List (List ℕ)
applied_after names (directive.Apply name) = names ++ name ∷ []
applied_after names directive.EndApply = take (length names - 1) names
applied_after names _ = names

-- an alias stays until the end of all aliases
abbrev pub aliases_after : List (List ℕ × List ℕ) → Directive → List (List ℕ × List ℕ)
aliases_after aliases (directive.Alias old new) = aliases ++ (old, new) ∷ []
aliases_after aliases directive.EndAliases = []
aliases_after aliases _ = aliases

-- the decimal mark of an amount that is given
abbrev pub mark_in : Option Amount → Option ℕ
mark_in None = None
mark_in (Some a) = a.shape.mark

abbrev pub marks_after : List (List ℕ × Option ℕ) → Directive → List (List ℕ × Option ℕ)
marks_after marks (directive.Commodity symbol amount) = marks ++ (symbol, mark_in amount) ∷ []
marks_after marks _ = marks

-- what some directives say, with a year that was handed in
abbrev pub context_from : Option ℕ → List Directive → Context
context_from year ds = record {
  year = fold year_after year ds;
  mark = fold mark_after None ds;
  usual = fold usual_after None ds;
  applied = fold applied_after [] ds;
  aliases = fold aliases_after [] ds;
  marks = fold marks_after [] ds;
}

-- the context after some items
abbrev pub context_of : Option ℕ → List Item → Context
context_of year items = context_from year (directives_in items)

-- items without their places
abbrev pub items_at : List Placed → List Item
items_at placed = map (λ p. p.item) placed

-- the symbol that an amount without one takes
abbrev pub usual_symbol : Option (List ℕ × Option ℕ) → List ℕ
usual_symbol None = []
usual_symbol (Some usual) = usual.0

-- the symbol of an amount, of which this is written
abbrev pub symbol_of : Context → List ℕ → List ℕ
symbol_of context [] = usual_symbol context.usual
symbol_of context (b ∷ bs) = b ∷ bs

-- the first that is there
abbrev pub or_else : Option ℕ → Option ℕ → Option ℕ
or_else None other = other
or_else (Some mark) other = Some mark

abbrev pub mark_found : Option (List ℕ × Option ℕ) → Option ℕ
mark_found None = None
mark_found (Some entry) = entry.1

-- the mark of a symbol's latest `commodity` directive, if that has one
abbrev pub latest_mark : List (List ℕ × Option ℕ) → List ℕ → Option ℕ
latest_mark marks symbol = mark_found (find (λ entry. bytes_eq entry.0 symbol) (reverse marks))

-- the mark of the default amount, for an amount without a symbol
abbrev pub usual_mark : Context → List ℕ → Option ℕ
usual_mark context [] = mark_found context.usual
usual_mark context (b ∷ bs) = None

-- The decimal mark that is decided for an amount of which this symbol is written: the one in force; else that of the
-- symbol's latest `commodity` directive; else, without a written symbol, that of the default amount.
abbrev pub decided_mark : Context → List ℕ → Option ℕ
decided_mark context written =
    or_else context.mark
    (or_else (latest_mark context.marks (symbol_of context written)) (usual_mark context written))

-- the name behind those that are applied
abbrev pub with_applied : List (List ℕ) → List ℕ → List ℕ
with_applied [] name = name
with_applied (outer ∷ names) name = outer ++ colon ∷ with_applied names name

-- a part of a name ends where the name ends, and before a colon
abbrev pub ends_part : List ℕ → Bool
ends_part [] = true
ends_part (b ∷ bs) = b == colon

-- a name is the old one, or one below it
abbrev pub is_under : List ℕ → List ℕ → Bool
is_under old name = starts_with nat_eq name old && ends_part (drop (length old) name)

-- one alias: the old name, or one below it, becomes the new one
abbrev pub renamed_by : List ℕ × List ℕ → List ℕ → List ℕ
renamed_by alias name = if is_under alias.0 name then alias.1 ++ drop (length alias.0) name else name

-- each alias is tried once, the newest first
abbrev pub renamed : List (List ℕ × List ℕ) → List ℕ → List ℕ
renamed [] name = name
renamed (alias ∷ newer) name = renamed_by alias (renamed newer name)

-- the account that a written name stands for
abbrev pub account_named : Context → List ℕ → List ℕ
account_named context name = renamed context.aliases (with_applied context.applied name)
