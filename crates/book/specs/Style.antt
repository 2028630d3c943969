-- How the amounts of a symbol are printed.
use Rattle.std.specs.Prelude.{ℕ, true, false, List, [], ◌∷◌, ◌++◌, map, Option, Some, None, max}
use Rattle.std.specs.List.{filter, flat_map}
use Rattle.std.specs.Option.{option_to_list}
use Rattle.std.specs.Str.{bytes_eq}
use Rattle.book.specs.declared.amount.Amount.{Amount}
use Rattle.book.specs.declared.amount.Assertion.{Assertion}
use Rattle.book.specs.declared.amount.Cost.{Cost}
use Rattle.book.specs.declared.amount.Cost.TheVariants as cost
use Rattle.book.specs.declared.directive.Directive.{Directive}
use Rattle.book.specs.declared.directive.Directive.TheVariants as directive
use Rattle.book.specs.declared.item.Item.{Item}
use Rattle.book.specs.declared.item.Item.TheVariants as item
use Rattle.book.specs.declared.item.Placed.{Placed}
use Rattle.book.specs.declared.rules.RulePosting.{RulePosting}
use Rattle.book.specs.declared.style.Style.{Style}
use Rattle.book.specs.declared.transaction.Posting.{Posting}

-- the style in which an amount is written, after its symbol
abbrev pub written_as : Amount → List ℕ × Style
written_as a = (a.symbol, record { shape = a.shape; places = a.value.places })

-- the amount of a cost
abbrev pub cost_amount : Cost → Amount
cost_amount (cost.Unit a) = a
cost_amount (cost.Total a) = a

-- what a posting's amount says
abbrev pub amount_style : Posting → List (List ℕ × Style)
amount_style p = map written_as (option_to_list p.amount)

-- how the amounts of a cost and of an assertion are written
abbrev pub cost_styles : Option Cost → List (List ℕ × Style)
cost_styles cost = map (λ c. written_as (cost_amount c)) (option_to_list cost)

abbrev pub wanted_styles : Option Assertion → List (List ℕ × Style)
wanted_styles wanted = map (λ w. written_as w.amount) (option_to_list wanted)

-- what its cost and its assertion say
abbrev pub further_styles : Posting → List (List ℕ × Style)
further_styles p = cost_styles p.cost ++ wanted_styles p.wanted

-- what all amounts of a rule's posting say
abbrev pub rule_styles : Posting → List (List ℕ × Style)
rule_styles p = amount_style p ++ further_styles p

-- what a `commodity` directive with an amount says of its symbol
abbrev pub commodity_said : Directive → List (List ℕ × Style)
commodity_said (directive.Commodity symbol (Some a)) = (symbol, (written_as a).1) ∷ []
commodity_said _ = []

-- what a `D` directive says
abbrev pub default_said : Directive → List (List ℕ × Style)
default_said (directive.Default a) = written_as a ∷ []
default_said _ = []

-- what the directives `commodity` and `D` say in an item
abbrev pub commodity_styles : Item → List (List ℕ × Style)
commodity_styles (item.Directive d) = commodity_said d
commodity_styles _ = []

abbrev pub default_styles : Item → List (List ℕ × Style)
default_styles (item.Directive d) = default_said d
default_styles _ = []

-- the first class: the amounts of postings of transactions
abbrev pub first_class : Item → List (List ℕ × Style)
first_class (item.Txn t) = flat_map amount_style t.postings
first_class _ = []

-- the second class: the amounts of costs, assertions, prices and rules
abbrev pub second_class : Item → List (List ℕ × Style)
second_class (item.Txn t) = flat_map further_styles t.postings
second_class (item.Auto r) = flat_map (λ (p : RulePosting). rule_styles p.posting) r.postings
second_class (item.Periodic r) = flat_map rule_styles r.postings
second_class (item.Price p) = written_as p.amount ∷ []
second_class _ = []

-- what is said of a symbol
abbrev pub of_symbol : List ℕ → List (List ℕ × Style) → List Style
of_symbol symbol said = map (λ s. s.1) (filter (λ s. bytes_eq s.0 symbol) said)

-- what the items of a text say of a symbol, in the order of the text
abbrev pub said_in : (Item → List (List ℕ × Style)) → List Placed → List ℕ → List Style
said_in saying items symbol = flat_map (λ placed. of_symbol symbol (saying placed.item)) items

-- the greatest number of decimals
abbrev pub most_places : List Style → ℕ
most_places [] = 0
most_places (s ∷ ss) = max s.places (most_places ss)

-- the last of some styles, else another
abbrev pub last_else : List Style → Style → Style
last_else [] other = other
last_else (s ∷ ss) other = last_else ss s

-- the shape of the first of some styles, with the greatest number of decimals of all; else another
abbrev pub first_else : List Style → Style → Style
first_else [] other = other
first_else (s ∷ ss) other = record { shape = s.shape; places = most_places (s ∷ ss) }

-- right, spaced, no groups, a point, two decimals
abbrev pub default_style : Style
default_style = record {
  shape = record { left = false; spaced = true; mark = None; group = None; first = 3; rest = 3 };
  places = 2;
}

-- Of what is said of a symbol: the last `commodity` directive; else the last `D` directive; else the first class
-- that has any; else the default.
abbrev pub style_by : List Style → List Style → List Style → List Style → Style
style_by commodities defaults first second = last_else commodities (last_else defaults (first_else first (first_else second default_style)))

-- the style of a symbol in a text
abbrev pub style_of : List Placed → List ℕ → Style
style_of items symbol =
    style_by
    (said_in commodity_styles items symbol)
    (said_in default_styles items symbol)
    (said_in first_class items symbol)
    (said_in second_class items symbol)
