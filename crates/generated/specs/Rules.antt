-- Automated rules as they are read: the terms of their words, and the postings that they add.
use Rattle.std.specs.Prelude.{◌≡◌, ℕ, List, [], ◌∷◌, ◌++◌, Option, Result, Ok, Err}
use Rattle.std.specs.List.{flat_map}
use Rattle.book.specs.declared.item.Item.{Item}
use Rattle.book.specs.declared.item.Item.TheVariants as item
use Rattle.book.specs.declared.item.Placed.{Placed}
use Rattle.book.specs.declared.rules.AutoRule.{AutoRule}
use Rattle.book.specs.declared.rules.RulePosting.{RulePosting}
use Rattle.query.specs.Made.{IsPatternRefused}
use Rattle.query_terms.specs.Reading.{terms_of}
use Rattle.query_terms.specs.declared.kinds.Term.{Term}

abbrev pub auto_in : Item → List AutoRule
auto_in (item.Auto rule) = rule ∷ []
auto_in _ = []

-- the automated rules among some items, in order
abbrev pub autos_of : List Placed → List AutoRule
autos_of items = flat_map (λ placed. auto_in placed.item) items

-- what a rule asks for, and what it adds
pub record Asked : Type 0 where
  pub terms : List Term
  pub postings : List RulePosting

abbrev pub read_with : AutoRule → Result (List Term) (List ℕ) → Result Asked ℕ
read_with rule (Ok terms) = Ok (record { terms = terms; postings = rule.postings })
read_with rule (Err word) = Err rule.line

abbrev pub before_rest : Asked → Result (List Asked) ℕ → Result (List Asked) ℕ
before_rest asked (Ok rest) = Ok (asked ∷ rest)
before_rest asked (Err line) = Err line

abbrev pub with_rest : Result Asked ℕ → Result (List Asked) ℕ → Result (List Asked) ℕ
with_rest (Ok asked) rest = before_rest asked rest
with_rest (Err line) rest = Err line

-- what some rules ask for on a day and add, in order; or the line of the first of which a word is no term
abbrev pub read_rules : ℕ → List AutoRule → Result (List Asked) ℕ
read_rules day [] = Ok []
read_rules day (rule ∷ rules) = with_rest (read_with rule (terms_of day rule.words)) (read_rules day rules)

-- The rules before this one are read, and the maker refused a pattern of it.
pub record IsRefusedRule (day : ℕ) (rules : List AutoRule) (line before now : ℕ) (last_now : Option (List ℕ)) : Type 0 where
  pub earlier : List AutoRule
  pub rule : AutoRule
  pub later : List AutoRule
  pub order : rules ≡ earlier ++ rule ∷ later
  pub asked : List Asked
  pub read : read_rules day earlier ≡ Ok asked
  pub at : rule.line ≡ line
  pub word : List ℕ
  pub refused : IsPatternRefused day rule.words word before now last_now
