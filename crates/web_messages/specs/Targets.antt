-- Where in the first line of a head some bytes end.
use Rattle.std.specs.Prelude.{◌≡◌, ℕ, ◌||◌, Bool, true, false, not, List, ◌∷◌, ◌++◌, ◌==◌, fold, if◌then◌else◌}
use Rattle.std.specs.List.{list_all}
use Rattle.hl_base.specs.Ascii.{carriage_return, line_feed, space}
use Rattle.httparse.specs.Grammar.{IsToken, LineEnd, is_token_byte, print_blank}
use Rattle.web_messages.specs.declared.target.Place.{Place}
use Rattle.web_messages.specs.declared.target.Place.TheVariants.{Start, Return, Method, Target, Past}

-- From the start of a line, an empty line leads back to it, and the first byte of a method into the method.
abbrev pub from_start : ℕ → Place
from_start b = if b == line_feed then Start else if b == carriage_return then Return else if is_token_byte b then Method else Past

-- From a method one space leads into the target.
abbrev pub from_method : ℕ → Place
from_method b = if is_token_byte b then Method else if b == space then Target else Past

-- A space or a line end leads out of the target.
abbrev pub from_target : ℕ → Place
from_target b = if b == space || b == line_feed then Past else Target

-- where the next byte leads
abbrev pub next_place : Place → ℕ → Place
next_place Start b = from_start b
next_place Return b = if b == line_feed then Start else Past
next_place Method b = from_method b
next_place Target b = from_target b
next_place Past b = Past

-- where these bytes end, from a place on
abbrev pub place_from : Place → List ℕ → Place
place_from place bytes = fold next_place place bytes

abbrev pub is_target : Place → Bool
is_target Start = false
is_target Return = false
is_target Method = false
is_target Target = true
is_target Past = false

-- a byte that may stand in a target that is still being read: no space and no line end
abbrev pub is_of_target : ℕ → Bool
is_of_target b = not (b == space || b == line_feed)

-- The bytes end inside a target: perhaps empty lines, then a method that is a token, then one space, and after it no further
-- space and no line end.
pub record IsInTarget (bytes : List ℕ) : Type 0 where
  pub blank : List LineEnd
  pub method : List ℕ
  pub target : List ℕ
  pub token : IsToken method
  pub rest : list_all is_of_target target ≡ true
  pub whole : bytes ≡ print_blank blank ++ (method ++ space ∷ target)
