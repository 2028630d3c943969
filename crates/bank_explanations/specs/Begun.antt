-- The records that begin in a text, byte by byte.
use Rattle.std.specs.Prelude.{ℕ, ◌+◌, Bool, not, ◌&&◌, List, [], ◌∷◌, if◌then◌else◌}
use Rattle.csv.specs.Machine.{ends_at_end, step}
use Rattle.csv.specs.declared.parser.Config.{Config}
use Rattle.csv.specs.declared.parser.State.{State}
use Rattle.csv.specs.declared.parser.State.TheVariants as st
use Rattle.bank_explanations.specs.declared.spots.Spot.{Spot}
use Rattle.bank_explanations.specs.declared.spots.Spot.TheVariants as spots

-- what a spot is to the reader of `csv`
abbrev pub state_of : Spot → State
state_of spots.Start = st.StartRecord
state_of spots.Field = st.StartField
state_of spots.Plain = st.InField
state_of spots.Quoted = st.InQuoted
state_of spots.Quote = st.AfterQuote
state_of spots.Return = st.AfterCr

-- no record is open
abbrev pub is_between : State → Bool
is_between s = not (ends_at_end s)

-- the state behind some bytes
abbrev pub after : Config → State → List ℕ → State
after cfg s [] = s
after cfg s (c ∷ cs) = after cfg (step cfg s c).0 cs

-- a byte opens a record
abbrev pub opens : State → State → Bool
opens s t = is_between s && not (is_between t)

abbrev pub one_if : Bool → ℕ
one_if b = if b then 1 else 0

-- how many records some bytes open
abbrev pub begun : Config → State → List ℕ → ℕ
begun cfg s [] = 0
begun cfg s (c ∷ cs) = one_if (opens s (step cfg s c).0) + begun cfg (step cfg s c).0 cs
