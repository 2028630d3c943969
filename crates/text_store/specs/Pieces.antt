-- Places in parts.
use Rattle.std.specs.Prelude.{◌≡◌, ◌<◌, ℕ, ◌+◌, ◌-◌, nat_lt, if◌then◌else◌, List, [], ◌∷◌, length, Option, Some, None, Vec}
use Rattle.std.specs.Global.{Global}
use Rattle.text_store.specs.declared.pieces.PlaceInParts.{PlaceInParts}

-- the place in parts of a place in their text, with so many parts before them; or there is none
abbrev pub place_from : List (Vec ℕ Global) → ℕ → ℕ → Option PlaceInParts
place_from [] left before = if nat_lt 0 left then None else Some (record { part = before; inside = 0 })
place_from (part ∷ parts) left before =
    if nat_lt left (length part.items) then Some (record { part = before; inside = left }) else place_from parts (left - length part.items) (before + 1)

-- a place inside the first part
abbrev pub IsInside : ℕ → List (Vec ℕ Global) → Type 0
IsInside inside [] = inside ≡ 0
IsInside inside (part ∷ parts) = inside < length part.items
