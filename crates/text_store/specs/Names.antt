-- Where among import states each name stands.
use Rattle.std.specs.Prelude.{◌≡◌, ℕ, ◌+◌, List, [], ◌∷◌, map, Option, Some, None, if◌then◌else◌, Vec}
use Rattle.std.specs.Global.{Global}
use Rattle.std.specs.Ordering.{nat_cmp}
use Rattle.std.specs.Cmp.Lexicographic.{slice_cmp}
use Rattle.std.specs.FinMap.Entries.{find}
use Rattle.std.specs.Str.{bytes_eq}
use Rattle.hl_base.specs.declared.change.Latest.{Latest}

-- the places in a map, by the bytes of their names
abbrev pub places_in : List (Vec ℕ Global × ℕ) → List (List ℕ × ℕ)
places_in entries = map (λ e. (e.0.items, e.1)) entries

-- the place that stands at a name
abbrev pub place_at : List ℕ → List (List ℕ × ℕ) → Option ℕ
place_at name places = find (slice_cmp nat_cmp) name places

-- the place of the first state of a name, where the first of all has this number
abbrev pub first_place : List ℕ → ℕ → List Latest → Option ℕ
first_place name number [] = None
first_place name number (state ∷ states) = if bytes_eq state.name name then Some number else first_place name (number + 1) states

-- at each name stands the place of its first state
abbrev pub ArePlaced : List Latest → ℕ → List (List ℕ × ℕ) → Type 0
ArePlaced states number places = (name : List ℕ) → place_at name places ≡ first_place name number states
