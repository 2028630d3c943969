-- Where transactions stand: by day, then by number in the text.
use Rattle.std.specs.Prelude.{◌≡◌, ℕ, nat_lt, ◌==◌, Bool, true, false, ◌&&◌, ◌||◌, not, List, [], ◌∷◌, Option, Some, None, if◌then◌else◌}
use Rattle.std.specs.List.{list_all, list_any}
use Rattle.book.specs.declared.transaction.Posting.{Posting}
use Rattle.book.specs.SumsBefore as sums
use Rattle.watchers.specs.declared.watch.Place.{Place}
use Rattle.reached_walk.specs.declared.place.Spot.{Spot}

abbrev pub is_before : Spot → Spot → Bool
is_before a b = nat_lt a.day.0 b.day.0 || ((a.day.0 == b.day.0) && nat_lt a.number b.number)

abbrev pub is_same : Spot → Spot → Bool
is_same a b = (a.day.0 == b.day.0) && (a.number == b.number)

-- the place of a posting stands where its transaction does
abbrev pub spot_at : Place → Spot
spot_at p = record { day = p.day; number = p.txn }

-- the same of a book's posting
abbrev pub spot_of : sums.Place × Posting → Spot
spot_of e = record { day = record { 0 = e.0.day }; number = e.0.txn }

-- each stands before all that follow it
abbrev pub Rise : List Spot → Type 0
Rise [] = Unit {0}
Rise (s ∷ spots) = (list_all (is_before s) spots ≡ true) × Rise spots

-- one of them has a number
abbrev pub holds : List Spot → ℕ → Bool
holds spots n = list_any (λ s. s.number == n) spots

-- no two have the same number
abbrev pub AreOnce : List Spot → Type 0
AreOnce [] = Unit {0}
AreOnce (s ∷ spots) = (holds spots s.number ≡ false) × AreOnce spots

-- the earlier of two, where there are two
abbrev pub sooner_of : Spot → Spot → Spot
sooner_of a b = if is_before b a then b else a

abbrev pub sooner : Option Spot → Option Spot → Option Spot
sooner None b = b
sooner (Some a) None = Some a
sooner (Some a) (Some b) = Some (sooner_of a b)

-- the next one, if there is one, is this
abbrev pub is_due : Option Spot → Spot → Bool
is_due None s = false
is_due (Some next) s = is_same next s

-- there is a next one, and this isn't before it
abbrev pub is_from : Option Spot → Spot → Bool
is_from None s = false
is_from (Some next) s = not (is_before s next)

-- the first of some places, if there is one
abbrev pub first_of : List Spot → Option Spot
first_of [] = None
first_of (s ∷ spots) = Some s

-- what is still to come once a transaction of some number was answered: all, or all but the first
abbrev pub waiting : List Spot → Spot → List Spot
waiting [] s = []
waiting (next ∷ spots) s = if next.number == s.number then spots else next ∷ spots
