-- How a pass grows by what is entered with it.
use Rattle.std.specs.Prelude.{◌≡◌, ◌⊎◌, ℕ, List, [], ◌∷◌, ◌++◌}
use Rattle.turn_lock.specs.Views.{Standing, stamped}
use Rattle.turn_lock.specs.declared.known.Entered.{Entered}

-- The entries stand in the history in their order, each under this number.
abbrev pub StandUnder : {E : Type 0} → ℕ → List E → List (Entered E) → Type 0
StandUnder number [] history = Unit {0}
StandUnder number (e ∷ es) [] = ⊥
StandUnder number (e ∷ es) (x ∷ xs) = ((x ≡ stamped number e) × StandUnder number es xs) ⊎ StandUnder number (e ∷ es) xs

-- These entries were made with a pass. They stand in what it has seen since then, and all else of it stays.
pub record Grown {T E : Type 0} (old new : Standing T E) (entries : List E) : Type 0 where
  pub lock : new.lock ≡ old.lock
  pub number : new.number ≡ old.number
  pub made : new.made ≡ old.made
  pub joined : new.joined ≡ old.joined
  pub hold : new.hold ≡ old.hold
  pub mine : new.mine ≡ old.mine ++ entries
  pub seen : (rest : List (Entered E)) × (new.seen ≡ old.seen ++ rest) × StandUnder old.number entries rest
