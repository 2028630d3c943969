-- What a piece of work under the lock does to a pass.
use Rattle.std.specs.Prelude.{◌≡◌, List, [], ◌∷◌, ◌++◌}
use mathlib.Core.List.{IsPrefix}
use Rattle.turn_lock.specs.History.{Leads}
use Rattle.turn_lock.specs.Views.{Standing, stamped}
use Rattle.turn_lock.specs.declared.known.Entered.{Entered}

module _ {T E : Type 0} where
  -- it holds what it held, and is the same pass of the same lock
  abbrev pub KeepsRest : Standing T E → Standing T E → Type 0
  KeepsRest old new = (new.lock ≡ old.lock) × (new.hold ≡ old.hold) × (new.number ≡ old.number) × (new.made ≡ old.made) × (new.joined ≡ old.joined)

module _ {T E S : Type 0} where
  -- the history so far was seen, which begins with all that the pass had seen and leads to some state; one entry leads on from there, is the last that the pass has seen and the last that it made, and meets P
  abbrev pub Enters : (S → E → S → Type 0) → S → Standing T E → Standing T E → (E → Type 0) → Type 0
  Enters leads opening old new P =
      (log : List (Entered E)) × (before : S) × (e : E) × (after : S) × IsPrefix old.seen log × Leads leads opening log before × leads before e after
      × (new.seen ≡ log ++ stamped old.number e ∷ []) × (new.mine ≡ old.mine ++ e ∷ []) × P e
