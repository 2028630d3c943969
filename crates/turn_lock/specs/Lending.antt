-- What a write to the value that was taken does.
use Rattle.turn_lock.specs.declared.held.Held.{Held}

module _ {T E : Type 0} where
  -- the value is x
  abbrev pub with_value : Held T E → T → Held T E
  with_value h x = record h { value = x }
