-- What contracts say of passes.
use Rattle.std.specs.Prelude.{◌≡◌, []}
use Rattle.turn_lock.specs.Views.{Lock, Standing}
use Rattle.turn_lock.specs.declared.known.Hold.TheVariants.{Free}
pub use Rattle.turn_lock.specs.Views.{stamped}

module _ {T E : Type 0} where
  -- it is a pass of this lock that holds no value
  abbrev pub IsFree : Lock T → Standing T E → Type 0
  IsFree lock p = (p.lock ≡ lock) × (p.hold ≡ Free)

  -- it is the first pass of this lock, and holds no value
  abbrev pub IsFirst : Lock T → Standing T E → Type 0
  IsFirst lock p = (p.lock ≡ lock) × (p.hold ≡ Free) × (p.number ≡ 0)

  -- it is the same pass, and has made what it had
  abbrev pub KeepsPass : Standing T E → Standing T E → Type 0
  KeepsPass old new = (new.lock ≡ old.lock) × (new.number ≡ old.number) × (new.made ≡ old.made) × (new.mine ≡ old.mine) × (new.joined ≡ old.joined)

  abbrev pub first_pass : Lock T → Standing T E
  first_pass lock = record { lock = lock; number = 0; made = 0; seen = []; mine = []; joined = []; hold = Free }
