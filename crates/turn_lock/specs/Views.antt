-- What contracts see of a lock and of a pass.
use Rattle.std.specs.Prelude.{◌≡◌, ◌+◌, ℕ, Bool, true, false, List, [], ◌∷◌, ◌++◌, None}
use Rattle.std.proofs.lemmas.Bool.{false≢true}
use Rattle.atomic_table.specs.Seated.{TableId}
use Rattle.atomic_table.specs.declared.shared.Seat.{Seat}
use Rattle.turn_lock.specs.History.{longer}
use Rattle.turn_lock.specs.declared.known.Entered.{Entered}
use Rattle.turn_lock.specs.declared.known.Member.{Member}
use Rattle.turn_lock.specs.declared.known.Hold.{Hold}
use Rattle.turn_lock.specs.declared.known.Hold.TheVariants.{Free, Holds, Over}
use Rattle.turn_lock.specs.declared.known.Known.{Known}
use Rattle.turn_lock.specs.declared.known.Place.{Place}
use Rattle.turn_lock.specs.declared.known.View.{View}
use Rattle.turn_lock.specs.declared.known.View.TheVariants.{Spent, Live}

-- Which lock it is, how many entries were made before its history, and the value that it was made with
pub record Lock (T : Type 0) : Type 0 where
  pub name : TableId
  pub done : ℕ
  pub opening : T

-- A pass: its lock, its number, how many passes it made, the part of the history that it has seen, the entries that were made with it, the passes that were joined to it, and what it holds
pub record Standing (T E : Type 0) : Type 0 where
  pub lock : Lock T
  pub number : ℕ
  pub made : ℕ
  pub seen : List (Entered E)
  pub mine : List E
  pub joined : List (Member E)
  pub hold : Hold T

abbrev pub is_over : {T : Type 0} → Hold T → Bool
is_over Free = false
is_over (Holds x) = false
is_over Over = true

abbrev pub stamped : {E : Type 0} → ℕ → E → Entered E
stamped n e = record { by = n; entry = e }

module _ {T E : Type 0} where
  abbrev pub is_live : View T E → Bool
  is_live Spent = false
  is_live (Live v) = true

  -- what a live view knows
  abbrev pub known : (w : View T E) → is_live w ≡ true → Known T E
  known Spent h = absurd (false≢true h)
  known (Live v) h = v

  abbrev pub standing_of : TableId → Known T E → Standing T E
  standing_of name v = record { lock = record { name = name; done = v.done; opening = v.opening }; number = v.number; made = v.made; seen = v.seen; mine = v.mine; joined = v.joined; hold = v.hold }

  abbrev pub standing : (p : Seat (Place T E) (View T E)) → is_live p.me.0 ≡ true → Standing T E
  standing p h = standing_of p.table_id (known p.me.0 h)

  -- the slot that is out with a pass, empty
  abbrev pub carried : Hold T → List (ℕ × Place T E)
  carried Free = []
  carried (Holds x) = (0, record { value = None; last = None }) ∷ []
  carried Over = []

  -- the slot is out with a pass that holds the value, and the first pass has the first seat
  abbrev pub Carries : (p : Seat (Place T E) (View T E)) → is_live p.me.0 ≡ true → Type 0
  Carries p h = (p.me.1 ≡ carried (known p.me.0 h).hold) × (is_over (known p.me.0 h).hold ≡ false → (known p.me.0 h).number ≡ 0 → p.id ≡ 0)

  -- it took the value x after this history
  abbrev pub taken : Known T E → List (Entered E) → T → Known T E
  taken v log x = record v { seen = log; hold = Holds x }

  abbrev pub told : Known T E → List (Entered E) → Known T E
  told v log = record v { seen = log }

  -- it made the entry e
  abbrev pub given : Known T E → E → Known T E
  given v e = record v { seen = v.seen ++ stamped v.number e ∷ []; mine = v.mine ++ e ∷ []; hold = Free }

  abbrev pub parent : Known T E → Known T E
  parent v = record v { made = v.made + 1 }

  abbrev pub child : Known T E → Known T E
  child v = record v { number = v.made + 1; made = 0; mine = []; joined = [] }

  abbrev pub joint : Known T E → Known T E → Known T E
  joint v w = record v { seen = longer v.seen w.seen; joined = v.joined ++ record { number = w.number; mine = w.mine } ∷ [] }

  abbrev pub closed : Known T E → Known T E
  closed v = record v { hold = Over }

  abbrev pub over_live : (Known T E → Known T E) → View T E → View T E
  over_live f Spent = Spent
  over_live f (Live v) = Live (f v)

  abbrev pub over_both : (Known T E → Known T E → Known T E) → View T E → View T E → View T E
  over_both f Spent b = Spent
  over_both f (Live v) Spent = Live v
  over_both f (Live v) (Live w) = Live (f v w)
