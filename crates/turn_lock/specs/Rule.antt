-- The rule of the lock: what is true of its word, its slot and all views between any two steps.
use Rattle.std.specs.Prelude.{◌≡◌, ◌≢◌, ◌+◌, ◌-◌, ◌*◌, ◌^◌, ◌<◌, ◌≤◌, ◌⊎◌, ℕ, Bool, false, List, [], ◌∷◌, length, All, if◌then◌else◌, Option, Some, None}
use mathlib.Core.List.{IsPrefix}
use mathlib.Core.Option.{none, some}
use mathlib.Core.Option as maybe
use lib.ListN.{get_elem?}
use Rattle.atomic_table.specs.Table.{State, Me, Step}
use Rattle.turn_lock.specs.History.{Leads, made_by, IsNone}
use Rattle.turn_lock.specs.Views.{is_over, taken, told, given}
use Rattle.turn_lock.specs.declared.known.Entered.{Entered}
use Rattle.turn_lock.specs.declared.known.Member.{Member}
use Rattle.turn_lock.specs.declared.known.Hold.TheVariants.{Free, Holds}
use Rattle.turn_lock.specs.declared.known.Known.{Known}
use Rattle.turn_lock.specs.declared.known.Opening.{Opening}
use Rattle.turn_lock.specs.declared.known.Place.{Place}
use Rattle.turn_lock.specs.declared.known.View.{View}
use Rattle.turn_lock.specs.declared.steps.Attempt.{Attempt}
use Rattle.turn_lock.specs.declared.steps.Attempt.TheVariants.{Won, Missed}
use Rattle.turn_lock.specs.declared.steps.Attempt.TheVariants as came
use Rattle.turn_lock.specs.declared.known.View.TheVariants.{Spent, Live}

module _ {T E : Type 0} where
  -- the seat k has this view
  abbrev pub At : List (View T E) → ℕ → Known T E → Type 0
  At views k v = get_elem? views k ≡ some (Live v)

  -- the rule speaks of the first view always, and of any other until its pass was joined
  abbrev pub Counts : ℕ → Known T E → Type 0
  Counts k v = (k ≡ 0) ⊎ (is_over v.hold ≡ false)

  abbrev pub LiveAt : List (View T E) → ℕ → Type 0
  LiveAt views n = (v : Known T E) × At views n v × (is_over v.hold ≡ false)

  abbrev pub one : View T E → ℕ
  one Spent = 0
  one (Live v) = if is_over v.hold then 0 else 1

  -- how many views are live
  abbrev pub live_count : List (View T E) → ℕ
  live_count [] = 0
  live_count (x ∷ xs) = one x + live_count xs

  abbrev pub tail : List (View T E) → List (View T E)
  tail [] = []
  tail (x ∷ xs) = xs

-- What is true of the view at the seat k
pub record Fits {T E : Type 0} (done : ℕ) (opening : T) (log : List (Entered E)) (k : ℕ) (v : Known T E) : Type 0 where
  pub done_is : v.done ≡ done
  pub opening_is : v.opening ≡ opening
  pub number_is : v.number ≡ k
  pub seen : IsPrefix v.seen log
  pub mine : made_by k log ≡ v.mine

-- What is true of a pass that was joined
pub record Gone {T E : Type 0} (log : List (Entered E)) (made : ℕ) (views : List (View T E)) (m : Member E) : Type 0 where
  pub after : 0 < m.number
  pub within : m.number ≤ made
  pub mine : made_by m.number log ≡ m.mine
  pub gone : LiveAt views m.number → ⊥

-- What is true of all views, beside the history
pub record Roster {T E : Type 0} (done : ℕ) (opening : T) (log : List (Entered E)) (views : List (View T E)) : Type 0 where
  pub made : ℕ
  pub joined : List (Member E)
  pub over : Bool
  pub front : (v : Known T E) × At views 0 v × (v.made ≡ made) × (v.joined ≡ joined) × (is_over v.hold ≡ over)
  pub fits : (k : ℕ) (v : Known T E) → At views k v → Counts k v → Fits done opening log k v
  pub whole : (k : ℕ) × ((v : Known T E) × At views k v × Counts k v × (v.seen ≡ log))
  pub below : (k : ℕ) → LiveAt views k → k ≤ made
  pub size : over ≡ false → length views ≡ made + 1
  pub count : live_count (tail views) + length joined ≡ made
  pub members : All (Gone log made views) joined
  pub left : (n : ℕ) → 0 < n → n ≤ made → LiveAt views n ⊎ (IsNone n joined → ⊥)
  pub unmade : (n : ℕ) → made < n → made_by n log ≡ []

module _ {T E S : Type 0} (state : T → S) (leads : S → E → S → Type 0) where
  -- the value is at home, and the history led to it
  pub record Resting (done : ℕ) (opening : T) (log : List (Entered E)) (words : List ℕ) (homes : List (maybe.Option (Place T E))) (views : List (View T E)) : Type 0 where
    pub value : T
    pub last : Option E
    pub word : words ≡ 2 * (done + length log) ∷ []
    pub home : homes ≡ some record { value = Some value; last = last } ∷ []
    pub led : Leads leads (state opening) log (state value)
    pub free : (k : ℕ) (v : Known T E) (x : T) → At views k v → v.hold ≡ Holds x → ⊥

  -- one seat holds the value that the history led to, and has seen it whole
  pub record Taken (done : ℕ) (opening : T) (log : List (Entered E)) (words : List ℕ) (homes : List (maybe.Option (Place T E))) (views : List (View T E)) : Type 0 where
    pub holder : ℕ
    pub view : Known T E
    pub value : T
    pub word : words ≡ (2 * (done + length log) + 1) ∷ []
    pub home : homes ≡ none ∷ []
    pub at : At views holder view
    pub holds : view.hold ≡ Holds value
    pub seen : view.seen ≡ log
    pub led : Leads leads (state opening) log (state value)
    pub alone : (k : ℕ) (v : Known T E) (x : T) → At views k v → v.hold ≡ Holds x → k ≡ holder
    pub room : done + length log + 1 < 2 ^ 63

  pub record Rule (key : Opening T) (s : State (Place T E) (View T E)) : Type 0 where
    pub log : List (Entered E)
    pub room : key.done + length log < 2 ^ 63
    pub roster : Roster key.done key.first.value log s.views
    pub turn : Resting key.done key.first.value log s.words s.homes s.views ⊎ Taken key.done key.first.value log s.words s.homes s.views

  -- the history so far was seen, which leads to the value that was taken
  abbrev pub TookFrom : Known T E → List (ℕ × Place T E) → Me (Place T E) (View T E) → Type 0
  TookFrom v out m' = (log : List (Entered E)) × (x : T) × (last : Option E) × (m' ≡ (Live (taken v log x), (0, record { value = Some x; last = last }) ∷ out))
      × IsPrefix v.seen log × Leads leads (state v.opening) log (state x) × (v.done + length log + 1 < 2 ^ 63)

  abbrev pub Took : Me (Place T E) (View T E) → Me (Place T E) (View T E) → Type 0
  Took m m' = (v : Known T E) → m.0 ≡ Live v → TookFrom v m.1 m'

  abbrev pub took : Step (Place T E) → Me (Place T E) (View T E) → ℕ → Me (Place T E) (View T E) → Type 0
  took st m n m' = (n ≡ st.first → Took m m') × (n ≢ st.first → m' ≡ m)

module _ {T E : Type 0} where
  abbrev pub first_view : Opening T → View T E
  first_view key = Live record { done = key.done; opening = key.first.value; number = 0; made = 0; seen = []; mine = []; joined = []; hold = Free }

  -- the history was seen, and has no room for another entry
  abbrev pub EndedFrom : Known T E → List (ℕ × Place T E) → Me (Place T E) (View T E) → Type 0
  EndedFrom v out m' = (log : List (Entered E)) × (m' ≡ (Live (told v log), out)) × IsPrefix v.seen log × (v.done + length log + 1 ≡ 2 ^ 63)

  abbrev pub Ended : Me (Place T E) (View T E) → Me (Place T E) (View T E) → Type 0
  Ended m m' = (v : Known T E) → m.0 ≡ Live v → EndedFrom v m.1 m'

  abbrev pub looked : Step (Place T E) → Me (Place T E) (View T E) → ℕ → Me (Place T E) (View T E) → Type 0
  looked st m n m' = (n ≡ 2 ^ 64 - 2 → Ended m m') × (n ≢ 2 ^ 64 - 2 → m' ≡ m)

  -- the entry that lies in the slot was made, and the slot is at home
  abbrev pub gave : Step (Place T E) → Me (Place T E) (View T E) → ℕ → Me (Place T E) (View T E) → Type 0
  gave st m n m' = (v : Known T E) (p : Place T E) (e : E) → m ≡ (Live v, (0, p) ∷ []) → p.last ≡ Some e → m' ≡ (Live (given v e), [])

  -- a pass that holds no value
  abbrev pub IsIdle : Me (Place T E) (View T E) → Type 0
  IsIdle m = (v : Known T E) × (m ≡ (Live v, [])) × (v.hold ≡ Free)

module _ {T E S : Type 0} (state : T → S) (leads : S → E → S → Type 0) where
  -- the value was taken out of the slot
  abbrev pub HasFrom : Known T E → List (ℕ × Place T E) → Me (Place T E) (View T E) → T → Type 0
  HasFrom v out m' x = (log : List (Entered E)) × (m' ≡ (Live (taken v log x), (0, record { value = None; last = None }) ∷ out))
      × IsPrefix v.seen log × Leads leads (state v.opening) log (state x) × (v.done + length log + 1 < 2 ^ 63)

  abbrev pub Has : Me (Place T E) (View T E) → Me (Place T E) (View T E) → T → Type 0
  Has m m' x = (v : Known T E) → m.0 ≡ Live v → HasFrom v m.1 m' x

  abbrev pub Tries : Me (Place T E) (View T E) → Me (Place T E) (View T E) → Attempt T → Type 0
  Tries m m' (Won x) = Has m m' x
  Tries m m' came.Spent = Ended m m'
  Tries m m' (Missed n) = m' ≡ m

  -- the seat holds a value whose state the entry leads to that of x
  abbrev pub Gives : Me (Place T E) (View T E) → T → E → Type 0
  Gives m x e = (v : Known T E) × (was : T) × (m ≡ (Live v, (0, record { value = None; last = None }) ∷ [])) × (v.hold ≡ Holds was) × leads (state was) e (state x)

module _ {T E : Type 0} where
  -- the entry was made
  abbrev pub Given : Me (Place T E) (View T E) → E → Me (Place T E) (View T E) → Type 0
  Given m e m' = (v : Known T E) → m.0 ≡ Live v → m' ≡ (Live (given v e), [])
