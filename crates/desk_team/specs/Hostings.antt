-- What became of a house whose workers served a journal.
use Rattle.std.specs.Prelude.{◌≡◌, ◌≢◌, ◌⊎◌, ℕ, ◌<◌, ◌≤◌, All, Bool, false, List, [], ◌∷◌, length, map, Option, MatchBool}
use Rattle.hl_base.specs.Causes.{Rose}
use Rattle.hl_base.specs.declared.disk.Disk.{Ghosts}
use Rattle.turn_lock.specs.declared.known.Entered.{Entered}
use Rattle.desk.specs.declared.desk.Desk.{Desk}
use Rattle.desk.specs.Entries.{Entry}
use Rattle.shared_desk.specs.Histories.{RoseBy, pattern_refusals}
use Rattle.shared_desk.specs.Stays.{KitTold}
use Rattle.web_messages.specs.declared.page.Page.{Page}
use Rattle.desk_team.specs.Houses.{AreOut, Bound, HouseTold, IsFaultless, IsFresh, after_door, after_maker, and_first, and_then}
use Rattle.desk_team.specs.Teams.{ServesTeam}
use Rattle.desk_team.specs.declared.hosting.HouseFault.{HouseFault}
use Rattle.desk_team.specs.declared.hosting.HouseFault.TheVariants as house_fault

-- the entries of a history, in order
abbrev pub entries_in : List (Entered Entry) → List Entry
entries_in history = map (λ x. x.entry) history

-- A house handed out these kits, the first of those that were to come, in order.
pub record Takes {A : Type 0} (old new : HouseTold A) (kits : List A) : Type 0 where
  pub came : old.coming ≡ and_first kits new.coming
  pub given : new.given ≡ and_then old.given kits
  pub order : 0 < length kits → AreOut old 0
  pub back : new.back ≡ old.back
  pub bound : new.bound ≡ old.bound
  pub refusals : new.refusals ≡ old.refusals

module _ {K : Type 0} where
  -- a kit is as it is when it is handed out
  abbrev pub IsFreshKit : KitTold K → Type 0
  IsFreshKit kit = IsFresh kit.door.given kit.door.faults kit.tools.refusals

  -- a house's count once the doors of some kits came back, and its refusals
  abbrev pub after_doors : ℕ → List (KitTold K) → ℕ
  after_doors faults [] = faults
  after_doors faults (kit ∷ kits) = after_doors (after_door faults kit.door.faults) kits

  abbrev pub after_makers : ℕ → List (KitTold K) → ℕ
  after_makers refusals [] = refusals
  after_makers refusals (kit ∷ kits) = after_makers (after_maker refusals kit.tools.refusals) kits

-- the same by what is told of a kit
abbrev pub FreshBy : {A K : Type 0} → (A → KitTold K) → A → Type 0
FreshBy tell kit = IsFreshKit (tell kit)

-- where there are kits, they are out
abbrev pub AreAllOut : {A : Type 0} → HouseTold A → List A → Type 0
AreAllOut house kits = 0 < length kits → AreOut house (length kits)

-- A house took these kits back, in order, of each of which so much is told.
pub record TakesAll {A K : Type 0} (tell : A → KitTold K) (old new : HouseTold A) (kits : List A) : Type 0 where
  pub back : new.back ≡ and_then old.back kits
  pub faults : new.faults ≡ after_doors old.faults (map tell kits)
  pub refusals : new.refusals ≡ after_makers old.refusals (map tell kits)
  pub coming : new.coming ≡ old.coming
  pub given : new.given ≡ old.given
  pub bound : new.bound ≡ old.bound

-- A house, whose binds then are these, handed out a kit for each of so many workers, these served the journal at its doors, and
-- the kits came back. Its count rose exactly where a call of a door failed, which none did where none was to; and its refusals
-- rose by at least the number of entries that answer that a pattern was refused, or have come to their last value.
pub record Hosts {A K D : Type 0} {g : Ghosts D} (tell : A → KitTold K) (coming sent : K → Option (List ℕ)) (page : Page) (workers limit : ℕ)
    (bound : Bound) (opening : Desk D g) (old new : HouseTold A) (failed : Bool) (history : List (Entered Entry)) (last : Desk D g) : Type 0 where
  pub kits : List A
  pub kits_now : List A
  pub many : length kits ≡ workers
  -- none of their doors had given a link or failed, and none of their makers had refused a pattern
  pub fresh : All (FreshBy tell) kits
  pub came : old.coming ≡ and_first kits new.coming
  pub given : new.given ≡ and_then old.given kits
  pub back : new.back ≡ and_then old.back kits_now
  pub team : ServesTeam coming sent page limit opening (map tell kits) (map tell kits_now) failed history last
  pub bound_is : new.bound ≡ bound
  pub faults : MatchBool failed (Rose old.faults new.faults) (new.faults ≡ old.faults)
  pub sound : IsFaultless old workers → failed ≡ false
  pub refusals : RoseBy old.refusals new.refusals (pattern_refusals (entries_in history))

-- A house, whose binds then are these, served no link of so many workers: the kits that it handed out, at most one for each, came
-- back as they were. Its own call failed only where its count rose, and one of the kits wasn't handed out then, or none was; where no
-- call was to fail, none did, and the count stays.
pub record Unserved {A : Type 0} (workers : ℕ) (bound : Bound) (old new : HouseTold A) (fault : HouseFault) : Type 0 where
  pub kits : List A
  pub few : length kits ≤ workers
  pub short : fault ≡ house_fault.Failed → (kits ≡ []) ⊎ (length kits < workers)
  pub came : old.coming ≡ and_first kits new.coming
  pub given : new.given ≡ and_then old.given kits
  pub back : new.back ≡ and_then old.back kits
  pub bound_is : new.bound ≡ bound
  pub cause : fault ≡ house_fault.Failed → Rose old.faults new.faults
  pub sound : IsFaultless old workers → (fault ≢ house_fault.Failed) × (new.faults ≡ old.faults)
