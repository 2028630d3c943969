-- What workers that serve one journal at the same time did.
use Rattle.std.specs.Prelude.{◌≡◌, ℕ, ◌+◌, ◌^◌, ◌<◌, ◌≤◌, Bool, true, false, List, [], ◌∷◌, length, map, slice_index_or, Option}
use Rattle.std.specs.List.{list_any}
use Rattle.hl_base.specs.declared.clock.Clock.{Ghosts as Clocks}
use Rattle.hl_base.specs.declared.disk.Disk.{Ghosts}
use Rattle.hl_base.specs.declared.door.Door.{Ghosts as Doors}
use Rattle.query_terms.specs.declared.making.Maker.{Ghosts as Makers}
use Rattle.turn_lock.specs.History.{made_by}
use Rattle.turn_lock.specs.Views.{Lock, Standing}
use Rattle.turn_lock.specs.declared.known.Entered.{Entered}
use Rattle.turn_lock.specs.declared.known.Hold.TheVariants.{Free}
use Rattle.turn_lock.specs.declared.known.Member.{Member}
use Rattle.desk.specs.declared.desk.Desk.{Desk}
use Rattle.desk.specs.Entries.{Entry}
use Rattle.shared_desk.specs.Histories.{IsLegal}
use Rattle.shared_desk.specs.Stays.{AreServed, AskedWith, EndsDoor, KitTold, ServesDoor, Stay, StaysSound, kit_told, runs_of}
use Rattle.shared_desk.specs.declared.kit.Kit.{Kit}
use Rattle.shared_desk.specs.declared.serving.DoorEnd.{DoorEnd}
use Rattle.shared_desk.specs.declared.serving.DoorEnd.TheVariants as door_end
use Rattle.web_messages.specs.declared.page.Page.{Page}
use Rattle.desk_team.specs.declared.worker.Worker.{Worker}

-- a call of the door failed
abbrev pub is_failed : DoorEnd → Bool
is_failed door_end.Failed = true
is_failed other = false

-- what each kit of a list tells
abbrev pub told_of : {R K C M : Type 0} → Doors R K → Clocks C → Makers M → List (Kit R C M) → List (KitTold K)
told_of r c m kits = map (λ kit. kit_told r c m kit) kits

module _ {T R K C M : Type 0} (r : Doors R K) (c : Clocks C) (m : Makers M) (coming sent : K → Option (List ℕ)) (page : Page) where
  -- a worker served its door up to so many links, and no call of it failed where none was to
  abbrev pub Worked : ℕ → Worker (Standing T Entry) R C M → Worker (Standing T Entry) R C M → Type 0
  Worked limit old new =
      ServesDoor coming sent page limit new.end (kit_told r c m old.kit) (kit_told r c m new.kit) old.pass new.pass
      × StaysSound (r.IsSound old.kit.door) (r.IsSound new.kit.door) new.end

  -- each of some workers did
  abbrev pub AllWorked : ℕ → List (Worker (Standing T Entry) R C M) → List (Worker (Standing T Entry) R C M) → Type 0
  AllWorked limit olds news =
      (k : ℕ) (d : Worker (Standing T Entry) R C M) → k < length olds → Worked limit (slice_index_or olds k d) (slice_index_or news k d)

module _ {T R C M : Type 0} where
  -- a worker with this kit, whose pass has the number that follows this one and has made nothing
  abbrev pub seated : Lock T → ℕ → Kit R C M → Worker (Standing T Entry) R C M
  seated lock number kit = record {
    pass = record { lock = lock; number = number + 1; made = 0; seen = []; mine = []; joined = []; hold = Free };
    kit = kit;
    end = door_end.End;
  }

  -- workers with these kits, in order
  abbrev pub hired : Lock T → ℕ → List (Kit R C M) → List (Worker (Standing T Entry) R C M)
  hired lock number [] = []
  hired lock number (kit ∷ kits) = seated lock number kit ∷ hired lock (number + 1) kits

  -- what the first pass keeps of a worker
  abbrev pub member_of : Worker (Standing T Entry) R C M → Member Entry
  member_of worker = record { number = worker.pass.number; mine = worker.pass.mine }

  -- a call of its door failed
  abbrev pub has_failed : Worker (Standing T Entry) R C M → Bool
  has_failed worker = is_failed worker.end

-- what is told of a worker that ended: what its kit tells, and how the serving of its door ended
pub record DoneTold (K : Type 0) : Type 0 where
  pub kit : KitTold K
  pub end : DoorEnd

-- a history before which no entry was made has no room for another one
abbrev pub HasNoRoom : List (Entered Entry) → Type 0
HasNoRoom history = 2 ^ 63 ≤ length history + 1

-- One worker served its door up to so many links, with the entries that stand under its number: they are the runs of these
-- links, in order.
pub record ServesUnder {K : Type 0} (coming sent : K → Option (List ℕ)) (page : Page) (limit : ℕ) (history : List (Entered Entry)) (number : ℕ)
    (kit : KitTold K) (done : DoneTold K) : Type 0 where
  pub stays : List (Stay K)
  pub served : AreServed coming sent page kit.door done.kit.door stays
  pub ends : EndsDoor limit done.end kit.door done.kit.door stays
  pub full : done.end ≡ door_end.Spent → HasNoRoom history
  pub made : made_by number history ≡ runs_of stays
  pub asked : AskedWith kit.tools done.kit.tools (runs_of stays)
  pub day : done.kit.tools.day ≡ kit.tools.day

module _ {K : Type 0} (coming sent : K → Option (List ℕ)) (page : Page) where
  -- Each of these workers did so, whose numbers follow this one.
  abbrev pub AllServe : ℕ → List (Entered Entry) → ℕ → List (KitTold K) → List (DoneTold K) → Type 0
  AllServe limit history number [] [] = Unit {0}
  AllServe limit history number [] (new ∷ news) = ⊥
  AllServe limit history number (old ∷ olds) [] = ⊥
  AllServe limit history number (old ∷ olds) (new ∷ news) =
      ServesUnder coming sent page limit history (number + 1) old new × AllServe limit history (number + 1) olds news

  -- Workers served a journal at the same time, until all had ended: the history is legal, from the machine as it was to the one
  -- that is given back; under each worker's number stand the entries that it made at its door, once and in order; and under no
  -- other number is there any.
  pub record ServesTeam {D : Type 0} {g : Ghosts D} (limit : ℕ) (opening : Desk D g) (kits kits_now : List (KitTold K)) (failed : Bool)
      (history : List (Entered Entry)) (last : Desk D g) : Type 0 where
    pub legal : IsLegal opening history last
    pub done : List (DoneTold K)
    pub kits_are : kits_now ≡ map (λ (d : DoneTold K). d.kit) done
    pub failed_is : failed ≡ list_any (λ (d : DoneTold K). is_failed d.end) done
    pub workers : AllServe limit history 0 kits done
    pub first : made_by 0 history ≡ []
    pub others : (number : ℕ) → length kits < number → made_by number history ≡ []
