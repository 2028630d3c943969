-- What a worker did at its door.
use Rattle.std.specs.Prelude.{◌≡◌, ◌≢◌, ℕ, ◌<◌, ◌≤◌, Bool, true, false, if◌then◌else◌, List, [], ◌∷◌, ◌++◌, length, map, All, Option, Some, IfSome, is_none}
use Rattle.std.specs.List.{flat_map}
use Rattle.std.specs.Option.{option_map}
use Rattle.hl_base.specs.Causes.{Rose}
use Rattle.hl_base.specs.Door.{Returned, Visit, come_back}
use Rattle.hl_base.specs.declared.clock.Clock.{Ghosts as Clocks}
use Rattle.hl_base.specs.declared.door.Door.{Ghosts as Doors}
use Rattle.query_terms.specs.declared.making.Maker.{Ghosts as Makers}
use Rattle.turn_lock.specs.Growth.{Grown}
use Rattle.turn_lock.specs.Views.{Standing}
use Rattle.desk.specs.Entries.{Entry}
use Rattle.web_desk.specs.Counts.{Counted}
use Rattle.web_desk.specs.Ends.{EndsWell}
use Rattle.web_desk.specs.Makers.{AreAsked}
use Rattle.web_desk.specs.Sent.{Sends}
use Rattle.web_desk.specs.Served.{Served}
use Rattle.web_messages.specs.Streams.{IsOfWhole}
use Rattle.web_messages.specs.declared.page.Page.{Page}
use Rattle.web_desk.specs.declared.conn_end.ConnEnd.{ConnEnd}
use Rattle.web_desk.specs.declared.conn_end.ConnEnd.TheVariants as conn
use Rattle.shared_desk.specs.Full.{IsFull}
use Rattle.shared_desk.specs.declared.kit.Kit.{Kit}
use Rattle.shared_desk.specs.declared.serving.DoorEnd.{DoorEnd}
use Rattle.shared_desk.specs.declared.serving.DoorEnd.TheVariants as door_end

-- what a clock and a maker of patterns tell: the one day that the clock always answers, if it has one, how many patterns the
-- maker refused, and the last of these
pub record Tools : Type 0 where
  pub day : Option ℕ
  pub refusals : ℕ
  pub last_refused : Option (List ℕ)

-- what a door tells: the links that are still to come, those that it gave, in order, and how many of its calls failed
pub record DoorTold (K : Type 0) : Type 0 where
  pub coming : Option (List K)
  pub given : Option (List Visit)
  pub faults : ℕ

pub record KitTold (K : Type 0) : Type 0 where
  pub door : DoorTold K
  pub tools : Tools

-- what a kit tells
abbrev pub kit_told : {R K C M : Type 0} → Doors R K → Clocks C → Makers M → Kit R C M → KitTold K
kit_told r c m kit = record {
  door = record { coming = r.coming kit.door; given = r.given kit.door; faults = r.faults kit.door };
  tools = record { day = c.always kit.clock; refusals = m.refusals kit.maker; last_refused = m.last_refused kit.maker };
}

-- Some entries are of the clock's day, where it has one, and the maker tells what their replies say.
abbrev pub AskedWith : Tools → Tools → List Entry → Type 0
AskedWith old new entries = AreAsked old.day old.refusals new.refusals old.last_refused new.last_refused entries

-- one link of a door: as it was given, what is told of it once it came back, how its connection ended, and the entries that
-- it led to
pub record Stay (K : Type 0) : Type 0 where
  pub link : K
  pub back : Returned
  pub end : ConnEnd
  pub run : List Entry

-- the entries of some links, one link after another
abbrev pub runs_of : {K : Type 0} → List (Stay K) → List Entry
runs_of stays = flat_map (λ stay. stay.run) stays

-- the connection ended because the lock was spent
abbrev pub is_spent : ConnEnd → Bool
is_spent conn.Spent = true
is_spent other = false

-- how the serving of a door goes on after a connection
abbrev pub end_after : ConnEnd → DoorEnd
end_after end = if is_spent end then door_end.Spent else door_end.Enough

-- Where no call of the door was to fail, none did, and none is to fail afterwards.
abbrev pub StaysSound : Type 0 → Type 0 → DoorEnd → Type 0
StaysSound old new end = old → (end ≢ door_end.Failed) × new

abbrev pub AreUnspent : {K : Type 0} → List (Stay K) → Type 0
AreUnspent stays = All (λ stay. is_spent stay.end ≡ false) stays

-- each connection that was handed out came back
abbrev pub AreBack : List Visit → Type 0
AreBack visits = All (λ visit. is_none visit.back ≡ false) visits

-- the last connection alone ended because the lock was spent
abbrev pub IsSpentAtLast : {K : Type 0} → List (Stay K) → Type 0
IsSpentAtLast {K} stays =
    (earlier : List (Stay K)) × (last : Stay K) × (stays ≡ earlier ++ last ∷ []) × AreUnspent earlier × (is_spent last.end ≡ true)

-- Why the serving of a door ended, which may have so many links: no link comes any more; a call of the door failed; so many
-- were served; or the lock was spent at the last connection.
abbrev pub EndsDoor : {K : Type 0} → ℕ → DoorEnd → DoorTold K → DoorTold K → List (Stay K) → Type 0
EndsDoor limit door_end.End old new stays =
    (length stays < limit) × AreUnspent stays × IfSome new.coming (λ left. left ≡ []) × (new.faults ≡ old.faults)
EndsDoor limit door_end.Failed old new stays = (length stays < limit) × AreUnspent stays × Rose old.faults new.faults
EndsDoor limit door_end.Enough old new stays = (length stays ≡ limit) × AreUnspent stays × (new.faults ≡ old.faults)
EndsDoor limit door_end.Spent old new stays = (length stays ≤ limit) × IsSpentAtLast stays × (new.faults ≡ old.faults)

module _ {K : Type 0} (coming sent : K → Option (List ℕ)) (page : Page) where
  -- what a door tells of a link that came back
  abbrev pub visit_of : Stay K → Visit
  visit_of stay = record { had = coming stay.link; back = Some stay.back }

  -- The connection over the link led to its entries and sent its bytes as the bytes that came ask, up to its end; a fault of
  -- the link was counted where that is the end, and no other; and whole messages within the limits were answered to their end,
  -- unless it broke off before.
  pub record IsStay (stay : Stay K) : Type 0 where
    pub served : IfSome (coming stay.link) (λ bytes. Sends (sent stay.link) stay.back.sent (λ text. Served page bytes stay.end stay.run text))
    pub counted : Counted stay.end 0 stay.back.read_faults 0 stay.back.write_faults
    pub sound : IfSome (coming stay.link) (λ bytes. IsOfWhole bytes → EndsWell stay.end)

  -- A door gave these links, the first of those that were to come, each was served, and each came back to it.
  pub record AreServed (old new : DoorTold K) (stays : List (Stay K)) : Type 0 where
    pub came : old.coming ≡ option_map (λ left. map (λ stay. stay.link) stays ++ left) new.coming
    pub back : (visits : List Visit) → old.given ≡ Some visits → AreBack visits → new.given ≡ Some (visits ++ map visit_of stays)
    pub each : All IsStay stays

module _ {K T : Type 0} (coming sent : K → Option (List ℕ)) (page : Page) where
  -- A worker served its door up to so many links, and that ended so: its pass grew by the runs of these links, in order.
  pub record ServesDoor (limit : ℕ) (end : DoorEnd) (kit kit_now : KitTold K) (pass pass_now : Standing T Entry) : Type 0 where
    pub stays : List (Stay K)
    pub served : AreServed coming sent page kit.door kit_now.door stays
    pub ends : EndsDoor limit end kit.door kit_now.door stays
    pub grown : Grown pass pass_now (runs_of stays)
    pub asked : AskedWith kit.tools kit_now.tools (runs_of stays)
    pub day : kit_now.tools.day ≡ kit.tools.day
    pub full : end ≡ door_end.Spent → IsFull pass_now

  -- A worker served a link that its door gave, and gave it back.
  pub record ServesGiven (end : DoorEnd) (link : K) (kit kit_now : KitTold K) (pass pass_now : Standing T Entry) : Type 0 where
    pub stay : Stay K
    pub given : stay.link ≡ link
    pub served : IsStay coming sent page stay
    pub back : kit_now.door.given ≡ option_map (come_back stay.back) kit.door.given
    pub coming_stays : kit_now.door.coming ≡ kit.door.coming
    pub faults : kit_now.door.faults ≡ kit.door.faults
    pub grown : Grown pass pass_now stay.run
    pub asked : AskedWith kit.tools kit_now.tools stay.run
    pub day : kit_now.tools.day ≡ kit.tools.day
    pub goes : end ≡ end_after stay.end
    pub full : end ≡ door_end.Spent → IsFull pass_now
