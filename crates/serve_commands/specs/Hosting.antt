-- What becomes of two disks that are opened as a machine, which is served at the doors of a house, and closed.
use Rattle.std.specs.Prelude.{◌≡◌, ℕ, Bool, max, List, length, Option, Some, None, Result, Ok, Err}
use Rattle.hl_base.specs.declared.disk.Disk.{Ghosts as Disks}
use Rattle.text_store.specs.Files.{opened_limit, opened_size}
use Rattle.text_store.specs.Image.{image}
use Rattle.text_store.specs.Refusals.{Told}
use Rattle.text_store.specs.Stores.{Keeps, disks}
use Rattle.turn_lock.specs.declared.known.Entered.{Entered}
use Rattle.desk.specs.declared.desk.Desk.{Desk}
use Rattle.desk.specs.declared.request.Allow.{Allow}
use Rattle.desk.specs.Desks.{counts_of, shown_by, state_of}
use Rattle.desk.specs.Entries.{Entry}
use Rattle.desk.specs.Stands.{Stands}
use Rattle.shared_desk.specs.Histories.{Loads}
use Rattle.shared_desk.specs.Stays.{KitTold}
use Rattle.desk_team.specs.Hostings.{Hosts, Unserved as UnservedHouse}
use Rattle.desk_team.specs.Houses.{Bound, HouseTold, bound_once_more}
use Rattle.desk_team.specs.declared.hosting.Address.{Address}
use Rattle.desk_team.specs.declared.hosting.Crew.{Crew}
use Rattle.desk_team.specs.declared.hosting.HouseFault.{HouseFault}
use Rattle.store_commands.specs.Asking.{IsUnopened}
use Rattle.web_messages.specs.declared.page.Page.{Page}
use Rattle.serve_commands.specs.declared.outcome.Tally.{Tally}
use Rattle.serve_commands.specs.declared.outcome.Unserved.{Unserved}
use Rattle.serve_commands.specs.declared.outcome.Unserved.TheVariants as unserved
use Rattle.serve_commands.specs.declared.store.Post.{Post}

-- the house's binds once it was asked to bind at an address
abbrev pub bound_at : {A : Type 0} → HouseTold A → Address → Bound
bound_at house address = bound_once_more house.bound address.host address.port

-- why a machine wasn't served, as that of a store
abbrev pub of_house : Result Tally HouseFault → Result Tally Unserved
of_house (Ok tally) = Ok tally
of_house (Err fault) = Err (unserved.House fault)

module _ {D : Type 0} {g : Disks D} where
  -- what a machine tells when it is closed
  abbrev pub tally_of : Desk D g → Bool → Tally
  tally_of desk failed = record { revision = desk.live.revision; requests = desk.requests; refused = desk.refused; failed = failed }

  -- A machine was served at an address of a house until all workers had ended, and closed: its disks came back.
  pub record IsHosted {A K : Type 0} (tell : A → KitTold K) (coming sent : K → Option (List ℕ)) (page : Page) (opening : Desk D g) (address : Address) (crew : Crew)
      (house house_now : HouseTold A) (tally : Tally) (back : D × D) : Type 0 where
    pub last : Desk D g
    pub history : List (Entered Entry)
    pub hosts : Hosts tell coming sent page crew.workers crew.links (bound_at house address) opening house house_now tally.failed history last
    pub told : tally ≡ tally_of last tally.failed
    pub returned : back ≡ disks last.store

  -- It wasn't served by so many workers, and closed.
  pub record IsUnhosted {A : Type 0} (opening : Desk D g) (workers : ℕ) (address : Address) (house house_now : HouseTold A) (fault : HouseFault)
      (back : D × D) : Type 0 where
    pub hosting : UnservedHouse workers (bound_at house address) house house_now fault
    pub returned : back ≡ disks opening.store

  abbrev pub ServesDesk : {A K : Type 0} → (A → KitTold K) → (K → Option (List ℕ)) → (K → Option (List ℕ)) → Page → Desk D g → Address → Crew
      → HouseTold A → HouseTold A → Result Tally HouseFault → D × D → Type 0
  ServesDesk tell coming sent page opening address crew house house_now (Ok tally) back = IsHosted tell coming sent page opening address crew house house_now tally back
  ServesDesk tell coming sent page opening address crew house house_now (Err fault) back =
      IsUnhosted opening crew.workers address house house_now fault back

-- A machine was opened on two disks, with what is allowed. It stands for the image that they read as, and has counted nothing.
pub record OpensWith {D : Type 0} (g : Disks D) (allowed : Allow) (old : D × D) (desk : Desk D g) : Type 0 where
  pub shown : Told g old (λ f s. (image f s ≡ Ok (shown_by desk)) × Stands desk.store (shown_by desk) None × ((state_of desk).limit ≡ opened_limit f s))
  pub allows : (state_of desk).allowed ≡ allowed
  -- its text makes a journal
  pub loads : Loads (state_of desk)
  -- its size is that of the half that they showed
  pub size : Told g old (λ f s. (state_of desk).size ≡ opened_size f s)
  pub counts : counts_of desk ≡ (0, 0)
  pub keeps : Told g old (λ f s. Keeps g old (disks desk.store) (max (opened_limit f s) (length f), max (opened_limit f s) (length s)))

-- Two disks were opened as a machine, which was served or not, and they came back; or they weren't opened, and the house wasn't
-- asked.
abbrev pub ServesDisks : {D A K : Type 0} → Disks D → (A → KitTold K) → (K → Option (List ℕ)) → (K → Option (List ℕ)) → Page → Post → D × D → D × D
    → HouseTold A → HouseTold A → Result Tally Unserved → Type 0
ServesDisks {D} g tell coming sent page post old new house house_now (Ok tally) =
    (opening : Desk D g) × OpensWith g post.allow old opening × IsHosted tell coming sent page opening post.address post.crew house house_now tally new
ServesDisks {D} g tell coming sent page post old new house house_now (Err (unserved.House fault)) =
    (opening : Desk D g) × OpensWith g post.allow old opening × IsUnhosted opening post.crew.workers post.address house house_now fault new
ServesDisks g tell coming sent page post old new house house_now (Err (unserved.Store e)) = IsUnopened g old new e × (house_now ≡ house)
