-- What is made of a machine that was served and closed, and what is said then.
use Rattle.std.proofs.Common.{◌≡◌, inl, inr, ℕ, Bool, true, false, List, Option, Result, Ok, Err, refl, sym, ◌∙◌, ap, subst}
use Rattle.std.specs.Prelude.{MatchBool}
use Rattle.hl_base.specs.Causes.{Rose}
use Rattle.hl_base.specs.declared.disk.Disk.{Ghosts as Disks}
use Rattle.hl_base.specs.declared.shelf.Shelf.{Ghosts as Shelves}
use Rattle.text_store.specs.Stores.{disks}
use Rattle.turn_lock.specs.declared.known.Entered.{Entered}
use Rattle.desk.specs.declared.desk.Desk.{Desk}
use Rattle.desk.specs.Entries.{Entry}
use Rattle.refusals.specs.declared.refusal.Refusal.{Refusal}
use Rattle.shared_desk.specs.Stays.{KitTold}
use Rattle.desk_team.specs.Hostings.{Hosts}
use Rattle.desk_team.specs.Houses.{HouseTold}
use Rattle.desk_team.specs.declared.hosting.Address.{Address}
use Rattle.desk_team.specs.declared.hosting.Crew.{Crew}
use Rattle.desk_team.specs.declared.hosting.HouseFault.{HouseFault}
use Rattle.desk_team.specs.declared.hosting.HouseFault.TheVariants as house_fault
use Rattle.web_messages.specs.declared.page.Page.{Page}
use Rattle.serve_commands.specs.Answering.{IsComplete, IsMemory, post_of}
use Rattle.serve_commands.specs.Hosting.{IsHosted, OpensWith, ServesDesk, ServesDisks, bound_at, of_house, tally_of}
use Rattle.serve_commands.specs.Lines.{IsSaid}
use Rattle.serve_commands.specs.Stores.{ServesStore}
use Rattle.serve_commands.specs.declared.answer.Ended.{Ended}
use Rattle.serve_commands.specs.declared.answer.Serving.{Serving as Asked}
use Rattle.serve_commands.specs.declared.outcome.Tally.{Tally}
use Rattle.serve_commands.specs.declared.outcome.Unserved.{Unserved}
use Rattle.serve_commands.specs.declared.outcome.Unserved.TheVariants as unserved
use Rattle.serve_commands.specs.declared.store.Post.{Post}

module _ {D A K : Type 0} {g : Disks D} (tell : A → KitTold K) (coming sent : K → Option (List ℕ)) (page : Page) (house house_now : HouseTold A) where
  -- a machine that was served is closed
  pub hosted_so : (opening last : Desk D g) (address : Address) (crew : Crew) (tally : Tally) (failed : Bool) (history : List (Entered Entry)) (back : D × D)
      → Hosts tell coming sent page crew.workers crew.links (bound_at house address) opening house house_now failed history last
      → tally ≡ tally_of last failed → back ≡ disks last.store → IsHosted tell coming sent page opening address crew house house_now tally back
  hosted_so opening last address crew tally failed history back hosts is returned =
      let same : failed ≡ tally.failed = sym (ap (λ (t : Tally). t.failed) is) in
      record {
        last = last;
        history = history;
        hosts = subst (λ (b : Bool). Hosts tell coming sent page crew.workers crew.links (bound_at house address) opening house house_now b history last) same hosts;
        told = is ∙ ap (λ (b : Bool). tally_of last b) same;
        returned = returned;
      }

  -- what comes of a machine is what comes of its disks
  pub disks_so : (post : Post) (old back : D × D) (opening : Desk D g) → OpensWith g post.allow old opening → (served : Result Tally HouseFault)
      → ServesDesk tell coming sent page opening post.address post.crew house house_now served back → (result : Result Tally Unserved) → result ≡ of_house served
      → ServesDisks g tell coming sent page post old back house house_now result
  disks_so post old back opening opens (Ok tally) serves result is =
      subst (λ (r : Result Tally Unserved). ServesDisks g tell coming sent page post old back house house_now r) (sym is) (opening, opens, serves)
  disks_so post old back opening opens (Err fault) serves result is =
      subst (λ (r : Result Tally Unserved). ServesDisks g tell coming sent page post old back house house_now r) (sym is) (opening, opens, serves)

-- a call of a door failed only where the count rose
none_failed : (failed : Bool) (before now : ℕ) → MatchBool failed (Rose before now) (now ≡ before) → (Rose before now → ⊥) → failed ≡ false
none_failed true before now rose none = absurd (none rose)
none_failed false before now same none = refl

module _ {S D A K : Type 0} (s : Shelves S D) (g : Disks D) (tell : A → KitTold K) (coming sent : K → Option (List ℕ)) (asked : Asked) (old new : S)
    (house house_now : HouseTold A) (none : Rose house.faults house_now.faults → ⊥) where
  pub complete_so : (served : Result Tally Unserved) (result : Result Ended Refusal)
      → ServesStore s g asked.store tell coming sent asked.page (post_of asked) old new house house_now served → IsSaid asked.store served result
      → IsComplete served result
  complete_so (Ok told) (Ok said) serves says = says.1 ∙ none_failed told.failed house.faults house_now.faults serves.hosts.faults none
  complete_so (Ok told) (Err x) serves says = subst (λ (y : Refusal). IsMemory y) (sym says) tt
  complete_so (Err (unserved.Store e)) result serves says = tt
  complete_so (Err (unserved.House house_fault.Failed)) result serves says = absurd (none (serves.hosting.cause refl))
  complete_so (Err (unserved.House house_fault.Memory)) (Ok said) serves says = absurd says
  complete_so (Err (unserved.House house_fault.Memory)) (Err x) serves (inl is) = subst (λ (y : Refusal). IsMemory y) (sym is) tt
  complete_so (Err (unserved.House house_fault.Memory)) (Err x) serves (inr is) = subst (λ (y : Refusal). IsMemory y) (sym is) refl
