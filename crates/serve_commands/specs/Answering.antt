-- What is answered to `serve`.
use Rattle.std.specs.Prelude.{◌≡◌, ℕ, ◌≤◌, false, List, length, Option, Result, Ok, Err, IfOk}
use Rattle.hl_base.specs.Causes.{Rose}
use Rattle.hl_base.specs.declared.disk.Disk.{Ghosts as Disks}
use Rattle.hl_base.specs.declared.shelf.Shelf.{Ghosts as Shelves}
use Rattle.refusals.specs.declared.refusal.Refusal.{Refusal}
use Rattle.refusals.specs.declared.refusal.Refusal.TheVariants as refusal
use Rattle.shared_desk.specs.Stays.{KitTold}
use Rattle.desk_team.specs.Houses.{HouseTold}
use Rattle.serve_commands.specs.Lines.{IsSaid, most_of_a_tally}
use Rattle.serve_commands.specs.Stores.{ServesStore}
use Rattle.serve_commands.specs.declared.answer.Ended.{Ended}
use Rattle.serve_commands.specs.declared.answer.Serving.{Serving as Asked}
use Rattle.serve_commands.specs.declared.outcome.Tally.{Tally}
use Rattle.serve_commands.specs.declared.outcome.Unserved.{Unserved}
use Rattle.serve_commands.specs.declared.outcome.Unserved.TheVariants as unserved
use Rattle.serve_commands.specs.declared.store.Post.{Post}

-- where and how a store is served
abbrev pub post_of : Asked → Post
post_of asked = record { address = asked.address; allow = asked.allow; crew = asked.crew }

-- it says that memory ran out
abbrev pub IsMemory : Refusal → Type 0
IsMemory refusal.Memory = Unit {0}
IsMemory (refusal.Line status line) = status ≡ 6
IsMemory other = ⊥

-- Of a store that was opened all is said, and no call of a door failed; or memory ran out.
abbrev pub IsComplete : Result Tally Unserved → Result Ended Refusal → Type 0
IsComplete (Err (unserved.Store e)) result = Unit {0}
IsComplete served (Ok said) = said.failed ≡ false
IsComplete served (Err x) = IsMemory x

-- A store was served or not, and that is said.
pub record Serves {S D A K : Type 0} (s : Shelves S D) (g : Disks D) (tell : A → KitTold K) (coming sent : K → Option (List ℕ)) (asked : Asked)
    (old new : S) (house house_now : HouseTold A) (result : Result Ended Refusal) : Type 0 where
  pub served : Result Tally Unserved
  pub serves : ServesStore s g asked.store tell coming sent asked.page (post_of asked) old new house house_now served
  pub says : IsSaid asked.store served result
  -- a line that is said of a store that was served is short
  pub short : IfOk result (λ said. length said.line ≤ most_of_a_tally)
  -- where the house's count doesn't rise and the store was opened
  pub complete : (Rose house.faults house_now.faults → ⊥) → IsComplete served result
