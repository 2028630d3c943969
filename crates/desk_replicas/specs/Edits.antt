-- The edits that a legal history accepted.
use Rattle.std.specs.Prelude.{◌≡◌, ℕ, List, ◌++◌}
use Rattle.hl_base.specs.declared.disk.Disk.{Ghosts}
use Rattle.text_store.specs.declared.change.Change.{Change}
use Rattle.text_store.specs.declared.image.Image.{Image}
use Rattle.follower.specs.Histories.{IsAfter}
use Rattle.turn_lock.specs.declared.known.Entered.{Entered}
use Rattle.desk.specs.Desks.{shown_by}
use Rattle.desk.specs.Entries.{Entry}
use Rattle.desk.specs.declared.desk.Desk.{Desk}
use Rattle.shared_desk.specs.Histories.{IsLegal}
use Rattle.replica_laws.specs.Lives.{LeadOver}

module _ {D : Type 0} {g : Ghosts D} where
  -- an image is that of the service at a place of a legal history
  pub record IsAPlace (opening : Desk D g) (history : List (Entered Entry)) (shown : Image) : Type 0 where
    pub earlier : List (Entered Entry)
    pub later : List (Entered Entry)
    pub whole : history ≡ earlier ++ later
    pub here : Desk D g
    pub led : IsLegal opening earlier here
    pub is : shown ≡ shown_by here

  -- These edits lead from the image of the opening to that of the last state, and the image after each number of them is that of a place.
  pub record HasEdits (opening : Desk D g) (history : List (Entered Entry)) (last : Desk D g) (edits : List Change) : Type 0 where
    pub made : LeadOver (shown_by opening) edits (shown_by last)
    pub places : (n : ℕ) (shown : Image) → IsAfter (shown_by opening) n edits shown → IsAPlace opening history shown
