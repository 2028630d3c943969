-- The history that a run of a machine is, and what its disks stand for after it.
use Rattle.std.proofs.Common.{List, [], ◌∷◌, Option, refl, sym, ap, subst, ◌∙◌}
use Rattle.hl_base.specs.declared.disk.Disk.{Ghosts as Disks}
use Rattle.text_store.specs.declared.image.Image.{Image}
use Rattle.text_store.specs.Stores.{Tell, disks}
use Rattle.desk.specs.declared.desk.Desk.{Desk}
use Rattle.desk.specs.Desks.{IsServed, Leads as DeskLeads, faults_of, shown_by, state_of}
use Rattle.desk.specs.Entries.{Entry}
use Rattle.desk.specs.Stands.{Stands}
use Rattle.talk_commands.specs.Histories.{Leads}

module _ {D : Type 0} {g : Disks D} where
  pub history_of : (old new : Desk D g) (entries : List Entry) (beside : Option Image) → Stands old.store (shown_by old) beside → DeskLeads old entries new
      → (after : Option Image) × Stands new.store (shown_by new) after × Leads (state_of old) (faults_of old) beside entries (state_of new) (faults_of new) after
  history_of old new [] beside stands led =
      (beside, subst (λ (d : Desk D g). Stands d.store (shown_by d) beside) (sym led) stands, (ap (λ (d : Desk D g). state_of d) led, ap (λ (d : Desk D g). faults_of d) led, refl))
  history_of old new (entry ∷ entries) beside stands led =
      let mid : Desk D g = led.0 in
      let served : IsServed old entry mid = led.1 in
      let after = served.serves.stands beside stands in
      let rest = history_of mid new entries after.0 after.2 led.2 in
      (rest.0, rest.1, (state_of mid, faults_of mid, after.0, served.serves.gives, served.revision, after.1, rest.2))

  -- disks that tell of crashes go on to
  pub tells_on : (old new : Desk D g) (entries : List Entry) → DeskLeads old entries new → Tell g (disks old.store) → Tell g (disks new.store)
  tells_on old new [] led tell = subst (λ (d : Desk D g). Tell g (disks d.store)) (sym led) tell
  tells_on old new (entry ∷ entries) led tell =
      let keeps = led.1.serves.keeps in
      tells_on led.0 new entries led.2 (keeps.tells_first ∙ tell.0, keeps.tells_second ∙ tell.1)
