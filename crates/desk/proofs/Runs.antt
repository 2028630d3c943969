-- Runs of requests: none, and two in a row.
use Rattle.std.proofs.Common.{List, [], ◌∷◌, ◌++◌, refl, subst}
use Rattle.hl_base.specs.declared.disk.Disk.{Ghosts}
use Rattle.desk.specs.declared.desk.Desk.{Desk}
use Rattle.desk.specs.Desks.{IsServed, Leads}
use Rattle.desk.specs.Entries.{Entry}

module _ {D : Type 0} {g : Ghosts D} where
  -- no requests lead from a machine to itself
  pub none : (desk : Desk D g) → Leads desk [] desk
  none desk = refl

  -- one request
  pub one : (old : Desk D g) (entry : Entry) (new : Desk D g) → IsServed old entry new → Leads old (entry ∷ []) new
  one old entry new served = (new, served, refl)

  -- two runs in a row are one
  pub joined : (old mid new : Desk D g) (xs ys : List Entry) → Leads old xs mid → Leads mid ys new → Leads old (xs ++ ys) new
  joined old mid new [] ys first second = subst (λ (d : Desk D g). Leads d ys new) first second
  joined old mid new (x ∷ xs) ys first second = (first.0, first.1, joined first.0 mid new xs ys first.2 second)
