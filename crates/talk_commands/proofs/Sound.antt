-- A machine whose disks don't fail makes a history.
use Rattle.std.proofs.Common.{◌≡◌, ◌≤◌, ℕ, max, List, [], ◌∷◌, Some, ◌∙◌, subst, arith}
use Rattle.hl_base.specs.declared.disk.Disk.{Ghosts}
use Rattle.text_store.specs.Stores.{disks}
use Rattle.desk.specs.Desks.{IsServed, Leads, state_of, faults_of}
use Rattle.desk.specs.Entries.{Entry}
use Rattle.desk.specs.Steps.{Step}
use Rattle.desk.specs.declared.desk.Desk.{Desk}
use Rattle.talk_commands.specs.Histories.{IsHistory}
use Rattle.talk_commands.specs.Memory.{NeverFails}

within : (old new bound most : ℕ) → new ≤ max old bound → old ≤ most → bound ≤ most → new ≤ most
within old new bound most a b c = omega (arith, a, b, c)

module _ {D : Type 0} {g : Ghosts D} (most : ℕ) (unfailing : (disk : D) (room : ℕ) → g.unfailing_to disk ≡ Some room → g.reach disk ≤ room → g.failures disk ≡ 0) where
  -- no call failed
  no_faults : (desk : Desk D g) → NeverFails most desk → faults_of desk ≡ 0
  no_faults desk n =
      let first : g.failures (disks desk.store).0 ≡ 0 = unfailing (disks desk.store).0 most n.first n.reach_first in
      let second : g.failures (disks desk.store).1 ≡ 0 = unfailing (disks desk.store).1 most n.second n.reach_second in
      omega (arith, first, second)

  -- a request leaves it so
  goes_on : (old : Desk D g) (entry : Entry) (new : Desk D g) → IsServed old entry new → NeverFails most old → NeverFails most new
  goes_on old entry new s n = record {
    first = s.serves.keeps.unfailing_first ∙ n.first;
    second = s.serves.keeps.unfailing_second ∙ n.second;
    reach_first = within _ _ _ most s.serves.keeps.reach_first n.reach_first n.bound_first;
    reach_second = within _ _ _ most s.serves.keeps.reach_second n.reach_second n.bound_second;
    bound_first = omega (arith, s.serves.no_wider.0, n.bound_first);
    bound_second = omega (arith, s.serves.no_wider.1, n.bound_second);
  }

  pub history : (old new : Desk D g) (entries : List Entry) → NeverFails most old → Leads old entries new → IsHistory (state_of old) entries
  history old new [] n l = tt
  history old new (entry ∷ entries) n l =
      let mid : Desk D g = l.0 in
      let served : IsServed old entry mid = l.1 in
      let after : NeverFails most mid = goes_on old entry mid served n in
      let F : ℕ → ℕ → Type 0 = λ a b. Step (state_of old) a entry.day.0 entry.request entry.reply (state_of mid) b in
      let step : F (faults_of old) (faults_of mid) = served.serves.gives in
      let step_0 : F 0 (faults_of mid) = subst (λ a. F a (faults_of mid)) (no_faults old n) step in
      let step_00 : F 0 0 = subst (λ b. F 0 b) (no_faults mid after) step_0 in
      (state_of mid, step_00, served.revision, history mid new entries after l.2)
