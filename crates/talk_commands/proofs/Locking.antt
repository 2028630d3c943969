-- One connection to a machine under a lock, with the lock's first pass.
use Rattle.std.proofs.Common.{◌≡◌, ℕ, ◌+◌, ◌^◌, ◌≤◌, List, [], ◌++◌, length, IfSome, ap, subst, ◌∙◌, arith}
use Rattle.hl_base.specs.declared.disk.Disk.{Ghosts as Disks}
use Rattle.turn_lock.specs.Growth.{Grown}
use Rattle.turn_lock.specs.History.{IsOf, made_by}
use Rattle.turn_lock.specs.Passes.{first_pass}
use Rattle.turn_lock.specs.Views.{Lock, Standing}
use Rattle.turn_lock.specs.declared.known.Hold.TheVariants.{Over}
use Rattle.text_store.specs.Stores.{disks}
use Rattle.desk.specs.declared.desk.Desk.{Desk}
use Rattle.desk.specs.Desks.{Leads as DeskLeads}
use Rattle.desk.specs.Entries.{Entry}
use Rattle.shared_desk.specs.Full.{IsFull}
use Rattle.shared_desk.specs.Histories.{IsLegal}
use Rattle.store_commands.specs.Asking.{Patterns}
use Rattle.web_messages.specs.Streams.{IsOfWhole, most_messages}
use Rattle.web_desk.specs.Counts.{Counted}
use Rattle.web_desk.specs.Ends.{EndsWell}
use Rattle.web_desk.specs.Makers.{TellsEntries}
use Rattle.web_desk.specs.Sent.{Sends}
use Rattle.web_desk.specs.Served.{AreOf, Served}
use Rattle.web_messages.specs.declared.page.Page.TheVariants as pages
use Rattle.web_desk.specs.declared.conn_end.ConnEnd.{ConnEnd}
use Rattle.web_desk.specs.declared.conn_end.ConnEnd.TheVariants as conn
use Rattle.talk_commands.specs.Links.{IsHeld, Wire}
use Rattle.talk_commands.specs.Stores.{IsTalked}
use Rattle.talk_commands.proofs.Alone.{IsAlone, alone_length, alone_of, led_alone}

-- a connection has fewer entries than a history has room for
too_few : (n : ℕ) → n ≤ most_messages → n + 1 ≡ 2 ^ 63 → ⊥
too_few n few full = omega (arith, few, full)

-- ---- the pass at the close of its lock

module _ {T D : Type 0} {g : Disks D} (lock : Lock T) (first pass closed : Standing T Entry) (opening last : Desk D g) (entries : List Entry)
    (opens : first ≡ first_pass lock) (done : lock.done ≡ 0) (grown : Grown first pass entries) (is : closed ≡ record pass { hold = Over })
    (led : IsLegal opening closed.seen last) (whole : IsOf closed.seen closed.mine closed.joined) where
  none_joined : closed.joined ≡ []
  none_joined = ap (λ (p : Standing T Entry). p.joined) is ∙ grown.joined ∙ ap (λ (p : Standing T Entry). p.joined) opens

  mine_are : closed.mine ≡ entries
  mine_are = ap (λ (p : Standing T Entry). p.mine) is ∙ grown.mine ∙ ap (λ (p : Standing T Entry). p.mine ++ entries) opens

  alone : IsAlone closed.seen
  alone = alone_of closed.seen closed.mine closed.joined whole none_joined

  -- the history that the lock gives is the pass's entries
  all_are : made_by 0 closed.seen ≡ entries
  all_are = whole.first ∙ mine_are

  run : DeskLeads opening entries last
  run = subst (λ (es : List Entry). DeskLeads opening es last) all_are (led_alone opening last closed.seen alone led)

  all_long : length closed.seen ≡ length entries
  all_long = alone_length closed.seen alone ∙ ap (λ (es : List Entry). length es) all_are

  full_at : IsFull pass → length entries + 1 ≡ 2 ^ 63
  full_at full =
      let at_end : pass.lock.done + length pass.seen + 1 ≡ 2 ^ 63 = full in
      let begins : pass.lock.done ≡ 0 = ap (λ (l : Lock T). l.done) grown.lock ∙ ap (λ (p : Standing T Entry). p.lock.done) opens ∙ done in
      let same : length closed.seen ≡ length pass.seen = ap (λ (p : Standing T Entry). length p.seen) is in
      let long : length closed.seen ≡ length entries = all_long in
      omega (arith, at_end, begins, same, long)

  pub talked : (day : ℕ) (p : Patterns) (w : Wire) (end : ConnEnd) (back : D × D) → AreOf day entries
      → IfSome w.coming (λ bytes. Sends w.sent w.sent_now (λ text. Served pages.Absent bytes end entries text))
      → TellsEntries p.before p.now p.last_before p.last_now entries
      → Counted end w.read_faults w.read_faults_now w.write_faults w.write_faults_now
      → IfSome w.coming (λ bytes. IsOfWhole bytes → EndsWell end) → (end ≡ conn.Spent → IsFull pass) → back ≡ disks last.store
      → length entries ≤ most_messages
      → (those : List Entry) × IsTalked opening day p w end back those
  talked day p w end back days served maker counted well spent returned few = (
    entries,
    record {
      now = last;
      led = run;
      held = record {
        days = days;
        served = served;
        maker = maker;
        counted = counted;
        unspent = λ over. too_few (length entries) few (full_at (spent over));
        whole = well;
      };
      returned = returned;
    },
  )
