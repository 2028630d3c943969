-- Why there is no machine of a text, over disks with room that never fail: its text refuses it, or memory ran out.
use Rattle.std.proofs.Common.{◌≡◌, ◌∙◌, ℕ, ◌≤◌, Bool, true, false, nat_lt, if◌then◌else◌, List, [], ◌∷◌, length, Option, None, Some, Result, Ok, Err, inl, inr, refl, sym, subst, arith}
use Rattle.std.proofs.lemmas.Bool.Decides.{nat_tests}
use Rattle.hl_base.specs.Causes.{Rose}
use Rattle.hl_base.specs.Items.{items_of}
use Rattle.hl_base.specs.declared.disk.Disk.{Ghosts}
use Rattle.hl_base.specs.Limits.{item_limit, text_limit}
use Rattle.live_journal.specs.Loading.{book_of, fault_of, first_of, limit_fault, text_fault}
use Rattle.live_journal.specs.declared.fault.OpenFault.{OpenFault}
use Rattle.live_journal.specs.declared.fault.OpenFault.TheVariants as unopened
use Rattle.text_store.specs.Stores.{Keeps, fault_count}
use Rattle.text_store.specs.declared.fault.StoreFault.TheVariants as store_fault
use Rattle.desk.specs.Desks.{state_of}
use Rattle.desk.specs.Entries.{Entry}
use Rattle.desk.specs.Openings.{MakingRefused}
use Rattle.desk.specs.States.{State}
use Rattle.desk.specs.declared.desk.Desk.{Desk}
use Rattle.desk.specs.declared.fault.DeskFault.{DeskFault}
use Rattle.desk.specs.declared.fault.DeskFault.TheVariants as desk_fault
use Rattle.desk.specs.declared.request.Allow.{Allow}
use Rattle.store_commands.specs.Asking.{Patterns, of_opening}
use Rattle.store_making.specs.Refusals.{IsOfText}
use Rattle.store_making.specs.declared.refusal.JournalRefusal.{JournalRefusal}
use Rattle.store_making.specs.declared.refusal.JournalRefusal.TheVariants as journal
use Rattle.web_desk.specs.declared.conn_end.ConnEnd.{ConnEnd}
use Rattle.talk_commands.specs.Histories.{IsHistory}
use Rattle.talk_commands.specs.Links.{Wire}
use Rattle.talk_commands.specs.Memory.{NeverFails, TalkedFrom, TalksFrom, begun, room}
use Rattle.talk_commands.specs.Stores.{IsTalked, TalksDesk}
use Rattle.talk_commands.proofs.Sound.{history}

-- a text that loads is within the limit of bytes
few_by : (past many : Bool) (x y : ℕ × ℕ) (rest : Option OpenFault)
    → first_of (limit_fault (if past then Some x else if many then Some y else None) ∷ rest ∷ []) ≡ None → past ≡ false
few_by true many x y rest e = absurd cc
few_by false many x y rest e = refl

few_bytes : (text : List ℕ) → fault_of None text ≡ None → length text ≤ 16777216
few_bytes text e =
    let within = few_by (nat_lt text_limit (length text)) (nat_lt item_limit (length (items_of text))) (text_limit, length text) (item_limit, length (items_of text))
    (text_fault (book_of None text)) e in
    grind (arith, nat_tests)

rises : (before now : ℕ) → now ≡ 0 → Rose before now → ⊥
rises before now none (inl less) = omega (arith, none, less)
rises before now none (inr top) = omega (arith, none, top)

-- want of memory is told of any text
of_memory : (e : JournalRefusal) (fault : Option OpenFault) → e ≡ journal.Memory → IsOfText e fault
of_memory e fault is = subst (λ (r : JournalRefusal). IsOfText r fault) (sym is) tt

-- two disks that read as empty files, have room and never fail
pub record AreSound {D : Type 0} (g : Ghosts D) (disks : D × D) : Type 0 where
  pub first : g.seen disks.0 ≡ Some []
  pub second : g.seen disks.1 ≡ Some []
  pub unfailing_first : g.unfailing_to disks.0 ≡ Some room
  pub unfailing_second : g.unfailing_to disks.1 ≡ Some room
  pub reach_first : g.reach disks.0 ≤ room
  pub reach_second : g.reach disks.1 ≤ room

module _ {D : Type 0} {g : Ghosts D} (unfailing : (disk : D) (most : ℕ) → g.unfailing_to disk ≡ Some most → g.reach disk ≤ most → g.failures disk ≡ 0) where
  no_fault : (old new : D × D) → AreSound g old → Keeps g old new (room, room) → fault_count g new ≡ 0
  no_fault old new sound keeps =
      let first : g.failures new.0 ≡ 0 = unfailing new.0 room (keeps.unfailing_first ∙ sound.unfailing_first) (omega (arith, keeps.reach_first, sound.reach_first)) in
      let second : g.failures new.1 ≡ 0 = unfailing new.1 room (keeps.unfailing_second ∙ sound.unfailing_second) (omega (arith, keeps.reach_second, sound.reach_second)) in
      rw (first, second) refl

  pub only_text : (old new : D × D) (text : List ℕ) (fault : DeskFault) → AreSound g old → Keeps g old new (room, room)
      → MakingRefused g old new text room fault → IsOfText (of_opening fault) (fault_of None text)
  only_text old new text desk_fault.Memory sound keeps h = tt
  only_text old new text (desk_fault.Load unopened.Memory) sound keeps h = absurd h
  only_text old new text (desk_fault.Load (unopened.Load fault)) sound keeps h = h.0
  only_text old new text (desk_fault.Load (unopened.TooLarge limit size)) sound keeps h = h.0
  only_text old new text (desk_fault.Store store_fault.Memory) sound keeps h = absurd h
  only_text old new text (desk_fault.Store store_fault.DiskFault) sound keeps h =
      absurd (rises (fault_count g old) (fault_count g new) (no_fault old new sound keeps) h.1.1)
  only_text old new text (desk_fault.Store (store_fault.NotAStore at)) sound keeps h = absurd h.1
  only_text old new text (desk_fault.Store (store_fault.Newer version)) sound keeps h = absurd h.1
  only_text old new text (desk_fault.Store (store_fault.Full size limit)) sound keeps h = absurd (omega (arith, h.1.0, few_bytes text h.0))
  only_text old new text (desk_fault.Store (store_fault.Exists len)) sound keeps h =
      let none : len ≡ 0 = h.1.2 [] [] sound.first sound.second in
      absurd (omega (arith, none, h.1.1))

  -- a connection asked such a machine
  talked_from : (text : List ℕ) (level : Allow) (desk : Desk D g) (day : ℕ) (p : Patterns) (w : Wire) (end : ConnEnd) (back : D × D) → fault_of None text ≡ None
      → state_of desk ≡ begun text level → NeverFails room desk → (entries : List Entry) × IsTalked desk day p w end back entries
      → TalkedFrom text level day p w end
  talked_from text level desk day p w end back loads is never (entries, talked) = record {
    loads = loads;
    entries = entries;
    history = subst (λ (s : State). IsHistory s entries) is (history room unfailing desk talked.now entries never talked.led);
    held = talked.held;
  }

  -- it did, or memory ran out before
  pub talks_from : (text : List ℕ) (level : Allow) (desk : Desk D g) (day : ℕ) (p : Patterns) (w : Wire) (r : Result ConnEnd JournalRefusal) (back : D × D)
      → fault_of None text ≡ None → state_of desk ≡ begun text level → NeverFails room desk → TalksDesk desk day p w r back → TalksFrom text level day p w r
  talks_from text level desk day p w (Ok end) back loads is never talked = talked_from text level desk day p w end back loads is never talked
  talks_from text level desk day p w (Err e) back loads is never refused = (of_memory e (fault_of None text) refused.0, refused.2, refused.3)
