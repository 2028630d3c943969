-- A machine that was opened on two disks, and closed again after a connection or without one.
use Rattle.std.proofs.Common.{◌≡◌, ℕ, max, List, length, Result, Ok, Err, sym, subst, ◌∙◌}
use Rattle.hl_base.specs.declared.disk.Disk.{Ghosts as Disks}
use Rattle.text_store.specs.Files.{WhileOpened, opened_limit}
use Rattle.text_store.specs.Image.{image}
use Rattle.text_store.specs.Stores.{Keeps, Tell, Throughout, disks}
use Rattle.desk.specs.declared.desk.Desk.{Desk}
use Rattle.desk.specs.declared.fault.DeskFault.TheVariants as desk_fault
use Rattle.desk.specs.declared.request.Allow.{Allow}
use Rattle.desk.specs.Desks.{shown_by}
use Rattle.store_text.specs.Reading.{ReadAs}
use Rattle.store_making.specs.declared.refusal.JournalRefusal.{JournalRefusal}
use Rattle.store_making.specs.declared.refusal.JournalRefusal.TheVariants as journal
use Rattle.store_commands.specs.Asking.{IsUnopened, Patterns}
use Rattle.store_commands.proofs.StandingLaws.{stands_reads}
use Rattle.web_desk.specs.declared.conn_end.ConnEnd.{ConnEnd}
use Rattle.talk_commands.specs.Links.{Wire}
use Rattle.talk_commands.specs.Stores.{IsOpened, TalksDesk, TalksDisks}

module _ {D : Type 0} (g : Disks D) (level : Allow) (old new : D × D) (desk : Desk D g) (opens : IsOpened g level old desk) where
  -- memory ran out before the machine was asked: the disks have the image that they had
  unused : (e : JournalRefusal) → e ≡ journal.Memory → new ≡ disks desk.store → IsUnopened g old new e
  unused e is back = record {
    fault = desk_fault.Memory;
    is = is;
    cause = tt;
    stays = λ f s first second.
        let shown = opens.shown f s first second in
        let read = subst (λ (d : D × D). ReadAs g d (λ (a b : List ℕ). image a b ≡ Ok (shown_by desk))) (sym back) (stands_reads g desk.store (shown_by desk) shown.1) in
        (read.0, read.1, read.2, read.3, read.4 ∙ sym shown.0);
    any_moment = λ f s first second.
        subst (λ (d : D × D). Tell g old → Throughout g old d (WhileOpened g old f s)) (sym back) (opens.any_moment f s first second);
    keeps = λ f s first second.
        subst (λ (d : D × D). Keeps g old d (max (opened_limit f s) (length f), max (opened_limit f s) (length s))) (sym back) (opens.keeps f s first second);
  }

  pub disks_talked : (day : ℕ) (p : Patterns) (w : Wire) (r : Result ConnEnd JournalRefusal) → TalksDesk desk day p w r new
      → TalksDisks g level old new day p w r
  disks_talked day p w (Ok end) (entries, talked) = (entries, (desk, opens, talked))
  disks_talked day p w (Err e) refused = (unused e refused.0 refused.1, refused.2, refused.3)
