use Rattle.std.proofs.Common.{None, Some, refl, ap, sym, subst, arith}
use Rattle.hl_base.specs.declared.mem_disk.MemDisk.{MemDisk}
use Rattle.live_journal.specs.Loading.{fault_of}
use Rattle.store_making.specs.Refusals.{IsOfText}
use Rattle.store_making.specs.declared.refusal.JournalRefusal.{JournalRefusal}
use Rattle.talk_commands.proofs.Making.{only_text}
use Rattle.talk_commands.proofs.in_memory.machine_of.Goals as goal

pub returns-clause-cause : goal.returns-clause-cause
returns-clause-cause g c =
    let first = c.in-Ok.ensures.first in
    let second = c.in-Ok.ensures.second in
    subst (λ (e : JournalRefusal). IsOfText e (fault_of None c.args.text.now)) (sym c.of_opening.ensures)
    (only_text (λ (disk : MemDisk) room is le. disk.unfailing room is le) (c.in-Ok.first, c.in-Ok.second) (c.in-Err.field-0-0, c.in-Err.field-0-1) c.args.text.now c.in-Err.fault
    (record {
      first = ap Some first.reads;
      second = ap Some second.reads;
      unfailing_first = rw (first.log_is, first.failing, first.holds) refl;
      unfailing_second = rw (second.log_is, second.failing, second.holds) refl;
      reach_first = omega (arith, first.reach);
      reach_second = omega (arith, second.reach);
    })
    c.in-Err.ensures.keeps c.in-Err.ensures.cause)
