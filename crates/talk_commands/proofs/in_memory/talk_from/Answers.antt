use Rattle.std.proofs.Common.{refl}
use Rattle.hl_base.specs.declared.mem_disk.MemDisk.{MemDisk}
use Rattle.store_commands.specs.Asking.{told_by}
use Rattle.talk_commands.specs.Links.{wire}
use Rattle.talk_commands.proofs.Making.{talks_from}
use Rattle.talk_commands.proofs.in_memory.talk_from.Goals as goal

pub returns-in-Err-clause-talks : goal.returns-in-Err-clause-talks
returns-in-Err-clause-talks g c = (c.in-Err.ensures.cause, record { count = refl; told = refl }, record { sent = refl; reads = refl; writes = refl })

pub returns-in-Err-machine_of-clause-talks : goal.returns-in-Err-machine_of-clause-talks
returns-in-Err-machine_of-clause-talks g c =
    (c.in-Err-machine_of.ensures.cause, record { count = refl; told = refl }, record { sent = refl; reads = refl; writes = refl })

pub returns-in-Ok-clause-talks : goal.returns-in-Ok-clause-talks
returns-in-Ok-clause-talks g c =
    let t = c.talk_desk-end in
    talks_from (λ (disk : MemDisk) room is le. disk.unfailing room is le) c.args.text.now c.args.terms.allow c.in-Ok.desk c.args.terms.day.0
    (told_by g.M.Maker c.args.maker.now t.new.maker) (wire g.K.Link c.args.link.now t.new.link) t.result.2 (t.result.0, t.result.1)
    c.in_default.ensures.good c.in-Ok.ensures.begun c.in-Ok.ensures.sound t.ensures.talks

pub returns-in-Ok-clause-untouched : goal.returns-in-Ok-clause-untouched
returns-in-Ok-clause-untouched g c = c.talk_desk-end.ensures.untouched
