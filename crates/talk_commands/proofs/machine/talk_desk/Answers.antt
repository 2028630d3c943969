use Rattle.std.proofs.Common.{Ok, refl, ap, subst, ◌∙◌}
use Rattle.text_store.specs.Stores.{disks}
use Rattle.store_commands.specs.Asking.{told_by}
use Rattle.talk_commands.specs.Links.{wire}
use Rattle.talk_commands.specs.Stores.{TalksDesk}
use Rattle.talk_commands.proofs.machine.talk_desk.Goals as goal

pub returns-in-Ok-clause-talks : goal.returns-in-Ok-clause-talks
returns-in-Ok-clause-talks g c =
    let t = c.talk_under-first in
    subst (λ desk. TalksDesk desk c.args.day.0 (told_by g.M.Maker c.args.maker.now t.new.maker) (wire g.K.Link c.args.link.now t.new.link)
    (Ok t.result.2) (t.result.0, t.result.1))
    (ap (λ s. s.desk) c.in-Ok.ensures.1) t.ensures

pub returns-in-Err-clause-talks : goal.returns-in-Err-clause-talks
returns-in-Err-clause-talks g c = (
  refl,
  c.close-first.ensures ∙ ap (λ s. disks s.desk.store) c.in-Err.ensures,
  record { count = refl; told = refl },
  record { sent = refl; reads = refl; writes = refl },
)
