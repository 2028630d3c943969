use Rattle.std.proofs.Common.{sym, ap, ◌∙◌}
use Rattle.jiff_tz.specs.PosixReader.{read_whole}
use Rattle.local_day.proofs.zone.rule_in.Goals as goal

pub returns-in-Some : goal.returns-in-Some
returns-in-Some c = rw c.in-Some.is (sym (ap read_whole c.name_of.ensures) ∙ c.rule_of.ensures)
