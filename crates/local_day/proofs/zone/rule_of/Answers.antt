use Rattle.std.proofs.Common.{sym, ap, ◌∙◌}
use Rattle.jiff_tz.specs.PosixReader.{read_whole}
use Rattle.local_day.proofs.Names.{none_is}
use Rattle.local_day.proofs.zone.rule_of.Goals as goal

pub returns-in-Ok : goal.returns-in-Ok
returns-in-Ok c = sym (ap read_whole c.as_bytes.ensures.value) ∙ c.in-Ok.ensures.value

pub returns-in-Err : goal.returns-in-Err
returns-in-Err c =
    sym (ap read_whole c.as_bytes.ensures.value) ∙ none_is (read_whole c.as_bytes.result.now) c.in-Err.ensures.succeeds.1
