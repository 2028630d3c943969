use Rattle.std.proofs.Common.{ap, sym, ◌∙◌}
use Rattle.text_ends.specs.Growth.{begins_apart}
use Rattle.text_ends.proofs.kept.KeptEnd.goes_behind.Goals as goal

pub returns-in-Some : goal.returns-in-Some
returns-in-Some c = c.begins_apart.ensures ∙ sym (ap (begins_apart c.args.self.now.ended c.args.bytes.now) c.in-Some.is)

pub returns-in-None : goal.returns-in-None
returns-in-None c = sym (ap (begins_apart c.args.self.now.ended c.args.bytes.now) c.in-None.is)
