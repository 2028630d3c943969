use Rattle.std.proofs.Common.{Some, None, refl, ap, ◌∙◌}
use Rattle.desk.specs.Desks.{state_of}
use Rattle.desk.specs.Reading.{is_planned}
use Rattle.desk.proofs.DryEdits.{stored_done, unstored_planned, unstored_refusal}
use Rattle.desk.proofs.desk.Desk.if_stored.Goals as goal

pub returns-in-Some-clause-runs : goal.returns-in-Some-clause-runs
returns-in-Some-clause-runs g c =
    rw c.dropped.ensures (unstored_refusal (state_of c.args.self.now) c.args.deed.now (Some c.in-Some.reply) c.in-Some.reply refl c.in-Some.ensures)

pub returns-in-Some-clause-accepted : goal.returns-in-Some-clause-accepted
returns-in-Some-clause-accepted g c =
    ap is_planned c.dropped.ensures ∙ unstored_planned (state_of c.args.self.now) c.args.deed.now (Some c.in-Some.reply) c.in-Some.reply refl c.in-Some.ensures

pub returns-in-None-clause-runs : goal.returns-in-None-clause-runs
returns-in-None-clause-runs g c = (stored_done (state_of c.args.self.now) c.args.deed.now None refl c.in-None.ensures, c.requires)
