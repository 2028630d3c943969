use Rattle.std.proofs.Common.{None, refl}
use Rattle.desk.specs.declared.reply.Reply.TheVariants as reply
use Rattle.desk.proofs.ReadingLaws.{idle, same_steps}
use Rattle.desk.proofs.Served.{replied}
use Rattle.desk.proofs.desk.Desk.put_deed.Goals as goal

pub returns-in-None-clause-served : goal.returns-in-None-clause-served
returns-in-None-clause-served g c =
    rw (c.in-None.is, c.revision-revision.ensures) (replied None c.args.self.now (reply.Same c.args.self.now.live.revision) refl)

pub returns-in-Some-clause-steps : goal.returns-in-Some-clause-steps
returns-in-Some-clause-steps g c = same_steps _ _ _ _ _ _ c.in-Some.is c.judge.ensures.steps

pub returns-in-None-clause-steps : goal.returns-in-None-clause-steps
returns-in-None-clause-steps g c = idle _ _ _ _
