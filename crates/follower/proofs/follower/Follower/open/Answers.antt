use Rattle.std.proofs.Common.{inl, sym, subst}
use Rattle.follower.specs.declared.fault.FollowFault.{FollowFault}
use Rattle.follower.specs.Accepting.{OpeningRefused}
use Rattle.follower.proofs.Taking.{unopened}
use Rattle.follower.proofs.follower.Follower.open.Goals as goal

pub returns-in-Ok-clause-opened : goal.returns-in-Ok-clause-opened
returns-in-Ok-clause-opened g c = λ f s a b.
    let m = c.in-Ok.ensures.opened f s a b in
    (m.0, inl (c.in-Ok.ensures.ready, m.1), m.2)

pub returns-in-Ok-clause-bounds : goal.returns-in-Ok-clause-bounds
returns-in-Ok-clause-bounds g c = c.in-Ok.ensures.bounds

pub returns-in-Ok-clause-no_fault : goal.returns-in-Ok-clause-no_fault
returns-in-Ok-clause-no_fault g c = c.in-Ok.ensures.no_fault

pub returns-in-Err-clause-cause : goal.returns-in-Err-clause-cause
returns-in-Err-clause-cause g c =
    subst (λ (e : FollowFault). OpeningRefused g.D.Disk (c.args.first, c.args.second) (c.in-Err.first, c.in-Err.second) e) (sym c.refusal_of.ensures)
    (unopened g.D.Disk (c.args.first, c.args.second) (c.in-Err.first, c.in-Err.second) c.in-Err.fault c.in-Err.ensures.cause)
