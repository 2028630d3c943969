use Rattle.std.proofs.Common.{◌≡◌, ℕ, List, Option, Some, IfSome, refl, subst}
use Rattle.follower.specs.Heads.{BeginsWith}
use Rattle.follower.specs.declared.frame.Frame.{Frame}
use Rattle.follow_commands.proofs.Walking.{none_left, not_failed, one_more, not_unread}
use Rattle.follow_commands.proofs.following.follow_next.Goals as goal

pub returns-in-Err-clause-steps : goal.returns-in-Err-clause-steps
returns-in-Err-clause-steps g c = (refl, c.in-Err.ensures.refused)

pub returns-in-Err-clause-sound : goal.returns-in-Err-clause-sound
returns-in-Err-clause-sound g c = λ sound.
    let step = c.next_frame.ensures.sound sound in
    (not_failed c.next_frame.result c.in-Err.fault c.in-Err.is step.0, step.1)

pub returns-in-None-clause-sound : goal.returns-in-None-clause-sound
returns-in-None-clause-sound g c = λ sound. (tt, (c.next_frame.ensures.sound sound).1)

pub returns-in-None-clause-steps : goal.returns-in-None-clause-steps
returns-in-None-clause-steps g c =
    let source = g.J.Source in
    let left = source.left c.args.source.now in
    let later = source.left c.next_frame.new.source in (
      refl,
      none_left left later (subst (λ (o : Option Frame). IfSome left (λ bytes. (rest : List ℕ) × (later ≡ Some rest) × BeginsWith bytes o rest)) c.in-None.is c.in-Ok.ensures.found),
      c.in-Ok.ensures.steady,
    )

pub returns-in-Some-clause-steps : goal.returns-in-Some-clause-steps
returns-in-Some-clause-steps g c =
    let source = g.J.Source in
    let left = source.left c.args.source.now in
    let later = source.left c.next_frame.new.source in
    one_more source g.D.Disk c.args.source.now c.next_frame.new.source c.args.follower.now c.accept_one.new.follower c.in-Some.frame
    (c.accept_one.ensures.small, subst (λ (o : Option Frame). IfSome left (λ bytes. (rest : List ℕ) × (later ≡ Some rest) × BeginsWith bytes o rest)) c.in-Some.is c.in-Ok.ensures.found)
    c.in-Ok.ensures.steady c.accept_one.result c.accept_one.ensures.accepts

pub returns-in-Some-clause-sound : goal.returns-in-Some-clause-sound
returns-in-Some-clause-sound g c = λ sound. (
  not_unread g.J.Source g.D.Disk c.args.source.now c.next_frame.new.source c.args.follower.now c.accept_one.new.follower c.in-Some.frame c.accept_one.result c.accept_one.ensures.accepts,
  (c.next_frame.ensures.sound sound).1,
)
