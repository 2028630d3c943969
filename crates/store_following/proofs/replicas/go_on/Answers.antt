use Rattle.std.proofs.Common.{inl, inr, refl, ap}
use Rattle.store_following.specs.declared.refusal.FollowRefusal.{FollowRefusal}
use Rattle.store_following.proofs.Ending.{refused}
use Rattle.store_following.proofs.replicas.go_on.Goals as goal

pub returns-in-Ok : goal.returns-in-Ok
returns-in-Ok g c =
    let o = c.in-Ok.ensures in
    inl (record { opened = c.in-Ok.follower; stands = o.opened; any_moment = o.any_moment; keeps = o.keeps; leads = c.lead.ensures })

pub returns-in-Err : goal.returns-in-Err
returns-in-Err g c =
    let o = c.in-Err.ensures in
    inr (record {
      fault = c.in-Err.fault;
      refused = o.cause;
      told = ap (λ (r : FollowRefusal). refused r) c.of_fault.ensures;
      any_moment = o.any_moment;
      keeps = o.keeps;
      unread = refl;
    })
