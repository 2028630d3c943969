use Rattle.std.proofs.Common.{inl, inr, refl, ap}
use Rattle.store_following.specs.declared.refusal.FollowRefusal.{FollowRefusal}
use Rattle.store_following.proofs.Ending.{refused}
use Rattle.store_following.proofs.replicas.make.Goals as goal

pub returns-in-Ok-clause-makes : goal.returns-in-Ok-clause-makes
returns-in-Ok-clause-makes g c =
    let o = c.in-Ok.ensures in
    inl (record {
      made = c.in-Ok.follower;
      kind = o.made.0;
      image_is = o.made.1;
      stands = o.made.2;
      has_limit = o.numbers.1;
      any_moment = λ f s first second tell. o.any_moment f s first second tell c.in-Ok.follower.image o.made.1;
      keeps = o.keeps;
      leads = c.lead.ensures;
    })

pub returns-in-Err-clause-makes : goal.returns-in-Err-clause-makes
returns-in-Err-clause-makes g c =
    let o = c.in-Err.ensures in
    inr (record {
      fault = c.in-Err.fault;
      refused = o.cause;
      told = ap (λ (r : FollowRefusal). refused r) c.of_fault.ensures;
      any_moment = o.any_moment;
      keeps = o.keeps;
      unread = refl;
    })
