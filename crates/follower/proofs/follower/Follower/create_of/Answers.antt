use Rattle.std.proofs.Common.{inl, sym, subst}
use Rattle.text_store.specs.Edits.{whole_size}
use Rattle.follower.specs.declared.fault.FollowFault.{FollowFault}
use Rattle.follower.specs.Accepting.{IsUnmade}
use Rattle.follower.proofs.Taking.{unmade}
use Rattle.follower.proofs.follower.Follower.create_of.Goals as goal

pub returns-in-Ok-clause-made : goal.returns-in-Ok-clause-made
returns-in-Ok-clause-made g c = λ f s a b.
    let m = c.in-Ok.ensures.made f s a b in
    (m.0, m.1, inl (c.in-Ok.ensures.numbers.3, m.2))

pub returns-in-Err-clause-cause : goal.returns-in-Err-clause-cause
returns-in-Err-clause-cause g c =
    subst (λ (e : FollowFault). IsUnmade g.D.Disk (c.args.first, c.args.second) (c.in-Err.first, c.in-Err.second) (whole_size c.args.shown) c.args.limit e) (sym c.refusal_of.ensures)
    (unmade g.D.Disk (c.args.first, c.args.second) (c.in-Err.first, c.in-Err.second) (whole_size c.args.shown) c.args.limit c.in-Err.fault c.in-Err.ensures.cause)
