use Rattle.std.proofs.Common.{◌≡◌, List, ℕ, subst, rules}
use Rattle.watchers.specs.Reach.{reaches, IsFirst}
use Rattle.watchers.proofs.Members.{next-in}
use Rattle.watchers.proofs.watchers.Watchers.next.Goals as goal

pub returns : goal.returns
returns c = λ standing are.
    let first : IsFirst (reaches c.args.account.now c.args.after) c.args.self.now c.first_reached.result = search rules in
    next-in standing c.args.self.now c.args.account.now c.args.after c.first_reached.result are first
