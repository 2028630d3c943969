use Rattle.std.proofs.Common.{◌≡◌, ◌≤◌, Some, None, sym, subst, arith}
use Rattle.book.specs.SumsBefore.{placed_from}
use Rattle.reached_walk.specs.declared.place.Spot.{Spot}
use Rattle.reached_walk.specs.Asks.{IsFirstAfter}
use Rattle.reached_walk.proofs.Looking.{next-none, next-some}
use Rattle.reached_walk.proofs.change.next_after.Goals as goal

pub returns-in-Some : goal.returns-in-Some
returns-in-Some c = λ text w.
    let Q : Spot → Type 0 = λ x. IsFirstAfter (placed_from 0 text) c.args.account.now c.args.spot (Some x) in
    let few : c.in-Some.place.posting ≤ 18446744073709551615 = omega (arith, c.spot_at.ensures.small) in
    subst Q (sym c.spot_at.ensures.spot)
    (next-some c.args.account.now c.args.spot 18446744073709551615 text c.args.watchers.now w c.in-Some.place few (c.in-Some.ensures w.standing w.watched))

pub returns-in-None : goal.returns-in-None
returns-in-None c = λ text w.
    next-none c.args.account.now c.args.spot 18446744073709551615 text c.args.watchers.now w (c.in-None.ensures w.standing w.watched)
