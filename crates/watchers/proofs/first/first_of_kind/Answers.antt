use Rattle.std.proofs.Common.{◌≡◌, Option, Some, None, find, sym, subst}
use Rattle.std.specs.Ordering.{is_lt}
use Rattle.watchers.specs.declared.watch.Place.{Place}
use Rattle.watchers.specs.declared.watch.Watch.{Watch}
use Rattle.watchers.specs.Order.{watch_cmp}
use Rattle.watchers.specs.Reach.{is_kind, place_if, IsFirst}
use Rattle.watchers.proofs.Firsts.{first-of-kind, taken}
use Rattle.watchers.proofs.first.first_of_kind.Goals as goal

pub returns-in-Some : goal.returns-in-Some
returns-in-Some c =
    let k : Watch = record { account = c.args.account.now; below = c.args.below; place = c.args.after } in
    let P : Option Watch → Type 0 = λ o. IsFirst (is_kind c.args.account.now c.args.below c.args.after) c.args.watches.now (taken k o) in
    let Q : Option Place → Type 0 = λ o. IsFirst (is_kind c.args.account.now c.args.below c.args.after) c.args.watches.now o in
    subst Q (sym c.place_if.ensures) (subst P (sym c.in-Some.ensures.item) (first-of-kind k c.args.watches.now c.in-Some.ensures.rises))

pub returns-in-None : goal.returns-in-None
returns-in-None c =
    let k : Watch = record { account = c.args.account.now; below = c.args.below; place = c.args.after } in
    let P : Option Watch → Type 0 = λ o. IsFirst (is_kind c.args.account.now c.args.below c.args.after) c.args.watches.now (taken k o) in
    subst P (sym c.in-None.ensures.item) (first-of-kind k c.args.watches.now c.in-None.ensures.rises)
