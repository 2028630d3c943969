use Rattle.std.proofs.Common.{◌≡◌, cond, Some, None, Option, sym, ap, rules}
use Rattle.std.specs.declared.cmp.Ordering.{Ordering}
use Rattle.std.specs.declared.cmp.Ordering.TheVariants.{Less, Equal, Greater}
use Rattle.std.specs.Ordering.{is_eq, is_lt}
use Rattle.watchers.specs.declared.watch.Place.{Place}
use Rattle.watchers.specs.Order.{kind_cmp, place_cmp}
use Rattle.watchers.proofs.first.place_if.Goals as goal

pub returns-in-Equal : goal.returns-in-Equal
returns-in-Equal c =
    let order : kind_cmp c.args.account.now c.args.below c.args.watch.now ≡ Equal = search rules in
    sym (ap (λ (r : Ordering). cond (is_eq r) (Some c.args.watch.now.place) None) order)

pub returns-in-Less : goal.returns-in-Less
returns-in-Less c =
    let order : kind_cmp c.args.account.now c.args.below c.args.watch.now ≡ Less = search rules in
    sym (ap (λ (r : Ordering). cond (is_eq r) (Some c.args.watch.now.place) None) order)

pub returns-in-Greater : goal.returns-in-Greater
returns-in-Greater c =
    let order : kind_cmp c.args.account.now c.args.below c.args.watch.now ≡ Greater = search rules in
    sym (ap (λ (r : Ordering). cond (is_eq r) (Some c.args.watch.now.place) None) order)
