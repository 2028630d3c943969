use Rattle.std.proofs.Common.{◌≡◌, cond, Some, None, Option, sym, ap, rules}
use Rattle.std.specs.declared.cmp.Ordering.{Ordering}
use Rattle.std.specs.declared.cmp.Ordering.TheVariants.{Less, Equal, Greater}
use Rattle.std.specs.Ordering.{is_eq, is_lt}
use Rattle.watchers.specs.declared.watch.Place.{Place}
use Rattle.watchers.specs.Order.{kind_cmp, place_cmp}
use Rattle.watchers.proofs.first.earlier_of.Goals as goal

pub returns-in-Less : goal.returns-in-Less
returns-in-Less c =
    let order : place_cmp c.args.b c.args.a ≡ Less = search rules in
    sym (ap (λ (r : Ordering). cond (is_lt r) c.args.b c.args.a) order)

pub returns-in-Equal : goal.returns-in-Equal
returns-in-Equal c =
    let order : place_cmp c.args.b c.args.a ≡ Equal = search rules in
    sym (ap (λ (r : Ordering). cond (is_lt r) c.args.b c.args.a) order)

pub returns-in-Greater : goal.returns-in-Greater
returns-in-Greater c =
    let order : place_cmp c.args.b c.args.a ≡ Greater = search rules in
    sym (ap (λ (r : Ordering). cond (is_lt r) c.args.b c.args.a) order)
