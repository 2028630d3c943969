use Rattle.std.proofs.Common.{◌≡◌, ◌||◌, Option, true, false, sym, subst}
use Rattle.watchers.specs.declared.watch.Place.{Place}
use Rattle.watchers.specs.Reach.{is_kind, is_over, reaches, IsFirst}
use Rattle.watchers.proofs.Firsts.{first-either}
use Rattle.watchers.proofs.first.first_reached.Goals as goal

pub returns : goal.returns
returns c =
    let account = c.args.account.now in
    let after = c.args.after in
    let ws = c.args.watches.now in
    let P : Option Place → Type 0 = λ o. IsFirst (λ w. is_kind c.args.account.now false c.args.after w || is_kind c.args.account.now true c.args.after w) c.args.watches.now o in
    let Q : Option Place → Type 0 = λ o. IsFirst (reaches c.args.account.now c.args.after) c.args.watches.now o in
    let own : P c.earlier-own.result = subst P (sym c.earlier-own.ensures) (first-either (is_kind account false after) (is_kind account true after) ws c.first_of_kind-alone.result c.first_of_kind-both.result c.first_of_kind-alone.ensures c.first_of_kind-both.ensures) in
    subst Q (sym c.earlier.ensures) (first-either (λ w. is_kind account false after w || is_kind account true after w) (is_over account after) ws c.earlier-own.result c.first_above.result own c.first_above.ensures)
