use Rattle.std.proofs.Common.{◌≡◌, ◌+◌, ℕ, Option, length, sym, subst, arith, rules}
use Rattle.watchers.specs.declared.watch.Place.{Place}
use Rattle.watchers.specs.Reach.{earlier, IsFirst}
use Rattle.watchers.proofs.Above.{over-all, over-more, over-none, over_before}
use Rattle.watchers.proofs.first.first_above.Goals as goal

pub loop-end-init : goal.loop-end-init
loop-end-init c = over-none c.args.account.now c.args.after c.args.watches.now

pub loop-end-preserved : goal.loop-end-preserved
loop-end-preserved c =
    let Q : Option Place → Type 0 = λ o. IsFirst (over_before c.args.account.now (c.loop-end.end + 1) c.args.after) c.args.watches.now o in
    subst Q (sym c.earlier-sooner.ensures)
    (over-more c.args.account.now c.loop-end.end c.args.after c.args.watches.now c.loop-end.first c.first_at-next.result c.loop-end.invariant c.first_at-next.ensures)

pub returns : goal.returns
returns c =
    let end : c.loop-end.end ≡ length c.args.account.now = omega arith in
    over-all c.args.account.now c.args.after c.args.watches.now c.loop-end.first
    (subst (λ (n : ℕ). IsFirst (over_before c.args.account.now n c.args.after) c.args.watches.now c.loop-end.first) end c.loop-end.invariant)
