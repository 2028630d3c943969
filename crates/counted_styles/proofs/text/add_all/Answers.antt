use Rattle.std.proofs.Common.{◌≡◌, ◌++◌, ◌<◌, ◌≤◌, List, length, take, subst, arith, rules}
use Rattle.std.proofs.lemmas.List.{take_all}
use Rattle.book.specs.declared.item.Placed.{Placed}
use Rattle.book.specs.Standing.{places_from}
use Rattle.counted_styles.specs.Kept.{AreOf}
use Rattle.counted_styles.proofs.Placing.{are-behind, free-behind, front-count, front-further, none-behind}
use Rattle.counted_styles.proofs.text.add_all.Goals as goal

pub loop-placed-init : goal.loop-placed-init
loop-placed-init c = record {
  next = omega arith;
  added = λ items e are. none-behind items c.args.counted.now are;
}

pub loop-placed-preserved : goal.loop-placed-preserved
loop-placed-preserved c =
    let i = c.loop-placed.placed-index in
    let placed = c.placed-item.result in
    let inside : c.loop-placed.placed-index < length c.args.more.now = search rules in
    let within : c.loop-placed.placed-index ≤ length c.args.more.now = omega arith in
    record {
      next = omega (arith, c.in_ok-after.ensures, c.loop-placed.invariant.next);
      added = λ items e are.
          let front = items ++ take i c.args.more.now in
          let count : c.loop-placed.next ≡ length (items ++ take c.loop-placed.placed-index c.args.more.now) = front-count items c.args.more.now i c.args.count c.loop-placed.next e within c.loop-placed.invariant.next in
          front-further items c.args.more.now i placed c.add.new.self inside c.placed-item.is
          (are-behind front placed c.loop-placed.next c.add.new.self count
          (c.in_ok-add.ensures.ok (places_from 0 front) (c.loop-placed.invariant.added items e are) (free-behind c.loop-placed.next front count)));
    }

pub returns-clause-added : goal.returns-clause-added
returns-clause-added c = λ items e are.
    let past : length c.args.more.now ≤ c.loop-placed.placed-index = omega arith in
    subst (λ (l : List Placed). AreOf (places_from 0 (items ++ l)) c.loop-placed.counted) (take_all c.loop-placed.placed-index c.args.more.now past) (c.loop-placed.invariant.added items e are)
