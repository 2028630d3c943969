use Rattle.std.proofs.Common.{arith, rules}
use Rattle.hl_base.proofs.ShelfLaws.{first_here, first_later, has_here, has_later}
use Rattle.hl_base.proofs.mem_shelf.place_number.Goals as goal

pub returns-then-is_same-clause-some : goal.returns-then-is_same-clause-some
returns-then-is_same-clause-some c =
    first_here c.args.name.now c.args.places.now c.loop-i.i c.index-places-i.result (omega arith) (search rules) c.loop-i.invariant.first

pub loop-i-preserved : goal.loop-i-preserved
loop-i-preserved c = record {
  same = has_later c.args.name.now c.args.places.now c.loop-i.i c.index-places-i.result (omega arith) (search rules) c.loop-i.invariant.same;
  first = first_later c.args.name.now c.args.places.now c.loop-i.i c.index-places-i.result (omega arith) (search rules) c.loop-i.invariant.first;
}

pub returns-then-is_same-clause-has : goal.returns-then-is_same-clause-has
returns-then-is_same-clause-has c =
    has_here c.args.name.now c.args.places.now c.loop-i.i c.index-places-i.result (omega arith) (search rules) c.loop-i.invariant.same
