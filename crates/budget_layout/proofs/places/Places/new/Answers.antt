use Rattle.std.proofs.Common.{◌≡◌, ◌-◌, length, None, sym, ◌∙◌, arith, rules}
use Rattle.std.specs.HashMap.{get_by_text}
use Rattle.budget_layout.proofs.Placing.{all_placed, none_left, placed_more}
use Rattle.budget_layout.proofs.places.Places.new.Goals as goal

pub loop-at-init : goal.loop-at-init
loop-at-init c = record {
  within = omega arith;
  is = λ name.
      let none : get_by_text c.new-places.result name ≡ None = search rules in
      none ∙ sym (none_left c.args.rows.now (length c.args.rows.now) name (omega arith));
}

pub loop-at-preserved : goal.loop-at-preserved
loop-at-preserved c = record {
  within = omega arith;
  is = placed_more c.args.rows.now (c.loop-at.at - 1) c.loop-at.at c.index-rows-at.result (get_by_text c.loop-at.places) (get_by_text c.put.new.places)
      (omega arith) (omega arith) c.index-rows-at.is c.loop-at.invariant.is c.in_ok-put.ensures;
}

pub returns : goal.returns
returns c = all_placed c.args.rows.now c.loop-at.at (get_by_text c.loop-at.places) (omega arith) c.loop-at.invariant.is
