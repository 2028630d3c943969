use Rattle.std.proofs.Common.{Bor, refl, sym, ap, ◌-◌, ◌∙◌, option_map, arith}
use Rattle.std.specs.List.{flat_map}
use Rattle.csv_rules.specs.declared.kinds.Block.{Block}
use Rattle.csv_rules.specs.declared.kinds.Value.{Value}
use Rattle.csv_entries.specs.Blocks.{assigned, last_to}
use Rattle.csv_entries.proofs.Chosen.{not_this_place}
use Rattle.csv_entries.proofs.blocks.last_block.Goals as goal

pub loop-left-preserved : goal.loop-left-preserved
loop-left-preserved c = record {
  within = omega arith;
  so_far = not_this_place c.args.field _ (option_map (λ (v : Bor Value). v.now) c.last_action.result) c.args.blocks.now c.loop-left.left (c.loop-left.left - 1) c.index-blocks-left.result
      c.loop-left.invariant.so_far refl c.loop-left-test.true c.loop-left.invariant.within c.index-blocks-left.is
      (c.last_action.ensures ∙ ap (λ x. last_to c.args.field (flat_map assigned x)) c.as_slice.ensures
      ∙ ap (λ (b : Bor Block). last_to c.args.field (flat_map assigned b.now.actions)) (sym c.index-blocks-left.is))
      (ap (option_map (λ (v : Bor Value). v.now)) c.in-None.is);
}
