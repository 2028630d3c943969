use Rattle.csv_rules.proofs.ReferenceLaws.{unknown_next}
use Rattle.csv_rules.proofs.references.unknown_in.Goals as goal

pub loop-reference-preserved : goal.loop-reference-preserved
loop-reference-preserved c =
    unknown_next c.args.names.now c.args.references.now c.loop-reference.reference-index c.reference-item.result c.loop-reference.found.items c.add_unknown.new.found.items
    c.loop-reference.invariant c.loop-reference-test.true c.reference-item.is c.in_ok-add_unknown.ensures
