use Rattle.std.proofs.Common.{List, ap, ◌∙◌}
use Rattle.std.proofs.lemmas.List.{take_all}
use Rattle.book.specs.Postings.{txns_of}
use Rattle.book.specs.declared.item.Placed.{Placed}
use Rattle.walked_texts.proofs.Numbered.{more_held, vacants_of}
use Rattle.walked_texts.proofs.vacating.vacants_for.Goals as goal

pub loop-placed-preserved : goal.loop-placed-preserved
loop-placed-preserved c =
    more_held c.args.items.now c.loop-placed.placed-index c.placed-item.result c.loop-placed.vacants.items c.push_for.new.vacants.items c.loop-placed-test.true c.placed-item.is c.loop-placed.invariant c.in_ok-push_for.ensures

pub returns : goal.returns
returns c = c.loop-placed.invariant ∙ ap (λ (ps : List Placed). vacants_of (txns_of ps)) (take_all c.loop-placed.placed-index c.args.items.now c.loop-placed-test.false)
