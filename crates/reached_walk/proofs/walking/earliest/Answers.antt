use Rattle.std.proofs.Common.{◌≡◌, ◌+◌, Option, get_or, take, sym, ap, ◌∙◌}
use Rattle.std.proofs.lemmas.List.{take_all}
use Rattle.std.proofs.lemmas.List.Sums.{fold_more}
use Rattle.reached_walk.specs.declared.change.Change.{Change}
use Rattle.reached_walk.specs.declared.place.Spot.{Spot}
use Rattle.reached_walk.specs.Notes.{earliest_of}
use Rattle.reached_walk.specs.Spots.{sooner}
use Rattle.reached_walk.proofs.walking.earliest.Goals as goal

pub loop-change-preserved : goal.loop-change-preserved
loop-change-preserved c =
    c.sooner-earlier.ensures
    ∙ ap (λ (o : Option Spot). sooner o c.change-item.result.next) c.loop-change.invariant
    ∙ ap (λ (x : Change). sooner (earliest_of c.args.edited (take c.loop-change.change-index c.args.changes.now)) x.next) c.change-item.is
    ∙ sym (fold_more (λ (o : Option Spot) (x : Change). sooner o x.next) c.args.edited c.args.changes.now c.loop-change.change-index c.change-item.result c.loop-change-test.true)

pub returns : goal.returns
returns c =
    c.loop-change.invariant ∙ ap (earliest_of c.args.edited) (take_all c.loop-change.change-index c.args.changes.now c.loop-change-test.false)
