use Rattle.std.proofs.Common.{List, subst, ◌∙◌}
use Rattle.std.specs.List.Sorted.{IsPermutation}
use Rattle.reached_walk.specs.declared.place.Spot.{Spot}
use Rattle.kept_books.specs.Renewing.{spots_from}
use Rattle.kept_books.proofs.Renewing.{lent_of}
use Rattle.kept_books.proofs.Spotting.{once_spots, rise_sorted}
use Rattle.kept_books.proofs.spots.spots_of.Goals as goal

abbrev moved : goal.returns-clause-same
moved c =
    subst (λ (ps : List Spot). IsPermutation ps c.in_order-spots.result.items)
    (c.in_ok-unordered.ensures ∙ (λ j. spots_from c.args.first (lent_of (c.as_slice.ensures.value j)))) c.in_order-spots.ensures.same

pub returns-clause-same : goal.returns-clause-same
returns-clause-same c = moved c

pub returns-clause-rise : goal.returns-clause-rise
returns-clause-rise c =
    rise_sorted c.in_order-spots.result.items c.in_order-spots.ensures.sorted (once_spots c.args.first (lent_of c.args.forms.now.txns.items) c.in_order-spots.result.items (moved c))
