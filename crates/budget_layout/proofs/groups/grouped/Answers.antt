use Rattle.std.proofs.Common.{refl, ap, ◌∙◌, rules}
use Rattle.budget_layout.specs.Grouped.{place_for, with_rest, with_row}
use Rattle.budget_layout.specs.Placed.{place_in}
use Rattle.budget_layout.proofs.Above.{for_within}
use Rattle.budget_layout.proofs.Counting.{grouped_more, none_grouped, placed_within, rest_more}
use Rattle.budget_layout.proofs.groups.grouped.Goals as goal

pub loop-row-init : goal.loop-row-init
loop-row-init c = record {
  groups = none_grouped (place_in c.args.places.now) c.args.count c.in_ok-groups.groups.items c.in_ok-groups.ensures;
  rest = search rules;
}

pub put_row-requires : goal.put_row-requires
put_row-requires c =
    let place = place_in c.args.places.now in
    placed_within place c.args.count c.loop-row.yielded c.place_for-place.result (place_for place c.in-Some.row.account) c.loop-row.groups.items c.loop-row.invariant.groups
    (c.place_for-place.ensures ∙ ap (place_for place) c.as_str.ensures) (for_within place c.args.count c.requires c.in-Some.row.account)

pub loop-row-preserved : goal.loop-row-preserved
loop-row-preserved c =
    let place = place_in c.args.places.now in
    let row = c.in-Some.row in
    let found = c.place_for-place.ensures ∙ ap (place_for place) c.as_str.ensures in
    record {
      groups = grouped_more place c.args.count c.loop-row.yielded row (place_for place row.account) c.loop-row.groups.items c.put_row.new.groups.items refl
          (for_within place c.args.count c.requires row.account) c.loop-row.invariant.groups
          (c.in_ok-put_row.ensures.groups ∙ ap (λ o. with_row o row c.loop-row.groups.items) found);
      rest = rest_more place c.loop-row.yielded row (place_for place row.account) c.loop-row.rest c.put_row.new.rest refl c.loop-row.invariant.rest
          (c.in_ok-put_row.ensures.rest ∙ ap (λ o. with_rest o row c.loop-row.rest) found);
    }
