use Rattle.std.proofs.Common.{◌≡◌, List, ◌∷◌, ◌++◌, ap, ◌∙◌, rules}
use Rattle.live_index.specs.declared.runs.Run.{Run}
use Rattle.live_index.specs.Cells.{runs_in}
use Rattle.live_index.proofs.SeriesLaws.{lent, lent-first, of-series}
use Rattle.live_index.proofs.SumLaws.{last-at}
use Rattle.live_index.proofs.by_places.lists_of.Goals as goal

pub returns-clause-sums : goal.returns-clause-sums
returns-clause-sums c = λ places end.
    let rows = lent c.args.rows.now in
    let row = c.index-rows-0.result.now in
    let none = c.in_ok-lists.lists.items in
    let runs = c.in_ok-of.field-0 in
    let at : c.from.result ≡ c.index-rows-0.result.now.value.places = search rules in
    of-series rows row runs (runs_in c.shorten.new.sums.items places) places c.requires.series (lent-first c.args.rows.now c.index-rows-0.result c.requires.some c.index-rows-0.is) c.in_ok-of.ensures
    (c.shorten.ensures.same places ∙ ap (λ (t : List (List Run)). runs_in t places) c.in_ok-push.ensures.items ∙ last-at none runs row.value.places places (c.in_ok-lists.ensures.len ∙ at) c.in_ok-lists.ensures.empty)
    end
