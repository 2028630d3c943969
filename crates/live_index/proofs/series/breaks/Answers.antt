use Rattle.std.proofs.Common.{Bor, ◌<◌, length, not, arith}
use Rattle.std.proofs.lemmas.List.{length-map}
use Rattle.live_index.specs.declared.row.Row.{Row}
use Rattle.live_index.proofs.SeriesLaws.{told-at, on-true}
use Rattle.live_index.proofs.series.breaks.Goals as goal

pub returns-then-at-eq0-clause-goes_on : goal.returns-then-at-eq0-clause-goes_on
returns-then-at-eq0-clause-goes_on c = λ d some inside. absurd (omega arith)

pub returns-then-rows-at-clause-goes_on : goal.returns-then-rows-at-clause-goes_on
returns-then-rows-at-clause-goes_on c = λ d some inside. absurd (omega (arith, inside, length-map c.args.rows.now (λ (r : Bor Row). r.now)))

pub returns-clause-inside : goal.returns-clause-inside
returns-clause-inside c = on-true (not c.goes_on-goes.result) ((0 < c.args.at) × (c.args.at < length c.args.rows.now)) (omega arith, omega arith)

pub returns-clause-goes_on : goal.returns-clause-goes_on
returns-clause-goes_on c =
    told-at c.args.rows.now c.args.at c.index-rows-before.result c.index-rows-at.result c.goes_on-goes.result (omega arith) (omega arith) c.index-rows-before.is c.index-rows-at.is c.goes_on-goes.ensures
