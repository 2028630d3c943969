use Rattle.index_cells.proofs.Plainly.{at_cost, plain_where, some_terms}
use Rattle.index_cells.proofs.plain.is_plain.Goals as goal

pub returns-then-not-empty : goal.returns-then-not-empty
returns-then-not-empty c = some_terms c.args.scope.now c.is_empty-empty.result c.is_empty-empty.ensures c.if-not-empty.true

pub returns-then-costs : goal.returns-then-costs
returns-then-costs c = at_cost c.args.scope.now c.is_at_cost-costs.result c.is_at_cost-costs.ensures c.if-costs.true

pub returns : goal.returns
returns c =
    plain_where c.args.scope.now c.is_empty-empty.result c.is_at_cost-costs.result c.names_earlier-earlier.result
    c.is_empty-empty.ensures c.is_at_cost-costs.ensures c.names_earlier-earlier.ensures c.if-not-empty.false c.if-costs.false
