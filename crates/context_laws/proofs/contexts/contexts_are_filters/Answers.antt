use Rattle.context_laws.proofs.Filtered.{context_is, latest_is}
use Rattle.context_laws.proofs.contexts.contexts_are_filters.Goals as goal

pub returns-clause-context : goal.returns-clause-context
returns-clause-context c year items = context_is year items

pub returns-clause-latest : goal.returns-clause-latest
returns-clause-latest c marks symbol = latest_is marks symbol
