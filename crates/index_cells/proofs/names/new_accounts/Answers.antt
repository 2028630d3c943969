use Rattle.std.proofs.Common.{ℕ, List, IfOk, unwrap_or, subst, ◌∙◌}
use Rattle.index_cells.specs.Keys.{AreOfBoth}
use Rattle.index_cells.proofs.names.new_accounts.Goals as goal

pub returns : goal.returns
returns c =
    subst (λ (more : List (List ℕ)). IfOk c.with_names.result (λ new. AreOfBoth c.args.names.now more (unwrap_or new c.args.names.now))) (c.as_slice.ensures ∙ c.in_ok-more.ensures) c.with_names.ensures
