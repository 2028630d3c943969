use Rattle.std.proofs.Common.{◌∙◌, ◌≤◌, ◌+◌, ℕ, List, ap, subst}
use Rattle.placed_sums.specs.Accounts.{first_beside, nodes_beside}
use Rattle.placed_sums.specs.Placed.{sum_placed}
use Rattle.placed_sums.proofs.placed.SumsAt.first_other.Goals as goal

pub returns-clause-symbol : goal.returns-clause-symbol
returns-clause-symbol g c =
    c.first_beside.ensures.symbol ∙ ap (first_beside c.args.symbol.now (sum_placed c.args.self.now c.args.account.now c.args.below)) c.symbols.ensures.value

pub returns-clause-few : goal.returns-clause-few
returns-clause-few g c =
    subst (λ (ks : List (List ℕ)). c.first_beside.new.steps.nodes ≤ c.args.steps.now.nodes + nodes_beside c.args.symbol.now ks) c.symbols.ensures.value c.first_beside.ensures.few
