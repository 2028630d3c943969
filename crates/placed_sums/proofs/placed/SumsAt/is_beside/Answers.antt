use Rattle.std.proofs.Common.{ℕ, sym, ◌∙◌, ◌≤◌, ◌+◌, subst}
use Rattle.hl_num.specs.Decimal.{units_of}
use Rattle.placed_sums.specs.Placed.{sum_placed}
use Rattle.placed_sums.proofs.Asking.{beside_one}
use Rattle.placed_sums.proofs.Known.{itself_not_beside, other_beside}
use Rattle.placed_sums.proofs.placed.SumsAt.is_beside.Goals as goal

pub returns-then-is_same_text-clause-beside : goal.returns-then-is_same_text-clause-beside
returns-then-is_same_text-clause-beside g c =
    itself_not_beside c.args.symbol.now c.args.other.now (sum_placed c.args.self.now c.args.account.now c.args.below) (sym c.is_same_text.ensures ∙ c.if-is_same_text.true)

pub returns-clause-beside : goal.returns-clause-beside
returns-clause-beside g c =
    other_beside c.args.symbol.now c.args.other.now (sum_placed c.args.self.now c.args.account.now c.args.below) c.is_nonzero.result (units_of c.sum-sum.result) (sym c.is_same_text.ensures ∙ c.if-is_same_text.false) c.is_nonzero.ensures c.sum-sum.ensures.sum

pub returns-clause-few : goal.returns-clause-few
returns-clause-few g c =
    subst (λ (n : ℕ). c.sum-sum.new.steps.nodes ≤ c.args.steps.now.nodes + n) (sym (beside_one c.args.symbol.now c.args.other.now (sym c.is_same_text.ensures ∙ c.if-is_same_text.false))) c.sum-sum.ensures.few
