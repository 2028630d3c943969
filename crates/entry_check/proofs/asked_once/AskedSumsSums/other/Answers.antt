use Rattle.std.proofs.Common.{◌≡◌, ◌≤◌, ◌+◌, List, Option, subst}
use Rattle.std.specs.Option.{option_map}
use Rattle.book.specs.SumsBefore.{other_before}
use Rattle.entry_check.specs.Asked.{Key}
use Rattle.entry_check.proofs.asked_once.AskedSumsSums.other.Goals as goal

pub returns-clause-symbol : goal.returns-clause-symbol
returns-clause-symbol g c =
    subst (λ (v : g.row.S.Denot × List Key). option_map (λ other. other.now) c.other.result ≡ other_before (g.S.Sums.txns v.0) c.args.account.now c.args.symbol.now c.args.below (g.S.Sums.place v.0)) c.self.view_is
    c.other.ensures.symbol

pub returns-clause-few : goal.returns-clause-few
returns-clause-few g c =
    subst (λ (v : g.row.S.Denot × List Key). c.other.new.steps.nodes ≤ c.args.steps.now.nodes + g.S.Sums.asks_other v.0 c.args.account.now c.args.symbol.now c.args.below) c.self.view_is
    c.other.ensures.few
