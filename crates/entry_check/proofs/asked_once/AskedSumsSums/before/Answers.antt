use Rattle.std.proofs.Common.{ℕ, ◌≡◌, ◌≤◌, ◌+◌, List, sym, ◌∙◌, ap, subst}
use Rattle.hl_num.specs.Decimal.{units_of}
use Rattle.book.specs.SumsBefore.{sum_before}
use Rattle.entry_check.specs.Asked.{Key, answered, asks_on, keys_of, sums_told}
use Rattle.entry_check.proofs.Once.{answered_none, answered_told, asked_on}
use Rattle.entry_check.proofs.asked_once.AskedSumsSums.before.Goals as goal

pub returns-in-Some-clause-sum : goal.returns-in-Some-clause-sum
returns-in-Some-clause-sum g c =
    let s = c.self.inside in
    let account = c.args.account.now in
    let symbol = c.args.symbol.now in
    let below = c.args.below in
    let sums = sums_told (g.S.Sums.txns s.sums.now) (g.S.Sums.place s.sums.now) in
    let some = ap (answered account symbol below) (sym c.as_slice.ensures.value) ∙ sym c.answered.ensures ∙ c.in-Some.is in
    subst (λ (v : g.row.S.Denot × List Key). units_of c.in-Some.sum ≡ sum_before (g.S.Sums.txns v.0) account symbol below (g.S.Sums.place v.0)) c.self.view_is
    (answered_told sums account symbol below s.answers.items c.in-Some.sum c.self.invariant some)

pub returns-in-None-clause-few : goal.returns-in-None-clause-few
returns-in-None-clause-few g c =
    let s = c.self.inside in
    let account = c.args.account.now in
    let symbol = c.args.symbol.now in
    let below = c.args.below in
    let none = ap (answered account symbol below) (sym c.as_slice.ensures.value) ∙ sym c.answered.ensures ∙ c.in-None.is in
    let on = asked_on (g.S.Sums.asks s.sums.now) (keys_of s.answers.items) account symbol below (answered_none account symbol below s.answers.items none) in
    subst (λ (v : g.row.S.Denot × List Key). c.before-in-None.new.steps.nodes ≤ c.args.steps.now.nodes + asks_on (g.S.Sums.asks v.0) v.1 account symbol below) c.self.view_is
    (subst (λ (n : ℕ). c.before-in-None.new.steps.nodes ≤ c.args.steps.now.nodes + n) (sym on) c.before-in-None.ensures.few)
