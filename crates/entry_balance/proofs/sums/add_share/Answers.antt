use Rattle.std.proofs.Common.{◌≡◌, List, ◌∷◌, [], ◌++◌, cond, Bool, sym, ap, ◌∙◌}
use Rattle.entry_balance.specs.Values.{Value, at_cost}
use Rattle.entry_balance.specs.Tally.{sums_of, turnover_fits}
use Rattle.entry_balance.specs.Entry.{from_amount, share_of}
use Rattle.entry_balance.proofs.Adding.{on_ok, if_err, share_more, share_range}
use Rattle.entry_balance.proofs.sums.add_share.Goals as goal

pub returns-in-Some-clause-ok : goal.returns-in-Some-clause-ok
returns-in-Some-clause-ok c =
    let p = c.args.posting.now in
    let s = c.at_cost-number.result.0.now in
    let v = c.at_cost-number.result.1 in
    let value : (s, v) ≡ at_cost c.in-Some.amount p.cost = λ i. (c.at_cost-number.ensures.symbol i, c.at_cost-number.ensures.number i) in
    let share : share_of c.args.side p ≡ (s, v) ∷ [] =
    ap (λ (b : Bool). cond b (from_amount (λ a. at_cost a p.cost ∷ []) p.amount) []) (sym c.if-not-same_side.ensures)
    ∙ ap (from_amount (λ a. at_cost a p.cost ∷ [])) c.in-Some.is ∙ ap (λ (x : Value). x ∷ []) (sym value) in
    on_ok c.add.result (λ ok before h. share_more before s v c.args.tally.now c.add.new.self h ok ∙ ap (λ (vs : List Value). sums_of (before ++ vs)) (sym share)) c.add.ensures.ok

pub returns-in-Some-clause-range : goal.returns-in-Some-clause-range
returns-in-Some-clause-range c =
    let p = c.args.posting.now in
    let s = c.at_cost-number.result.0.now in
    let v = c.at_cost-number.result.1 in
    let value : (s, v) ≡ at_cost c.in-Some.amount p.cost = λ i. (c.at_cost-number.ensures.symbol i, c.at_cost-number.ensures.number i) in
    let share : share_of c.args.side p ≡ (s, v) ∷ [] =
    ap (λ (b : Bool). cond b (from_amount (λ a. at_cost a p.cost ∷ []) p.amount) []) (sym c.if-not-same_side.ensures)
    ∙ ap (from_amount (λ a. at_cost a p.cost ∷ [])) c.in-Some.is ∙ ap (λ (x : Value). x ∷ []) (sym value) in
    if_err _ _ c.add.result (λ e h is before old. ap (λ (vs : List Value). turnover_fits (before ++ vs)) share ∙ share_range before s v c.args.tally.now old (h is)) c.add.ensures.range
