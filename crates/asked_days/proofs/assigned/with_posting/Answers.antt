use Rattle.std.proofs.Common.{◌+◌, ℕ, IfOk, ◌≡◌, sym, subst, ◌∙◌}
use Rattle.asked_days.proofs.Assigning.{assigned-one, plus-none}
use Rattle.asked_days.proofs.assigned.with_posting.Goals as goal

pub returns-then-assigned : goal.returns-then-assigned
returns-then-assigned c =
    subst (λ (k : ℕ). IfOk c.sum_of.result (λ n. n ≡ c.args.count + k))
    (sym (assigned-one c.args.posting.now (sym c.is_assigned-assigned.ensures ∙ c.if-assigned.true))) c.sum_of.ensures

pub returns : goal.returns
returns c = plus-none c.args.count c.args.posting.now (sym c.is_assigned-assigned.ensures ∙ c.if-assigned.false)
