use Rattle.std.proofs.Common.{rules, ◌≡◌, ◌++◌, ℕ, map, ap, subst, ◌∙◌}
use Rattle.turn_lock.specs.History.{Leads}
use Rattle.turn_client.specs.Sums.{AddsUp, amount_of}
use Rattle.turn_client.proofs.Histories.{one_thread, last_two, by_is}
use Rattle.turn_client.proofs.sum.add_by_two.Goals as goal

pub returns-then-b-clause-one : goal.returns-then-b-clause-one
returns-then-b-clause-one g c = let end = c.close-pass.result in
    one_thread c.args.total end.0.total end.1.seen (subst (λ (n : ℕ). Leads AddsUp n end.1.seen end.0.total) (ap (λ k. k.total) c.in-Ok.ensures.1) c.close-pass.ensures.led)

pub returns-then-b-clause-first : goal.returns-then-b-clause-first
returns-then-b-clause-first g c = let end = c.close-pass.result.1 in let part = c.add_pair-a.result.0.0 in
    let both = last_two end.seen end.joined _ _ _ _ c.close-pass.ensures.whole.members (ap (λ p. p.joined) c.close-pass.ensures.pass ∙ ap (λ p. p.joined) c.join-2.ensures) (ap (λ p. p.joined) c.join.ensures) in
    let number : part.number ≡ 1 = search rules in
    by_is part.number 1 end.seen part.mine c.args.first.now both.0 number
    (c.add_pair-a.ensures.one.1 c.if-a.true ∙ ap (λ p. map amount_of p.mine ++ c.args.first.now) c.in-Ok-split.ensures.another)

pub returns-then-b-clause-second : goal.returns-then-b-clause-second
returns-then-b-clause-second g c = let end = c.close-pass.result.1 in let part = c.add_pair-a.result.1.0 in
    let both = last_two end.seen end.joined _ _ _ _ c.close-pass.ensures.whole.members (ap (λ p. p.joined) c.close-pass.ensures.pass ∙ ap (λ p. p.joined) c.join-2.ensures) (ap (λ p. p.joined) c.join.ensures) in
    let number : part.number ≡ 2 = search rules in
    by_is part.number 2 end.seen part.mine c.args.second.now both.1 number
    (c.add_pair-a.ensures.two.1 c.if-b.true ∙ ap (λ p. map amount_of p.mine ++ c.args.second.now) c.in-Ok-split-2.ensures.another)
