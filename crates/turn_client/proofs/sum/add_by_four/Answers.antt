use Rattle.std.proofs.Common.{rules, ◌≡◌, ◌++◌, ℕ, map, ap, subst, ◌∙◌}
use Rattle.turn_lock.specs.History.{Leads}
use Rattle.turn_client.specs.Sums.{AddsUp, amount_of}
use Rattle.turn_client.proofs.Histories.{one_thread, last_two, by_is}
use Rattle.turn_client.proofs.sum.add_by_four.Goals as goal

pub returns-then-d-clause-one : goal.returns-then-d-clause-one
returns-then-d-clause-one g c = let end = c.close-pass.result in
    one_thread c.args.total end.0.total end.1.seen (subst (λ (n : ℕ). Leads AddsUp n end.1.seen end.0.total) (ap (λ k. k.total) c.in-Ok.ensures.1) c.close-pass.ensures.led)

pub returns-then-d-clause-first : goal.returns-then-d-clause-first
returns-then-d-clause-first g c = let end = c.close-pass.result.1 in let part = c.add_pairs-a.result.0.0.0 in
    let late = last_two end.seen end.joined _ _ _ _ c.close-pass.ensures.whole.members (ap (λ p. p.joined) c.close-pass.ensures.pass ∙ ap (λ p. p.joined) c.join-4.ensures) (ap (λ p. p.joined) c.join-3.ensures) in
    let early = last_two end.seen _ _ _ _ _ late.2 (ap (λ p. p.joined) c.join-2.ensures) (ap (λ p. p.joined) c.join.ensures) in
    let number : part.number ≡ 1 = search rules in
    by_is part.number 1 end.seen part.mine c.args.left.0.now early.0 number
    (c.add_pairs-a.ensures.first.1 c.if-a.true ∙ ap (λ p. map amount_of p.mine ++ c.args.left.0.now) c.in-Ok-split.ensures.another)

pub returns-then-d-clause-second : goal.returns-then-d-clause-second
returns-then-d-clause-second g c = let end = c.close-pass.result.1 in let part = c.add_pairs-a.result.0.1.0 in
    let late = last_two end.seen end.joined _ _ _ _ c.close-pass.ensures.whole.members (ap (λ p. p.joined) c.close-pass.ensures.pass ∙ ap (λ p. p.joined) c.join-4.ensures) (ap (λ p. p.joined) c.join-3.ensures) in
    let early = last_two end.seen _ _ _ _ _ late.2 (ap (λ p. p.joined) c.join-2.ensures) (ap (λ p. p.joined) c.join.ensures) in
    let number : part.number ≡ 2 = search rules in
    by_is part.number 2 end.seen part.mine c.args.left.1.now early.1 number
    (c.add_pairs-a.ensures.second.1 c.if-b.true ∙ ap (λ p. map amount_of p.mine ++ c.args.left.1.now) c.in-Ok-split-2.ensures.another)

pub returns-then-d-clause-third : goal.returns-then-d-clause-third
returns-then-d-clause-third g c = let end = c.close-pass.result.1 in let part = c.add_pairs-a.result.1.0.0 in
    let late = last_two end.seen end.joined _ _ _ _ c.close-pass.ensures.whole.members (ap (λ p. p.joined) c.close-pass.ensures.pass ∙ ap (λ p. p.joined) c.join-4.ensures) (ap (λ p. p.joined) c.join-3.ensures) in
    let number : part.number ≡ 3 = search rules in
    by_is part.number 3 end.seen part.mine c.args.right.0.now late.0 number
    (c.add_pairs-a.ensures.third.1 c.if-c.true ∙ ap (λ p. map amount_of p.mine ++ c.args.right.0.now) c.in-Ok-split-3.ensures.another)

pub returns-then-d-clause-fourth : goal.returns-then-d-clause-fourth
returns-then-d-clause-fourth g c = let end = c.close-pass.result.1 in let part = c.add_pairs-a.result.1.1.0 in
    let late = last_two end.seen end.joined _ _ _ _ c.close-pass.ensures.whole.members (ap (λ p. p.joined) c.close-pass.ensures.pass ∙ ap (λ p. p.joined) c.join-4.ensures) (ap (λ p. p.joined) c.join-3.ensures) in
    let number : part.number ≡ 4 = search rules in
    by_is part.number 4 end.seen part.mine c.args.right.1.now late.1 number
    (c.add_pairs-a.ensures.fourth.1 c.if-d.true ∙ ap (λ p. map amount_of p.mine ++ c.args.right.1.now) c.in-Ok-split-4.ensures.another)
