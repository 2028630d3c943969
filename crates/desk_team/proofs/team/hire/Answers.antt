use Rattle.std.proofs.Common.{◌≡◌, ℕ, length, sym, ap, subst, ◌∙◌, arith, rules}
use Rattle.std.proofs.lemmas.Iterator.Adapters.{YieldsList-from_vec}
use Rattle.std.proofs.lemmas.Iterator.Consumers.{YieldsList-end, YieldsList-turn}
use Rattle.std.proofs.lemmas.List.{map-id}
use Rattle.std.specs.Prelude.{All}
use Rattle.turn_lock.specs.Passes.{IsFree, first_pass}
use Rattle.desk_team.specs.Teams.{hired}
use Rattle.desk_team.proofs.Joining.{hired-free, hired-length, next-first, next-worker}
use Rattle.desk_team.proofs.team.hire.Goals as goal

pub push_reserved-requires : goal.push_reserved-requires
push_reserved-requires g c =
    let all = c.into_vec-kit-items.result.items in
    let whole : all ≡ c.args.kits = c.into_vec-kit-items.ensures in
    let yields = YieldsList-from_vec {s = c.into_iter-kit-iterator.result} all (search rules) (search rules) in
    let xs = c.loop-kit.yielded in
    let turn = YieldsList-turn yields xs c.loop-kit.kit-iterator c.loop-kit.yielded_by c.next.result c.next.new.self c.in-Some.kit c.in-Some.is c.next.ensures.steps in
    let kept = c.loop-kit.invariant in
    omega (arith, c.loop-kit.workers.ok.0, ap length kept.workers, hired-length c.args.turn.now 0 xs, turn.0, ap length whole, c.requires.room, kept.room)

pub loop-kit-preserved : goal.loop-kit-preserved
loop-kit-preserved g c =
    let lock = c.args.turn.now in
    let xs = c.loop-kit.yielded in
    let kept = c.loop-kit.invariant in
    let kit = c.in-Some.kit in
    record {
      can = tt;
      finite = tt;
      first = next-first lock xs kit c.loop-kit.first c.split.new.pass kept.first c.split.ensures.first;
      workers = next-worker lock xs kit c.loop-kit.first c.in-Ok.pass c.loop-kit.workers.items c.push_reserved.new.self.items
          kept.first c.in-Ok.ensures.another kept.workers c.push_reserved.ensures.items;
      room = c.push_reserved.ensures.capacity ∙ kept.room;
    }

pub returns-clause-hired : goal.returns-clause-hired
returns-clause-hired g c =
    let all = c.into_vec-kit-items.result.items in
    let whole : all ≡ c.args.kits = c.into_vec-kit-items.ensures in
    let yields = YieldsList-from_vec {s = c.into_iter-kit-iterator.result} all (search rules) (search rules) in
    let xs = c.loop-kit.yielded in
    let end = YieldsList-end yields xs c.loop-kit.kit-iterator c.loop-kit.yielded_by c.next.result c.next.new.self c.in-None.is c.next.ensures.steps in
    c.loop-kit.invariant.workers ∙ ap (hired c.args.turn.now 0) (sym (map-id xs) ∙ end.0 ∙ whole)

pub returns-clause-first : goal.returns-clause-first
returns-clause-first g c =
    let all = c.into_vec-kit-items.result.items in
    let whole : all ≡ c.args.kits = c.into_vec-kit-items.ensures in
    let yields = YieldsList-from_vec {s = c.into_iter-kit-iterator.result} all (search rules) (search rules) in
    let xs = c.loop-kit.yielded in
    let end = YieldsList-end yields xs c.loop-kit.kit-iterator c.loop-kit.yielded_by c.next.result c.next.new.self c.in-None.is c.next.ensures.steps in
    c.loop-kit.invariant.first ∙ ap (λ (m : ℕ). record (first_pass c.args.turn.now) { made = m }) (end.1 ∙ ap length whole)

pub returns-clause-free : goal.returns-clause-free
returns-clause-free g c =
    let lock = c.args.turn.now in
    let xs = c.loop-kit.yielded in
    subst (All (λ worker. IsFree lock worker.pass)) (sym c.loop-kit.invariant.workers) (hired-free lock 0 xs)
