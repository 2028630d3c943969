use Rattle.std.proofs.Common.{◌+◌, [], ◌∷◌, ◌++◌, length, map, sym, ap, subst, ◌∙◌, append_assoc, arith, rules}
use Rattle.std.proofs.lemmas.Iterator.Adapters.{YieldsList-from_vec}
use Rattle.std.proofs.lemmas.Iterator.Consumers.{YieldsList-end, YieldsList-turn}
use Rattle.std.proofs.lemmas.List.{map-append, map-id}
use Rattle.std.proofs.lemmas.List.Elements.{All-get_or}
use Rattle.std.specs.List.{list_any}
use Rattle.turn_lock.specs.Passes.{IsFree}
use Rattle.desk_team.specs.Teams.{has_failed, member_of}
use Rattle.std.specs.Prelude.{All}
use Rattle.desk_team.proofs.Joining.{SawNoMore, failed-push, kits-length, seen-push}
use Rattle.desk_team.proofs.team.dismiss.Goals as goal

pub join-requires-clause-other : goal.join-requires-clause-other
join-requires-clause-other g c κs within =
    let all = c.args.workers.items in
    let yields = YieldsList-from_vec {s = c.into_iter-worker-iterator.result} all (search rules) (search rules) in
    let xs = c.loop-worker.yielded in
    let x = c.in-Some.worker in
    let turn = YieldsList-turn yields xs c.loop-worker.worker-iterator c.loop-worker.yielded_by c.next.result c.next.new.self x c.in-Some.is c.next.ensures.steps in
    subst (λ w. IsFree c.args.turn.now w.pass) (sym turn.1) (All-get_or (λ w. IsFree c.args.turn.now w.pass) all (length xs) x turn.0 c.requires.free)

pub push_reserved-requires : goal.push_reserved-requires
push_reserved-requires g c =
    let all = c.args.workers.items in
    let yields = YieldsList-from_vec {s = c.into_iter-worker-iterator.result} all (search rules) (search rules) in
    let xs = c.loop-worker.yielded in
    let x = c.in-Some.worker in
    let turn = YieldsList-turn yields xs c.loop-worker.worker-iterator c.loop-worker.yielded_by c.next.result c.next.new.self x c.in-Some.is c.next.ensures.steps in
    let kept = c.loop-worker.invariant in
    omega (arith, c.loop-worker.kits.ok.0, kits-length xs c.loop-worker.kits.items kept.kits, turn.0, c.requires.room, kept.room)

pub loop-worker-preserved : goal.loop-worker-preserved
loop-worker-preserved g c =
    let xs = c.loop-worker.yielded in
    let x = c.in-Some.worker in
    let kept = c.loop-worker.invariant in
    let joined = c.join.ensures in
    let before = c.args.first.now.joined in
    record {
      can = tt;
      finite = tt;
      first = (ap (λ p. p.lock) joined ∙ kept.first.0, ap (λ p. p.hold) joined ∙ kept.first.1, ap (λ p. p.number) joined ∙ kept.first.2);
      made = ap (λ p. p.made) joined ∙ kept.made;
      mine = ap (λ p. p.mine) joined ∙ kept.mine;
      joined = ap (λ p. p.joined) joined
          ∙ ap (λ members. members ++ member_of x ∷ []) kept.joined
          ∙ append_assoc before (map member_of xs) (member_of x ∷ [])
          ∙ ap (λ members. before ++ members) (sym (map-append member_of xs (x ∷ [])));
      kits = c.push_reserved.ensures.items ∙ ap (λ kits. kits ++ x.kit ∷ []) kept.kits ∙ sym (map-append (λ w. w.kit) xs (x ∷ []));
      failed = failed-push xs x c.loop-worker.failed c.failed_with-failed.result kept.failed c.failed_with-failed.ensures;
      room = c.push_reserved.ensures.capacity ∙ kept.room;
      seen = subst (λ seen. All (SawNoMore seen) (xs ++ x ∷ [])) (sym (ap (λ p. p.seen) joined)) (seen-push c.loop-worker.first.seen xs x kept.seen);
    }

pub returns : goal.returns
returns g c =
    let all = c.args.workers.items in
    let yields = YieldsList-from_vec {s = c.into_iter-worker-iterator.result} all (search rules) (search rules) in
    let xs = c.loop-worker.yielded in
    let end = YieldsList-end yields xs c.loop-worker.worker-iterator c.loop-worker.yielded_by c.next.result c.next.new.self c.in-None.is c.next.ensures.steps in
    let same = sym (map-id xs) ∙ end.0 in
    let kept = c.loop-worker.invariant in
    record {
      kits = c.from_vec.ensures ∙ kept.kits ∙ ap (map (λ w. w.kit)) same;
      failed = kept.failed ∙ ap (list_any has_failed) same;
      joined = kept.joined ∙ ap (λ those. c.args.first.now.joined ++ map member_of those) same;
      first = (kept.first, kept.made, kept.mine);
      seen = subst (λ those. All (SawNoMore c.loop-worker.first.seen) those) same kept.seen;
    }
