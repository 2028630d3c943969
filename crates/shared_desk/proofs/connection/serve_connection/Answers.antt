use Rattle.std.proofs.Common.{◌≡◌, rules, subst}
use Rattle.turn_lock.specs.Growth.{Grown}
use Rattle.shared_desk.proofs.connection.serve_connection.Goals as goal

pub returns-clause-served : goal.returns-clause-served
returns-clause-served g c =
    let s = c.serve_locked.ensures.served in
    let new = c.serve_locked.new.ask.pass.now in
    let same : new ≡ c.pass-1.given.0 = search rules in
    let grown = subst (λ old. Grown old new s.0) c.new-ask.ensures.pass s.1 in
    (s.0, subst (λ last. Grown c.args.pass.now last s.0) same grown, s.2, s.3, s.4)
