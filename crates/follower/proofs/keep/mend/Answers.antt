use Rattle.follower.proofs.Kept.{apart, goes_on, mended, mending, unmended}
use Rattle.follower.proofs.keep.mend.Goals as goal

pub returns-in-Ok-clause-mended : goal.returns-in-Ok-clause-mended
returns-in-Ok-clause-mended g c = λ shown pending stands.
    mended c.args.store.now c.repair.new.self shown pending stands (λ e. (c.repair.ensures.idle e).1) c.in-Ok.ensures.mended c.in-Ok.ensures.ready

pub returns-in-Ok-clause-any_moment : goal.returns-in-Ok-clause-any_moment
returns-in-Ok-clause-any_moment g c = λ shown pending next stands tell.
    mending c.args.store.now c.repair.new.self shown pending next stands tell (λ e. (c.repair.ensures.idle e).1) c.repair.ensures.any_moment

pub returns-in-Ok-clause-goes_on : goal.returns-in-Ok-clause-goes_on
returns-in-Ok-clause-goes_on g c = let s = c.repair.ensures.same in
    goes_on c.args.store.now c.repair.new.self s.1 s.2 c.repair.ensures.keeps

pub returns-in-Err-clause-torn : goal.returns-in-Err-clause-torn
returns-in-Err-clause-torn g c = λ shown pending stands.
    unmended c.args.store.now c.repair.new.self shown pending stands (λ e. apart c.repair.result _ _ (c.repair.ensures.idle e).0 c.in-Err.is) c.in-Err.ensures.fault

pub returns-in-Err-clause-any_moment : goal.returns-in-Err-clause-any_moment
returns-in-Err-clause-any_moment g c = λ shown pending next stands tell.
    mending c.args.store.now c.repair.new.self shown pending next stands tell (λ e. (c.repair.ensures.idle e).1) c.repair.ensures.any_moment

pub returns-in-Err-clause-goes_on : goal.returns-in-Err-clause-goes_on
returns-in-Err-clause-goes_on g c = let s = c.repair.ensures.same in
    goes_on c.args.store.now c.repair.new.self s.1 s.2 c.repair.ensures.keeps
