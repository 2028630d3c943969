use Rattle.std.proofs.Common.{ℕ, Some, subst, arith}
use Rattle.std.proofs.lemmas.Result.{err_from_is_err_and}
use Rattle.text_store.specs.Stores.{disks, fault_count}
use Rattle.text_store.proofs.Both.{less_said, then_on}
use Rattle.follower.specs.Keeping.{IsCause}
use Rattle.follower.proofs.Kept.{goes_on_then, left_after, left_torn, shows_next, tells_on}
use Rattle.follower.proofs.keep.keep_image.Goals as goal

pub returns-in_err-mend-clause-torn : goal.returns-in_err-mend-clause-torn
returns-in_err-mend-clause-torn g c =
    let p = err_from_is_err_and c.from_residual.result c.from_residual.ensures.1 in
    rw (p.1, p.2) (λ shown pending stands.
    left_torn c.in_err-mend.field-0.0 c.mend.new.store shown c.args.image.now pending c.in_err-mend.ensures.disk (c.in_err-mend.ensures.torn shown pending stands))

pub returns-in_err-mend-clause-any_moment : goal.returns-in_err-mend-clause-any_moment
returns-in_err-mend-clause-any_moment g c = λ shown pending stands tell. c.mend.ensures.any_moment shown pending (Some c.args.image.now) stands tell

pub write_image-requires-clause-room : goal.write_image-requires-clause-room
write_image-requires-clause-room g c = omega (arith, c.requires.room, c.mend.ensures.goes_on.limit)

pub returns-in-Ok-clause-goes_on : goal.returns-in-Ok-clause-goes_on
returns-in-Ok-clause-goes_on g c = goes_on_then c.args.store.now c.mend.new.store c.write_image.new.store c.mend.ensures.goes_on c.write_image.ensures.goes_on

pub returns-in-Err-clause-goes_on : goal.returns-in-Err-clause-goes_on
returns-in-Err-clause-goes_on g c = goes_on_then c.args.store.now c.mend.new.store c.write_image.new.store c.mend.ensures.goes_on c.write_image.ensures.goes_on

pub returns-in-Err-clause-cause : goal.returns-in-Err-clause-cause
returns-in-Err-clause-cause g c =
    subst (λ (n : ℕ). IsCause c.in-Err.reason n (fault_count g.D.Disk (disks c.write_image.new.store))) c.in_ok-mend.ensures.no_fault c.in-Err.ensures.cause

pub returns-in-Ok-clause-held : goal.returns-in-Ok-clause-held
returns-in-Ok-clause-held g c = λ shown pending stands.
    let rest = c.in_ok-mend.ensures.mended shown pending stands in
    (c.in-Ok.ensures.ready, c.in-Ok.ensures.held shown rest.1)

pub returns-in-Ok-clause-any_moment : goal.returns-in-Ok-clause-any_moment
returns-in-Ok-clause-any_moment g c = λ shown pending stands tell.
    let next = c.args.image.now in
    let rest = c.in_ok-mend.ensures.mended shown pending stands in
    let tell_on = tells_on c.args.store.now c.mend.new.store c.mend.ensures.goes_on tell in
    then_on g.D.Disk _ _ _ _ (c.mend.ensures.any_moment shown pending (Some next) stands tell)
    (less_said g.D.Disk _ _ _ _ (shows_next shown pending next) (c.write_image.ensures.any_moment shown rest.1 tell_on))

pub returns-in-Err-clause-torn : goal.returns-in-Err-clause-torn
returns-in-Err-clause-torn g c = λ shown pending stands.
    let rest = c.in_ok-mend.ensures.mended shown pending stands in
    left_after c.in-Err.reason c.write_image.new.store shown c.args.image.now pending (c.in-Err.ensures.torn shown rest.1)

pub returns-in-Err-clause-any_moment : goal.returns-in-Err-clause-any_moment
returns-in-Err-clause-any_moment g c = λ shown pending stands tell.
    let next = c.args.image.now in
    let rest = c.in_ok-mend.ensures.mended shown pending stands in
    let tell_on = tells_on c.args.store.now c.mend.new.store c.mend.ensures.goes_on tell in
    then_on g.D.Disk _ _ _ _ (c.mend.ensures.any_moment shown pending (Some next) stands tell)
    (less_said g.D.Disk _ _ _ _ (shows_next shown pending next) (c.write_image.ensures.any_moment shown rest.1 tell_on))
