use Rattle.std.proofs.Common.{Some}
use Rattle.text_store.proofs.Both.{less_said, then_on}
use Rattle.desk.proofs.Keeping.{left_after, shows_next, shows_shown, tells_on}
use Rattle.desk.proofs.keep.keep.Goals as goal

pub returns-in_err-make_room-clause-any_moment : goal.returns-in_err-make_room-clause-any_moment
returns-in_err-make_room-clause-any_moment g c = λ shown next pending is stands edited tell.
    let rest = c.in_ok-mend.ensures.mended shown pending stands in
    let tell_on = tells_on c.args.store.now c.mend.new.store c.mend.ensures.goes_on tell in
    then_on g.D.Disk _ _ _ _ (c.mend.ensures.any_moment shown pending (Some next) stands tell) (less_said g.D.Disk _ _ _ _ (shows_shown shown pending (Some next)) (c.make_room.ensures.any_moment shown is rest.1 tell_on))

pub returns-in-Ok-clause-held : goal.returns-in-Ok-clause-held
returns-in-Ok-clause-held g c = λ shown next pending is stands edited.
    let rest = c.in_ok-mend.ensures.mended shown pending stands in
    let room = c.in_ok-make_room.ensures.held shown is rest.1 in
    (c.in-Ok.ensures.ready, c.in-Ok.ensures.held shown next room edited)

pub returns-in-Ok-clause-any_moment : goal.returns-in-Ok-clause-any_moment
returns-in-Ok-clause-any_moment g c = λ shown next pending is stands edited tell.
    let rest = c.in_ok-mend.ensures.mended shown pending stands in
    let room = c.in_ok-make_room.ensures.held shown is rest.1 in
    let tell_on = tells_on c.args.store.now c.mend.new.store c.mend.ensures.goes_on tell in
    let tell_more = tells_on c.mend.new.store c.make_room.new.store c.make_room.ensures.goes_on tell_on in
    let mending = c.mend.ensures.any_moment shown pending (Some next) stands tell in
    let anew = less_said g.D.Disk _ _ _ _ (shows_shown shown pending (Some next)) (c.make_room.ensures.any_moment shown is rest.1 tell_on) in
    let putting = less_said g.D.Disk _ _ _ _ (shows_next shown pending next) (c.put_record.ensures.any_moment shown next room edited tell_more) in
    then_on g.D.Disk _ _ _ _ (then_on g.D.Disk _ _ _ _ mending anew) putting

pub returns-in-Err-clause-torn : goal.returns-in-Err-clause-torn
returns-in-Err-clause-torn g c = λ shown next pending is stands edited.
    let rest = c.in_ok-mend.ensures.mended shown pending stands in
    let room = c.in_ok-make_room.ensures.held shown is rest.1 in
    left_after c.in-Err.reason c.put_record.new.store shown next pending (c.in-Err.ensures.torn shown next room edited)

pub returns-in-Err-clause-any_moment : goal.returns-in-Err-clause-any_moment
returns-in-Err-clause-any_moment g c = λ shown next pending is stands edited tell.
    let rest = c.in_ok-mend.ensures.mended shown pending stands in
    let room = c.in_ok-make_room.ensures.held shown is rest.1 in
    let tell_on = tells_on c.args.store.now c.mend.new.store c.mend.ensures.goes_on tell in
    let tell_more = tells_on c.mend.new.store c.make_room.new.store c.make_room.ensures.goes_on tell_on in
    let mending = c.mend.ensures.any_moment shown pending (Some next) stands tell in
    let anew = less_said g.D.Disk _ _ _ _ (shows_shown shown pending (Some next)) (c.make_room.ensures.any_moment shown is rest.1 tell_on) in
    let putting = less_said g.D.Disk _ _ _ _ (shows_next shown pending next) (c.put_record.ensures.any_moment shown next room edited tell_more) in
    then_on g.D.Disk _ _ _ _ (then_on g.D.Disk _ _ _ _ mending anew) putting
