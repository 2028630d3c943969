use Rattle.std.proofs.Common.{◌≡◌, ◌∙◌, ℕ, ◌+◌, ◌≤◌, Some, sym, subst, arith}
use Rattle.std.proofs.lemmas.Result.{err_from_is_err_and}
use Rattle.text_store.specs.Edits.{whole_size}
use Rattle.text_store.specs.Stores.{disks, fault_count, limit_of, size_of}
use Rattle.text_store.proofs.Both.{less_said, then_on}
use Rattle.follower.specs.Changing.{LiesIn}
use Rattle.follower.specs.Keeping.{IsCause, room_size}
use Rattle.follower.proofs.Kept.{goes_on_then, left_after, left_same, left_torn, shows_next, shows_same, tells_on}
use Rattle.follower.proofs.Readied.{put_image, put_back}
use Rattle.follower.proofs.Rooms.{due_room}
use Rattle.follower.proofs.keep.keep_change.Goals as goal

pub returns-in_err-mend-clause-torn : goal.returns-in_err-mend-clause-torn
returns-in_err-mend-clause-torn g c =
    let p = err_from_is_err_and c.from_residual.result c.from_residual.ensures.1 in
    rw (p.1, p.2) (λ next pending stands edited.
    left_torn c.in_err-mend.field-0.0 c.mend.new.store c.args.image.now next pending c.in_err-mend.ensures.disk (c.in_err-mend.ensures.torn c.args.image.now pending stands))

pub returns-in_err-mend-clause-any_moment : goal.returns-in_err-mend-clause-any_moment
returns-in_err-mend-clause-any_moment g c = λ next pending stands edited tell. c.mend.ensures.any_moment c.args.image.now pending (Some next) stands tell

pub make_room-requires-clause-room : goal.make_room-requires-clause-room
make_room-requires-clause-room g c = λ due.
    let old = c.args.store.now in
    let mid = c.mend.new.store in
    let whole = whole_size c.args.image.now in
    let sizes : size_of mid ≡ size_of old = c.mend.ensures.size in
    let limits : limit_of mid ≡ limit_of old = c.mend.ensures.goes_on.limit in
    let same : room_size (size_of mid) (limit_of mid) c.args.size whole ≡ room_size (size_of old) (limit_of old) c.args.size whole = (λ i. room_size (sizes i) (limits i) c.args.size whole) in
    let fits : room_size (size_of old) (limit_of old) c.args.size whole + c.args.size ≤ limit_of old = c.requires.room in
    omega (arith, due_room (size_of mid) (limit_of mid) c.args.size whole due, same, fits, limits)

pub put_record-requires-clause-room : goal.put_record-requires-clause-room
put_record-requires-clause-room g c =
    let old = c.args.store.now in
    let mid = c.mend.new.store in
    let new = c.make_room.new.store in
    let whole = whole_size c.args.image.now in
    let sizes : size_of mid ≡ size_of old = c.mend.ensures.size in
    let limits : limit_of mid ≡ limit_of old = c.mend.ensures.goes_on.limit in
    let size : size_of new ≡ room_size (size_of old) (limit_of old) c.args.size whole = c.in_ok-make_room.ensures.size ∙ (λ i. room_size (sizes i) (limits i) c.args.size whole) in
    let limit : limit_of new ≡ limit_of old = c.make_room.ensures.goes_on.limit ∙ limits in
    let fits : room_size (size_of old) (limit_of old) c.args.size whole + c.args.size ≤ limit_of old = c.requires.room in
    omega (arith, size, limit, fits, c.requires.record_size)

pub returns-in_err-make_room-clause-torn : goal.returns-in_err-make_room-clause-torn
returns-in_err-make_room-clause-torn g c =
    let p = err_from_is_err_and c.from_residual-in_err-make_room.result c.from_residual-in_err-make_room.ensures.1 in
    rw (p.1, p.2) (λ next pending stands edited.
    left_same c.in_err-make_room.field-0.0 c.make_room.new.store c.args.image.now next pending
    (c.in_err-make_room.ensures.torn (c.in_ok-mend.ensures.mended c.args.image.now pending stands).1))

pub returns-in_err-make_room-clause-cause : goal.returns-in_err-make_room-clause-cause
returns-in_err-make_room-clause-cause g c =
    let p = err_from_is_err_and c.from_residual-in_err-make_room.result c.from_residual-in_err-make_room.ensures.1 in
    rw (p.1, p.2) (subst (λ (n : ℕ). IsCause c.in_err-make_room.field-0.0 n (fault_count g.D.Disk (disks c.make_room.new.store))) c.in_ok-mend.ensures.no_fault c.in_err-make_room.ensures.cause)

pub returns-in_err-make_room-clause-goes_on : goal.returns-in_err-make_room-clause-goes_on
returns-in_err-make_room-clause-goes_on g c = goes_on_then c.args.store.now c.mend.new.store c.make_room.new.store c.mend.ensures.goes_on c.make_room.ensures.goes_on

pub returns-in-Ok-clause-goes_on : goal.returns-in-Ok-clause-goes_on
returns-in-Ok-clause-goes_on g c =
    goes_on_then c.args.store.now c.make_room.new.store c.put_record.new.store
    (goes_on_then c.args.store.now c.mend.new.store c.make_room.new.store c.mend.ensures.goes_on c.make_room.ensures.goes_on) c.put_record.ensures.goes_on

pub returns-in-Err-clause-goes_on : goal.returns-in-Err-clause-goes_on
returns-in-Err-clause-goes_on g c =
    goes_on_then c.args.store.now c.make_room.new.store c.put_record.new.store
    (goes_on_then c.args.store.now c.mend.new.store c.make_room.new.store c.mend.ensures.goes_on c.make_room.ensures.goes_on) c.put_record.ensures.goes_on

pub returns-in-Err-clause-cause : goal.returns-in-Err-clause-cause
returns-in-Err-clause-cause g c =
    subst (λ (n : ℕ). IsCause c.in-Err.reason n (fault_count g.D.Disk (disks c.put_record.new.store))) (c.in_ok-make_room.ensures.no_fault ∙ c.in_ok-mend.ensures.no_fault) c.in-Err.ensures.cause

pub returns-in_err-make_room-clause-any_moment : goal.returns-in_err-make_room-clause-any_moment
returns-in_err-make_room-clause-any_moment g c = λ next pending stands edited tell.
    let shown = c.args.image.now in
    let rest = c.in_ok-mend.ensures.mended shown pending stands in
    let tell_on = tells_on c.args.store.now c.mend.new.store c.mend.ensures.goes_on tell in
    then_on g.D.Disk _ _ _ _ (c.mend.ensures.any_moment shown pending (Some next) stands tell) (less_said g.D.Disk _ _ _ _ (shows_same shown pending (Some next)) (c.make_room.ensures.any_moment rest.1 tell_on))

pub returns-in-Ok-clause-held : goal.returns-in-Ok-clause-held
returns-in-Ok-clause-held g c = λ next pending stands edited.
    let shown = c.args.image.now in
    let rest = c.in_ok-mend.ensures.mended shown pending stands in
    let room = c.in_ok-make_room.ensures.held rest.1 in
    (c.in-Ok.ensures.ready, c.in-Ok.ensures.held shown next room edited)

pub returns-in-Ok-clause-any_moment : goal.returns-in-Ok-clause-any_moment
returns-in-Ok-clause-any_moment g c = λ next pending stands edited tell.
    let shown = c.args.image.now in
    let rest = c.in_ok-mend.ensures.mended shown pending stands in
    let room = c.in_ok-make_room.ensures.held rest.1 in
    let tell_on = tells_on c.args.store.now c.mend.new.store c.mend.ensures.goes_on tell in
    let tell_more = tells_on c.mend.new.store c.make_room.new.store c.make_room.ensures.goes_on tell_on in
    let mending = c.mend.ensures.any_moment shown pending (Some next) stands tell in
    let anew = less_said g.D.Disk _ _ _ _ (shows_same shown pending (Some next)) (c.make_room.ensures.any_moment rest.1 tell_on) in
    let putting = less_said g.D.Disk _ _ _ _ (shows_next shown pending next) (c.put_record.ensures.any_moment shown next room edited tell_more) in
    then_on g.D.Disk _ _ _ _ (then_on g.D.Disk _ _ _ _ mending anew) putting

pub returns-in-Err-clause-torn : goal.returns-in-Err-clause-torn
returns-in-Err-clause-torn g c = λ next pending stands edited.
    let shown = c.args.image.now in
    let rest = c.in_ok-mend.ensures.mended shown pending stands in
    let room = c.in_ok-make_room.ensures.held rest.1 in
    left_after c.in-Err.reason c.put_record.new.store shown next pending (c.in-Err.ensures.torn shown next room edited)

pub returns-in-Err-clause-any_moment : goal.returns-in-Err-clause-any_moment
returns-in-Err-clause-any_moment g c = λ next pending stands edited tell.
    let shown = c.args.image.now in
    let rest = c.in_ok-mend.ensures.mended shown pending stands in
    let room = c.in_ok-make_room.ensures.held rest.1 in
    let tell_on = tells_on c.args.store.now c.mend.new.store c.mend.ensures.goes_on tell in
    let tell_more = tells_on c.mend.new.store c.make_room.new.store c.make_room.ensures.goes_on tell_on in
    let mending = c.mend.ensures.any_moment shown pending (Some next) stands tell in
    let anew = less_said g.D.Disk _ _ _ _ (shows_same shown pending (Some next)) (c.make_room.ensures.any_moment rest.1 tell_on) in
    let putting = less_said g.D.Disk _ _ _ _ (shows_next shown pending next) (c.put_record.ensures.any_moment shown next room edited tell_more) in
    then_on g.D.Disk _ _ _ _ (then_on g.D.Disk _ _ _ _ mending anew) putting

pub put_record-requires-clause-inside : goal.put_record-requires-clause-inside
put_record-requires-clause-inside g c = subst (λ (n : ℕ). LiesIn c.args.prepared.change n) (sym c.take_text-text.ensures.len) c.requires.inside

pub returns-in-Ok-clause-made : goal.returns-in-Ok-clause-made
returns-in-Ok-clause-made g c =
    let took = c.take_text-text in
    put_image c.args.image.now took.new.image c.put_into.new.image c.args.prepared.change c.args.prepared.next took.result.items c.put_record.new.text.items took.ensures.left
    took.ensures.text c.in-Ok.ensures.put c.put_into.ensures

pub returns-in-Err-clause-same : goal.returns-in-Err-clause-same
returns-in-Err-clause-same g c =
    let took = c.take_text-text in
    put_back c.args.image.now took.new.image took.result.items c.put_record.new.text.items c.from_vec.result took.ensures.left took.ensures.text c.in-Err.ensures.same c.from_vec.ensures

pub returns-in-Ok-clause-size : goal.returns-in-Ok-clause-size
returns-in-Ok-clause-size g c =
    let old = c.args.store.now in
    let mid = c.mend.new.store in
    let new = c.make_room.new.store in
    let whole = whole_size c.args.image.now in
    let sizes : size_of mid ≡ size_of old = c.mend.ensures.size in
    let limits : limit_of mid ≡ limit_of old = c.mend.ensures.goes_on.limit in
    let size : size_of new ≡ room_size (size_of old) (limit_of old) c.args.size whole = c.in_ok-make_room.ensures.size ∙ (λ i. room_size (sizes i) (limits i) c.args.size whole) in
    omega (arith, size, c.in-Ok.ensures.size, c.requires.record_size)
