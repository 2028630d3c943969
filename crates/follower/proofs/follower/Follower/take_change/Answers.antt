use Rattle.std.proofs.Common.{◌≡◌, ◌∙◌, ◌+◌, inr, Option, Err, refl, sym, subst, arith}
use Rattle.std.proofs.lemmas.Result.{err_from_is_err_and}
use Rattle.follower.specs.declared.fault.FollowFault.TheVariants as fault
use Rattle.follower.specs.declared.preparing.Prepared.{Prepared}
use Rattle.follower.specs.Prepared.{IsPrepared, IsReady, next_image}
use Rattle.text_store.specs.Edits.{whole_size}
use Rattle.text_store.specs.Stores.{limit_of, size_of}
use Rattle.follower.specs.Accepting.{needed}
use Rattle.follower.specs.Keeping.{room_size}
use Rattle.follower.proofs.Taking.{still, full, needs_room}
use Rattle.follower.proofs.follower.Follower.take_change.Goals as goal

pub returns-in_err-prepared : goal.returns-in_err-prepared
returns-in_err-prepared g c =
    let p = err_from_is_err_and c.from_residual.result c.from_residual.ensures.1 in
    rw (p.1, p.2) (still c.args.self.now c.args.frame.now (Err fault.Memory) (record { later = omega (arith, c.requires.next); next = inr c.requires.next }, refl) (λ pending. inr refl) tt)

pub returns-in_default : goal.returns-in_default
returns-in_default g c =
    still c.args.self.now c.args.frame.now (Err (fault.BadPayload c.args.frame.now.revision)) (
      record { later = omega (arith, c.requires.next); next = inr c.requires.next },
      refl,
      subst (λ (o : Option Prepared). IsPrepared c.args.self.now.image c.args.frame.now o) c.in_default.is c.in_ok-prepared.ensures,
      refl,
    )
    (λ pending. refl) tt

pub returns-in-Some-no_room : goal.returns-in-Some-no_room
returns-in-Some-no_room g c =
    let old = c.args.self.now in
    let frame = c.args.frame.now in
    let prepared = c.in-Some.prepared in
    let size = c.record_size-size.result in
    let next = next_image old.image prepared in
    let ready : IsReady old.image frame prepared = subst (λ (o : Option Prepared). IsPrepared old.image frame o) c.in-Some.is c.in_ok-prepared.ensures in
    let same : needed old frame next ≡ room_size (size_of old.store) (limit_of old.store) size (whole_size old.image) + size =
    needs_room old frame next c.requires.kind ∙ (λ i. room_size (size_of old.store) (limit_of old.store) (sym c.record_size-size.ensures i) (whole_size old.image) + sym c.record_size-size.ensures i) in
    full old frame next (room_size (size_of old.store) (limit_of old.store) size (whole_size old.image) + size) c.in-Some-no_room.fault
    (record { later = omega (arith, c.requires.next); next = inr c.requires.next }) ready.after same c.in-Some-no_room.ensures.0 c.in-Some-no_room.ensures.1

pub take_prepared-requires-clause-ready : goal.take_prepared-requires-clause-ready
take_prepared-requires-clause-ready g c =
    subst (λ (o : Option Prepared). IsPrepared c.args.self.now.image c.args.frame.now o) c.in-Some.is c.in_ok-prepared.ensures
