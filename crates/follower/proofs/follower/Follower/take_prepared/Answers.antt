use Rattle.std.proofs.Common.{◌≡◌, ◌∙◌, ◌+◌, ◌≤◌, ℕ, inr, length, refl, sym, ap, arith}
use Rattle.std.proofs.lemmas.Result.{err_from_is_err_and}
use Rattle.text_store.specs.Edits.{whole_size}
use Rattle.text_store.specs.Stores.{limit_of, size_of}
use Rattle.follower.specs.Accepting.{needed}
use Rattle.follower.specs.Prepared.{next_image}
use Rattle.follower.specs.Keeping.{room_size}
use Rattle.follower.proofs.Readied.{writable_edited, kept_writable}
use Rattle.follower.proofs.Taking.{taken, refused, needs_room}
use Rattle.follower.proofs.follower.Follower.take_prepared.Goals as goal

pub keep_change-requires-clause-record_size : goal.keep_change-requires-clause-record_size
keep_change-requires-clause-record_size g c = c.requires.record_size ∙ ap (λ (n : ℕ). 10 + n) (sym c.requires.ready.size)

pub returns : goal.returns
returns g c =
    let old = c.args.self.now in
    let frame = c.args.frame.now in
    let ready = c.requires.ready in
    let next = next_image old.image c.args.prepared in
    let r : c.args.size ≡ 10 + length frame.payload = c.requires.record_size in
    let same : needed old frame next ≡ room_size (size_of old.store) (limit_of old.store) c.args.size (whole_size old.image) + c.args.size =
    needs_room old frame next c.requires.kind ∙ (λ i. room_size (size_of old.store) (limit_of old.store) (sym r i) (whole_size old.image) + sym r i) in
    let fits : needed old frame next ≤ limit_of old.store = omega (arith, same, c.requires.room) in
    let long : size_of c.keep_change.new.store ≡ needed old frame next = c.in_ok-keep_change.ensures.size ∙ sym same in
    taken old _ frame next (record { later = omega (arith, c.requires.next); next = inr c.requires.next }) ready.after c.keep_change.ensures.goes_on
    (λ pending stands tell. c.keep_change.ensures.any_moment next pending stands ready.edits tell) frame.revision refl c.in_ok-keep_change.ensures.made fits long (λ pending stands. c.in_ok-keep_change.ensures.held next pending stands ready.edits)

pub returns-in_err-keep_change : goal.returns-in_err-keep_change
returns-in_err-keep_change g c =
    let old = c.args.self.now in
    let frame = c.args.frame.now in
    let ready = c.requires.ready in
    let next = next_image old.image c.args.prepared in
    let r : c.args.size ≡ 10 + length frame.payload = c.requires.record_size in
    let same : needed old frame next ≡ room_size (size_of old.store) (limit_of old.store) c.args.size (whole_size old.image) + c.args.size =
    needs_room old frame next c.requires.kind ∙ (λ i. room_size (size_of old.store) (limit_of old.store) (sym r i) (whole_size old.image) + sym r i) in
    let fits : needed old frame next ≤ limit_of old.store = omega (arith, same, c.requires.room) in
    let p = err_from_is_err_and c.from_residual.result c.from_residual.ensures.1 in
    rw (p.1, p.2) (refused old _ frame next (record { later = omega (arith, c.requires.next); next = inr c.requires.next }) ready.after c.keep_change.ensures.goes_on
    (λ pending stands tell. c.keep_change.ensures.any_moment next pending stands ready.edits tell) c.in_err-keep_change.field-0.0 fits c.in_err-keep_change.ensures.same c.in_err-keep_change.ensures.cause
    (λ pending stands. c.in_err-keep_change.ensures.torn next pending stands ready.edits))

pub invariant_of-self : goal.invariant_of-self
invariant_of-self g c =
    let old = c.args.self.now in
    let ready = c.requires.ready in
    let next = next_image old.image c.args.prepared in
    record {
      writable = kept_writable c.keep_change.result old.image next c.keep_change.new.image c.keep_change.ensures.made c.keep_change.ensures.same
          (writable_edited old.image c.args.prepared.change next ready.edits ready.name old.writable) old.writable;
    }
