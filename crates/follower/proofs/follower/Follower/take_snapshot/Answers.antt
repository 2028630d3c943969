use Rattle.std.proofs.Common.{◌≡◌, ◌∙◌, ◌+◌, ◌-◌, ◌^◌, ◌≤◌, min, inl, inr, length, Option, Some, IfSome, Err, refl, sym, subst, arith}
use Rattle.std.proofs.lemmas.Result.{err_from_is_err_and}
use Rattle.text_store.specs.declared.fault.StoreFault.TheVariants.{Full}
use Rattle.text_store.specs.declared.image.Image.{Image}
use Rattle.text_store.specs.Edits.{whole_size}
use Rattle.text_store.specs.Files.{IsWritable}
use Rattle.text_store.specs.Stores.{limit_of, size_of}
use Rattle.follower.specs.declared.fault.FollowFault.TheVariants as fault
use Rattle.follower.specs.Accepting.{needed}
use Rattle.follower.specs.Images.{image_after}
use Rattle.follower.proofs.Readied.{snapshot_size}
use Rattle.follower.proofs.Taking.{still, taken, refused, full, needs_whole}
use Rattle.follower.proofs.Texts.{after_snapshot}
use Rattle.follower.proofs.follower.Follower.take_snapshot.Goals as goal

pub returns-in_err-image : goal.returns-in_err-image
returns-in_err-image g c =
    let p = err_from_is_err_and c.from_residual.result c.from_residual.ensures.1 in
    rw (p.1, p.2) (still c.args.self.now c.args.frame.now (Err fault.Memory) (record { later = c.requires.later; next = inl c.requires.kind }, refl) (λ pending. inr refl) tt)

pub returns-in_default : goal.returns-in_default
returns-in_default g c =
    still c.args.self.now c.args.frame.now (Err (fault.BadPayload c.args.frame.now.revision)) (
      record { later = c.requires.later; next = inl c.requires.kind },
      refl,
      after_snapshot c.args.self.now.image c.args.frame.now c.requires.kind ∙ sym c.in_ok-image.ensures.image ∙ c.in_default.is,
      refl,
    )
    (λ pending. refl) tt

pub returns-then-size-limit : goal.returns-then-size-limit
returns-then-size-limit g c =
    let old = c.args.self.now in
    let frame = c.args.frame.now in
    let image = c.in-Some.image in
    let after : image_after old.image frame ≡ Some image = after_snapshot old.image frame c.requires.kind ∙ sym c.in_ok-image.ensures.image ∙ c.in-Some.is in
    let good = subst (λ (o : Option Image). IfSome o (λ image. IsWritable image × (image.revision ≤ 2 ^ 62) × (image.revision ≡ frame.revision))) c.in-Some.is c.in_ok-image.ensures.writable in
    let whole : whole_size image ≡ 43 + length frame.payload = snapshot_size frame image (sym c.in_ok-image.ensures.image ∙ c.in-Some.is) (omega (arith, good.1, good.2)) in
    let told : c.half_size-size.result ≡ min (whole_size image) (2 ^ 64 - 1) = omega (arith, whole, c.half_size-size.ensures, c.half_size-size.type_inv) in
    full old frame image (whole_size image) (Full c.half_size-size.result c.limit-limit.result) (record { later = c.requires.later; next = inl c.requires.kind }) after
    (needs_whole old frame image c.requires.kind) (omega (arith, whole, c.if-size-limit.true, c.half_size-size.ensures, c.limit-limit.ensures)) (λ i. Full (told i) (c.limit-limit.ensures i))

pub keep_image-requires-clause-writable : goal.keep_image-requires-clause-writable
keep_image-requires-clause-writable g c =
    let image = c.in-Some.image in
    (subst (λ (o : Option Image). IfSome o (λ image. IsWritable image × (image.revision ≤ 2 ^ 62) × (image.revision ≡ c.args.frame.now.revision))) c.in-Some.is c.in_ok-image.ensures.writable).0

pub keep_image-requires-clause-revision : goal.keep_image-requires-clause-revision
keep_image-requires-clause-revision g c =
    let image = c.in-Some.image in
    (subst (λ (o : Option Image). IfSome o (λ image. IsWritable image × (image.revision ≤ 2 ^ 62) × (image.revision ≡ c.args.frame.now.revision))) c.in-Some.is c.in_ok-image.ensures.writable).1

pub keep_image-requires-clause-room : goal.keep_image-requires-clause-room
keep_image-requires-clause-room g c =
    let frame = c.args.frame.now in
    let image = c.in-Some.image in
    let good = subst (λ (o : Option Image). IfSome o (λ image. IsWritable image × (image.revision ≤ 2 ^ 62) × (image.revision ≡ frame.revision))) c.in-Some.is c.in_ok-image.ensures.writable in
    let whole : whole_size image ≡ 43 + length frame.payload = snapshot_size frame image (sym c.in_ok-image.ensures.image ∙ c.in-Some.is) (omega (arith, good.1, good.2)) in
    omega (arith, whole, c.if-size-limit.false, c.half_size-size.ensures, c.limit-limit.ensures)

pub returns : goal.returns
returns g c =
    let old = c.args.self.now in
    let frame = c.args.frame.now in
    let image = c.in-Some.image in
    let after : image_after old.image frame ≡ Some image = after_snapshot old.image frame c.requires.kind ∙ sym c.in_ok-image.ensures.image ∙ c.in-Some.is in
    let good = subst (λ (o : Option Image). IfSome o (λ image. IsWritable image × (image.revision ≤ 2 ^ 62) × (image.revision ≡ frame.revision))) c.in-Some.is c.in_ok-image.ensures.writable in
    let whole : whole_size image ≡ 43 + length frame.payload = snapshot_size frame image (sym c.in_ok-image.ensures.image ∙ c.in-Some.is) (omega (arith, good.1, good.2)) in
    let fits : needed old frame image ≤ limit_of old.store = omega (arith, needs_whole old frame image c.requires.kind, whole, c.if-size-limit.false, c.half_size-size.ensures, c.limit-limit.ensures) in
    let long : size_of c.keep_image.new.store ≡ needed old frame image = c.in_ok-keep_image.ensures.size ∙ sym (needs_whole old frame image c.requires.kind) in
    taken old _ frame image (record { later = c.requires.later; next = inl c.requires.kind }) after c.keep_image.ensures.goes_on
    (λ pending stands tell. c.keep_image.ensures.any_moment old.image pending stands tell) frame.revision refl refl fits long (λ pending stands. c.in_ok-keep_image.ensures.held old.image pending stands)

pub returns-in_err-keep_image : goal.returns-in_err-keep_image
returns-in_err-keep_image g c =
    let old = c.args.self.now in
    let frame = c.args.frame.now in
    let image = c.in-Some.image in
    let after : image_after old.image frame ≡ Some image = after_snapshot old.image frame c.requires.kind ∙ sym c.in_ok-image.ensures.image ∙ c.in-Some.is in
    let good = subst (λ (o : Option Image). IfSome o (λ image. IsWritable image × (image.revision ≤ 2 ^ 62) × (image.revision ≡ frame.revision))) c.in-Some.is c.in_ok-image.ensures.writable in
    let whole : whole_size image ≡ 43 + length frame.payload = snapshot_size frame image (sym c.in_ok-image.ensures.image ∙ c.in-Some.is) (omega (arith, good.1, good.2)) in
    let fits : needed old frame image ≤ limit_of old.store = omega (arith, needs_whole old frame image c.requires.kind, whole, c.if-size-limit.false, c.half_size-size.ensures, c.limit-limit.ensures) in
    let p = err_from_is_err_and c.from_residual-in_err-keep_image.result c.from_residual-in_err-keep_image.ensures.1 in
    rw (p.1, p.2) (refused old _ frame image (record { later = c.requires.later; next = inl c.requires.kind }) after c.keep_image.ensures.goes_on
    (λ pending stands tell. c.keep_image.ensures.any_moment old.image pending stands tell) c.in_err-keep_image.field-0.0 fits refl c.in_err-keep_image.ensures.cause
    (λ pending stands. c.in_err-keep_image.ensures.torn old.image pending stands))

pub invariant_of-self-2 : goal.invariant_of-self-2
invariant_of-self-2 g c = record {
  writable = (subst (λ (o : Option Image). IfSome o (λ image. IsWritable image × (image.revision ≤ 2 ^ 62) × (image.revision ≡ c.args.frame.now.revision))) c.in-Some.is c.in_ok-image.ensures.writable).0;
}
