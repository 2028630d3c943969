use Rattle.std.proofs.Common.{◌≡◌, ◌∙◌, Bool, true, inl, if◌then◌else◌, ap, sym, arith}
use Rattle.hl_base.proofs.Replays.{on_ok_map}
use Rattle.text_store.specs.Edits.{whole_size}
use Rattle.text_store.specs.Stores.{limit_of, size_of}
use Rattle.text_store.proofs.Both.{stays}
use Rattle.follower.specs.Keeping.{due_at}
use Rattle.follower.proofs.Kept.{goes_nowhere}
use Rattle.follower.proofs.Rooms.{due_room}
use Rattle.follower.proofs.keep.make_room.Goals as goal

pub returns-then-not-is_due-clause-any_moment : goal.returns-then-not-is_due-clause-any_moment
returns-then-not-is_due-clause-any_moment g c = λ held tell. stays g.D.Disk _ _ (λ f s of_first of_second. inl (held.shows tell f s of_first of_second))

pub returns-then-not-is_due-clause-size : goal.returns-then-not-is_due-clause-size
returns-then-not-is_due-clause-size g c =
    sym (ap (λ (b : Bool). if b then whole_size c.args.image.now else size_of c.args.store.now) (sym c.is_due.ensures ∙ c.if-not-is_due.true))

pub returns-then-not-is_due-clause-goes_on : goal.returns-then-not-is_due-clause-goes_on
returns-then-not-is_due-clause-goes_on g c = goes_nowhere c.args.store.now

pub write_image-requires-clause-room : goal.write_image-requires-clause-room
write_image-requires-clause-room g c = omega (arith, c.requires.room (sym c.is_due.ensures ∙ c.if-not-is_due.false))

pub returns-clause-size : goal.returns-clause-size
returns-clause-size g c =
    let due : due_at (size_of c.args.store.now) (limit_of c.args.store.now) c.args.size (whole_size c.args.image.now) ≡ true = sym c.is_due.ensures ∙ c.if-not-is_due.false in
    on_ok_map c.write_image.result (λ size. size ∙ sym (due_room (size_of c.args.store.now) (limit_of c.args.store.now) c.args.size (whole_size c.args.image.now) due)) c.write_image.ensures.size
