use Rattle.std.proofs.Common.{◌≡◌, ◌+◌, ◌<◌, ◌≤◌, List, ℕ, length, Option, None, Some, ap, arith}
use Rattle.text_store.specs.Edits.{replaced, at_revision}
use Rattle.text_store.specs.Image.{with_text}
use Rattle.follower.specs.Changing.{with_part}
use Rattle.follower.proofs.Rooms.{not_past}
use Rattle.follower.proofs.Texts.{not_in, replaced_in}
use Rattle.follower.proofs.puts.next_splice.Goals as goal

pub returns-then-is_outside : goal.returns-then-is_outside
returns-then-is_outside c =
    let image = c.args.image.now in
    let part = c.args.part.now in
    let past : length c.as_slice.result.now < part.at + part.removed = c.is_outside.ensures.0 c.if-is_outside.true in
    let none : replaced image.text part ≡ None = not_in image.text part (omega (arith, past, ap (λ (l : List ℕ). length l) c.as_slice.ensures)) in
    ap (λ (o : Option (List ℕ)). at_revision (image.revision + 1) (with_text image.latest o)) none

pub returns : goal.returns
returns c =
    let image = c.args.image.now in
    let part = c.args.part.now in
    let within : part.at + part.removed ≤ length c.as_slice.result.now = not_past _ _ c.is_outside.result c.if-is_outside.false c.is_outside.ensures.1 in
    let inside : part.at + part.removed ≤ length image.text = omega (arith, within, ap (λ (l : List ℕ). length l) c.as_slice.ensures) in
    let some : replaced image.text part ≡ Some (with_part image.text part) = replaced_in image.text part inside in
    (inside, ap (λ (o : Option (List ℕ)). at_revision (image.revision + 1) (with_text image.latest o)) some)
