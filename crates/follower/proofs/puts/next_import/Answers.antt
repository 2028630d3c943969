use Rattle.std.proofs.Common.{◌≡◌, ◌∙◌, ◌+◌, ◌<◌, ◌≤◌, ◌^◌, List, ℕ, length, Option, None, Some, sym, ap, arith}
use Rattle.hl_base.specs.declared.change.Latest.{Latest}
use Rattle.text_store.specs.Edits.{replaced, at_revision}
use Rattle.text_store.specs.Image.{with_mark, with_text}
use Rattle.follower.specs.Changing.{with_part}
use Rattle.follower.proofs.Readied.{import_full, import_made}
use Rattle.follower.proofs.Rooms.{not_past}
use Rattle.follower.proofs.Texts.{not_in, replaced_in}
use Rattle.follower.proofs.puts.next_import.Goals as goal

pub returns-then-len : goal.returns-then-len
returns-then-len c =
    let image = c.args.image.now in
    let state = c.args.state.now in
    let latest : c.in_ok-latest.latest ≡ with_mark state image.latest = c.in_ok-latest.ensures ∙ ap (with_mark state) c.as_slice.ensures in
    import_full image state c.args.part.now (omega (arith, ap (λ (l : List Latest). length l) latest, c.if-len.true, c.len.ensures))

pub returns-then-is_outside : goal.returns-then-is_outside
returns-then-is_outside c =
    let image = c.args.image.now in
    let state = c.args.state.now in
    let part = c.args.part.now in
    let latest : c.in_ok-latest.latest ≡ with_mark state image.latest = c.in_ok-latest.ensures ∙ ap (with_mark state) c.as_slice.ensures in
    let few : length (with_mark state image.latest) < 2 ^ 32 = omega (arith, ap (λ (l : List Latest). length l) latest, c.if-len.false, c.len.ensures) in
    let past : length c.as_slice-2.result.now < part.at + part.removed = c.is_outside.ensures.0 c.if-is_outside.true in
    let none : replaced image.text part ≡ None = not_in image.text part (omega (arith, past, ap (λ (l : List ℕ). length l) c.as_slice-2.ensures)) in
    import_made image state part few ∙ ap (λ (o : Option (List ℕ)). at_revision (image.revision + 1) (with_text (with_mark state image.latest) o)) none

pub returns : goal.returns
returns c =
    let image = c.args.image.now in
    let state = c.args.state.now in
    let part = c.args.part.now in
    let latest : c.in_ok-latest.latest ≡ with_mark state image.latest = c.in_ok-latest.ensures ∙ ap (with_mark state) c.as_slice.ensures in
    let few : length (with_mark state image.latest) < 2 ^ 32 = omega (arith, ap (λ (l : List Latest). length l) latest, c.if-len.false, c.len.ensures) in
    let within : part.at + part.removed ≤ length c.as_slice-2.result.now = not_past _ _ c.is_outside.result c.if-is_outside.false c.is_outside.ensures.1 in
    let inside : part.at + part.removed ≤ length image.text = omega (arith, within, ap (λ (l : List ℕ). length l) c.as_slice-2.ensures) in
    let some : replaced image.text part ≡ Some (with_part image.text part) = replaced_in image.text part inside in (
      inside,
      import_made image state part few ∙ ap (λ (o : Option (List ℕ)). at_revision (image.revision + 1) (with_text (with_mark state image.latest) o)) some
          ∙ ap (λ (l : List Latest). Some (record { text = with_part image.text part; latest = l; revision = image.revision + 1 })) (sym latest),
    )
