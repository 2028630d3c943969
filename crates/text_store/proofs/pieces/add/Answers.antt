use Rattle.std.proofs.Common.{◌≡◌, ◌∙◌, ◌++◌, ◌∷◌, []}
use Rattle.text_store.proofs.Places.{more, last_part}
use Rattle.text_store.proofs.pieces.add.Goals as goal

pub loop-rest-preserved : goal.loop-rest-preserved
loop-rest-preserved c =
    let parts = c.loop-rest.parts.items in
    let part = c.in_ok-from_slice.field-0 in
    let pushed : c.push.new.self.items ≡ parts ++ part ∷ [] = c.in_ok-push.ensures.items in (
      more parts c.push.new.self.items part c.loop-rest.rest.now c.split_at.result.0.now c.split_at.result.1.now c.part_size-size.result pushed
          c.in_ok-from_slice.ensures.items c.split_at.ensures.front c.split_at.ensures.back
          ∙ c.loop-rest.invariant.0,
      c.loop-rest.invariant.1,
    )

pub returns : goal.returns
returns c =
    let parts = c.loop-rest.parts.items in
    let part = c.in_ok-from_slice-2.field-0 in
    let pushed : c.push-2.new.self.items ≡ parts ++ part ∷ [] = c.in_ok-push-2.ensures.items in
    last_part parts c.push-2.new.self.items part c.loop-rest.rest.now pushed c.in_ok-from_slice-2.ensures.items ∙ c.loop-rest.invariant.0
