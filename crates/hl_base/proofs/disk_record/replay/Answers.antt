use Rattle.std.proofs.Common.{◌≡◌, ◌∙◌, List, ℕ, take, length, min, ap, arith, sym}
use Rattle.hl_base.proofs.Replays.{stop_equals, on_ok_map}
use Rattle.hl_base.proofs.disk_record.replay.Goals as goal

pub returns-then-i-call : goal.returns-then-i-call
returns-then-i-call c =
    let room = c.args.surface.now.room in
    let same_room : c.loop-i.surface.room ≡ room = c.loop-i.invariant.room in
    let front : take c.min-count.result c.split_at.result.0.now ≡ take (min (length (take c.len_of.result c.loop-i.rest.now)) c.args.bytes) (take c.len_of.result c.loop-i.rest.now) =
    ap (λ (n : ℕ). take n c.split_at.result.0.now) c.min-count.ensures ∙ ap (λ (l : List ℕ). take (min (length l) c.args.bytes) l) c.split_at.ensures.front in
    on_ok_map c.redo_front.result
    (λ done. done ∙ (λ i. record {
      text = stop_equals c.args.surface.now.text c.args.pieces.now c.loop-i.rest.now c.loop-i.surface.text (take c.min-count.result c.split_at.result.0.now) c.args.calls.now c.loop-i.i c.args.call c.args.bytes c.len_of.result _
          c.loop-i.invariant.replayed (omega arith) (sym c.if-i-call.true) c.len_of.ensures front i;
      room = same_room i;
    }))
    c.redo_front.ensures
