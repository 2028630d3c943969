use Rattle.std.proofs.Common.{◌+◌, ◌-◌, ◌++◌, List, ℕ, length, take, drop, ap, arith, ◌∙◌}
use Rattle.std.proofs.lemmas.List.{take_all}
use Rattle.std.proofs.lemmas.Slice.{put_mid-paste}
use Rattle.hl_base.proofs.surface.put.Goals as goal

pub returns : goal.returns
returns c =
    let n = length c.args.piece.now in
    let at = c.args.at in
    put_mid-paste at (at + n - at) c.args.buffer.now c.copy_from_slice.new.self c.args.piece.now n c.copy_from_slice.ensures.after (omega arith) (omega arith)
    ∙ ap (λ (l : List ℕ). take at c.args.buffer.now ++ l ++ drop (at + n) c.args.buffer.now) (take_all n c.args.piece.now (omega arith))
