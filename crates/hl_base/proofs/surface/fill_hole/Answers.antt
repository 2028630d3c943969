use Rattle.std.proofs.Common.{◌-◌, arith, length-take, length-drop, drop}
use Rattle.std.proofs.lemmas.Slice.{drop-put_mid}
use Rattle.hl_base.proofs.surface.fill_hole.Goals as goal

pub returns-then-len-at-clause-back : goal.returns-then-len-at-clause-back
returns-then-len-at-clause-back c =
    let n = c.args.at - c.args.len in
    drop-put_mid c.args.len n c.args.buffer.now c.fill.new.self c.args.at (omega arith) (omega arith)
    (omega (arith, c.fill.ensures.len, length-take n (drop c.args.len c.args.buffer.now), length-drop c.args.len c.args.buffer.now))
