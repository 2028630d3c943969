use Rattle.std.proofs.Common.{arith}
use Rattle.fed_histories.proofs.Fed.{of_history}
use Rattle.fed_histories.proofs.laws.fed_frames_are_genuine.Goals as goal

pub returns : goal.returns
returns c = λ first second fed small. of_history c.args.frames.now first second fed small (λ i. omega (arith, c.type_inv.frames i)) (omega arith)
