use Rattle.std.proofs.Common.{arith}
use Rattle.fed_histories.proofs.Fed.{is_followed}
use Rattle.fed_histories.proofs.laws.fed_stores_are_followed.Goals as goal

pub returns : goal.returns
returns g c =
    is_followed g.J.Source g.F.Shelf g.F.Disk.Disk g.S.Shelf g.S.Disk.Disk c.args.frames.now (λ i. omega (arith, c.type_inv.frames i)) (omega arith)
