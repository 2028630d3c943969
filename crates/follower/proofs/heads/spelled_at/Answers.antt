use Rattle.std.proofs.Common.{arith}
use Rattle.follower.proofs.Heading.{number_bytes}
use Rattle.follower.proofs.heads.spelled_at.Goals as goal

pub returns : goal.returns
returns c =
    (c.number_at.ensures, number_bytes c.args.bytes.now c.args.at c.number_at.result c.requires (λ i. omega (arith, c.type_inv.bytes i)) c.number_at.ensures)
