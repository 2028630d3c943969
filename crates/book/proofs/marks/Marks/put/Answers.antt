use Rattle.std.proofs.Common.{◌≡◌, max, arith}
use Rattle.book.proofs.Standing.{most-with}
use Rattle.book.proofs.marks.Marks.put.Goals as goal

pub invariant_of-self-2 : goal.invariant_of-self-2
invariant_of-self-2 c =
    let most = most-with c.args.number c.args.style c.self.inside.marks.items in
    let put = c.in_ok-put_mark.ensures.ok in
    let kept = c.self.invariant in
    let now : c.max-self-inside.result ≡ max c.self.inside.most c.args.style.places = c.max-self-inside.ensures in
    (cc (now, most, put, kept.0), omega (arith, now, kept.1, c.requires))
