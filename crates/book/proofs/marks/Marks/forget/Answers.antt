use Rattle.std.proofs.Common.{◌≡◌, arith}
use Rattle.book.specs.Standing.{without_number, styles_only}
use Rattle.book.specs.Style.{most_places}
use Rattle.book.proofs.Standing.{most-without}
use Rattle.book.proofs.marks.Marks.forget.Goals as goal

pub invariant_of-self : goal.invariant_of-self
invariant_of-self c =
    let fewer = most-without c.args.number c.self.inside.marks.items in
    let kept = c.retain_others.ensures in
    let most : c.greatest_places-self-inside.result ≡ most_places (styles_only (without_number c.args.number c.self.inside.marks.items)) = cc (c.greatest_places-self-inside.ensures, c.deref.ensures.value, kept) in
    (cc (most, kept), omega (arith, most, fewer, c.self.invariant.0, c.self.invariant.1))
