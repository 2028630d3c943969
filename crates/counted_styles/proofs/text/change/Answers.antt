use Rattle.book.specs.Standing.{without_number}
use Rattle.counted_styles.proofs.Placing.{free-without}
use Rattle.counted_styles.proofs.text.change.Goals as goal

pub returns : goal.returns
returns c = λ standing are stands.
    c.in_ok-add.ensures.ok (without_number c.args.number standing) (c.in_ok-remove.ensures.ok standing are stands) (free-without c.args.number standing)
