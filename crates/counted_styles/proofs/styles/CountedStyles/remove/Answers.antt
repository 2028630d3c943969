use Rattle.std.proofs.Common.{rules}
use Rattle.counted_styles.specs.Kept.{HasRemoved}
use Rattle.counted_styles.proofs.Whole.{are-without}
use Rattle.counted_styles.proofs.styles.CountedStyles.remove.Goals as goal

pub returns-clause-ok : goal.returns-clause-ok
returns-clause-ok c = λ standing are stands.
    let gone : HasRemoved c.args.number c.args.item.now c.args.self.now c.forget.new.styles = search rules in
    are-without c.args.number c.args.item.now standing c.args.self.now c.forget.new.styles gone are stands
