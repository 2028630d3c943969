use Rattle.std.proofs.Common.{rules}
use Rattle.counted_styles.specs.Kept.{HasAdded}
use Rattle.counted_styles.proofs.Whole.{are-with}
use Rattle.counted_styles.proofs.styles.CountedStyles.add.Goals as goal

pub returns-clause-ok : goal.returns-clause-ok
returns-clause-ok c = λ standing are free.
    let noted : HasAdded c.args.number c.args.item.now c.args.self.now c.note.new.styles = search rules in
    are-with c.args.number c.args.item.now standing c.args.self.now c.note.new.styles noted are free
