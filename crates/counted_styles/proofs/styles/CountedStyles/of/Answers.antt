use Rattle.std.proofs.Common.{◌<◌, ◌≤◌, length, arith, rules}
use Rattle.counted_styles.specs.Kept.{HasAdded}
use Rattle.counted_styles.proofs.Whole.{are-all, are-more}
use Rattle.counted_styles.proofs.styles.CountedStyles.of.Goals as goal

pub loop-number-preserved : goal.loop-number-preserved
loop-number-preserved c =
    let inside : c.loop-number.number < length c.args.items.now = search rules in
    let noted : HasAdded c.loop-number.number c.index-items-number.result.item c.loop-number.styles c.note.new.styles = search rules in
    are-more c.args.items.now c.loop-number.number c.index-items-number.result c.loop-number.styles c.note.new.styles inside c.index-items-number.is noted c.loop-number.invariant

pub returns : goal.returns
returns c =
    let past : length c.args.items.now ≤ c.loop-number.number = omega arith in
    are-all c.args.items.now c.loop-number.number c.loop-number.styles past c.loop-number.invariant
