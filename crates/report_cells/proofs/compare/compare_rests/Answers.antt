use Rattle.std.proofs.Common.{◌≡◌, ◌<◌, ◌≤◌, length, sym, ◌∙◌, arith}
use Rattle.book.proofs.Accounts.{same_more, ends_right, ends_left}
use Rattle.report_cells.proofs.compare.compare_rests.Goals as goal

pub loop-i-preserved : goal.loop-i-preserved
loop-i-preserved c =
    let l : c.loop-i.i < length c.args.left.now = omega arith in
    let r : c.loop-i.i < length c.args.right.now = omega arith in
    c.loop-i.invariant ∙ same_more c.args.left.now c.args.right.now c.loop-i.i l r c.if-left-i.false

pub returns-then-shared-left : goal.returns-then-shared-left
returns-then-shared-left c =
    let past : c.loop-i.i ≡ c.min-shared.result = omega arith in
    let l : c.loop-i.i < length c.args.left.now = omega arith in
    let r : length c.args.right.now ≤ c.loop-i.i = omega arith in
    sym (ends_right c.args.left.now c.args.right.now c.loop-i.i l r) ∙ sym c.loop-i.invariant

pub returns-then-shared-right : goal.returns-then-shared-right
returns-then-shared-right c =
    let l : length c.args.left.now ≤ c.loop-i.i = omega arith in
    let r : c.loop-i.i < length c.args.right.now = omega arith in
    sym (ends_left c.args.left.now c.args.right.now c.loop-i.i l r) ∙ sym c.loop-i.invariant
