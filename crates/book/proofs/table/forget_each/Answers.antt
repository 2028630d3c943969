use Rattle.std.proofs.Common.{◌≡◌, suc, ◌+◌, ◌<◌, length, get_or, ap, ◌∙◌, arith}
use Rattle.book.specs.Standing.{Table}
use Rattle.book.proofs.Tables.{halfway, halfway-step}
use Rattle.book.proofs.table.forget_each.Goals as goal

pub loop-at-preserved : goal.loop-at-preserved
loop-at-preserved c =
    let es = c.args.entries.now.items in
    let half = halfway c.args.number c.loop-at.at es in
    let e = c.index_mut.result.now in
    let inside : c.loop-at.at < length es = omega arith in
    let now : e ≡ get_or half c.loop-at.at e = c.index_mut.ensures.value ∙ ap (λ (t : Table). get_or t c.loop-at.at e) c.loop-at.invariant in
    let step = halfway-step c.args.number c.loop-at.at es e inside in
    let more : c.loop-at.at + 1 ≡ suc c.loop-at.at = omega arith in
    cc (step, now, c.forget.ensures, c.loop-at.invariant, more)
