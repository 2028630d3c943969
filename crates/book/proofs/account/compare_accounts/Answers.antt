use Rattle.std.proofs.Common.{◌≡◌, ◌<◌, ◌≤◌, length, sym, ◌∙◌, ap, arith}
use Rattle.book.specs.Accounts.{account_cmp}
use Rattle.book.proofs.Accounts.{same_more, ends_right, ends_left}
use Rattle.book.proofs.account.compare_accounts.Goals as goal

pub loop-i-preserved : goal.loop-i-preserved
loop-i-preserved c =
    let l : c.loop-i.i < length c.as_bytes-left.result.now = omega arith in
    let r : c.loop-i.i < length c.as_bytes-right.result.now = omega arith in
    c.loop-i.invariant ∙ same_more c.as_bytes-left.result.now c.as_bytes-right.result.now c.loop-i.i l r c.if-left-i.false

pub returns-then-shared-left : goal.returns-then-shared-left
returns-then-shared-left c =
    let past : c.loop-i.i ≡ c.min-shared.result = omega arith in
    let l : c.loop-i.i < length c.as_bytes-left.result.now = omega arith in
    let r : length c.as_bytes-right.result.now ≤ c.loop-i.i = omega arith in
    let ends = ends_right c.as_bytes-left.result.now c.as_bytes-right.result.now c.loop-i.i l r in
    sym ends ∙ sym c.loop-i.invariant ∙ ap (λ x. account_cmp x c.as_bytes-right.result.now) c.as_bytes-left.ensures ∙ ap (account_cmp c.args.a.now) c.as_bytes-right.ensures

pub returns-then-shared-right : goal.returns-then-shared-right
returns-then-shared-right c =
    let l : length c.as_bytes-left.result.now ≤ c.loop-i.i = omega arith in
    let r : c.loop-i.i < length c.as_bytes-right.result.now = omega arith in
    let ends = ends_left c.as_bytes-left.result.now c.as_bytes-right.result.now c.loop-i.i l r in
    sym ends ∙ sym c.loop-i.invariant ∙ ap (λ x. account_cmp x c.as_bytes-right.result.now) c.as_bytes-left.ensures ∙ ap (account_cmp c.args.a.now) c.as_bytes-right.ensures
