use Rattle.std.proofs.Common.{List, sym, subst, ◌∙◌}
use Rattle.additions.specs.declared.settling.Judged.{Judged}
use Rattle.additions.proofs.Judging.{Turned, in_range_gives, kept_with, out_of_range}
use Rattle.additions.proofs.book_end.judged_behind.Goals as goal

pub returns-then-not-fits-clause-value : goal.returns-then-not-fits-clause-value
returns-then-not-fits-clause-value c = λ moves written turned summed.
    let turned_with = subst (λ (js : List Judged). Turned c.args.book.now.turnover c.in_ok-turnover.turnover js) c.deref.ensures.value c.in_ok-turnover.ensures in
    out_of_range c.args.book.now.assigned moves written c.args.all.items summed (sym (c.fits-fits.ensures _ (turned_with moves turned)) ∙ c.if-not-fits.true)

pub returns-clause-value : goal.returns-clause-value
returns-clause-value c = λ moves written turned summed.
    let turned_with = subst (λ (js : List Judged). Turned c.args.book.now.turnover c.in_ok-turnover.turnover js) c.deref.ensures.value c.in_ok-turnover.ensures in
    in_range_gives c.args.book.now.assigned moves written c.args.all.items c.put_apart.result summed (sym (c.fits-fits.ensures _ (turned_with moves turned)) ∙ c.if-not-fits.false) (c.put_apart.ensures.value written summed)

pub returns-clause-kept : goal.returns-clause-kept
returns-clause-kept c =
    let turned_with = subst (λ (js : List Judged). Turned c.args.book.now.turnover c.in_ok-turnover.turnover js) c.deref.ensures.value c.in_ok-turnover.ensures in
    kept_with c.args.book.now c.args.all.items c.in_ok-turnover.turnover c.put_apart.result turned_with c.put_apart.ensures.end c.put_apart.ensures.txns
