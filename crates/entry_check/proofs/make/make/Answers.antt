use Rattle.std.proofs.Common.{◌≡◌, true, sym, ap, ◌∙◌, rules}
use Rattle.entry_balance.specs.Entry.{is_assignable}
use Rattle.entry_check.specs.Checked.{told_before}
use Rattle.entry_check.proofs.Giving.{made_beyond}
use Rattle.entry_check.proofs.make.make.Goals as goal

pub returns-in-Err-clause-range : goal.returns-in-Err-clause-range
returns-in-Err-clause-range g c = λ range.
    let told = told_before (g.S.Sums.txns c.args.sums.now) (g.S.Sums.place c.args.sums.now) in
    let assignable : is_assignable c.args.txn.postings ≡ true = ap is_assignable (sym c.as_slice.ensures) ∙ sym c.is_assignable.ensures ∙ search rules in
    (assignable, made_beyond told c.args.txn assignable (c.in-Err.ensures.range range))
