use Rattle.std.proofs.Common.{◌≡◌, false, sym, ◌∙◌}
use Rattle.std.proofs.lemmas.Bool.{false≢true}
use Rattle.book.specs.Mixed.{is_zero}
use Rattle.book.proofs.Added.{held-gap, added-new, added-nothing, is_zero-true, is_zero-false}
use Rattle.book.proofs.mixed.add_new.Goals as goal

pub returns-in_err-copy-clause-none : goal.returns-in_err-copy-clause-none
returns-in_err-copy-clause-none c = held-gap c.args.entries.now.items c.args.symbol.now c.args.at c.args.value c.requires

pub returns-in_err-insert-clause-none : goal.returns-in_err-insert-clause-none
returns-in_err-insert-clause-none c = held-gap c.args.entries.now.items c.args.symbol.now c.args.at c.args.value c.requires

pub returns-in_ok-insert-clause-none : goal.returns-in_ok-insert-clause-none
returns-in_ok-insert-clause-none c = held-gap c.args.entries.now.items c.args.symbol.now c.args.at c.args.value c.requires

pub returns-else-not-is_zero-clause-none : goal.returns-else-not-is_zero-clause-none
returns-else-not-is_zero-clause-none c = held-gap c.args.entries.now.items c.args.symbol.now c.args.at c.args.value c.requires

pub returns-in_ok-insert-clause-ok : goal.returns-in_ok-insert-clause-ok
returns-in_ok-insert-clause-ok c =
    let some : is_zero c.args.value ≡ false = is_zero-false c.args.value (λ e. false≢true (sym c.if-not-is_zero.true ∙ c.is_zero.ensures.mantissa.1 e)) in
    let new = added-new c.args.entries.now.items c.args.symbol.now c.args.at c.args.value c.requires some in
    let copied = c.in_ok-copy.ensures in
    let ins = c.in_ok-insert.ensures.items in
    cc (ins, new, copied)

pub returns-else-not-is_zero-clause-ok : goal.returns-else-not-is_zero-clause-ok
returns-else-not-is_zero-clause-ok c =
    sym (added-nothing c.args.entries.now.items c.args.symbol.now c.args.at c.args.value c.requires (is_zero-true c.args.value (c.is_zero.ensures.mantissa.0 c.if-not-is_zero.false)))
