use Rattle.std.proofs.Common.{sym, ◌∙◌}
use Rattle.book.proofs.Kept.{by_commodity, by_default, by_first, by_second, by_none, style_in-standing}
use Rattle.book.proofs.style.Styles.style.Goals as goal

pub returns-in-Some-clause-value : goal.returns-in-Some-clause-value
returns-in-Some-clause-value c = by_commodity c.args.self.now c.args.symbol.now c.in-Some.style (sym c.last.ensures.value ∙ c.in-Some.is)

pub returns-in-Some-last-clause-value : goal.returns-in-Some-last-clause-value
returns-in-Some-last-clause-value c =
    by_default c.args.self.now c.args.symbol.now c.in-Some-last.style
    (sym c.last.ensures.value ∙ c.in_default.is)
    (sym c.last-2.ensures.value ∙ c.in-Some-last.is)

pub returns-in-Some-first-clause-value : goal.returns-in-Some-first-clause-value
returns-in-Some-first-clause-value c =
    by_first c.args.self.now c.args.symbol.now c.in-Some-first.style
    (sym c.last.ensures.value ∙ c.in_default.is)
    (sym c.last-2.ensures.value ∙ c.in_default-last.is)
    (sym c.first.ensures.value ∙ c.in-Some-first.is)

pub returns-in-Some-first-2-clause-value : goal.returns-in-Some-first-2-clause-value
returns-in-Some-first-2-clause-value c =
    by_second c.args.self.now c.args.symbol.now c.in-Some-first-2.style
    (sym c.last.ensures.value ∙ c.in_default.is)
    (sym c.last-2.ensures.value ∙ c.in_default-last.is)
    (sym c.first.ensures.value ∙ c.in_default-first.is)
    (sym c.first-2.ensures.value ∙ c.in-Some-first-2.is)

pub returns-clause-value : goal.returns-clause-value
returns-clause-value c =
    by_none c.args.self.now c.args.symbol.now c.default_one.result
    (sym c.last.ensures.value ∙ c.in_default.is)
    (sym c.last-2.ensures.value ∙ c.in_default-last.is)
    (sym c.first.ensures.value ∙ c.in_default-first.is)
    (sym c.first-2.ensures.value ∙ c.in_default-first-2.is)
    c.default_one.ensures

pub returns-in-Some-clause-defined : goal.returns-in-Some-clause-defined
returns-in-Some-clause-defined c = λ es h.
    returns-in-Some-clause-value c ∙ style_in-standing es c.args.self.now h c.args.symbol.now

pub returns-in-Some-last-clause-defined : goal.returns-in-Some-last-clause-defined
returns-in-Some-last-clause-defined c = λ es h.
    returns-in-Some-last-clause-value c ∙ style_in-standing es c.args.self.now h c.args.symbol.now

pub returns-in-Some-first-clause-defined : goal.returns-in-Some-first-clause-defined
returns-in-Some-first-clause-defined c = λ es h.
    returns-in-Some-first-clause-value c ∙ style_in-standing es c.args.self.now h c.args.symbol.now

pub returns-in-Some-first-2-clause-defined : goal.returns-in-Some-first-2-clause-defined
returns-in-Some-first-2-clause-defined c = λ es h.
    returns-in-Some-first-2-clause-value c ∙ style_in-standing es c.args.self.now h c.args.symbol.now

pub returns-clause-defined : goal.returns-clause-defined
returns-clause-defined c = λ es h.
    returns-clause-value c ∙ style_in-standing es c.args.self.now h c.args.symbol.now
