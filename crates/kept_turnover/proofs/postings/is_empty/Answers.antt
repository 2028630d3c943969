use Rattle.std.proofs.Common.{List, option_copied, sym, ap, ◌∙◌}
use Rattle.kept_turnover.specs.Keeping.{part_at}
use Rattle.kept_turnover.specs.declared.part.Part.{Part}
use Rattle.kept_turnover.proofs.Holding.{on_true, part_missing, part_there}
use Rattle.kept_turnover.proofs.postings.is_empty.Goals as goal

pub returns-in-Some : goal.returns-in-Some
returns-in-Some c =
    let there = ap option_copied (sym c.in-Some.is) ∙ c.get.ensures.value in
    on_true c.are_none.result
    (λ none n. part_there c.args.symbols.now c.args.symbol.now c.in-Some.parts.now there n ∙ ap (λ (ps : List Part). part_at ps n) (sym c.deref.ensures.value) ∙ none n)
    c.are_none.ensures

pub returns-in-None : goal.returns-in-None
returns-in-None c = λ n. part_missing c.args.symbols.now c.args.symbol.now (ap option_copied (sym c.in-None.is) ∙ c.get.ensures.value) n
