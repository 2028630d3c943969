use Rattle.std.proofs.Common.{List, [], ◌∷◌, ◌++◌, sym, subst, ◌∙◌}
use Rattle.std.specs.Option.{option_copied}
use Rattle.prices.specs.declared.quote.Quote.{Quote}
use Rattle.prices.specs.Index.{HasBoth}
use Rattle.prices.proofs.Both.{both_old, both_new, on_ok}
use Rattle.prices.proofs.index.add_pair.Goals as goal

pub returns-then-is_new : goal.returns-then-is_new
returns-then-is_new c = on_ok c.push_both.result
    (λ new. λ done both stands. subst (λ (ps : List Quote). HasBoth (done ++ c.args.quote.now ∷ []) ps) (sym new) (both_new c.args.quote.now done c.args.pairs.now.items both))
    c.push_both.ensures

pub returns-else-is_new : goal.returns-else-is_new
returns-else-is_new c = λ done both stands. both_old (option_copied c.args.before) c.args.quote.now done c.args.pairs.now.items (sym c.is_new.ensures ∙ c.if-is_new.false) both stands
