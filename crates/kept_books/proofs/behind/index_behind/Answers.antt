use Rattle.std.proofs.Common.{◌++◌, List, sym, subst, ap, ◌∙◌}
use Rattle.live_index.specs.Rows.{TurnoverFits}
use Rattle.live_index.specs.Standing.{standing}
use Rattle.live_index.specs.declared.row.Row.{Row}
use Rattle.kept_books.proofs.behind.index_behind.Goals as goal

pub prepare-requires : goal.prepare-requires
prepare-requires c = subst (λ (rs : List Row). TurnoverFits (standing rs)) (λ i. sym c.in_ok-more.ensures i ++ sym (c.as_slice.ensures.value ∙ c.in_ok-own.ensures) i) c.requires

pub put-requires : goal.put-requires
put-requires c = ap (λ p. p.before) c.in_ok-prepared.ensures.made ∙ sym c.prepare.ensures.stays

pub returns : goal.returns
returns c = c.put.ensures ∙ ap (λ p. p.after) c.in_ok-prepared.ensures.made ∙ (λ i. c.in_ok-more.ensures i ++ (c.as_slice.ensures.value ∙ c.in_ok-own.ensures) i)
