use Rattle.std.proofs.Common.{Bool, cond, neg_ℤ, sym, ap, ◌∙◌}
use Rattle.hl_num.specs.Decimal.{units_of}
use Rattle.book_care.specs.Lines.{shortest}
use Rattle.book_care.proofs.Shortened.{units_negated}
use Rattle.book_care.proofs.lines.signed.Goals as goal

pub returns-then-turns : goal.returns-then-turns
unfolding shortest
returns-then-turns c =
    c.trimmed.ensures.shortest
    ∙ ap shortest (ap units_of c.negated.ensures ∙ units_negated c.args.sum)
    ∙ sym (ap (λ (b : Bool). shortest (cond b (neg_ℤ (units_of c.args.sum)) (units_of c.args.sum))) c.if-turns.true)

pub returns-else-turns : goal.returns-else-turns
unfolding shortest
returns-else-turns c =
    c.trimmed-else-turns.ensures.shortest
    ∙ sym (ap (λ (b : Bool). shortest (cond b (neg_ℤ (units_of c.args.sum)) (units_of c.args.sum))) c.if-turns.false)
