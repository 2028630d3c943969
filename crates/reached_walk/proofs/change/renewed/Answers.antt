use Rattle.std.proofs.Common.{◌≡◌, false, true, refl, sym, ◌∙◌}
use Rattle.std.proofs.lemmas.Bool.{false≢true}
use Rattle.reached_walk.proofs.change.renewed.Goals as goal

pub returns-then-is_due : goal.returns-then-is_due
returns-then-is_due c = record {
  due = λ _. c.next_after.ensures;
  kept = λ off. absurd (false≢true (sym off ∙ sym c.is_due.ensures ∙ c.if-is_due.true));
}

pub returns : goal.returns
returns c = record {
  due = λ on. absurd (false≢true (sym c.if-is_due.false ∙ c.is_due.ensures ∙ on));
  kept = λ _. refl;
}
