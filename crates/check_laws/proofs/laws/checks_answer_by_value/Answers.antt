use Rattle.std.proofs.Common.{◌≡◌, Option, Some, sym, ap, subst, ◌∙◌}
use Rattle.book.specs.declared.fault.Fault.{Fault}
use Rattle.balancing.specs.Faults.{fault_of}
use Rattle.entry_balance.specs.Entry.{settled}
use Rattle.placed_checks.specs.Placed.{place_of}
use Rattle.check_laws.specs.Valued.{IsAnswer}
use Rattle.check_laws.proofs.Solving.{is_answer, is_solved}
use Rattle.check_laws.proofs.Whole.{answers}
use Rattle.check_laws.proofs.laws.checks_answer_by_value.Goals as goal

pub returns-clause-solved : goal.returns-clause-solved
returns-clause-solved c one written book n t solved answer s there there_solved unmixed few h =
    is_answer solved answer
    (c.a_placed_check.ensures.answers one book (place_of n t.day) n t solved answer (record {
      there = there_solved;
      few = few;
      unmixed = unmixed;
      right = c.a_placed_check.ensures.told one book (place_of n t.day) h.same;
    }) (is_solved written book n t solved s there there_solved) s.fits h.is)

pub returns-clause-fault : goal.returns-clause-fault
returns-clause-fault c one written n t m own answer f group upto h =
    let here : fault_of written f.made (t.day.0, n) ≡ Some own = ap (fault_of written f.made) (sym group) ∙ f.is in
    subst (λ (o : Option Fault). IsAnswer o (settled m) answer) here (answers one written f.made n t m upto h.same answer h.is)

pub returns-clause-group : goal.returns-clause-group
returns-clause-group c one written made n t m answer upto h = answers one written made n t m upto h.same answer h.is
