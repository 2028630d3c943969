use Rattle.std.proofs.Common.{List, sym, ap, ◌∙◌}
use Rattle.std.proofs.lemmas.List.{nil_from_length}
use Rattle.placed_sums.specs.declared.on_day.OnDay.{OnDay}
use Rattle.shared_days.specs.Places.{past_first, past_number}
use Rattle.shared_days.proofs.listing.past_number.Goals as goal

pub returns-in-Some : goal.returns-in-Some
returns-in-Some c =
    c.past_first.ensures
    ∙ ap (λ (ps : List OnDay). past_first c.args.number ps c.in-Some.first.now c.in-Some.rest.now) c.in-Some.ensures.cases.0
    ∙ sym (ap (past_number c.args.number) c.in-Some.ensures.cases.0)

pub returns-in-None : goal.returns-in-None
returns-in-None c =
    let nil = nil_from_length c.args.places.now c.in-None.ensures.cases in
    nil ∙ sym (ap (past_number c.args.number) nil)
