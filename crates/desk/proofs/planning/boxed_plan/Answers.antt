use Rattle.std.proofs.Common.{inl, Ok, ap, sym, ◌∙◌}
use Rattle.std.proofs.lemmas.Result.{err_from_is_err_and}
use Rattle.desk.proofs.ReadingLaws.{fault_counts}
use Rattle.desk.proofs.planning.boxed_plan.Goals as goal

pub returns-in_err-plan-clause-value : goal.returns-in_err-plan-clause-value
returns-in_err-plan-clause-value g c =
    let p = err_from_is_err_and c.from_residual.result c.from_residual.ensures.1 in
    rw (p.1, p.2) c.in_err-plan.ensures.value

pub returns-in_err-boxed-clause-value : goal.returns-in_err-boxed-clause-value
returns-in_err-boxed-clause-value g c =
    let p = err_from_is_err_and c.from_residual-in_err-boxed.result c.from_residual-in_err-boxed.ensures.1 in
    rw (p.1, p.2) tt

pub returns-clause-value : goal.returns-clause-value
returns-clause-value g c = c.in_ok-plan.ensures.value ∙ ap Ok (sym c.in_ok-boxed.ensures)

pub returns-in_err-plan-clause-refused : goal.returns-in_err-plan-clause-refused
returns-in_err-plan-clause-refused g c =
    let p = err_from_is_err_and c.from_residual.result c.from_residual.ensures.1 in
    rw (p.1, p.2) (fault_counts c.args.live.now c.args.edit.now c.in_err-plan.field-0.0 _ _ c.in_err-plan.ensures.refused)

pub returns-in_err-boxed-clause-refused : goal.returns-in_err-boxed-clause-refused
returns-in_err-boxed-clause-refused g c =
    let p = err_from_is_err_and c.from_residual-in_err-boxed.result c.from_residual-in_err-boxed.ensures.1 in
    rw (p.1, p.2) (inl c.in_ok-plan.ensures.counts)
