use Rattle.std.proofs.Common.{◌≡◌, false, sym, ◌∙◌, arith}
use Rattle.std.proofs.lemmas.Bool.{false≢true}
use Rattle.std.proofs.lemmas.Result.{err_from_is_err_and}
use Rattle.walked_edits.specs.Solving.{is_fit}
use Rattle.walked_edits.proofs.Founds.{answers_fit, cause_of, fault_not, judged_found, near_small, unfit_is}
use Rattle.walked_edits.proofs.solving.solved_at.Goals as goal

pub judged_at-requires-clause-near : goal.judged_at-requires-clause-near
judged_at-requires-clause-near g c = near_small c.args.spot c.args.written (sym c.is_near.ensures ∙ c.if-not-is_near.false)

pub returns-then-is_fit-clause-found : goal.returns-then-is_fit-clause-found
returns-then-is_fit-clause-found g c =
    judged_found c.args.by.now.symbols.now c.args.by.now.book.now.items c.args.spot c.args.written c.in_ok-form.form c.in_ok-judged.judged
    (sym c.is_near.ensures ∙ c.if-not-is_near.false) c.in_ok-judged.ensures.judged c.in_ok-form.ensures.solved
    (sym c.is_fit.ensures ∙ c.if-is_fit.true)

pub returns-then-is_fit-clause-few : goal.returns-then-is_fit-clause-few
returns-then-is_fit-clause-few g c = c.in_ok-judged.ensures.few

pub returns-then-is_fit-clause-answers : goal.returns-then-is_fit-clause-answers
returns-then-is_fit-clause-answers g c = λ after solved near f.
    answers_fit c.args.by.now.symbols.now c.args.spot c.in_ok-form.form solved c.in_ok-judged.judged c.in_ok-form.ensures.solved (c.in_ok-judged.ensures.comes after solved f)

pub returns-else-is_fit-clause-answers : goal.returns-else-is_fit-clause-answers
returns-else-is_fit-clause-answers g c = λ after solved near f.
    unfit_is c.args.by.now.symbols.now c.args.spot c.in_ok-form.form solved c.in_ok-judged.judged c.in_ok-form.ensures.solved (c.in_ok-judged.ensures.comes after solved f)
    (sym c.is_fit.ensures ∙ c.if-is_fit.false)

pub returns-then-not-is_near-clause-answers : goal.returns-then-not-is_near-clause-answers
returns-then-not-is_near-clause-answers g c = λ after solved near f. absurd (false≢true (sym (sym c.is_near.ensures ∙ c.if-not-is_near.true) ∙ near))

pub returns-in_err-judged-clause-answers : goal.returns-in_err-judged-clause-answers
returns-in_err-judged-clause-answers g c = λ after solved near f.
    let p = err_from_is_err_and c.from_residual.result c.from_residual.ensures.1 in
    rw (p.1, p.2) (fault_not (is_fit c.args.by.now.symbols.now c.args.spot solved ≡ false) solved c.in_err-judged.field-0.0 (c.in_err-judged.ensures.comes after solved f))

pub returns-in_err-form-clause-answers : goal.returns-in_err-form-clause-answers
returns-in_err-form-clause-answers g c = λ after solved near f.
    let p = err_from_is_err_and c.from_residual-in_err-form.result c.from_residual-in_err-form.ensures.1 in
    rw (p.1, p.2)
    (cause_of c.in_err-form.field-0.0 (is_fit c.args.by.now.symbols.now c.args.spot solved ≡ false) (λ (never : ⊥). absurd never) (c.in_err-form.ensures.answers solved (c.in_ok-judged.ensures.comes after solved f)))

pub returns-then-not-is_near-clause-most : goal.returns-then-not-is_near-clause-most
returns-then-not-is_near-clause-most g c = omega arith

pub returns-in_err-judged-clause-most : goal.returns-in_err-judged-clause-most
returns-in_err-judged-clause-most g c = let one = c.judged_at.ensures.counted.checked in omega (arith, one)

pub returns-in_err-form-clause-most : goal.returns-in_err-form-clause-most
returns-in_err-form-clause-most g c = let one = c.judged_at.ensures.counted.checked in omega (arith, one)

pub returns-then-is_fit-clause-most : goal.returns-then-is_fit-clause-most
returns-then-is_fit-clause-most g c = let one = c.judged_at.ensures.counted.checked in omega (arith, one)

pub returns-else-is_fit-clause-most : goal.returns-else-is_fit-clause-most
returns-else-is_fit-clause-most g c = let one = c.judged_at.ensures.counted.checked in omega (arith, one)
