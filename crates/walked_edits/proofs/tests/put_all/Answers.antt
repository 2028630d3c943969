use Rattle.std.proofs.Common.{◌≡◌, ℕ, zero, suc, ◌+◌, ◌<◌, List, [], ◌∷◌, get_or, length, take, sym, ap, ◌∙◌, arith}
use Rattle.book.specs.declared.transaction.Txn.{Txn}
use Rattle.walked_edits.specs.Forms.{with_form, with_forms}
use Rattle.walked_edits.specs.declared.replaced.Replaced.{Replaced}
use Rattle.walked_edits.proofs.tests.put_all.Goals as goal

forms_more : (book : List Txn) (forms : List Replaced) (i : ℕ) (r : Replaced) → i < length forms → r ≡ get_or forms i r → with_forms book (take (suc i) forms) ≡ with_form (with_forms book (take i forms)) r
forms_more book [] i r inside read = absurd (omega (arith, inside))
forms_more book (x ∷ forms) zero r inside read = ap (with_form book) (sym read)
forms_more book (x ∷ forms) (suc i) r inside read = forms_more (with_form book x) forms i r (omega (arith, inside)) read

pub loop-form-preserved : goal.loop-form-preserved
loop-form-preserved c =
    let next : c.loop-form.form-index + 1 ≡ suc c.loop-form.form-index = omega arith in
    c.in_ok-put_one.ensures
    ∙ ap (λ (b : List Txn). with_form b c.form-item.result) c.loop-form.invariant
    ∙ sym (forms_more c.args.book.now.items c.args.forms.now c.loop-form.form-index c.form-item.result (omega arith) c.form-item.is)
    ∙ ap (λ (n : ℕ). with_forms c.args.book.now.items (take n c.args.forms.now)) (sym next)
