use Rattle.std.proofs.Common.{sym, ◌∙◌, subst}
use Rattle.book.specs.declared.style.Styles.{Styles}
use Rattle.book.specs.Standing.{with_number}
use Rattle.book.specs.Styles.{AreOf}
use Rattle.book.proofs.Kept.{AreOf-with, style_in-standing}
use Rattle.book.proofs.Others.{AreOf-undone}
use Rattle.book.proofs.style.Styles.add_item.Goals as goal

pub returns-in-Ok-clause-ok : goal.returns-in-Ok-clause-ok
returns-in-Ok-clause-ok c = λ es h free.
    subst (λ (s : Styles). AreOf (with_number c.args.number c.args.item.now es) s) (sym c.in-Ok.ensures.ok) (AreOf-with c.args.number c.args.item.now es c.args.self.now h free)

pub returns-in-Err-clause-err : goal.returns-in-Err-clause-err
returns-in-Err-clause-err c = λ es h free.
    subst (λ (s : Styles). AreOf es s) (sym c.forget_item.ensures) (AreOf-undone c.args.number es c.args.self.now c.note_item.new.styles c.note_item.ensures.others h free)

pub returns-in-Err-clause-same : goal.returns-in-Err-clause-same
returns-in-Err-clause-same c = λ es h free q.
    let undone = AreOf-undone c.args.number es c.args.self.now c.note_item.new.styles c.note_item.ensures.others h free in
    let now = subst (λ (s : Styles). AreOf es s) (sym c.forget_item.ensures) undone in
    style_in-standing es _ now q ∙ sym (style_in-standing es c.args.self.now h q)
