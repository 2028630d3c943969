use Rattle.std.proofs.Common.{◌++◌, ◌∷◌, [], ◌<◌, ◌≤◌, List, length, take, sym, ap, subst, ◌∙◌, arith, rules}
use Rattle.std.proofs.lemmas.List.{append_assoc, take_all, take_more}
use Rattle.asked_days.specs.declared.asked.AskedDays.{AskedDays}
use Rattle.asked_days.specs.Asked.{AreOf}
use Rattle.book.specs.declared.transaction.Txn.{Txn}
use Rattle.kept_texts.proofs.Alikes.{nothing-behind}
use Rattle.kept_texts.proofs.kept.asked_with.Goals as goal

pub loop-txn-init : goal.loop-txn-init
loop-txn-init c = λ book h.
    subst (λ (b : List Txn). AreOf b c.in_ok-all.all) (nothing-behind book)
    (subst (λ (a : AskedDays). AreOf book a) (sym c.in_ok-all.ensures) h)

pub loop-txn-preserved : goal.loop-txn-preserved
loop-txn-preserved c = λ book h.
    let i = c.loop-txn.txn-index in
    let inside : c.loop-txn.txn-index < length c.args.txns.now = search rules in
    let front = book ++ take c.loop-txn.txn-index c.args.txns.now in
    subst (λ (b : List Txn). AreOf b c.add.new.self)
    (append_assoc book (take i c.args.txns.now) (c.txn-item.result ∷ []) ∙ ap (λ (l : List Txn). book ++ l) (ap (λ (t : Txn). take i c.args.txns.now ++ t ∷ []) c.txn-item.is ∙ sym (take_more c.args.txns.now i c.txn-item.result inside)))
    (c.in_ok-add.ensures.ok front (c.loop-txn.invariant book h))

pub returns : goal.returns
returns c = λ book h.
    let past : length c.args.txns.now ≤ c.loop-txn.txn-index = omega arith in
    subst (λ (l : List Txn). AreOf (book ++ l) c.loop-txn.all) (take_all c.loop-txn.txn-index c.args.txns.now past) (c.loop-txn.invariant book h)
