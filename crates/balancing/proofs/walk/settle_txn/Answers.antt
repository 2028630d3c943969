use Rattle.std.proofs.Common.{◌≡◌, List, ◌∷◌, [], ◌++◌, ◌||◌, Option, length, sym, ap, ◌∙◌, subst, rules}
use Rattle.book.specs.declared.fault.Cause.{Cause}
use Rattle.book.specs.declared.transaction.Txn.{Txn}
use Rattle.balancing.specs.Walk.{IsRead}
use Rattle.balancing.proofs.Walked.{read_more}
use Rattle.balancing.proofs.Wanting.{wanted_more}
use Rattle.balancing.specs.Wanting.{has_wanted}
use Rattle.balancing.proofs.walk.settle_txn.Goals as goal

pub returns-clause-read : goal.returns-clause-read
returns-clause-read c = λ written h.
    let old = c.args.entries.now in
    let t = c.in_ok-settled.settled in
    let number : c.len-number.result ≡ length old.txns.items = search rules in
    let new = c.note_groups.new.groups.items in
    let first : c.push.new.self.items ≡ old.txns.items ++ t.txn ∷ [] = c.in_ok-push.ensures.items in
    let second : c.push-2.new.self.items ≡ old.causes.items ++ t.cause ∷ [] = c.in_ok-push-2.ensures.items in
    subst (λ (x : List Txn × List (Option Cause)). IsRead (written ++ c.args.txn ∷ []) x.0 x.1 new) (λ i. (sym first i, sym second i))
    (read_more written old.txns.items old.causes.items old.groups.items new c.args.txn t.txn t.cause c.len-number.result h number c.in_ok-settled.ensures c.in_ok-note_groups.ensures)

pub returns-clause-asks : goal.returns-clause-asks
returns-clause-asks c = λ known.
    let old = c.args.entries.now in
    let t = c.in_ok-settled.settled.txn in
    wanted_more old.txns.items c.push.new.self.items t old.asks c.asks_with-entries.result c.in_ok-push.ensures.items
    (c.asks_with-entries.ensures ∙ ap (λ ps. old.asks || has_wanted ps) c.as_slice.ensures) known
