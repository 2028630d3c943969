use Rattle.std.proofs.Common.{Option, sym, subst, ◌∙◌}
use Rattle.std.specs.List.{list_all}
use Rattle.std.proofs.lemmas.Bool.{false≢true}
use Rattle.book.specs.declared.transaction.Txn.{Txn}
use Rattle.entry_balance.specs.Tally.{IsRange, turnover_fits}
use Rattle.entry_balance.specs.Entry.{moved}
use Rattle.entry_balance.proofs.Adding.{list_all-at}
use Rattle.std.proofs.Common.{◌++◌, ap}
use Rattle.balancing.specs.Claims.{AreClaimed}
use Rattle.assertions.specs.Kept.{is_asked}
use Rattle.balancing.specs.Walk.{group_in}
use Rattle.balancing.proofs.Balanced.{empty_claimed, past_claimed, get-there}
use Rattle.balancing.proofs.walk.claim_at.Goals as goal
use Rattle.balancing.proofs.walk.claim_at.Goals.{then-is_empty-via-then-is_empty, then-is_empty-via-else-is_empty+then-txns-number}

pub returns-then-is_empty-clause-claimed : goal.returns-then-is_empty-clause-claimed
returns-then-is_empty-clause-claimed c = λ seen h asked fits.
    let b = c.args.balances.now in
    elim c.then-is_empty.branch [
      | then-is_empty-via-then-is_empty w ↦ empty_claimed c.args.txns.now c.args.group.0 c.args.group.1 seen b.own b.below h (c.is_empty.ensures.own w.if-is_empty.true) (c.is_empty.ensures.below w.if-is_empty.true) asked
      | then-is_empty-via-else-is_empty+then-txns-number w ↦ past_claimed c.args.txns.now c.args.group.0 c.args.group.1 seen b.own b.below w.if-txns-number.true h
    ]

pub returns-in-Ok-clause-claimed : goal.returns-in-Ok-clause-claimed
returns-in-Ok-clause-claimed c = λ seen h asked fits.
    let b = c.args.balances.now in
    let t = c.index-txns-number.result in
    let n = c.args.group.1 in
    let there = get-there c.args.txns.now n t c.if-txns-number.false c.index-txns-number.is in
    let asked_here = list_all-at (λ (x : Txn). list_all (is_asked b.own b.below) x.postings) c.args.txns.now n t c.if-txns-number.false c.index-txns-number.is asked in
    subst (λ (o : Option Txn). AreClaimed seen (group_in c.args.group.0 o) c.claim_group.new.balances.own c.claim_group.new.balances.below c.in-Ok.fault) (sym there)
    (c.in-Ok.ensures.ok seen h asked_here)

pub returns-in-Err-Range-clause-claimed : goal.returns-in-Err-Range-clause-claimed
returns-in-Err-Range-clause-claimed c = λ seen h asked fits.
    let b = c.args.balances.now in
    let t = c.index-txns-number.result in
    let n = c.args.group.1 in
    let there = get-there c.args.txns.now n t c.if-txns-number.false c.index-txns-number.is in
    let asked_here = list_all-at (λ (x : Txn). list_all (is_asked b.own b.below) x.postings) c.args.txns.now n t c.if-txns-number.false c.index-txns-number.is asked in
    let range = c.in-Err-Range.ensures.range (subst IsRange (sym c.in-Err-Range.field-0-is) tt) seen h asked_here in
    absurd (false≢true (sym range ∙ ap (λ (o : Option Txn). turnover_fits (moved (seen ++ group_in c.args.group.0 o))) (sym there) ∙ fits))

pub returns-in-Err-Range-clause-own : goal.returns-in-Err-Range-clause-own
returns-in-Err-Range-clause-own c = λ none. absurd (let never : ⊥ = cc in never)

pub returns-in-Err-Range-clause-below : goal.returns-in-Err-Range-clause-below
returns-in-Err-Range-clause-below c = λ none. absurd (let never : ⊥ = cc in never)
