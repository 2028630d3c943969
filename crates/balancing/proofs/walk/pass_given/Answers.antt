use Rattle.std.proofs.Common.{Option, refl, subst}
use Rattle.book.specs.declared.fault.Fault.{Fault}
use Rattle.entry_balance.proofs.Causes.{if_ok}
use Rattle.balancing.specs.Walk.{IsVisited}
use Rattle.balancing.proofs.Walked.{passed_fault, fits_here, passed_claims}
use Rattle.balancing.proofs.walk.pass_given.Goals as goal

pub returns-in-Ok-None-clause-passed : goal.returns-in-Ok-None-clause-passed
returns-in-Ok-None-clause-passed c = if_ok _ _ c.claim_at.result (λ fault claimed written before seen h ready turnover moves balance asked.
    let ts = c.args.txns.now in
    let cs = c.args.causes.now in
    let g = c.args.group in
    let v = subst (λ (o : Option Fault). IsVisited written before g c.visit.new.totals o) c.in-Ok-None.field-0-is (c.in-Ok-None.ensures written before h ready turnover) in
    passed_claims written ts cs h g ready before seen moves c.visit.new.totals v c.claim_at.new.balances.own c.claim_at.new.balances.below fault
    (claimed seen balance asked (fits_here written ts cs h g ready before seen moves c.visit.new.totals v)))
    c.claim_at.ensures.claimed

pub returns-in-Ok-Some-clause-passed : goal.returns-in-Ok-Some-clause-passed
returns-in-Ok-Some-clause-passed c = λ written before seen h ready turnover moves balance asked.
    passed_fault written before seen c.args.group c.visit.new.totals c.args.balances.now.own c.args.balances.now.below _ refl
    (subst (λ (o : Option Fault). IsVisited written before c.args.group c.visit.new.totals o) c.in-Ok-Some.field-0-is (c.in-Ok-Some.ensures written before h ready turnover))
