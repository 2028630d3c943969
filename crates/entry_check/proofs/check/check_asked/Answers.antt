use Rattle.std.proofs.Common.{◌≡◌, ◌≤◌, ◌+◌, List, IfOk, IfErr, sym, ap, ◌∙◌, subst}
use Rattle.book.specs.declared.transaction.Posting.{Posting}
use Rattle.entry_balance.proofs.Causes.{if_ok}
use Rattle.entry_balance.specs.Tally.{IsRange}
use Rattle.entry_check.specs.Asked.{asks_on, assigned_by}
use Rattle.entry_check.specs.Asking.{nodes_asked, nodes_making}
use Rattle.entry_check.specs.Checked.{told_before, others_before, checked, IsChecked, out_of_range}
use Rattle.entry_check.proofs.Counting.{on_ok}
use Rattle.entry_check.proofs.Once.{asked_once}
use Rattle.entry_check.proofs.check.check_asked.Goals as goal

pub returns-in-Ok-clause-answer : goal.returns-in-Ok-clause-answer
returns-in-Ok-clause-answer g c =
    subst (λ (s : g.row.S.Denot). IfOk c.check_sums.result (λ answer. answer ≡ checked (told_before (g.S.Sums.txns s) (g.S.Sums.place s)) (others_before (g.S.Sums.txns s) (g.S.Sums.place s)) c.args.txn)) c.in-Ok.ensures.sums c.check_sums.ensures.answer

pub returns-in-Ok-clause-range : goal.returns-in-Ok-clause-range
returns-in-Ok-clause-range g c =
    subst (λ (s : g.row.S.Denot). IfErr c.check_sums.result (λ e. IsRange e → IsChecked (told_before (g.S.Sums.txns s) (g.S.Sums.place s)) (others_before (g.S.Sums.txns s) (g.S.Sums.place s)) c.args.txn (out_of_range c.args.txn))) c.in-Ok.ensures.sums c.check_sums.ensures.range

pub returns-in-Ok-clause-few : goal.returns-in-Ok-clause-few
returns-in-Ok-clause-few g c =
    let s = c.in-Ok.asked in
    let sum = g.S.Sums.asks s.0 in
    let other = g.S.Sums.asks_other s.0 in
    let here = c.args.sums.now in
    let ps = c.args.txn.postings in
    let before = c.args.steps.now.nodes in
    let mid = c.ask.new.steps.nodes in
    let n = c.check_sums.new.steps.nodes in
    let asked = subst (λ (qs : List Posting). mid ≤ before + nodes_making (g.S.Sums.asks here) qs) c.as_slice.ensures c.in-Ok.ensures.few in
    let own = subst (λ (x : g.row.S.Denot). mid ≤ before + nodes_making (g.S.Sums.asks x) ps) (sym c.in-Ok.ensures.sums) asked in
    let kept = c.in-Ok.ensures.kept ∙ ap assigned_by c.as_slice.ensures in
    if_ok _ _ c.check_sums.result (λ answer few. on_ok (n ≤ mid + (nodes_making (asks_on sum s.1) ps + nodes_asked (asks_on sum s.1) other ps)) (n ≤ before + nodes_asked (g.S.Sums.asks here) (g.S.Sums.asks_other here) ps) answer
    (λ h. subst (λ (x : g.row.S.Denot). n ≤ before + nodes_asked (g.S.Sums.asks x) (g.S.Sums.asks_other x) ps) c.in-Ok.ensures.sums
    (asked_once sum s.1 other ps kept before mid n own h)) few)
    c.check_sums.ensures.few
