use Rattle.std.proofs.Common.{◌≡◌, ◌++◌, List, Option, Some, true, refl, sym, ap, ◌∙◌, subst, rules}
use Rattle.std.specs.List.{list_any}
use Rattle.std.proofs.lemmas.Bool.{false≢true}
use Rattle.std.proofs.lemmas.Grind.{flat_map-append}
use Rattle.std.proofs.lemmas.List.{append_assoc}
use Rattle.book.specs.declared.fault.Fault.{Fault}
use Rattle.book.specs.declared.transaction.Posting.{Posting}
use Rattle.book.specs.SumsBefore.{is_assigned}
use Rattle.entry_balance.specs.Entry.{moved, moved_by}
use Rattle.entry_balance.specs.Tally.{turnover_fits}
use Rattle.entry_balance.proofs.Adding.{false-from, if_err}
use Rattle.entry_balance.proofs.Causes.{if_ok}
use Rattle.entry_balance.proofs.Turnover.{fits-first}
use Rattle.balancing.specs.declared.groups.Part.TheVariants as part
use Rattle.balancing.specs.Parts.{part_on}
use Rattle.balancing.specs.Claims.{AreClaimed}
use Rattle.assertions.proofs.Balanced.{asked_same, each-stays}
use Rattle.balancing.proofs.Parts.{parts_on, claimed_both, claimed_first}
use Rattle.balancing.proofs.claims.claim_group.Goals as goal

pub returns-in-Ok-None-clause-ok : goal.returns-in-Ok-None-clause-ok
returns-in-Ok-None-clause-ok c = if_ok _ _ c.claim_part-in-Ok-None.result (λ fault told seen h asked.
    let t = c.args.txn.now in
    let day = c.args.day in
    let assigned : list_any is_assigned t.postings ≡ true = ap (list_any is_assigned) (sym c.as_slice.ensures) ∙ sym c.has_assigned.ensures ∙ search rules in
    let old = c.args.balances.now in
    let mid = c.claim_part-2.new.balances in
    let new = c.claim_part-in-Ok-None.new.balances in
    let first = subst (λ (o : Option Fault). AreClaimed seen (part_on part.ButFound day t) mid.own mid.below o) c.in-Ok-None.field-0-is (c.in-Ok-None.ensures.ok seen h asked) in
    let still = each-stays _ _ t.postings (λ p e. asked_same old.own old.below mid.own mid.below p c.in-Ok-None.ensures.own c.in-Ok-None.ensures.below ∙ e) asked in
    subst (λ (ps : List Posting). AreClaimed seen ps new.own new.below fault) (parts_on day t assigned)
    (claimed_both seen (part_on part.ButFound day t) (part_on part.Found day t) mid.own mid.below new.own new.below fault first (told (seen ++ part_on part.ButFound day t) (first.kept refl) still)))
    c.claim_part-in-Ok-None.ensures.ok

pub returns-in-Ok-None-clause-range : goal.returns-in-Ok-None-clause-range
returns-in-Ok-None-clause-range c = if_err _ _ c.claim_part-in-Ok-None.result (λ e told range seen h asked.
    let t = c.args.txn.now in
    let day = c.args.day in
    let assigned : list_any is_assigned t.postings ≡ true = ap (list_any is_assigned) (sym c.as_slice.ensures) ∙ sym c.has_assigned.ensures ∙ search rules in
    let old = c.args.balances.now in
    let mid = c.claim_part-2.new.balances in
    let first = subst (λ (o : Option Fault). AreClaimed seen (part_on part.ButFound day t) mid.own mid.below o) c.in-Ok-None.field-0-is (c.in-Ok-None.ensures.ok seen h asked) in
    let still = each-stays _ _ t.postings (λ p e. asked_same old.own old.below mid.own mid.below p c.in-Ok-None.ensures.own c.in-Ok-None.ensures.below ∙ e) asked in
    ap (λ (ps : List Posting). turnover_fits (moved (seen ++ ps))) (sym (parts_on day t assigned))
    ∙ ap (λ (ps : List Posting). turnover_fits (moved ps)) (sym (append_assoc seen (part_on part.ButFound day t) (part_on part.Found day t)))
    ∙ told range (seen ++ part_on part.ButFound day t) (first.kept refl) still)
    c.claim_part-in-Ok-None.ensures.range

pub returns-in-Ok-Some-clause-ok : goal.returns-in-Ok-Some-clause-ok
returns-in-Ok-Some-clause-ok c = λ seen h asked.
    let t = c.args.txn.now in
    let day = c.args.day in
    let assigned : list_any is_assigned t.postings ≡ true = ap (list_any is_assigned) (sym c.as_slice.ensures) ∙ sym c.has_assigned.ensures ∙ search rules in
    let mid = c.claim_part-2.new.balances in
    let first = subst (λ (o : Option Fault). AreClaimed seen (part_on part.ButFound day t) mid.own mid.below o) c.in-Ok-Some.field-0-is (c.in-Ok-Some.ensures.ok seen h asked) in
    subst (λ (ps : List Posting). AreClaimed seen ps mid.own mid.below (Some c.in-Ok-Some.fault)) (parts_on day t assigned)
    (claimed_first seen (part_on part.ButFound day t) (part_on part.Found day t) mid.own mid.below c.in-Ok-Some.fault first)

pub returns-in-Err-clause-range : goal.returns-in-Err-clause-range
returns-in-Err-clause-range c = λ range seen h asked.
    let t = c.args.txn.now in
    let day = c.args.day in
    let one = part_on part.ButFound day t in
    let two = part_on part.Found day t in
    let assigned : list_any is_assigned t.postings ≡ true = ap (list_any is_assigned) (sym c.as_slice.ensures) ∙ sym c.has_assigned.ensures ∙ search rules in
    false-from _ (λ fits. false≢true (sym (c.in-Err.ensures.range range seen h asked) ∙ fits-first (moved (seen ++ one)) (moved two)
    (ap turnover_fits (sym (flat_map-append moved_by (seen ++ one) two) ∙ ap moved (append_assoc seen one two ∙ ap (λ (ps : List Posting). seen ++ ps) (parts_on day t assigned))) ∙ fits)))
