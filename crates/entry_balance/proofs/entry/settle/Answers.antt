use Rattle.std.proofs.Common.{◌≡◌, List, true, false, refl, sym, ap, ◌∙◌, subst}
use Rattle.std.proofs.lemmas.Bool.{false≢true}
use Rattle.book.specs.declared.fault.Cause.TheVariants as cause
use Rattle.book.specs.declared.transaction.Posting.{Posting}
use Rattle.book.specs.declared.transaction.Side.TheVariants.{Real, Balanced}
use Rattle.entry_balance.specs.Tally.{IsRange, turnover_fits}
use Rattle.entry_balance.specs.Entry.{has_assignment, has_two_missing, costs_fit, moved, solved, side_values}
use Rattle.entry_balance.proofs.Adding.{false-from}
use Rattle.entry_balance.proofs.Causes.{if_ok, cause_range, faulty_settled}
use Rattle.entry_balance.proofs.Covers.{side_fits}
use Rattle.entry_balance.proofs.entry.settle.Goals as goal

pub returns-in-Err-Range : goal.returns-in-Err-Range
returns-in-Err-Range c =
    let t = c.args.txn in
    let ps = t.postings in
    let seen = c.as_slice-postings.ensures in
    let unassigned : has_assignment ps ≡ false = ap has_assignment (sym seen) ∙ sym c.if-has_assignment.ensures in
    let two : has_two_missing ps ≡ false = ap has_two_missing (sym seen) ∙ sym c.if-has_two_missing.ensures in
    let costs : costs_fit ps ≡ true = ap costs_fit (sym seen) ∙ sym c.if-not-costs_fit.ensures in
    let told = c.in-Err-Range.ensures.range_real (subst IsRange (sym c.in-Err-Range.field-0-is) tt) in
    let range : turnover_fits (moved (solved ps)) ≡ false = false-from _ (λ fits.
    false≢true (sym (told (ap (λ (qs : List Posting). turnover_fits (side_values Real qs)) seen ∙ side_fits ps Real fits))
    ∙ ap (λ (qs : List Posting). turnover_fits (side_values Balanced qs)) seen ∙ side_fits ps Balanced fits)) in
    if_ok _ _ c.faulty-in-Err-Range.result (faulty_settled t cause.Range (cause_range ps unassigned two costs range) refl) c.faulty-in-Err-Range.ensures
