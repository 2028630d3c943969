use Rattle.std.proofs.Common.{◌≡◌, List, ◌++◌, true, sym, ap, ◌∙◌, rules}
use Rattle.std.specs.List.{list_any}
use Rattle.std.proofs.lemmas.Grind.{flat_map-append}
use Rattle.book.specs.declared.transaction.Posting.{Posting}
use Rattle.book.specs.SumsBefore.{is_assigned}
use Rattle.entry_balance.specs.Entry.{moved, moved_by}
use Rattle.entry_balance.specs.Values.{Value}
use Rattle.entry_balance.specs.Tally.{turnover_fits}
use Rattle.entry_balance.proofs.Adding.{more_range}
use Rattle.balancing.specs.declared.groups.Part.TheVariants as part
use Rattle.balancing.specs.Parts.{part_on}
use Rattle.balancing.proofs.Parts.{parts_on}
use Rattle.balancing.proofs.judge.add_group.Goals as goal

pub returns-in-Err-clause-range : goal.returns-in-Err-clause-range
returns-in-Err-clause-range c = λ is before h.
    let t = c.args.txn.now in
    let day = c.args.day in
    let first = moved (part_on part.ButFound day t) in
    let assigned : list_any is_assigned t.postings ≡ true = ap (list_any is_assigned) (sym c.as_slice.ensures) ∙ sym c.has_assigned.ensures ∙ search rules in
    ap (λ (ps : List Posting). turnover_fits (before ++ moved ps)) (sym (parts_on day t assigned))
    ∙ ap (λ (vs : List Value). turnover_fits (before ++ vs)) (flat_map-append moved_by (part_on part.ButFound day t) (part_on part.Found day t))
    ∙ more_range before first (moved (part_on part.Found day t)) (c.in-Err.ensures.range is before h)
