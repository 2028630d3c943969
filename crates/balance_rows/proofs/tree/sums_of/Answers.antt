use Rattle.std.proofs.Common.{◌≡◌, ℕ, List, [], ◌∷◌, ◌++◌, map, sym, ap, ◌∙◌}
use Rattle.balance_rows.specs.Kept.{KeptSums, added_all, all_entries, kept_at}
use Rattle.balance_rows.proofs.TotalsLaws.{sums_more}
use Rattle.balance_rows.proofs.tree.sums_of.Goals as goal

pub loop-at-preserved : goal.loop-at-preserved
loop-at-preserved c =
    let sum : ℕ → KeptSums = λ at. added_all [] (all_entries (map (kept_at at) c.args.rows.now)) in
    c.in_ok-push_column.ensures ∙ ap (λ (done : List KeptSums). done ++ sum c.loop-at.at ∷ []) c.loop-at.invariant ∙ sym (sums_more sum c.loop-at.at)
