use Rattle.std.proofs.Common.{List, length, get_or, ◌-◌, sym, ap, ◌∙◌}
use Rattle.std.specs.BTreeSet.{insert_key}
use Rattle.balancing.specs.Groups.{Group, group_cmp}
use Rattle.balancing.proofs.Ordered.{sorted-more}
use Rattle.balancing.proofs.groups.sorted.Goals as goal

pub loop-back-preserved : goal.loop-back-preserved
loop-back-preserved c =
    let gs = c.args.groups.now in
    let last : Group = (0, 0) in
    c.in_ok-insert_at.ensures last ∙ ap (λ (xs : List Group). insert_key group_cmp xs (get_or gs (length gs - 1 - c.loop-back.back) last)) c.loop-back.invariant
    ∙ sym (sorted-more gs c.loop-back.back last c.loop-back-test.true)
