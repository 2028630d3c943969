use Rattle.std.proofs.Common.{◌-◌, pos, get_or, ◌∙◌, sym, arith, rules}
use Rattle.std.proofs.lemmas.Int.{to_z-of_z}
use Rattle.live_index.specs.declared.runs.Run.{Run}
use Rattle.live_index.proofs.RunLaws.{sum_at-last}
use Rattle.live_index.proofs.runs.sum_at.Goals as goal
use mir.Val.{SFits}
use mir.Syntax.{w128}

pub returns-else-place-eq0 : goal.returns-else-place-eq0
returns-else-place-eq0 c =
    let d : Run = record { day = record { 0 = 0 }; sum = pos 0 } in
    let fits : SFits w128 (get_or c.args.runs.now (c.args.place - 1) (record { day = record { 0 = 0 }; sum = pos 0 })).sum = search rules in
    to_z-of_z w128 _ fits ∙ sym (sum_at-last (pos 0) c.args.runs.now c.args.place d (omega arith) c.requires)
