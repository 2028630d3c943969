use Rattle.std.proofs.Common.{◌≡◌, ◌≤◌, ◌<◌, ◌+◌, suc, sym, ap, subst, ◌∙◌, arith}
use Rattle.report_cells.specs.Follows.{Follow}
use Rattle.report_values.specs.Numbers.{numbers, numbers_from}
use Rattle.report_values.proofs.Numbering.{numbers-next, follow}
use Rattle.report_values.proofs.numbers.numbers.Goals as goal

pub loop-number-preserved : goal.loop-number-preserved
loop-number-preserved c = numbers-next c.loop-number.columns.items c.push.new.self.items c.loop-number.number c.loop-number.invariant c.in_ok-push.ensures.items

pub returns-clause-follow : goal.returns-clause-follow
returns-clause-follow c =
    let all : c.loop-number.number ≡ c.args.width = omega arith in
    subst Follow (sym (c.from_vec.ensures ∙ c.loop-number.invariant ∙ ap numbers all)) (follow c.args.width c.requires.some)
