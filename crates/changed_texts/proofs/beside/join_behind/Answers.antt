use Rattle.std.proofs.Common.{◌-◌, refl, sym, ◌∙◌}
use Rattle.changed_texts.proofs.Joints.{joined_there, rest_stays, stands_apart}
use Rattle.changed_texts.proofs.beside.join_behind.Goals as goal

pub returns-then-is_behind_gap-clause-rest : goal.returns-then-is_behind_gap-clause-rest
returns-then-is_behind_gap-clause-rest c =
    rest_stays c.args.number (c.args.number - 1) c.args.items.now c.args.gap c.requires.number refl c.lengthen.new.items c.requires.gap
    (sym c.is_behind_gap.ensures ∙ c.if-is_behind_gap.true) c.lengthen.ensures

pub returns-then-is_behind_gap-clause-joined : goal.returns-then-is_behind_gap-clause-joined
returns-then-is_behind_gap-clause-joined c = λ more.
    joined_there c.args.number (c.args.number - 1) c.args.items.now c.args.gap c.requires.number refl c.lengthen.new.items c.requires.gap
    (sym c.is_behind_gap.ensures ∙ c.if-is_behind_gap.true) c.lengthen.ensures more

pub returns-else-is_behind_gap-clause-joined : goal.returns-else-is_behind_gap-clause-joined
returns-else-is_behind_gap-clause-joined c = λ more.
    stands_apart c.args.number c.args.items.now c.args.gap more (sym c.is_behind_gap.ensures ∙ c.if-is_behind_gap.false)
