use Rattle.std.proofs.Common.{Bool, ◌&&◌, sym, ap, ◌∙◌}
use Rattle.entry_balance.specs.Entry.{are_opposite}
use Rattle.entry_balance.specs.Tally.{named}
use Rattle.entry_balance.proofs.Settling.{exchange_is}
use Rattle.entry_balance.proofs.plan.exchanges.Goals as goal

pub returns-then-are_plain : goal.returns-then-are_plain
returns-then-are_plain c =
    c.are_opposite.ensures
    ∙ ap (λ (t : Bool). t && are_opposite (named c.args.left.now)) (sym (sym c.are_plain.ensures ∙ c.if-are_plain.true))
    ∙ exchange_is c.args.postings.now (named c.args.left.now) c.requires
