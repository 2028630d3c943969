use Rattle.std.proofs.Common.{◌≡◌, ℕ, get_or, sym, ap, ◌∙◌}
use Rattle.watchers.proofs.Above.{first-at-colon, none-at}
use Rattle.watchers.proofs.first.first_at.Goals as goal

pub returns-then-account-end-ne58 : goal.returns-then-account-end-ne58
returns-then-account-end-ne58 c = none-at c.args.account.now c.args.end c.args.after c.args.watches.now c.if-account-end-ne58.true

pub returns : goal.returns
returns c =
    first-at-colon c.args.account.now c.args.end c.args.after c.args.watches.now c.first_of_kind.result c.split_at.result.0.now c.requires c.if-account-end-ne58.false c.split_at.ensures.front c.first_of_kind.ensures
