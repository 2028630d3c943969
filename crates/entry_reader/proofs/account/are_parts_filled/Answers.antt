use Rattle.std.proofs.Common.{sym, ◌∙◌}
use Rattle.std.proofs.lemmas.List.{at_drop_all}
use Rattle.entry_reader.proofs.Parts.{filled_from, fills_is, ends_closed}
use Rattle.entry_reader.proofs.account.are_parts_filled.Goals as goal

pub returns : goal.returns
returns c = sym (at_drop_all (filled_from c.loop-byte.is_open) c.args.account.now c.loop-byte.byte-index c.loop-byte-test.false) ∙ c.loop-byte.invariant ∙ sym (fills_is c.args.account.now)

pub returns-else-is_open : goal.returns-else-is_open
returns-else-is_open c = ends_closed c.args.account.now c.loop-byte.byte-index c.loop-byte.is_open c.loop-byte-test.true c.if-byte-ne58.false c.if-is_open.false c.loop-byte.invariant
